-- The headline: what the program has done where it writes the report on a script.
use Rattle.std.specs.Prelude.{ℕ, ◌≡◌, ◌<◌, List, ◌∷◌, reverse, slice_get, Option, Some, None}
use Rattle.std.specs.Prelude.{if◌then◌else◌}
use Rattle.std.specs.List.{AllByRecursion}
use Rattle.mn_base.specs.Store.{Store}
use Rattle.mn_base.specs.declared.answer.Answer.{Answer}
use Rattle.mn_base.specs.declared.ids.ClientNo.{ClientNo}
use Rattle.mn_base.specs.declared.ids.NodeNo.{NodeNo}
use Rattle.mn_cell.specs.Calls.{numbered}
use Rattle.mn_cell.specs.Station.{AllStopWhereTheyWouldAdd, RestartsKeepRecordsAsAsked, RoseBy}
use Rattle.mn_cell.specs.Station.{unasked}
use Rattle.mn_io.specs.DiskModel.{DiskState}
use Rattle.mn_io.specs.Faults.{Rose}
use Rattle.mn_mini.specs.declared.record.Record.{Record}
use Rattle.mn_mini.specs.RecordGrammar.{IsRecord}
use Rattle.mn_node.specs.Node.{added_to}
use Rattle.mn_node.specs.State.{StandsForUpTo, StandsUpToWithOrWithout}
use Rattle.mn_replay.specs.Follows.{Follows}
use Rattle.mn_callers.specs.Trace.{IsOfScript, IsQuiet}
use Rattle.mn_script.specs.Script.{Script}
use Rattle.mn_runs.specs.declared.entry.Entry.{Entry}
use Rattle.mn_runs.specs.Calls.{node_entries}
use Rattle.mn_runs.specs.Nodes.{added_by, is_down, stopped_request}
use Rattle.mn_runs.specs.Protocol.{Start, base_at, records_of, start_nodes, start_of, start_records}
use Rattle.mn_runs.specs.Protocol.{AreFree, entries_of}
use Rattle.mn_law.specs.Run.{IsLogOfRun}
use Rattle.mn_causes.specs.Undisturbed.{IsReplyOrWant, IsUndisturbed}
use Rattle.mn_cluster.specs.Follows.{FollowsOnThreads, FollowsToClosing}
use Rattle.mn_top.specs.Crashes.{AnyStopLeaves}
use Rattle.mn_top.specs.declared.words.Command.{Command}
use Rattle.mn_top.specs.declared.words.Command.TheVariants.{Gen, Run}
use Rattle.mn_top.specs.Opening.{HasNumber, IsOpenedAs, Show}
use Rattle.mn_top.specs.Telling.{Tells}

-- the record that may stand behind those of the node: while it is down, the one that the request
-- adds inside which it stopped
abbrev pub left_behind : Start → List Entry → NodeNo → Option Record
left_behind start past n =
    if is_down (node_entries n past)
    then added_by (base_at start n) (records_of start past n)
    (stopped_request (node_entries n past)) else None

-- The disk of a node as the entries leave it, with records of the grammar. Each image of an honest
-- disk stands for the node's records, of which the first may be shortened, or, while the node is
-- down, for these and the one that may stand behind them. The node stopped inside a request only
-- where that would have added a record; unasked, at most as often as the disk's count of faults
-- rose. Each restart of a node with an
-- honest disk found what the stop before it had asked for.
pub record IsLeft {D : Type 0} (state : D → DiskState) (faults : D → ℕ) (start : Start)
    (past : List Entry) (n : NodeNo) (given left : D) : Type 0 where
  pub honest : (state given).honest → (state left).honest
  pub sound : AllByRecursion IsRecord
      (added_to (reverse (records_of start past n)) (left_behind start past n))
  pub stands : (state given).honest → StandsUpToWithOrWithout (state left) n.0 (start_nodes start)
      (reverse (records_of start past n)) (left_behind start past n)
  pub stops : AllStopWhereTheyWouldAdd (base_at start n) (start_records start n)
      (node_entries n past)
  pub counted : RoseBy (unasked (node_entries n past)) (faults given) (faults left)
  pub kept : (state given).honest
      → RestartsKeepRecordsAsAsked (Rose (faults given) (faults left)) (node_entries n past)

-- each image of an honest disk stands for the node's records, of which the first may be shortened
abbrev pub StandsAsLogged : {D : Type 0} → (D → DiskState) → Start → List Entry → NodeNo → D → D
    → Type 0
StandsAsLogged state start past n given left =
    (state given).honest → StandsForUpTo (state left) n.0 (start_nodes start)
    (reverse (records_of start past n))

-- the log follows the script, act by act or, on threads, by the marks of its clients
abbrev pub FollowsBy : Command → Start → Script → List Entry → Type 0
FollowsBy Run start script past = FollowsOnThreads start script past
FollowsBy Gen start script past = FollowsOnThreads start script past
FollowsBy command start script past = Follows start script past

-- it follows the script up to a closing: that of the replay or, on threads, the first or the last
abbrev pub FollowsToClosingBy : Command → Start → Script → List Entry → Type 0
FollowsToClosingBy Run start script past = FollowsToClosing start script past
FollowsToClosingBy Gen start script past = FollowsToClosing start script past
FollowsToClosingBy command start script past = Follows start script past

-- an operation of a client that nothing disturbs, with nothing held at its Begin, is answered by a
-- reply, or for want of slots, of sequence numbers or of memory
abbrev pub UndisturbedAreAnswered : Start → List Entry → Type 0
UndisturbedAreAnswered start past =
    (c : ClientNo) (number : ℕ) (answer : Answer) → c.0 < 16
    → (op : IsUndisturbed start past c number answer) → AreFree start (op.begins ∷ op.before)
    → IsReplyOrWant answer

-- From what the disks showed, the script was played by the command and has made this log, left
-- these disks, and this is what the command writes of it.
pub record IsReplayed {D : Type 0} (state : D → DiskState) (faults : D → ℕ) (command : Command)
    (script : Script) (given left : List D) (log : List (ℕ × Entry)) (text : List ℕ) : Type 0 where
  -- shown at opening
  pub records : List (List Record)
  pub shown : Show state given records
  pub store : Store
  pub opened : IsOpenedAs (start_of records) store
  pub numbered_so : HasNumber (start_of records)
  -- however proxies, nodes, crashes, restarts and recovery coordinators interleave
  pub run : IsLogOfRun (start_of records) log
  -- as the script says, and no more
  pub follows : FollowsBy command (start_of records) script (entries_of log)
  pub of_script : IsOfScript script (entries_of log)
  -- the operations that took effect or were replied to are, in commit order, one legal history, and
  -- printed answers, or the sums of a summary, are that history's
  pub told : Tells command (start_of records) store script (entries_of log) text
  -- and what nothing disturbs is answered
  pub answered : UndisturbedAreAnswered (start_of records) (entries_of log)
  -- each node is up and holds nothing, and final disks are that history's
  pub quiet : IsQuiet (start_of records) (entries_of log)
  pub disks : (k : ℕ) (old new : D) → slice_get given k ≡ Some old → slice_get left k ≡ Some new
      → IsLeft state faults (start_of records) (entries_of log) (numbered k) old new
      × StandsAsLogged state (start_of records) (entries_of log) (numbered k) old new
  -- whatever a crash leaves of them holds all that was replied to
  pub stops : AnyStopLeaves state given left (start_of records) store (entries_of log)
