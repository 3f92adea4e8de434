-- What a run comes to. Lists of entries stand newest first.
use Rattle.std.specs.Prelude.{ℕ, ◌≡◌, ◌<◌, true, false, IsTrue, List, length, map, reverse}
use Rattle.std.specs.Prelude.{slice_get, Some}
use Rattle.std.specs.List.{AllByRecursion}
use Rattle.mn_base.specs.declared.ids.ClientNo.{ClientNo}
use Rattle.mn_base.specs.declared.ids.NodeNo.{NodeNo}
use Rattle.mn_cell.specs.Calls.{numbered}
use Rattle.mn_cell.specs.Station.{AllStopWhereTheyWouldAdd, RestartsKeepRecordsAsAsked, RoseBy}
use Rattle.mn_cell.specs.Station.{unasked}
use Rattle.mn_io.specs.DiskModel.{DiskState}
use Rattle.mn_io.specs.Faults.{Rose}
use Rattle.mn_mini.specs.RecordGrammar.{IsRecord}
use Rattle.mn_node.specs.Node.{added_to}
use Rattle.mn_node.specs.State.{NodeState}
use Rattle.mn_script.specs.Script.{Script}
use Rattle.mn_runs.specs.declared.entry.Entry.{Entry}
use Rattle.mn_runs.specs.Calls.{client_entries, node_entries}
use Rattle.mn_runs.specs.Clients.{recovers_nothing}
use Rattle.mn_runs.specs.Nodes.{added_by, is_down, stopped_request}
use Rattle.mn_runs.specs.Protocol.{AreFree, AreUp}
use Rattle.mn_runs.specs.Sound.{AreSound}
use Rattle.mn_runs.specs.Protocol.{Start, base_at, records_of, start_nodes, start_of, start_records}
use Rattle.mn_law.specs.Run.{IsLogOfRun}
use Rattle.mn_runs.specs.Protocol.{entries_of}
use Rattle.mn_callers.specs.Acts.{BeginsFirst, ops_by}

-- The nodes

-- the nodes that are given: so many, numbered from 0 in order, and each up
pub record MayBegin {D : Type 0} (nodes : ℕ) (given : List (NodeState D)) : Type 0 where
  pub count : length given ≡ nodes
  pub each : (k : ℕ) (m : NodeState D) → slice_get given k ≡ Some m
      → (m.node ≡ k) × (m.nodes ≡ nodes) × (m.down ≡ false)

-- a run starts from their records
abbrev pub start_on : {D : Type 0} → List (NodeState D) → Start
start_on given = start_of (map (λ m. m.records) given)

-- the records of each node are such as there may be, with the one of a request inside which it
-- stopped
abbrev pub HaveSoundRecords : {D : Type 0} → List (NodeState D) → Type 0
HaveSoundRecords {D} nodes =
    (k : ℕ) (m : NodeState D) → slice_get nodes k ≡ Some m
    → AllByRecursion IsRecord (added_to m.records m.pending)

-- The node is handed back as the log says: its records, up or down, and while it is down with the
-- record of the request inside which it stopped, all of them such as there may be. It stopped
-- inside a request only where that would have added a record; unasked, at most as often as its
-- disk's count of faults rose. An honest disk is left honest, and then each restart found what the
-- stop before it had asked for.
pub record IsHandedBack {D : Type 0} (state : D → DiskState) (faults : D → ℕ) (start : Start)
    (past : List Entry) (n : NodeNo) (given left : NodeState D) : Type 0 where
  pub node : left.node ≡ n.0
  pub nodes : left.nodes ≡ start_nodes start
  pub records : reverse left.records ≡ records_of start past n
  pub down : left.down ≡ is_down (node_entries n past)
  pub pending : left.down ≡ true → left.pending
      ≡ added_by (base_at start n) (records_of start past n) (stopped_request (node_entries n past))
  pub sound : AllByRecursion IsRecord (added_to left.records left.pending)
  pub stops : AllStopWhereTheyWouldAdd (base_at start n) (start_records start n)
      (node_entries n past)
  pub counted : RoseBy (unasked (node_entries n past)) (faults given.disk) (faults left.disk)
  pub honest : (state given.disk).honest → (state left.disk).honest
  pub kept : (state left.disk).honest
      → RestartsKeepRecordsAsAsked (Rose (faults given.disk) (faults left.disk))
      (node_entries n past)

-- each node is
abbrev pub AreHandedBack : {D : Type 0} → (D → DiskState) → (D → ℕ) → Start → List Entry
    → List (NodeState D) → List (NodeState D) → Type 0
AreHandedBack {D} state faults start past given left =
    (k : ℕ) (m w : NodeState D) → slice_get given k ≡ Some m → slice_get left k ≡ Some w
    → IsHandedBack state faults start past (numbered k) m w

-- The script

-- no client makes a request of a recovery
abbrev pub ClientsRecoverNothing : List Entry → Type 0
ClientsRecoverNothing past =
    (c : ClientNo) → c.0 < 16 → IsTrue (recovers_nothing (client_entries c past))

-- what a client has begun are its first operations, in order; another actor has begun none
abbrev pub BeginsInOrder : Script → List Entry → Type 0
BeginsInOrder script past =
    (c : ClientNo) → BeginsFirst (ops_by script.clients c) (client_entries c past)

-- whatever came of it, its clients did no more than the script asks for
pub record IsOfScript (script : Script) (past : List Entry) : Type 0 where
  pub plain : ClientsRecoverNothing past
  pub begins : BeginsInOrder script past

-- The log

-- each node is up, and none holds anything
abbrev pub IsQuiet : Start → List Entry → Type 0
IsQuiet start past = AreUp start past × AreFree start past

-- the records with which the run starts fit together
abbrev pub StartsSound : Start → Type 0
StartsSound start = AreSound (start_nodes start) (start_records start)

-- a trace: its log is a run of the script, its nodes are handed back as the log says, and it ends
-- quiet
pub record IsTrace {D : Type 0} (state : D → DiskState) (faults : D → ℕ) (script : Script)
    (given left : List (NodeState D)) (log : List (ℕ × Entry)) : Type 0 where
  pub count : length left ≡ length given
  pub run : IsLogOfRun (start_on given) log
  pub of_script : IsOfScript script (entries_of log)
  pub back : AreHandedBack state faults (start_on given) (entries_of log) given left
  pub quiet : StartsSound (start_on given) → IsQuiet (start_on given) (entries_of log)
