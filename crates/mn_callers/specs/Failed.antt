-- Why a run fails. Lists of entries stand newest first.
use Rattle.std.specs.Prelude.{ℕ, ◌+◌, ◌≡◌, ◌⊎◌, Bool, List, [], ◌∷◌, length, reverse, true}
use Rattle.std.specs.Prelude.{Option, Some, slice_get, if◌then◌else◌, ⊤}
use Rattle.mn_base.specs.declared.ids.ClientNo.{ClientNo}
use Rattle.mn_base.specs.declared.ids.NodeNo.{NodeNo}
use Rattle.mn_cell.specs.declared.trace.RunCause.{RunCause}
use Rattle.mn_cell.specs.declared.trace.RunCause.TheVariants.{Disk, Damaged, NoMemory}
use Rattle.mn_cell.specs.Station.{RoseBy, unasked_in}
use Rattle.mn_io.specs.DiskModel.{DiskState}
use Rattle.mn_mini.specs.declared.record.Record.{Record}
use Rattle.mn_node.specs.Restart.{AreAbsent, IsNoLog, DamageNames}
use Rattle.mn_node.specs.Node.{listed}
use Rattle.mn_node.specs.State.{NodeState, left_behind_list}
use Rattle.mn_script.specs.Script.{Script}
use Rattle.mn_runs.specs.declared.entry.Entry.{Entry}
use Rattle.mn_runs.specs.Calls.{is_by, node_entries}
use Rattle.mn_runs.specs.Nodes.{added_by, is_down, stopped_request}
use Rattle.mn_runs.specs.Protocol.{Start, base_at, records_of, entries_of}
use Rattle.mn_law.specs.Run.{IsLogOfRun}
use Rattle.mn_callers.specs.Trace.{AreHandedBack, IsOfScript, start_on}

-- the actor that opens and closes, halts and restarts
abbrev pub closer : ClientNo
closer = record { 0 = 16 }

-- the stops of a node inside requests of others that nobody asked for
abbrev pub unasked_by_others : List Entry → ℕ
unasked_by_others [] = 0
unasked_by_others (e ∷ es) =
    unasked_by_others es + (if is_by closer e then 0 else unasked_in e.what)

-- the count of its disk rose by more than these
abbrev pub RoseBeyond : List Entry → NodeNo → ℕ → ℕ → Type 0
RoseBeyond past n before now = RoseBy (unasked_by_others (node_entries n past) + 1) before now

-- of the bodies that a disk gave, the first that differs from these records, of which the first may
-- stand shortened there, with the pending one behind them; or without it, where the disk had failed
-- while the log was shortened
pub record IsOtherList (records : List Record) (pending : Option Record) (place : ℕ)
    (kept found : Option Record) : Type 0 where
  pub cut : ℕ
  pub cutting : Bool
  pub begins : ℕ
  pub bodies : List (List ℕ)
  pub names : DamageNames begins bodies (listed cut records) (left_behind_list cutting pending)
      place kept found

-- a restart found another list on the disk than the node's records, with the one of the stopped
-- request or without: `kept` and `found` are the first record that differs, or there is no log
abbrev pub HadOther : Start → List Entry → NodeNo → ℕ → Option Record → Option Record → Type 0
HadOther start past n place kept found =
    (AreAbsent kept found × IsNoLog place)
    ⊎ IsOtherList (reverse (records_of start past n))
    (added_by (base_at start n) (records_of start past n) (stopped_request (node_entries n past)))
    place kept found

-- the node of this number, as it was given and as it is left
pub record IsAmong {D : Type 0} (n : NodeNo) (given left : List (NodeState D)) : Type 0 where
  pub before : NodeState D
  pub now : NodeState D
  pub was : slice_get given n.0 ≡ Some before
  pub is : slice_get left n.0 ≡ Some now

-- Disk: that disk failed more often than it stopped its node unasked for others than the closing
-- coordinator. Damaged: the node is down, and its disk, which was not honest, had another list.
-- NoMemory tells no log.
abbrev pub HasCause : {D : Type 0} → (D → DiskState) → (D → ℕ) → List (NodeState D)
    → List (NodeState D) → List (ℕ × Entry) → RunCause → Type 0
HasCause state faults given left log (Disk n) =
    (at : IsAmong n given left)
    × RoseBeyond (entries_of log) n (faults at.before.disk) (faults at.now.disk)
HasCause state faults given left log (Damaged n place kept found) =
    (at : IsAmong n given left) × ((state at.before.disk).honest → ⊥)
    × (is_down (node_entries n (entries_of log)) ≡ true)
    × HadOther (start_on given) (entries_of log) n place kept found
HasCause state faults given left log NoMemory = log ≡ []

-- a disk had another list than its node
abbrev pub IsDamage : RunCause → Type 0
IsDamage (Damaged n place kept found) = ⊤
IsDamage cause = ⊥

-- the log is a run of the script, and the nodes are handed back as it says
abbrev pub IsRunOn : {D : Type 0} → (D → DiskState) → (D → ℕ) → Script → List (NodeState D)
    → List (NodeState D) → List (ℕ × Entry) → Type 0
IsRunOn state faults script given left log = IsLogOfRun (start_on given) log
    × IsOfScript script (entries_of log)
    × AreHandedBack state faults (start_on given) (entries_of log) given left

-- the log that is told is one; where there was no memory, one that is not told is
abbrev pub TellsRun : {D : Type 0} → (D → DiskState) → (D → ℕ) → Script → List (NodeState D)
    → List (NodeState D) → List (ℕ × Entry) → RunCause → Type 0
TellsRun state faults script given left log NoMemory =
    (past : List (ℕ × Entry)) × IsRunOn state faults script given left past
TellsRun state faults script given left log cause = IsRunOn state faults script given left log

-- a run of the script failed so
pub record FailsSo {D : Type 0} (state : D → DiskState) (faults : D → ℕ) (script : Script)
    (given left : List (NodeState D)) (log : List (ℕ × Entry)) (cause : RunCause) : Type 0 where
  pub count : length left ≡ length given
  pub cause_is : HasCause state faults given left log cause
  pub told : TellsRun state faults script given left log cause
