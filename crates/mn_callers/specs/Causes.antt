-- Why opening or closing fails, by the stations of the nodes.
use Rattle.std.specs.Prelude.{ℕ, ◌+◌, ◌≡◌, ◌⊎◌, List, true, Some, slice_get, ⊤}
use Rattle.mn_base.specs.declared.ids.NodeNo.{NodeNo}
use Rattle.mn_cell.specs.declared.trace.RunCause.{RunCause}
use Rattle.mn_cell.specs.declared.trace.RunCause.TheVariants.{Disk, Damaged, NoMemory}
use Rattle.mn_cell.specs.Station.{RoseBy, StationState}
use Rattle.mn_node.specs.declared.restart.RestartError.{RestartError}
use Rattle.mn_node.specs.declared.restart.RestartError.TheVariants as error
use Rattle.mn_node.specs.Restart.{AreAbsent, IsNoLog}
use Rattle.mn_runs.specs.Protocol.{entries_of}
use Rattle.mn_callers.specs.Failed.{IsOtherList, unasked_by_others}

-- the station of this number
pub record HasStation {D : Type 0} (stations : List (StationState D)) (n : NodeNo) : Type 0 where
  pub station : StationState D
  pub at : slice_get stations n.0 ≡ Some station

-- The cause shows by the stations: the count of a disk has risen, since the run began, beyond the
-- stops of its node inside requests of others that nobody asked for; or the disk of a node that is
-- down was not honest, and had another list than the node. Want of memory shows by nothing.
abbrev pub IsCaused : {D : Type 0} → (D → ℕ) → (ℕ → ℕ) → (ℕ → Type 0) → List (StationState D)
    → RunCause → Type 0
IsCaused faults before honest stations (Disk n) =
    (has : HasStation stations n)
    × RoseBy (unasked_by_others (entries_of has.station.list) + 1) (before n.0)
    (faults has.station.node.disk)
IsCaused faults before honest stations (Damaged n place kept found) =
    (has : HasStation stations n) × (honest n.0 → ⊥) × (has.station.node.down ≡ true)
    × ((AreAbsent kept found × IsNoLog place)
    ⊎ IsOtherList has.station.node.records has.station.node.pending place kept found)
IsCaused faults before honest stations NoMemory = ⊤

-- the cause of a restart that failed so
abbrev pub cause_of : NodeNo → RestartError → RunCause
cause_of n error.Fault = Disk n
cause_of n (error.Damaged place kept found) = Damaged n place kept found
cause_of n error.NoMemory = NoMemory
