-- A run that has ended: its stations are taken apart, and its lists are one log.
use Rattle.std.specs.Prelude.{ℕ, ◌+◌, ◌≡◌, ◌<◌, List, length, map, slice_get}
use Rattle.std.specs.Prelude.{Some, Result, IfErr}
use Rattle.std.specs.Prelude.{OnOk}
use Rattle.mn_base.specs.declared.ids.ClientNo.{ClientNo}
use Rattle.mn_base.specs.declared.ids.NodeNo.{NodeNo}
use Rattle.mn_actors.specs.declared.actor.Actor.TheVariants.{Client, Node}
use Rattle.mn_actors.specs.declared.clock.View.{View}
use Rattle.mn_actors.specs.Lists.{Owns, held}
use Rattle.mn_cell.specs.Calls.{numbered}
use Rattle.mn_cell.specs.declared.trace.RunCause.{RunCause}
use Rattle.mn_cell.specs.Station.{HasMadeEntries, StationState}
use Rattle.mn_io.specs.DiskModel.{DiskState}
use Rattle.mn_node.specs.State.{NodeState}
use Rattle.mn_script.specs.Script.{Script}
use Rattle.mn_runs.specs.declared.entry.Entry.{Entry}
use Rattle.mn_runs.specs.Calls.{node_entries}
use Rattle.mn_runs.specs.Lists.{ClientState}
use Rattle.mn_runs.specs.Protocol.{Start, start_nodes, entries_of}
use Rattle.mn_law.specs.Run.{IsLogOfRun}
use Rattle.mn_callers.specs.declared.callers.Callers.{Callers}
use Rattle.mn_callers.specs.Causes.{IsCaused}
use Rattle.mn_callers.specs.Plays.{list_by}
use Rattle.mn_callers.specs.Settled.{AreUpAndFree}
use Rattle.mn_callers.specs.Trace.{HaveSoundRecords, IsOfScript}
use Rattle.mn_callers.specs.Turn.{callers_count}

-- the station's node has made the entries of its list
abbrev pub HasMadeList : {D : Type 0} → (D → DiskState) → (D → ℕ) → Start → (ℕ → ℕ)
    → (ℕ → Type 0) → StationState D → Type 0
HasMadeList state faults start counts honest s =
    HasMadeEntries state faults start s.number (counts s.number.0) (honest s.number.0)
    (entries_of s.list) s.node

-- each station's has
abbrev pub AllHaveMade : {D : Type 0} → (D → DiskState) → (D → ℕ) → Start → (ℕ → ℕ)
    → (ℕ → Type 0) → List (StationState D) → Type 0
AllHaveMade {D} state faults start counts honest stations =
    (k : ℕ) (s : StationState D) → slice_get stations k ≡ Some s
    → HasMadeList state faults start counts honest s

-- the pass owns just these nodes, whose lists it has
abbrev pub HoldsNodes : View Entry → List (List (ℕ × Entry)) → Type 0
HoldsNodes v lists = (n : NodeNo) → held v (Node n) ≡ slice_get lists n.0

-- the pass owns the nodes up to this number
abbrev pub OwnsNodes : ℕ → View Entry → Type 0
OwnsNodes count v = (n : NodeNo) → n.0 < count → Owns v (Node n)

-- the same callers
abbrev pub SameCallers : View Entry → View Entry → Type 0
SameCallers v w = (c : ClientNo) → held w (Client c) ≡ held v (Client c)

-- the stations were made from the last of so many nodes on
abbrev pub AreMadeFromLast : {D : Type 0} → ℕ → List (StationState D) → Type 0
AreMadeFromLast {D} count stations =
    (k : ℕ) (s : StationState D) → slice_get stations k ≡ Some s → s.number.0 + k + 1 ≡ count

-- these are the lists of the callers, in order of number
pub record AreLists (callers : Callers) (lists : List ClientState) : Type 0 where
  pub count : length lists ≡ callers_count
  pub each : (c : ClientNo) → c.0 < callers_count
      → slice_get (map (λ l. l.entries) lists) c.0 ≡ Some (list_by callers c)

-- The nodes are those of the stations, each of whose lists is what the log, which is a run of the
-- script, has of its node; and the run was played so.
pub record IsEnded {D : Type 0} (state : D → DiskState) (faults : D → ℕ) (start : Start)
    (counts : ℕ → ℕ) (honest : ℕ → Type 0) (script : Script) (nodes : List (NodeState D))
    (played : Result (Unit {0}) RunCause) (log : List (ℕ × Entry)) : Type 0 where
  pub stations : List (StationState D)
  pub count : length stations ≡ start_nodes start
  pub nodes_are : nodes ≡ map (λ s. s.node) stations
  pub sound : HaveSoundRecords nodes
  pub run : IsLogOfRun start log
  pub of_script : IsOfScript script (entries_of log)
  pub numbers : (k : ℕ) (s : StationState D) → slice_get stations k ≡ Some s
      → s.number ≡ numbered k
  pub made : AllHaveMade state faults start counts honest stations
  pub lists : (k : ℕ) (s : StationState D) → slice_get stations k ≡ Some s
      → entries_of s.list ≡ node_entries (numbered k) (entries_of log)
  pub settled : OnOk played (AreUpAndFree (start_nodes start) stations)
  pub caused : IfErr played (IsCaused faults counts honest stations)
