-- What a call does to the nodes.
use Rattle.std.specs.Prelude.{ℕ, ◌≡◌, Bool, false, List, slice_get, Some, None, MatchBool, OnOk, ⊤}
use Rattle.std.specs.Prelude.{Result}
use Rattle.mn_base.specs.declared.ids.NodeNo.{NodeNo}
use Rattle.mn_cell.specs.Calls.{entry_at}
use Rattle.mn_cell.specs.Station.{StationState}
use Rattle.mn_mini.specs.declared.request.Request.{Request}
use Rattle.mn_mini.specs.declared.reply.NodeReply.{NodeReply}
use Rattle.mn_mini.specs.declared.reply.NodeReply.TheVariants as Say
use Rattle.mn_mini.specs.Node.{answer, with_added}
use Rattle.mn_runs.specs.declared.entry.What.TheVariants.{Stopped, Restarted}
use Rattle.mn_runs.specs.Lists.{ClientState}
use Rattle.mn_runs.specs.Nodes.{is_down}
use Rattle.mn_runs.specs.Protocol.{entries_of}
use Rattle.mn_callers.specs.Settled.{records_at}
use Rattle.mn_callers.specs.Steps.{Adds, KeepsList}

-- the other stations are as before
abbrev pub OthersStay : {D : Type 0} → NodeNo → List (StationState D) → List (StationState D)
    → Type 0
OthersStay n old new = (k : ℕ) → (k ≡ n.0 → ⊥) → slice_get new k ≡ slice_get old k

-- the node is up, or down
abbrev pub IsDownAs : {D : Type 0} → Bool → List (StationState D) → NodeNo → Type 0
IsDownAs down stations n = (s : _) → slice_get stations n.0 ≡ Some s → s.node.down ≡ down

-- the node gave an answer
abbrev pub IsAnswer : NodeReply → Type 0
IsAnswer Say.Down = ⊥
IsAnswer Say.Stopped = ⊥
IsAnswer Say.NoMemory = ⊥
IsAnswer reply = ⊤

-- the node is up, and its answer and its new record are those that its records say
pub record HasAnswered {D : Type 0} (base : List ℕ) (n : NodeNo) (request : Request)
    (reply : NodeReply) (old new : List (StationState D)) : Type 0 where
  pub up : IsDownAs false new n
  pub says : reply ≡ (answer base (records_at old n) request).reply
  pub records : records_at new n
      ≡ with_added (answer base (records_at old n) request).added (records_at old n)

-- Stops and restarts between two calls

-- by its own list the node is down, and then this is so, or it is up, and then that
pub record GoesBy {D : Type 0} (n : NodeNo) (stations : List (StationState D)) (down up : Type 0)
    : Type 0 where
  pub station : StationState D
  pub at : slice_get stations n.0 ≡ Some station
  pub so : MatchBool (is_down (entries_of station.list)) down up

-- a node that is up is stopped; where it is down the list is as before
abbrev pub Halts : {D E : Type 0} → NodeNo → List (StationState D) → Result (Unit {0}) E
    → ClientState → ClientState → Type 0
Halts n stations result old new =
    GoesBy n stations (OnOk result (KeepsList old new))
    (OnOk result (Adds (entry_at n old.client (Stopped None None)) old new))

-- a node that is down is restarted; where it is up the list is as before
abbrev pub Restarts : {D E : Type 0} → NodeNo → List (StationState D) → Result (Unit {0}) E
    → ClientState → ClientState → Type 0
Restarts n stations result old new =
    GoesBy n stations
    (OnOk result ((kept : Bool) × Adds (entry_at n old.client (Restarted kept)) old new))
    (OnOk result (KeepsList old new))
