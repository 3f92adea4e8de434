-- Callers and nodes that have done nothing.
use Rattle.std.specs.Prelude.{ℕ, ◌+◌, ◌≡◌, ◌≤◌, ◌<◌, List, [], slice_get, Some, None}
use Rattle.mn_actors.specs.declared.actor.Actor.TheVariants.{Node}
use Rattle.mn_actors.specs.declared.clock.View.{View}
use Rattle.mn_actors.specs.Lists.{held}
use Rattle.mn_base.specs.declared.ids.NodeNo.{NodeNo}
use Rattle.mn_cell.specs.Station.{StationState}
use Rattle.mn_script.specs.Script.{Script}
use Rattle.mn_runs.specs.declared.entry.Entry.{Entry}
use Rattle.mn_runs.specs.Protocol.{Start, run_number, start_nodes}
use Rattle.mn_callers.specs.declared.client.Client.{Client}
use Rattle.mn_callers.specs.declared.desk.Desk.{Desk}
use Rattle.mn_callers.specs.Clients.{IsClient}
use Rattle.mn_callers.specs.Desks.{IsDesk}
use Rattle.mn_callers.specs.Plays.{caller_at}

-- the client of this number in a run of this number of the script: it has no entry
pub record IsNewClient (run : ℕ) (script : Script) (k : ℕ) (c : Client) : Type 0 where
  pub number : c.list.client ≡ caller_at k
  pub empty : c.list.entries ≡ []
  pub is_client : (start : Start) → run ≡ run_number start → script.nodes ≡ start_nodes start
      → IsClient start script.points c

abbrev pub AreNewClients : ℕ → Script → List Client → Type 0
AreNewClients run script clients =
    (k : ℕ) (c : Client) → slice_get clients k ≡ Some c → IsNewClient run script k c

-- the recovery coordinator of this number, from 0: it has no entry
pub record IsNewDesk (k : ℕ) (d : Desk) : Type 0 where
  pub number : d.list.client ≡ caller_at (17 + k)
  pub empty : d.list.entries ≡ []
  pub idle : d.work ≡ None
  pub is_desk : (start : Start) → IsDesk start d

abbrev pub AreNewDesks : List Desk → Type 0
AreNewDesks desks = (k : ℕ) (d : Desk) → slice_get desks k ≡ Some d → IsNewDesk k d

-- no station has an entry
abbrev pub AreBare : {D : Type 0} → List (StationState D) → Type 0
AreBare {D} stations =
    (k : ℕ) (s : StationState D) → slice_get stations k ≡ Some s → s.list ≡ []

-- of the nodes the pass owns just the first so many, whose lists are empty
pub record HoldsEmpty (count : ℕ) (v : View Entry) : Type 0 where
  pub those : (n : NodeNo) → n.0 < count → held v (Node n) ≡ Some []
  pub no_others : (n : NodeNo) → count ≤ n.0 → held v (Node n) ≡ None
