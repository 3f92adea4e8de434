-- The parts of a run that was closed, and the run that they are.
use Rattle.std.specs.Prelude.{ℕ, ◌≡◌, ◌+◌, ◌<◌, List, [], ◌∷◌, Option, Some}
use Rattle.std.specs.List.{AllByRecursion}
use Rattle.mn_base.specs.declared.ids.ClientNo.{ClientNo}
use Rattle.mn_base.specs.declared.ids.NodeNo.{NodeNo}
use Rattle.mn_actors.specs.declared.actor.Actor.{Actor}
use Rattle.mn_actors.specs.declared.actor.Actor.TheVariants.{Node, Client}
use Rattle.mn_actors.specs.Lines.{Line}
use Rattle.mn_actors.specs.Log.{IsOneLog}
use Rattle.mn_runs.specs.declared.entry.Entry.{Entry}
use Rattle.mn_runs.specs.Protocol.{NodeListAllowed, Start, IsOfRun, start_nodes, entries_of}
use Rattle.mn_law.specs.Run.{IsLogOfRun}
use Rattle.mn_cell.specs.Calls.{IsLegalLine}

-- where the entry is an issue, it is one of the run
abbrev pub IsIssueOf : Start → Entry → Type 0
IsIssueOf start e = IsOfRun start e.what

-- the lists are those of a run's nodes and clients: there is one for each node of the start, each
-- of whose entries its records allow; and each client issued under the run's number, for its nodes
pub record ArePartsOfRun (start : Start) (nodes clients : ℕ)
    (owned : Actor → Option (List (ℕ × Entry)))
    : Type 0 where
  pub all : nodes ≡ start_nodes start
  pub allowed : (n : NodeNo) (list : List (ℕ × Entry)) → n.0 < nodes → owned (Node n) ≡ Some list
      → NodeListAllowed start n (entries_of list)
  pub of_run : (c : ClientNo) (list : List (ℕ × Entry)) → c.0 < clients
      → owned (Client c) ≡ Some list → AllByRecursion (IsIssueOf start) (entries_of list)

-- the entries of the lines with their places, from this place on
abbrev pub placed_from : ℕ → List (Line Entry) → List (ℕ × Entry)
placed_from p [] = []
placed_from p (x ∷ log) = (p, x.entry) ∷ placed_from (p + 1) log

-- the one log of such lists is a run; that each client was allowed its entries the board knows
abbrev pub PartsMakeRun : Type 0
PartsMakeRun =
    (start : Start) (nodes clients clock : ℕ) (owned : Actor → Option (List (ℕ × Entry)))
    (one : IsOneLog IsLegalLine nodes clients owned clock)
    → ArePartsOfRun start nodes clients owned → IsLogOfRun start (placed_from 0 one.log)
