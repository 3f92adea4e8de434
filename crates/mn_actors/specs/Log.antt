-- The whole log: its lines in order of place, so that the place of a line is its index.
use Rattle.std.specs.Prelude.{ℕ, ◌≡◌, ◌+◌, ◌<◌, true, Option, Some, None, List, [], ◌∷◌, length}
use Rattle.std.specs.Prelude.{take, slice_get, if◌then◌else◌}
use Rattle.mn_base.specs.declared.ids.NodeNo.{NodeNo}
use Rattle.mn_base.specs.declared.ids.ClientNo.{ClientNo}
use Rattle.mn_actors.specs.declared.actor.Actor.{Actor}
use Rattle.mn_actors.specs.declared.actor.Actor.TheVariants.{Node, Client}
use Rattle.mn_actors.specs.Lines.{Line, stands_in, IsActor}

module _ {E : Type 0} where
  -- the list of an actor in a log whose first place is p
  abbrev pub entries_from : ℕ → Actor → List (Line E) → List (ℕ × E)
  entries_from p a [] = []
  entries_from p a (x ∷ log) =
      if stands_in a x then (p, x.entry) ∷ entries_from (p + 1) a log
      else entries_from (p + 1) a log

  -- the list of an actor: the entries that it makes, with their places
  abbrev pub entries_of : Actor → List (Line E) → List (ℕ × E)
  entries_of a log = entries_from 0 a log

  -- the list of the node, empty where there is none
  abbrev pub node_entries : Option NodeNo → List (Line E) → List (ℕ × E)
  node_entries None log = []
  node_entries (Some n) log = entries_of (Node n) log

  -- the list of the client, empty where there is none
  abbrev pub client_entries : Option ClientNo → List (Line E) → List (ℕ × E)
  client_entries None log = []
  client_entries (Some c) log = entries_of (Client c) log

  -- some actor of the board makes the line, and no other does
  pub record IsManned (nodes clients : ℕ) (x : Line E) : Type 0 where
    pub some_actor : (a : Actor) × (stands_in a x ≡ true)
    pub on_board : (a : Actor) → stands_in a x ≡ true → IsActor nodes clients a

  -- each place is above the one before
  abbrev pub Ascends : List (ℕ × E) → Type 0
  Ascends [] = Unit {0}
  Ascends (x ∷ []) = Unit {0}
  Ascends (x ∷ y ∷ l) = (x.0 < y.0) × Ascends (y ∷ l)

  -- the entry stands at the place in the list
  abbrev pub StandsAt : ℕ → E → List (ℕ × E) → Type 0
  StandsAt p e l = (k : ℕ) × (slice_get l k ≡ Some (p, e))

  -- the place is that of one line: its entry stands in the lists of its actors, and nothing else
  -- stands there in any list
  pub record IsPlace (lists : Actor → List (ℕ × E)) (p : ℕ) (x : Line E) : Type 0 where
    pub stands : (a : Actor) → stands_in a x ≡ true → StandsAt p x.entry (lists a)
    pub alone : (a : Actor) (e : E) → StandsAt p e (lists a) → (stands_in a x ≡ true)
        × (e ≡ x.entry)

  -- the lists of all actors are one log, as long as the clock, of lines that were legal when they
  -- were added
  pub record IsOneLog (legal : List (ℕ × E) → List (ℕ × E) → Line E → Type 0) (nodes clients : ℕ)
      (owned : Actor → Option (List (ℕ × E))) (clock : ℕ) : Type 0 where
    pub log : List (Line E)
    pub clock_is : clock ≡ length log
    pub lists : (a : Actor) → IsActor nodes clients a → owned a ≡ Some (entries_of a log)
    pub ascending : (a : Actor) → Ascends (entries_of a log)
    pub manned : (p : ℕ) (x : Line E) → slice_get log p ≡ Some x → IsManned nodes clients x
    -- by what its actors' lists held before it
    pub legal_then : (p : ℕ) (x : Line E) → slice_get log p ≡ Some x
        → legal (node_entries x.node (take p log)) (client_entries x.client (take p log)) x
    pub once : (p : ℕ) → p < clock → (x : Line E) × (slice_get log p ≡ Some x)
        × IsPlace (λ a. entries_of a log) p x
