-- An actor while it acts: its pass and its list, and how they go on.
use Rattle.std.specs.Prelude.{ℕ, ◌≡◌, ◌≤◌, ◌<◌, List, [], ◌∷◌, ◌++◌, reverse, Some, None, ⊤}
use Rattle.std.specs.List.{AllByRecursion}
use Rattle.atomic_table.specs.Seated.{TableId}
use Rattle.mn_actors.specs.declared.actor.Actor.TheVariants.{Client}
use Rattle.mn_actors.specs.declared.board.Pass.{Pass}
use Rattle.mn_actors.specs.declared.clock.View.{View}
use Rattle.mn_actors.specs.Lists.{held}
use Rattle.mn_actors.specs.Sight.{board_of, view_of}
use Rattle.mn_base.specs.declared.ids.ClientNo.{ClientNo}
use Rattle.mn_cell.specs.Passes.{OwnsJust}
use Rattle.mn_runs.specs.declared.entry.Entry.{Entry}
use Rattle.mn_runs.specs.Lists.{ClientState}

-- its pass and its list
pub record Hand : Type 0 where
  pub board : TableId
  pub view : View Entry
  pub list : ClientState

abbrev pub hand_of : {L : Type 0} {g : _} → Pass L Entry g → ClientState → Hand
hand_of pass list = record { board = board_of pass; view = view_of pass; list = list }

-- the actor may act on this board through something that is ready: its pass owns just the actor,
-- whose list it has
pub record HasTurn (board : TableId) (through : Type 0) (h : Hand) : Type 0 where
  pub ready : through
  pub passes : h.board ≡ board
  pub owns : OwnsJust h.view (Client h.list.client)
  pub list : held h.view (Client h.list.client) ≡ Some h.list.entries

-- places fall from below this one
abbrev pub Fall : ℕ → List (ℕ × Entry) → Type 0
Fall known [] = ⊤
Fall known (p ∷ trail) = (p.0 < known) × Fall p.0 trail

-- The actor's list went on by entries of its own, newest first: at places not below the one that
-- its pass knew, falling from below the one that it knows. `does` is what they did to what it acts
-- through.
pub record MovesOn (does : List (ℕ × Entry) → Type 0) (old new : Hand) : Type 0 where
  pub own : List (ℕ × Entry)
  pub client : new.list.client ≡ old.list.client
  pub list_is : new.list.entries ≡ old.list.entries ++ reverse own
  pub by : AllByRecursion (λ p. p.1.client ≡ Some old.list.client) own
  pub later : AllByRecursion (λ p. old.view.known ≤ p.0) own
  pub falling : Fall new.view.known own
  pub known : old.view.known ≤ new.view.known
  pub went : does own

-- a step that an actor makes by itself, and no more
abbrev pub IsOwnStep : ClientNo → List (ℕ × Entry) → Type 0
IsOwnStep c own = AllByRecursion (λ p. (p.1.client ≡ Some c) × (p.1.node ≡ None)) own
