-- The lists of a run's actors, and the log that they are.
use Rattle.std.specs.Prelude.{◌≡◌, ℕ, zero, suc, ◌+◌, List, [], ◌∷◌, length, map, Option}
use Rattle.std.specs.Prelude.{Some, None, slice_get}
use Rattle.std.specs.List.{AllByRecursion}
use Rattle.mn_actors.specs.declared.actor.Actor.{Actor}
use Rattle.mn_actors.specs.declared.actor.Actor.TheVariants.{Node, Client}
use Rattle.mn_actors.specs.Log.{IsOneLog}
use Rattle.mn_runs.specs.declared.entry.Entry.{Entry}
use Rattle.mn_runs.specs.Lists.{ClientState}
use Rattle.mn_runs.specs.Protocol.{entries_of}
use Rattle.mn_cell.specs.Calls.{IsLegalLine}
use Rattle.mn_cell.specs.Station.{HasCaller}

-- the list of an actor, if there is such an actor
abbrev pub actor_list : List (List (ℕ × Entry)) → List ClientState → Actor
    → Option (List (ℕ × Entry))
actor_list nodes clients (Node n) = slice_get nodes n.0
actor_list nodes clients (Client c) = slice_get (map (λ l. l.entries) clients) c.0

-- the lists are one log of so many lines, each legal when it was added
abbrev pub AreOneLog : List (List (ℕ × Entry)) → List ClientState → ℕ → Type 0
AreOneLog nodes clients clock =
    IsOneLog IsLegalLine (length nodes) (length clients) (actor_list nodes clients) clock

-- a client or a coordinator made each entry of these lists
abbrev pub HaveCallers : List (List (ℕ × Entry)) → Type 0
HaveCallers lists = AllByRecursion (λ l. AllByRecursion HasCaller (entries_of l)) lists

-- How it is put together: each entry into the slot of its place

abbrev pub put_at : ℕ → Entry → List (Option Entry) → List (Option Entry)
put_at zero e [] = Some e ∷ []
put_at zero e (s ∷ slots) = Some e ∷ slots
put_at (suc p) e [] = None ∷ put_at p e []
put_at (suc p) e (s ∷ slots) = s ∷ put_at p e slots

-- the first of the list first
abbrev pub put_list : List (ℕ × Entry) → List (Option Entry) → List (Option Entry)
put_list [] slots = slots
put_list (x ∷ l) slots = put_list l (put_at x.0 x.1 slots)

-- the first of the lists first
abbrev pub put_lists : List (List (ℕ × Entry)) → List (Option Entry) → List (Option Entry)
put_lists [] slots = slots
put_lists (l ∷ ls) slots = put_lists ls (put_list l slots)

-- how the slots from a place on hold them: those that are filled, each with its place
abbrev pub Hold : ℕ → List (ℕ × Entry) → List (Option Entry) → Type 0
Hold p [] [] = Unit {0}
Hold p [] (f ∷ filled) = ⊥
Hold p (x ∷ slots) [] = ⊥
Hold p (x ∷ slots) (None ∷ filled) = Hold (p + 1) slots filled
Hold p (x ∷ slots) (Some e ∷ filled) = (x ≡ (p, e)) × Hold (p + 1) slots filled
