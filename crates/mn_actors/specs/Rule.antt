-- The rule of the clock, and its steps. Here the newest line of a log comes first, since that is
-- where it grows.
use Rattle.std.specs.Prelude.{ℕ, zero, suc, max, ◌≡◌, ◌+◌, ◌^◌, ◌<◌, ◌≤◌, Bool, true, false, Option}
use Rattle.std.specs.Prelude.{Some, None, List, [], ◌∷◌, ◌++◌, length, slice_index_or, slice_set}
use Rattle.std.specs.Prelude.{replicate}
use mathlib.Core.Option.{some}
use lib.ListN.{get_elem?}
use Rattle.atomic_table.specs.Table.{State, Me, Step}
use Rattle.mn_base.specs.declared.ids.NodeNo.{NodeNo}
use Rattle.mn_base.specs.declared.ids.ClientNo.{ClientNo}
use Rattle.mn_actors.specs.declared.actor.Actor.{Actor}
use Rattle.mn_actors.specs.declared.actor.Actor.TheVariants.{Node, Client}
use Rattle.mn_actors.specs.declared.clock.View.{View}
use Rattle.mn_actors.specs.Lines.{Line, IsActor, stands_in}
use Rattle.mn_actors.specs.Lists.{held, grow, or_else, Owns}
use Rattle.mn_actors.specs.Log.{IsManned}

abbrev pub node_place : Option NodeNo → Option ℕ
node_place None = None
node_place (Some n) = Some n.0

abbrev pub client_place : Option ClientNo → Option ℕ
client_place None = None
client_place (Some c) = Some c.0

module _ {E : Type 0} where
  abbrev pub grown : Bool → List (ℕ × E) → ℕ × E → List (ℕ × E)
  grown true l e = l ++ e ∷ []
  grown false l e = l

  -- the list of an actor
  abbrev pub list_of : Actor → List (Line E) → List (ℕ × E)
  list_of a [] = []
  list_of a (x ∷ log) = grown (stands_in a x) (list_of a log) (length log, x.entry)

  abbrev pub node_list : Option NodeNo → List (Line E) → List (ℕ × E)
  node_list None log = []
  node_list (Some n) log = list_of (Node n) log

  abbrev pub client_list : Option ClientNo → List (Line E) → List (ℕ × E)
  client_list None log = []
  client_list (Some c) log = list_of (Client c) log

  -- each line was legal by what its actors' lists held before it
  abbrev pub IsLegalLog : (List (ℕ × E) → List (ℕ × E) → Line E → Type 0) → List (Line E) → Type 0
  IsLegalLog legal [] = Unit {0}
  IsLegalLog legal (x ∷ log) =
      legal (node_list x.node log) (client_list x.client log) x × IsLegalLog legal log

  abbrev pub AreManned : ℕ → ℕ → List (Line E) → Type 0
  AreManned nodes clients [] = Unit {0}
  AreManned nodes clients (x ∷ log) = IsManned nodes clients x × AreManned nodes clients log

  -- owns all actors, whose lists are empty
  abbrev pub first_view : ℕ → ℕ → View E
  first_view nodes clients =
      record { known = 0; nodes = replicate nodes (Some []); clients = replicate clients (Some []) }

  abbrev pub put : Option ℕ → List (Option (List (ℕ × E))) → ℕ × E → List (Option (List (ℕ × E)))
  put None ls e = ls
  put (Some k) ls e = slice_set ls k (grow (slice_index_or ls k None) e)

  -- the line ends the lists of its actors
  abbrev pub appended : View E → ℕ → Line E → View E
  appended v p x =
      record {
        known = p + 1;
        nodes = put (node_place x.node) v.nodes (p, x.entry);
        clients = put (client_place x.client) v.clients (p, x.entry);
      }

  abbrev pub without : View E → Actor → View E
  without v (Node n) =
      record { known = v.known; nodes = slice_set v.nodes n.0 None; clients = v.clients }
  without v (Client c) =
      record { known = v.known; nodes = v.nodes; clients = slice_set v.clients c.0 None }

  abbrev pub lone : ℕ → Option (List (ℕ × E)) → List (Option (List (ℕ × E)))
  lone zero o = o ∷ []
  lone (suc n) o = None ∷ lone n o

  abbrev pub alone : View E → Actor → View E
  alone v (Node n) = record { known = v.known; nodes = lone n.0 (held v (Node n)); clients = [] }
  alone v (Client c) =
      record { known = v.known; nodes = []; clients = lone c.0 (held v (Client c)) }

  abbrev pub merged : List (Option (List (ℕ × E))) → List (Option (List (ℕ × E)))
      → List (Option (List (ℕ × E)))
  merged [] ys = ys
  merged (x ∷ xs) [] = x ∷ xs
  merged (x ∷ xs) (y ∷ ys) = or_else x y ∷ merged xs ys

  abbrev pub joined : View E → View E → View E
  joined v w =
      record {
        known = max v.known w.known;
        nodes = merged v.nodes w.nodes;
        clients = merged v.clients w.clients;
      }

  -- what a pass that was joined into another leaves behind: it owns nothing
  abbrev pub spent : View E
  spent = record { known = 0; nodes = []; clients = [] }

  -- what the rule says of one view
  pub record Fits (nodes clients : ℕ) (log : List (Line E)) (owner : Actor → ℕ) (id : ℕ)
      (v : View E) : Type 0 where
    pub known : v.known ≤ length log
    pub owned : (a : Actor) (l : List (ℕ × E)) → held v a ≡ Some l → (owner a ≡ id)
        × (l ≡ list_of a log) × IsActor nodes clients a

  -- All views have lists of one log, as long as the clock. Each actor is owned by one view alone.
  pub record Kept (legal : List (ℕ × E) → List (ℕ × E) → Line E → Type 0) (nodes clients : ℕ)
      {S : Type 0} (s : State S (View E)) : Type 0 where
    pub log : List (Line E)
    pub owner : Actor → ℕ
    pub clock_is : s.words ≡ length log ∷ []
    pub manned : AreManned nodes clients log
    pub legal_log : IsLegalLog legal log
    pub bounded : (a : Actor) → length (list_of a log) ≤ 2 ^ 58
    pub views : (id : ℕ) (v : View E) → get_elem? s.views id ≡ some v
        → Fits nodes clients log owner id v
    pub each_owned : (a : Actor) → IsActor nodes clients a → (v : View E)
        × (get_elem? s.views (owner a) ≡ some v) × Owns v a

  -- a step that adds the line
  abbrev pub adds : {S : Type 0} → Option (Line E) → Step S → Me S (View E) → ℕ → Me S (View E)
      → Type 0
  adds None st m p m' = Unit {0}
  adds (Some x) st m p m' = (m.0.known ≤ p) × (p < 2 ^ 63) × (m' ≡ (appended m.0 p x, m.1))
