-- What a look at the clock tells of the place that a pass knows, and of the lists that it owns.
-- Here too the newest line of a log comes first.
use Rattle.std.specs.Prelude.{ℕ, ◌≡◌, ◌≤◌, Some, List, length}
use Rattle.atomic_table.specs.Table.{Me, Step}
use Rattle.mn_actors.specs.declared.actor.Actor.{Actor}
use Rattle.mn_actors.specs.declared.clock.View.{View}
use Rattle.mn_actors.specs.Lines.{Line}
use Rattle.mn_actors.specs.Lists.{held}
use Rattle.mn_actors.specs.Rule.{IsLegalLog, list_of}

module _ {E : Type 0} where
  -- the lists are those of one log, each of whose lines was legal when it was added
  pub record IsOfLog (legal : List (ℕ × E) → List (ℕ × E) → Line E → Type 0) (v : View E)
      : Type 0 where
    pub log : List (Line E)
    pub legal_log : IsLegalLog legal log
    pub lists : (a : Actor) (l : List (ℕ × E)) → held v a ≡ Some l → l ≡ list_of a log

  -- the pass knows how many lines the log of its lists has: what the clock says where it is looked
  -- at
  pub record KnowsAll (legal : List (ℕ × E) → List (ℕ × E) → Line E → Type 0) (v : View E)
      : Type 0 where
    pub of_log : IsOfLog legal v
    pub count : length of_log.log ≡ v.known

  -- the same lists, where this place is known
  abbrev pub knowing : ℕ → View E → View E
  knowing p v = record { known = p; nodes = v.nodes; clients = v.clients }

  -- a step that looks at the clock, which is then known
  abbrev pub hears : {S : Type 0} → (List (ℕ × E) → List (ℕ × E) → Line E → Type 0) → Step S
      → Me S (View E) → ℕ → Me S (View E) → Type 0
  hears legal st m n m' =
      (m.0.known ≤ n) × (m' ≡ (knowing n m.0, m.1)) × KnowsAll legal (knowing n m.0)

  -- a step that looks, after which this place is known
  abbrev pub looks : {S : Type 0} → (List (ℕ × E) → List (ℕ × E) → Line E → Type 0) → ℕ → Step S
      → Me S (View E) → ℕ → Me S (View E) → Type 0
  looks legal p st m n m' = IsOfLog legal m.0 × (m' ≡ (knowing p m.0, m.1))
