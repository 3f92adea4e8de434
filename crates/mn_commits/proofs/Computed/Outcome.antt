-- A minitransaction takes effect where all of its compare items hold.
use Rattle.std.proofs.Common.{◌≡◌, ℕ, ◌+◌, Bool, true, false, ◌&&◌, List, [], ◌∷◌, length, Option, Some, None, refl, sym, ap, if◌then◌else◌}
use Rattle.std.specs.Prelude.{bytes_eq}
use Rattle.std.specs.List.{list_all}
use Rattle.mn_mini.specs.declared.item.Item.{Item}
use Rattle.mn_mini.specs.declared.item.Item.TheVariants.{Compare, Read, Write}
use Rattle.mn_mini.specs.Mini.{Mini}
use Rattle.mn_mini.specs.Flat.{Mismatched, bytes_in, space_in, mismatch_from, memory_after, unless_mismatched, outcome_on}
use Rattle.mn_runs.specs.Commits.{memory_of_outcome}
use Rattle.mn_commits.specs.Standing.{item_holds}

no_mismatch : (m : List (List ℕ)) (i : ℕ) (items : List Item) → list_all (item_holds m) items ≡ true → mismatch_from m i items ≡ None
no_mismatch m i [] all = refl
no_mismatch m i (Compare node start bytes ∷ items) all = cases (bytes_eq (bytes_in (space_in m node) start (length bytes)) bytes) all (λ h. no_mismatch m (i + 1) items h)
  where
    cases : (b : Bool) → (b && list_all (item_holds m) items) ≡ true → (list_all (item_holds m) items ≡ true → mismatch_from m (i + 1) items ≡ None)
        → (if b then mismatch_from m (i + 1) items else Some (record { item = i; found = bytes_in (space_in m node) start (length bytes) })) ≡ None
    cases true h rest = rest h
    cases false h rest = absurd cc
no_mismatch m i (Read node start n ∷ items) all = no_mismatch m i items all
no_mismatch m i (Write node start bytes ∷ items) all = no_mismatch m i items all

some_mismatch : (m : List (List ℕ)) (i : ℕ) (items : List Item) → list_all (item_holds m) items ≡ false → (at : Mismatched) × (mismatch_from m i items ≡ Some at)
some_mismatch m i [] all = absurd cc
some_mismatch m i (Compare node start bytes ∷ items) all = cases (bytes_eq (bytes_in (space_in m node) start (length bytes)) bytes) all (λ h. some_mismatch m (i + 1) items h)
  where
    cases : (b : Bool) → (b && list_all (item_holds m) items) ≡ false → (list_all (item_holds m) items ≡ false → (at : Mismatched) × (mismatch_from m (i + 1) items ≡ Some at))
        → (at : Mismatched) × ((if b then mismatch_from m (i + 1) items else Some (record { item = i; found = bytes_in (space_in m node) start (length bytes) })) ≡ Some at)
    cases true h rest = rest h
    cases false h rest = (record { item = i; found = bytes_in (space_in m node) start (length bytes) }, refl)
some_mismatch m i (Read node start n ∷ items) all = some_mismatch m i items all
some_mismatch m i (Write node start bytes ∷ items) all = some_mismatch m i items all

pub takes_effect : (m : List (List ℕ)) (mini : Mini) → list_all (item_holds m) mini.items ≡ true → memory_after m mini.items ≡ memory_of_outcome m (outcome_on m mini)
takes_effect m mini all = sym (ap (λ (o : Option Mismatched). memory_of_outcome m (unless_mismatched m mini o)) (no_mismatch m 0 mini.items all))

pub has_no_effect : (m : List (List ℕ)) (mini : Mini) → list_all (item_holds m) mini.items ≡ false → m ≡ memory_of_outcome m (outcome_on m mini)
has_no_effect m mini some = let at = some_mismatch m 0 mini.items some in sym (ap (λ (o : Option Mismatched). memory_of_outcome m (unless_mismatched m mini o)) at.1)
