-- Which versions a page serves, as far as a walk up the tree has come.
use Rattle.std.proofs.Common.{◌≡◌, ℕ, ◌^◌, ◌<◌, ◌≤◌, length, Bool, true, false, ◌||◌, ◌&&◌, not, Option, Some, None, List, refl, sym, ap, ◌∙◌, nat_eq}
use Rattle.std.specs.Prelude.{slice_get}
use Rattle.std.specs.List.{list_any}
use Rattle.mn_base.specs.Tree.{is_ancestor, has_version, versions_in, serves}
use Rattle.mn_base.proofs.Naturals.{eq_turned}
use Rattle.mn_vtree.specs.Parents.{IsLess}
use Rattle.mn_vtree.proofs.Walks.{above_parent, ancestor_step, ancestor_past}
use Rattle.mn_vtree.proofs.Sets.{any_or, any_same, any_never, in_set}

-- the walk is at this version, and has met the one that the page was made in or not
unfoldable pub served_from : List (Option ℕ) → ℕ → ℕ → Bool → ℕ → Bool
served_from parents made copied meets at = (meets || is_ancestor parents made at) && not (list_any (λ w. is_ancestor parents w at) (versions_in copied))

pub served_first : (parents : List (Option ℕ)) (made copied v : ℕ) → served_from parents made copied false v ≡ serves parents made copied v
unfolding served_from
served_first parents made copied v = refl

or_assoc : (a b c : Bool) → (a || (b || c)) ≡ ((a || b) || c)
or_assoc true b c = refl
or_assoc false b c = refl

-- over any set of versions, in which this one is or is not
module _ (parents : List (Option ℕ)) (made : ℕ) (s : List ℕ) (at : ℕ) (x : Option ℕ) (has : Bool) (less : IsLess parents at) (is : slice_get parents at ≡ Some x) (there : list_any (λ w. nat_eq w at) s ≡ has) where
  copied_above : list_any (λ w. is_ancestor parents w at) s ≡ (has || list_any (λ w. above_parent parents w x) s)
  copied_above =
      any_same (λ w. is_ancestor parents w at) (λ w. nat_eq w at || above_parent parents w x) s (λ w. ancestor_step parents at x w less is)
      ∙ (any_or (λ w. nat_eq w at) (λ w. above_parent parents w x) s ∙ ap (λ (b : Bool). b || list_any (λ w. above_parent parents w x) s) there)

  made_above : (meets : Bool) → (meets || is_ancestor parents made at) ≡ ((meets || nat_eq at made) || above_parent parents made x)
  made_above meets = ap (λ (b : Bool). meets || b) (ancestor_step parents at x made less is ∙ ap (λ (b : Bool). b || above_parent parents made x) (eq_turned made at)) ∙ or_assoc meets (nat_eq at made) (above_parent parents made x)

  served_step : (meets : Bool) → ((meets || is_ancestor parents made at) && not (list_any (λ w. is_ancestor parents w at) s))
      ≡ (((meets || nat_eq at made) || above_parent parents made x) && not (has || list_any (λ w. above_parent parents w x) s))
  served_step meets = ap (λ (t : Bool × Bool). t.0 && not t.1) (λ i. (made_above meets i, copied_above i))

none_left : (b : Bool) → (b && not true) ≡ false
none_left true = refl
none_left false = refl

all_left : (b c : Bool) → c ≡ false → ((b || false) && not c) ≡ b
all_left true true e = sym e
all_left true false e = refl
all_left false true e = refl
all_left false false e = refl

-- the page was copied for this version
pub served_copied : (parents : List (Option ℕ)) (made copied at : ℕ) (x : Option ℕ) → copied < 2 ^ 64 → IsLess parents at → slice_get parents at ≡ Some x → (meets : Bool) → has_version copied at ≡ true
    → served_from parents made copied meets at ≡ false
unfolding served_from
served_copied parents made copied at x small less is meets has =
    served_step parents made (versions_in copied) at x true less is (in_set copied at small ∙ has) meets ∙ none_left ((meets || nat_eq at made) || above_parent parents made x)

-- the walk is at the top
pub served_last : (parents : List (Option ℕ)) (made copied at : ℕ) → copied < 2 ^ 64 → IsLess parents at → slice_get parents at ≡ Some None → (meets : Bool) → has_version copied at ≡ false
    → served_from parents made copied meets at ≡ (meets || nat_eq at made)
unfolding served_from
served_last parents made copied at small less is meets has =
    served_step parents made (versions_in copied) at None false less is (in_set copied at small ∙ has) meets
    ∙ all_left (meets || nat_eq at made) (list_any (λ w. above_parent parents w None) (versions_in copied)) (any_never (versions_in copied))

-- the walk goes on at the parent
pub served_next : (parents : List (Option ℕ)) (made copied at p : ℕ) → copied < 2 ^ 64 → IsLess parents at → slice_get parents at ≡ Some (Some p) → (meets : Bool) → has_version copied at ≡ false
    → served_from parents made copied meets at ≡ served_from parents made copied (meets || nat_eq at made) p
unfolding served_from
served_next parents made copied at p small less is meets has = served_step parents made (versions_in copied) at (Some p) false less is (in_set copied at small ∙ has) meets

-- a version that isn't there is served by none
pub served_past : (parents : List (Option ℕ)) (made copied v : ℕ) → length parents ≤ v → serves parents made copied v ≡ false
served_past parents made copied v past = ap (λ (b : Bool). b && not (list_any (λ w. is_ancestor parents w v) (versions_in copied))) (ancestor_past parents made v past)
