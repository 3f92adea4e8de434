-- A page that was copied for one more version: which versions it serves.
use Rattle.std.proofs.Common.{◌≡◌, ℕ, ◌+◌, ◌^◌, ◌<◌, ◌≤◌, Bool, true, false, not, ◌&&◌, ◌||◌, List, Some, refl, sym, ap, ◌∙◌, arith, slice_get}
use Rattle.std.specs.Prelude.{nat_lt, reverse}
use Rattle.std.specs.Int.Bits.{bit_or}
use Rattle.std.specs.List.{AllByRecursion, list_all, range_with_len}
use Rattle.std.proofs.lemmas.Bool.{eq-eqb, lt-ltb, and_right}
use Rattle.mn_base.specs.Store.{Head, max_versions}
use Rattle.mn_base.specs.Tree.{IsVersionTree, serves, parents_of, is_ancestor, has_version, versions_in}
use Rattle.mn_base.proofs.Lists.{range_at}
use Rattle.mn_page.proofs.Ancestors.{alone, is_own_ancestor, above_le}
use Rattle.mn_page.proofs.Copy.{joined_bit, any_same, any_joined, all_joined}
use Rattle.mn_page.proofs.Copied.{all_as_list, list_as_all}

abbrev pub joined : ℕ → ℕ → ℕ
joined copied v = bit_or copied (2 ^ v)

-- a page that was copied for a version doesn't serve it
pub serves_never : (heads : List Head) (v : ℕ) (h : Head) → slice_get heads v ≡ Some h → (made copied : ℕ) → v < 64 → serves (parents_of heads) made (joined copied v) v ≡ false
serves_never heads v h there made copied few =
    ap (λ b. is_ancestor (parents_of heads) made v && not b)
    (any_joined (λ x. is_ancestor (parents_of heads) x v) (has_version (joined copied v)) v (joined_bit copied v v ∙ (ap (λ b. has_version copied v || b) (eq-eqb v v refl) ∙ last (has_version copied v))) (is_own_ancestor heads v h there)
    (range_with_len 0 max_versions) v (range_at 0 64 v few ∙ (let e : 0 + v ≡ v = omega arith in ap Some e)))
    ∙ and_right (is_ancestor (parents_of heads) made v) false refl
  where
    last : (b : Bool) → (b || true) ≡ true
    last true = refl
    last false = refl

module _ (heads : List Head) (tree : IsVersionTree heads) (v : ℕ) (h : Head) (there : slice_get heads v ≡ Some h) (writable : h.frozen ≡ false) where
  -- it serves each other version that it served
  pub serves_still : (made copied w : ℕ) → (w ≡ v → ⊥) → serves (parents_of heads) made (joined copied v) w ≡ serves (parents_of heads) made copied w
  serves_still made copied w differ =
      ap (λ b. is_ancestor (parents_of heads) made w && not b)
      (any_same (λ x. is_ancestor (parents_of heads) x w) (has_version (joined copied v)) (has_version copied) v (joined_bit copied v) (off (is_ancestor (parents_of heads) v w) refl) (range_with_len 0 max_versions))
    where
      off : (b : Bool) → is_ancestor (parents_of heads) v w ≡ b → is_ancestor (parents_of heads) v w ≡ false
      off true e = absurd (differ (sym (alone heads tree v w h there writable e)))
      off false e = e

  -- and that one no more
  pub serves_no_more : (made copied : ℕ) → v < 64 → serves (parents_of heads) made (joined copied v) v ≡ false
  serves_no_more made copied few = serves_never heads v h there made copied few

  pub joined_all : (P : ℕ → Type 0) (copied : ℕ) → P v → AllByRecursion P (versions_in copied) → AllByRecursion P (versions_in (joined copied v))
  joined_all P copied one all = all_joined P (has_version (joined copied v)) (has_version copied) v (joined_bit copied v) one (range_with_len 0 max_versions) all

  pub joined_above : (made copied : ℕ) → (made ≡ v → ⊥) → is_ancestor (parents_of heads) made v ≡ true → list_all (nat_lt made) (versions_in copied) ≡ true → list_all (nat_lt made) (versions_in (joined copied v)) ≡ true
  joined_above made copied differ above e =
      let low : made ≤ v = above_le (reverse (parents_of heads)) tree.parents made v above in
      all_as_list (nat_lt made) (versions_in (joined copied v)) (joined_all (λ w. nat_lt made w ≡ true) copied (lt-ltb made v (omega arith)) (list_as_all (nat_lt made) (versions_in copied) e))
