-- Numbers of new pages in the order of their slots: of any two, the one behind isn't first.
use Rattle.std.proofs.Common.{◌≡◌, ℕ, ◌<◌, ◌⊎◌, inl, inr, Bool, true, false, ◌&&◌, ◌||◌, List, [], ◌∷◌, Option, Some, None, refl, ap, ◌∙◌, arith, if◌then◌else◌}
use Rattle.std.specs.Prelude.{nat_eq, nat_lt, ⊤}
use Rattle.std.specs.List.{AllByRecursion}
use Rattle.std.proofs.lemmas.Bool.{eqb-true, eq-eqb, and_from}
use Rattle.std.proofs.lemmas.Bool.Decides.{nat_tests}
use Rattle.mn_base.specs.Order.{key_lt}
use Rattle.mn_base.specs.declared.ids.Addr.{Addr}
use Rattle.mn_page.specs.declared.page.Page.{Page}
use Rattle.mn_page.specs.declared.page.Body.{Body}
use Rattle.mn_page.specs.declared.page.Body.TheVariants.{Leaf, Inner}
use Rattle.mn_page.specs.Grammar.{height_of}
use Rattle.mn_page.specs.Overlay.{Held, held_at, new_addr, placed_body, placed_page}
use Rattle.mn_page.specs.SlotOrder.{stands_first}
use Rattle.mn_base.proofs.Keys.{key_lt-trans, not_below}
use Rattle.mn_base.proofs.Booleans.{clash, falsely}
use Rattle.mn_base.proofs.Lists.{weaker}
use Rattle.mn_tree.specs.Order.{both_stand, precedes, with_number, with_numbers}
use Rattle.mn_tree.proofs.Trees.Ordered.{all_with}

-- Two pages

abbrev IsFirst : ℕ → ℕ → List ℕ → List ℕ → Type 0
IsFirst a b k l = (a < b) ⊎ ((a ≡ b) × (key_lt k l ≡ true))

first_is : (a b : ℕ) (k l : List ℕ) → (nat_lt a b || (nat_eq a b && key_lt k l)) ≡ true → IsFirst a b k l
first_is a b k l e = by_less (nat_lt a b) (nat_eq a b) refl refl e
  where
    less : (n m : ℕ) → nat_lt n m ≡ true → n < m
    less n m f = grind (arith, nat_tests)

    by_less : (s t : Bool) → nat_lt a b ≡ s → nat_eq a b ≡ t → (s || (t && key_lt k l)) ≡ true → IsFirst a b k l
    by_less true t f g e = inl (less a b f)
    by_less false true f g e = inr (eqb-true a b g, e)
    by_less false false f g e = absurd cc

is_first : (a b : ℕ) (k l : List ℕ) → IsFirst a b k l → (nat_lt a b || (nat_eq a b && key_lt k l)) ≡ true
is_first a b k l (inl low) = ap (λ t. t || (nat_eq a b && key_lt k l)) (less a b low)
  where
    less : (n m : ℕ) → n < m → nat_lt n m ≡ true
    less n m f = grind (arith, nat_tests)
is_first a b k l (inr same) = or_right (nat_lt a b) (and_from (nat_eq a b) (key_lt k l) (eq-eqb a b same.0) same.1)
  where
    or_right : (b : Bool) {c : Bool} → c ≡ true → (b || c) ≡ true
    or_right true e = refl
    or_right false e = e

first_on : (a b c : ℕ) (k l m : List ℕ) → IsFirst a b k l → IsFirst b c l m → IsFirst a c k m
first_on a b c k l m (inl low) (inl more) = inl (omega arith)
first_on a b c k l m (inl low) (inr same) = let e = same.0 in inl (omega arith)
first_on a b c k l m (inr same) (inl low) = let e = same.0 in inl (omega arith)
first_on a b c k l m (inr same) (inr also) = inr (same.0 ∙ also.0, key_lt-trans k l m same.1 also.1)

never_first : (a : ℕ) (k : List ℕ) → IsFirst a a k k → ⊥
never_first a k (inl low) = absurd (omega arith)
never_first a k (inr same) = clash (key_lt k k) same.1 (not_below k)

stands_on : (p q r : Page) → stands_first p q ≡ true → stands_first q r ≡ true → stands_first p r ≡ true
stands_on p q r e f =
    is_first (height_of p.body) (height_of r.body) p.low r.low
    (first_on (height_of p.body) (height_of q.body) (height_of r.body) p.low q.low r.low (first_is (height_of p.body) (height_of q.body) p.low q.low e) (first_is (height_of q.body) (height_of r.body) q.low r.low f))

both_on : (o p q : Option Page) → both_stand o p ≡ true → both_stand p q ≡ true → both_stand o q ≡ true
both_on None p q e f = absurd cc
both_on (Some x) None q e f = absurd cc
both_on (Some x) (Some y) None e f = absurd cc
both_on (Some x) (Some y) (Some z) e f = stands_on x y z e f

never_both : (o : Option Page) → both_stand o o ≡ true → ⊥
never_both None e = absurd cc
never_both (Some x) e = never_first (height_of x.body) x.low (first_is (height_of x.body) (height_of x.body) x.low x.low e)

-- slots change nothing of a page's place
placed_height : (by : List Addr) (body : Body) → height_of (placed_body by body) ≡ height_of body
placed_height by (Leaf pairs) = refl
placed_height by (Inner height first rest) = refl

pub placed_stands : (by : List Addr) (s t : ℕ) (p q : Page) → stands_first (placed_page by s p) (placed_page by t q) ≡ stands_first p q
placed_stands by s t p q =
    ap (λ h. nat_lt h (height_of (placed_body by q.body)) || (nat_eq h (height_of (placed_body by q.body)) && key_lt p.low q.low)) (placed_height by p.body)
    ∙ ap (λ h. nat_lt (height_of p.body) h || (nat_eq (height_of p.body) h && key_lt p.low q.low)) (placed_height by q.body)

-- Numbers

-- of any two, the one behind doesn't precede
abbrev pub Ascend : List Held → List ℕ → Type 0
Ascend pages [] = ⊤
Ascend pages (m ∷ ms) = AllByRecursion (λ k. precedes pages k m ≡ false) ms × Ascend pages ms

precedes_on : (pages : List Held) (n m k : ℕ) → precedes pages n m ≡ true → precedes pages m k ≡ true → precedes pages n k ≡ true
precedes_on pages n m k e f = both_on (held_at pages (new_addr n)) (held_at pages (new_addr m)) (held_at pages (new_addr k)) e f

ascend_with : (pages : List Held) (n : ℕ) (order : List ℕ) → Ascend pages order → Ascend pages (with_number pages n order)
ascend_with pages n [] sorted = (tt, tt)
ascend_with pages n (m ∷ ms) sorted = cases (precedes pages n m) refl (ascend_with pages n ms sorted.1)
  where
    behind : precedes pages n m ≡ true → (k : ℕ) → precedes pages k m ≡ false → precedes pages k n ≡ false
    behind e k off = falsely (precedes pages k n) (λ f. clash (precedes pages k m) (precedes_on pages k n m f e) off)

    cases : (t : Bool) → precedes pages n m ≡ t → Ascend pages (with_number pages n ms) → Ascend pages (if t then n ∷ m ∷ ms else m ∷ with_number pages n ms)
    cases true e rest = (
      (
        falsely (precedes pages m n) (λ f. never_both (held_at pages (new_addr n)) (precedes_on pages n m n e f)),
        weaker (λ k. precedes pages k m ≡ false) (λ k. precedes pages k n ≡ false) (behind e) ms sorted.0,
      ),
      sorted,
    )
    cases false e rest = (all_with (λ k. precedes pages k m ≡ false) pages n ms e sorted.0, rest)

-- the sort makes an order that ascends
pub ascend_all : (pages : List Held) (order ns : List ℕ) → Ascend pages order → Ascend pages (with_numbers pages order ns)
ascend_all pages order [] sorted = sorted
ascend_all pages order (n ∷ ns) sorted = ascend_all pages (with_number pages n order) ns (ascend_with pages n order sorted)
