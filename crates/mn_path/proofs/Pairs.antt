-- Keys and values of a leaf, one after another.
use Rattle.std.proofs.Common.{◌≡◌, ℕ, zero, suc, ◌+◌, ◌≤◌, true, false, List, [], ◌∷◌, length, drop, map, Option, Some, None, refl, subst, sym, ap, ◌∙◌, arith, slice_get, bytes_eq, add-one}
use Rattle.std.proofs.lemmas.List.{length-map}
use Rattle.mn_base.specs.Store.{value_at}
use Rattle.mn_base.specs.declared.reply.Pair.{Pair}
use Rattle.mn_page.specs.declared.page.Body.{Body}
use Rattle.mn_page.specs.declared.page.Body.TheVariants.{Leaf, Inner}
use Rattle.mn_page.specs.declared.page.Page.{Page}
use Rattle.mn_page.specs.Grammar.{IsPage, IsBody, count_in, height_of}
use Rattle.mn_page.specs.Holds.{pairs_in}
use Rattle.mn_page.specs.Reading.{keys_in, values_in}
use Rattle.mn_path.specs.Values.{NoValueSoFar}

leaf_low : (low : List ℕ) (high : Option (List ℕ)) (b : Body) → IsBody low high b
    → height_of b ≡ 0 → (pairs : List Pair) × (b ≡ Leaf pairs)
leaf_low low high (Leaf pairs) is none = (pairs, refl)
leaf_low low high (Inner level first rest) is none = absurd (let some = is.0 in omega arith)

pub is_leaf : (p : Page) → IsPage p → height_of p.body ≡ 0 → (pairs : List Pair) × (p.body ≡ Leaf pairs)
is_leaf p is none = leaf_low p.low p.high p.body is.body none

pub none_left : {X : Type 0} (xs : List X) (i : ℕ) → length xs ≤ i → drop i xs ≡ []
none_left [] zero few = refl
none_left [] (suc i) few = refl
none_left (x ∷ xs) zero few = absurd (omega arith)
none_left (x ∷ xs) (suc i) few = none_left xs i (omega arith)

pair_in : (pairs : List Pair) (i : ℕ) (key : List ℕ)
    → slice_get (map (λ p. p.key) pairs) i ≡ Some key
    → (p : Pair) × (drop i pairs ≡ p ∷ drop (suc i) pairs) × (p.key ≡ key)
    × (slice_get (map (λ p. p.value) pairs) i ≡ Some p.value)
pair_in [] i key k = absurd cc
pair_in (p ∷ ps) zero key k = (p, refl, cc, refl)
pair_in (p ∷ ps) (suc i) key k = pair_in ps i key k

module _ (key : List ℕ) where
  -- a pair has the key
  pub has_value : (b : Body) (i : ℕ) (own value : List ℕ) → height_of b ≡ 0 → NoValueSoFar b i key
      → slice_get (keys_in b) i ≡ Some own → bytes_eq own key ≡ true
      → slice_get (values_in b) i ≡ Some value
      → Some value ≡ value_at (pairs_in b) key
  has_value (Leaf pairs) i own value low so_far at same there =
      let p = pair_in pairs i own at in
      let its : bytes_eq p.0.key key ≡ true = ap (λ k. bytes_eq k key) p.2 ∙ same in
      let here : p.0.value ≡ value = by_value p.0.value (sym p.3 ∙ there) in
      ap Some (sym here) ∙ sym (ap (λ l. value_at l key) p.1 ∙ by p.0 (drop (suc i) pairs) its) ∙ so_far
    where
      by_value : (v : List ℕ) → Some v ≡ Some value → v ≡ value
      by_value v e = cc

      by : (p : Pair) (more : List Pair) → bytes_eq p.key key ≡ true
          → value_at (p ∷ more) key ≡ Some p.value
      by p more its = rw its refl
  has_value (Inner level first rest) i own value low so_far at same there = absurd cc

  -- it has another
  pub has_other : (b : Body) (i : ℕ) (own : List ℕ) → height_of b ≡ 0 → NoValueSoFar b i key
      → slice_get (keys_in b) i ≡ Some own → bytes_eq own key ≡ false → NoValueSoFar b (i + 1) key
  has_other (Leaf pairs) i own low so_far at other =
      let p = pair_in pairs i own at in
      let its : bytes_eq p.0.key key ≡ false = ap (λ k. bytes_eq k key) p.2 ∙ other in
      ap (λ n. value_at (drop n pairs) key) (add-one i)
      ∙ sym (ap (λ l. value_at l key) p.1 ∙ by p.0 (drop (suc i) pairs) its) ∙ so_far
    where
      by : (p : Pair) (more : List Pair) → bytes_eq p.key key ≡ false
          → value_at (p ∷ more) key ≡ value_at more key
      by p more its = rw its refl
  has_other (Inner level first rest) i own low so_far at other =
      ap (λ l. value_at l key) (none_left [] (i + 1) (omega arith))

  -- there are no more
  pub has_none : (b : Body) (i : ℕ) → height_of b ≡ 0 → NoValueSoFar b i key → count_in b ≤ i
      → None ≡ value_at (pairs_in b) key
  has_none (Leaf pairs) i low so_far few =
      ap (λ l. value_at l key) (sym (none_left pairs i few)) ∙ so_far
  has_none (Inner level first rest) i low so_far few = refl

-- how many keys and values there are
pub leaf_counts : (b : Body) (pairs : List Pair) → b ≡ Leaf pairs
    → (length (keys_in b) ≡ count_in b) × (length (values_in b) ≡ count_in b)
leaf_counts b pairs is =
    subst (λ (x : Body). (length (keys_in x) ≡ count_in x) × (length (values_in x) ≡ count_in x)) (sym is)
    (length-map pairs (λ p. p.key), length-map pairs (λ p. p.value))
