-- Keys and pairs: equal bytes, their order, and the pairs of a range.
use Rattle.std.proofs.Common.{◌≡◌, ℕ, Bool, true, false, cond, ◌&&◌, List, [], ◌∷◌, Some, refl, sym, ap, ◌∙◌, if◌then◌else◌}
use Rattle.std.specs.Prelude.{filter, nat_eq}
use Rattle.std.proofs.lemmas.Bool.{eqb-true, eq-eqb}
use Rattle.std.specs.Prelude.{bytes_eq}
use Rattle.std.specs.declared.cmp.Ordering.{Ordering}
use Rattle.std.specs.declared.cmp.Ordering.TheVariants.{Less, Equal, Greater}
use Rattle.std.specs.Ordering.{is_lt, is_eq, ordering_reverse}
use Rattle.std.proofs.lemmas.Cmp.{nat_list_cmp_total}
use Rattle.std.proofs.lemmas.Map.Text.{is_eq-slice_cmp}
use Rattle.mn_base.specs.Order.{key_cmp, key_lt}
use Rattle.mn_base.specs.Store.{value_at}
use Rattle.mn_base.specs.declared.reply.Pair.{Pair}

pub bytes_eq-true : (a b : List ℕ) → bytes_eq a b ≡ true → a ≡ b
bytes_eq-true [] [] e = refl
bytes_eq-true [] (y ∷ b) e = absurd cc
bytes_eq-true (x ∷ a) [] e = absurd cc
bytes_eq-true (x ∷ a) (y ∷ b) e =
    elim (nat_eq x y) as (λ t. nat_eq x y ≡ t → (t && bytes_eq a b) ≡ true → x ∷ a ≡ y ∷ b) [
      | true ↦ λ f g. let here = eqb-true x y f in let rest = bytes_eq-true a b g in cc
      | false ↦ λ f g. absurd cc
    ] refl e

pub bytes_eq-refl : (a : List ℕ) → bytes_eq a a ≡ true
bytes_eq-refl [] = refl
bytes_eq-refl (x ∷ a) = ap (λ t. t && bytes_eq a a) (eq-eqb x x refl) ∙ bytes_eq-refl a

-- The order of keys

pub less : (r : Ordering) → is_lt r ≡ true → r ≡ Less
less Less e = refl
less Equal e = absurd cc
less Greater e = absurd cc

pub key_lt-trans : (a b c : List ℕ) → key_lt a b ≡ true → key_lt b c ≡ true → key_lt a c ≡ true
key_lt-trans a b c e f = ap is_lt (nat_list_cmp_total.trans a b c (less (key_cmp a b) e) (less (key_cmp b c) f))

-- two keys are the same, or one comes before the other
pub key_lt-else : (a b : List ℕ) → key_lt a b ≡ false → bytes_eq b a ≡ false → key_lt b a ≡ true
key_lt-else a b e f = cases (key_cmp b a) (nat_list_cmp_total.antisymm a b) (is_eq-slice_cmp b a)
  where
    cases : (r : Ordering) → key_cmp a b ≡ ordering_reverse r → is_eq r ≡ bytes_eq b a → is_lt r ≡ true
    cases Less g h = refl
    cases Equal g h = absurd cc
    cases Greater g h = let low : is_lt (key_cmp a b) ≡ true = ap is_lt g in absurd cc

pub not_below : (a : List ℕ) → key_lt a a ≡ false
not_below a = cases (key_cmp a a) (nat_list_cmp_total.antisymm a a)
  where
    cases : (r : Ordering) → r ≡ ordering_reverse r → is_lt r ≡ false
    cases Less e = absurd cc
    cases Equal e = refl
    cases Greater e = refl

-- a key does not come before one that comes before it
pub turned : (a b : List ℕ) → key_lt a b ≡ true → key_lt b a ≡ false
turned a b e = cases (key_lt b a) refl
  where
    cases : (t : Bool) → key_lt b a ≡ t → key_lt b a ≡ false
    cases true f = let same : key_lt a a ≡ true = key_lt-trans a b a e f in absurd (clash (key_lt a a) same (not_below a))
      where
        clash : (c : Bool) → c ≡ true → c ≡ false → ⊥
        clash c g h = cc
    cases false f = f

-- a key is not the same as one that it comes before
pub lt_not_same : (a b : List ℕ) → key_lt a b ≡ true → bytes_eq b a ≡ false
lt_not_same a b e = sym (is_eq-slice_cmp b a) ∙ ap is_eq (nat_list_cmp_total.antisymm b a ∙ ap ordering_reverse (less (key_cmp a b) e))

-- Pairs of a range

-- the value is that of the pairs within a test that passes the key
pub value_at-filter : (t : List ℕ → Bool) (ps : List Pair) (key : List ℕ) → t key ≡ true → value_at (filter (λ p. t p.key) ps) key ≡ value_at ps key
value_at-filter t [] key pass = refl
value_at-filter t (p ∷ ps) key pass =
    elim (bytes_eq p.key key) as (λ b. bytes_eq p.key key ≡ b → value_at (cond (t p.key) (p ∷ filter (λ p. t p.key) ps) (filter (λ p. t p.key) ps)) key ≡ (if b then Some p.value else value_at ps key)) [
      | true ↦ λ e.
          let kept : t p.key ≡ true = ap t (bytes_eq-true p.key key e) ∙ pass in
          ap (λ b. value_at (cond b (p ∷ filter (λ p. t p.key) ps) (filter (λ p. t p.key) ps)) key) kept ∙ ap (λ b. if b then Some p.value else value_at (filter (λ p. t p.key) ps) key) e
      | false ↦ λ e.
          elim (t p.key) as (λ c. value_at (cond c (p ∷ filter (λ p. t p.key) ps) (filter (λ p. t p.key) ps)) key ≡ value_at ps key) [
            | true ↦ ap (λ b. if b then Some p.value else value_at (filter (λ p. t p.key) ps) key) e ∙ value_at-filter t ps key pass
            | false ↦ value_at-filter t ps key pass
          ]
    ] refl
