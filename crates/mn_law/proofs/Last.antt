-- Which bytes of a place a list showed last.
use Rattle.std.proofs.Common.{◌≡◌, ℕ, zero, suc, ◌+◌, ◌*◌, ◌-◌, ◌<◌, ◌≤◌, ◌⊎◌, inl, inr, Bool, true, false, List, [], ◌∷◌, length, take, refl, subst, sym, ap, ◌∙◌, arith, Contains}
use Rattle.std.specs.Prelude.{bytes_eq, nat_le}
use Rattle.std.proofs.lemmas.Bool.{cases_eq}
use Rattle.std.proofs.lemmas.Bool.Decides.{nat_tests}
use Rattle.std.proofs.lemmas.List.Elements.{Contains-append_left, Contains-append_right, Contains-append_cases}
use Rattle.mn_base.specs.Ids.{node_same}
use Rattle.mn_base.specs.declared.ids.NodeNo.{NodeNo}
use Rattle.mn_base.proofs.Booleans.{clash}
use Rattle.mn_base.proofs.Keys.{bytes_eq-true, bytes_eq-refl}
use Rattle.mn_mini.specs.Flat.{bytes_in}
use Rattle.mn_mini.proofs.Parts.{same_true, same_self}
use Rattle.mn_runs.specs.Seen.{Place, Seen}
use Rattle.mn_law.specs.Places.{entry_place, at_catalog, IsEntryPlace}
use Rattle.mn_law.specs.Shown.{GivesPlace, TellsPlace, GivesFrom, FirstGives}
use Rattle.mn_runs.proofs.Seen.{nothing}

pub one_there : (x seen : Seen) → Contains (x ∷ []) seen → seen ≡ x
one_there x seen (zero, in', is) = sym is
one_there x seen (suc k, in', is) = absurd (omega arith)

-- the bytes that a read tells of a place lie in it where the place begins
pub told_part : (s : Seen) (place : Place) (bytes : List ℕ) → TellsPlace s place bytes → bytes_in s.bytes (place.start - s.place.start) place.length ≡ bytes
told_part s place bytes (inl gives) = gives.part
told_part s place bytes (inr (entry, gives)) = gives.part

-- The last bytes shown

pub first_once : (seens : List Seen) (place : Place) (number a b : List ℕ) → FirstGives seens place number a → FirstGives seens place number b → a ≡ b
first_once [] place number a b x y = absurd x
first_once (s ∷ seens) place number a b (inl x) (inl y) = sym (told_part s place a x.0) ∙ told_part s place b y.0
first_once (s ∷ seens) place number a b (inl x) (inr y) = absurd (y.0 a x)
first_once (s ∷ seens) place number a b (inr x) (inl y) = absurd (x.0 b y)
first_once (s ∷ seens) place number a b (inr x) (inr y) = first_once seens place number a b x.1 y.1

-- whether a read gives the whole of a place with bytes that begin so can be told
abbrev GivesSo : Seen → Place → List ℕ → List ℕ → Type 0
GivesSo s place number b = GivesPlace s place b × (take 8 b ≡ number)

place_given_or : (s : Seen) (place : Place) (number : List ℕ) → ((b : List ℕ) × GivesSo s place number b) ⊎ ((b : List ℕ) → GivesSo s place number b → ⊥)
place_given_or s place number =
    by (node_same s.place.node place.node) refl (nat_le s.place.start place.start) refl (nat_le (place.start + place.length) (s.place.start + length s.bytes)) refl (bytes_eq (take 8 (bytes_in s.bytes (place.start - s.place.start) place.length)) number) refl
  where
    by : (a : Bool) → node_same s.place.node place.node ≡ a → (b : Bool) → nat_le s.place.start place.start ≡ b → (c : Bool) → nat_le (place.start + place.length) (s.place.start + length s.bytes) ≡ c
        → (d : Bool) → bytes_eq (take 8 (bytes_in s.bytes (place.start - s.place.start) place.length)) number ≡ d → ((b : List ℕ) × GivesSo s place number b) ⊎ ((b : List ℕ) → GivesSo s place number b → ⊥)
    by true e true f true g true h = inl (
      bytes_in s.bytes (place.start - s.place.start) place.length,
      (record { node = same_true s.place.node place.node e; begins = grind (arith, nat_tests); ends = grind (arith, nat_tests); part = refl }, bytes_eq-true _ _ h),
    )
    by false e b f c g d h = inr (λ x gives. clash _ (subst (λ (n : NodeNo). node_same s.place.node n ≡ true) gives.0.node (same_self s.place.node)) e)
    by true e false f c g d h = inr (λ x gives. let low = gives.0.begins in absurd (not_le s.place.start place.start low f))
      where
        not_le : (p q : ℕ) → p ≤ q → nat_le p q ≡ false → ⊥
        not_le p q low off = grind (arith, nat_tests)
    by true e true f false g d h = inr (λ x gives. let low = gives.0.ends in absurd (not_le (place.start + place.length) (s.place.start + length s.bytes) low g))
      where
        not_le : (p q : ℕ) → p ≤ q → nat_le p q ≡ false → ⊥
        not_le p q low off = grind (arith, nat_tests)
    by true e true f true g false h = inr (λ x gives. clash _ (subst (λ (l : List ℕ). bytes_eq l number ≡ true) (sym (ap (take 8) gives.0.part ∙ gives.1)) (bytes_eq-refl number)) h)

-- whether a place is that of an entry can be told
entry_or : (place : Place) → IsEntryPlace place ⊎ (IsEntryPlace place → ⊥)
entry_or place = by (one_of 64)
  where
    Before : ℕ → Type 0
    Before k = (v : ℕ) × (v < k) × (place ≡ entry_place place.node v)

    length_eq : (a : ℕ) → ◌⊎◌ (a ≡ 64) (a ≡ 64 → ⊥)
    length_eq a = elim (cases_eq a 64) as (λ _. ◌⊎◌ (a ≡ 64) (a ≡ 64 → ⊥)) [ inl same ↦ inl same | inr off ↦ inr off ]

    at_v : (v : ℕ) → ◌⊎◌ (place ≡ entry_place place.node v) (place ≡ entry_place place.node v → ⊥)
    at_v v = elim (cases_eq place.start (64 + 64 * v)) as (λ _. ◌⊎◌ (place ≡ entry_place place.node v) (place ≡ entry_place place.node v → ⊥)) [
      | inl start ↦ elim (cases_eq place.length 64) as (λ _. ◌⊎◌ (place ≡ entry_place place.node v) (place ≡ entry_place place.node v → ⊥)) [
        | inl size ↦ inl (λ i. record { node = place.node; start = start i; length = size i })
        | inr off ↦ inr (λ e. off (ap (λ (p : Place). p.length) e))
      ]
      | inr off ↦ inr (λ e. off (ap (λ (p : Place). p.start) e))
    ]

    one_of : (k : ℕ) → Before k ⊎ (Before k → ⊥)
    one_of zero = inr (λ (v, low, is). omega (arith, low))
    one_of (suc k) = more (one_of k) (at_v k)
      where
        more : Before k ⊎ (Before k → ⊥) → ◌⊎◌ (place ≡ entry_place place.node k) (place ≡ entry_place place.node k → ⊥) → Before (suc k) ⊎ (Before (suc k) → ⊥)
        more (inl (v, low, is)) here = inl (v, omega (arith, low), is)
        more (inr none) (inl here) = inl (k, omega arith, here)
        more (inr none) (inr off) = inr (λ (v, low, is). elim (cases_eq v k) as (λ _. ⊥) [ inl same ↦ off (is ∙ ap (entry_place place.node) same) | inr other ↦ none (v, omega (arith, low, other), is) ])

    by : Before 64 ⊎ (Before 64 → ⊥) → IsEntryPlace place ⊎ (IsEntryPlace place → ⊥)
    by (inl (v, low, is)) = inl (place.node, v, low, is)
    by (inr none) = inr (λ (n, v, low, is). none (v, low, is ∙ ap (λ (m : NodeNo). entry_place m v) (sym (ap (λ (p : Place). p.node) is))))

abbrev Gives : Seen → Place → List ℕ → Type 0
Gives s place number = (b : List ℕ) × GivesFrom s place number b

-- whether a read tells such bytes can be told
gives_or : (s : Seen) (place : Place) (number : List ℕ) → Gives s place number ⊎ ((b : List ℕ) → GivesFrom s place number b → ⊥)
gives_or s place number = by (place_given_or s place number) (entry_or place) (place_given_or s (at_catalog place) number)
  where
    by : ((b : List ℕ) × GivesSo s place number b) ⊎ ((b : List ℕ) → GivesSo s place number b → ⊥) → IsEntryPlace place ⊎ (IsEntryPlace place → ⊥)
        → ((b : List ℕ) × GivesSo s (at_catalog place) number b) ⊎ ((b : List ℕ) → GivesSo s (at_catalog place) number b → ⊥) → Gives s place number ⊎ ((b : List ℕ) → GivesFrom s place number b → ⊥)
    by (inl (b, (gives, is))) entry there = inl (b, (inl gives, is))
    by (inr never) (inl entry) (inl (b, (gives, is))) = inl (b, (inr (entry, gives), is))
    by (inr never) (inl entry) (inr none) = inr (λ b told. elim told.0 as (λ _. ⊥) [ inl gives ↦ never b (gives, told.1) | inr (e, gives) ↦ none b (gives, told.1) ])
    by (inr never) (inr off) there = inr (λ b told. elim told.0 as (λ _. ⊥) [ inl gives ↦ never b (gives, told.1) | inr (e, gives) ↦ off e ])

pub first_exists : (seens : List Seen) (place : Place) (number : List ℕ) (seen : Seen) (bytes : List ℕ) → Contains seens seen → GivesFrom seen place number bytes → (b : List ℕ) × FirstGives seens place number b
first_exists [] place number seen bytes has gives = absurd (nothing seen has)
first_exists (s ∷ seens) place number seen bytes has gives = by (λ later. first_exists seens place number seen bytes later gives) (gives_or s place number) (Contains-append_cases (s ∷ []) seens seen has)
  where
    by : (Contains seens seen → (b : List ℕ) × FirstGives seens place number b) → Gives s place number ⊎ ((b : List ℕ) → GivesFrom s place number b → ⊥) → Contains (s ∷ []) seen ⊎ Contains seens seen → (b : List ℕ) × FirstGives (s ∷ seens) place number b
    by rest (inl here) at = (here.0, inl here.1)
    by rest (inr never) (inl first) = absurd (never bytes (subst (λ (x : Seen). GivesFrom x place number bytes) (one_there s seen first) gives))
    by rest (inr never) (inr later) = let r = rest later in (r.0, inr (never, r.1))

pub first_from : (seens : List Seen) (place : Place) (number bytes : List ℕ) → FirstGives seens place number bytes → (seen : Seen) × Contains seens seen × GivesFrom seen place number bytes
first_from [] place number bytes x = absurd x
first_from (s ∷ seens) place number bytes (inl gives) = (s, Contains-append_left (s ∷ []) seens s (0, omega arith, refl), gives)
first_from (s ∷ seens) place number bytes (inr x) = let r = first_from seens place number bytes x.1 in (r.0, Contains-append_right (s ∷ []) seens r.0 r.1, r.2)
