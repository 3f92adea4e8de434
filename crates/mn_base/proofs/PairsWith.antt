-- Setting a value in pairs that ascend, and in the pairs of a range.
use Rattle.std.proofs.Common.{◌≡◌, ℕ, suc, ◌+◌, ◌≤◌, Bool, true, false, cond, not, List, [], ◌∷◌, ◌++◌, length, refl, subst, sym, ap, ◌∙◌, arith, if◌then◌else◌}
use Rattle.std.specs.Prelude.{filter}
use Rattle.std.specs.List.{AllByRecursion}
use Rattle.std.proofs.lemmas.Bool.{and_parts, and_from}
use Rattle.std.specs.Prelude.{bytes_eq}
use Rattle.mn_base.specs.Order.{key_lt}
use Rattle.mn_base.specs.Store.{pairs_with, is_ascending}
use Rattle.mn_base.specs.declared.reply.Pair.{Pair}
use Rattle.mn_base.proofs.Keys.{bytes_eq-true, bytes_eq-refl, key_lt-trans, key_lt-else, not_below, turned}

-- Ascending pairs

-- the first key lies above
abbrev pub first_above : List ℕ → List Pair → Bool
first_above key [] = true
first_above key (p ∷ ps) = key_lt key p.key

pub ascending_parts : (p : Pair) (ps : List Pair) → is_ascending (p ∷ ps) ≡ true → (first_above p.key ps ≡ true) × (is_ascending ps ≡ true)
ascending_parts p [] e = (refl, refl)
ascending_parts p (q ∷ ps) e = and_parts (key_lt p.key q.key) (is_ascending (q ∷ ps)) e

pub ascending_cons : (p : Pair) (ps : List Pair) → first_above p.key ps ≡ true → is_ascending ps ≡ true → is_ascending (p ∷ ps) ≡ true
ascending_cons p [] e f = refl
ascending_cons p (q ∷ ps) e f = and_from _ _ e f

abbrev pub AllAbove : List ℕ → List Pair → Type 0
AllAbove key ps = AllByRecursion (λ p. key_lt key p.key ≡ true) ps

pub all_above : (key : List ℕ) (ps : List Pair) → first_above key ps ≡ true → is_ascending ps ≡ true → AllAbove key ps
all_above key [] e f = tt
all_above key (p ∷ ps) e f = (e, weaker ps (all_above p.key ps (ascending_parts p ps f).0 (ascending_parts p ps f).1))
  where
    weaker : (qs : List Pair) → AllAbove p.key qs → AllAbove key qs
    weaker [] all = tt
    weaker (q ∷ qs) all = (key_lt-trans key p.key q.key e all.0, weaker qs all.1)

above_filter : (key : List ℕ) (t : Pair → Bool) (ps : List Pair) → AllAbove key ps → AllAbove key (filter t ps)
above_filter key t [] all = tt
above_filter key t (p ∷ ps) all = elim (t p) as (λ b. AllAbove key (cond b (p ∷ filter t ps) (filter t ps))) [
  | true ↦ (all.0, above_filter key t ps all.1)
  | false ↦ above_filter key t ps all.1
]

first_of : (key : List ℕ) (ps : List Pair) → AllAbove key ps → first_above key ps ≡ true
first_of key [] all = refl
first_of key (p ∷ ps) all = all.0

-- some of ascending pairs ascend
pub ascending-filter : (t : Pair → Bool) (ps : List Pair) → is_ascending ps ≡ true → is_ascending (filter t ps) ≡ true
ascending-filter t [] e = refl
ascending-filter t (p ∷ ps) e =
    let parts = ascending_parts p ps e in
    let rest = ascending-filter t ps parts.1 in
    let above = above_filter p.key t ps (all_above p.key ps parts.0 parts.1) in
    elim (t p) as (λ b. is_ascending (cond b (p ∷ filter t ps) (filter t ps)) ≡ true) [
      | true ↦ ascending_cons p (filter t ps) (first_of p.key (filter t ps) above) rest
      | false ↦ rest
    ]

-- Setting a value

abbrev pub pair_of : List ℕ → List ℕ → Pair
pair_of key value = record { key = key; value = value }

put_first : (key value : List ℕ) (ps : List Pair) → AllAbove key ps → pairs_with ps key value ≡ pair_of key value ∷ ps
put_first key value [] all = refl
put_first key value (p ∷ ps) all =
    ap (λ b. if b then pair_of key value ∷ p ∷ ps else (if bytes_eq p.key key then pair_of key value ∷ ps else p ∷ pairs_with ps key value)) all.0

-- the three ways of a step
pub data PutCase (key value : List ℕ) (p : Pair) (ps : List Pair) : Type 0 where
  before : key_lt key p.key ≡ true → pairs_with (p ∷ ps) key value ≡ pair_of key value ∷ p ∷ ps → PutCase key value p ps
  here : p.key ≡ key → key_lt key p.key ≡ false → pairs_with (p ∷ ps) key value ≡ pair_of key value ∷ ps → PutCase key value p ps
  later : key_lt p.key key ≡ true → key_lt key p.key ≡ false → bytes_eq p.key key ≡ false → pairs_with (p ∷ ps) key value ≡ p ∷ pairs_with ps key value → PutCase key value p ps

pub put_case : (key value : List ℕ) (p : Pair) (ps : List Pair) → PutCase key value p ps
put_case key value p ps = cases (key_lt key p.key) (bytes_eq p.key key) refl refl
  where
    value_of : (l m : Bool) → key_lt key p.key ≡ l → bytes_eq p.key key ≡ m → pairs_with (p ∷ ps) key value ≡ (if l then pair_of key value ∷ p ∷ ps else (if m then pair_of key value ∷ ps else p ∷ pairs_with ps key value))
    value_of l m e f =
        ap (λ b. if b then pair_of key value ∷ p ∷ ps else (if bytes_eq p.key key then pair_of key value ∷ ps else p ∷ pairs_with ps key value)) e
        ∙ ap (λ b. if l then pair_of key value ∷ p ∷ ps else (if b then pair_of key value ∷ ps else p ∷ pairs_with ps key value)) f

    cases : (l m : Bool) → key_lt key p.key ≡ l → bytes_eq p.key key ≡ m → PutCase key value p ps
    cases true m e f = before e (value_of true m e f)
    cases false true e f = here (bytes_eq-true p.key key f) e (value_of false true e f)
    cases false false e f = later (key_lt-else key p.key e f) e f (value_of false false e f)

first_above-put : (low key value : List ℕ) (ps : List Pair) → first_above low ps ≡ true → key_lt low key ≡ true → first_above low (pairs_with ps key value) ≡ true
first_above-put low key value [] e f = f
first_above-put low key value (p ∷ ps) e f = elim (put_case key value p ps) as (λ _. first_above low (pairs_with (p ∷ ps) key value) ≡ true) [
  | before _ is ↦ ap (first_above low) is ∙ f
  | here _ _ is ↦ ap (first_above low) is ∙ f
  | later _ _ _ is ↦ ap (first_above low) is ∙ e
]

pub ascending-put : (key value : List ℕ) (ps : List Pair) → is_ascending ps ≡ true → is_ascending (pairs_with ps key value) ≡ true
ascending-put key value [] e = refl
ascending-put key value (p ∷ ps) e =
    let parts = ascending_parts p ps e in
    elim (put_case key value p ps) as (λ _. is_ascending (pairs_with (p ∷ ps) key value) ≡ true) [
      | before low is ↦ ap is_ascending is ∙ ascending_cons (pair_of key value) (p ∷ ps) low e
      | here same _ is ↦ ap is_ascending is ∙ ascending_cons (pair_of key value) ps (subst (λ (k : List ℕ). first_above k ps ≡ true) same parts.0) parts.1
      | later high _ _ is ↦ ap is_ascending is ∙ ascending_cons p (pairs_with ps key value) (first_above-put p.key key value ps parts.0 high) (ascending-put key value ps parts.1)
    ]

-- in a range without the key
pub filter-put_outside : (t : List ℕ → Bool) (key value : List ℕ) (ps : List Pair) → t key ≡ false → filter (λ p. t p.key) (pairs_with ps key value) ≡ filter (λ p. t p.key) ps
filter-put_outside t key value [] out = ap (λ b. cond b (pair_of key value ∷ []) []) out
filter-put_outside t key value (p ∷ ps) out =
    elim (put_case key value p ps) as (λ _. filter (λ p. t p.key) (pairs_with (p ∷ ps) key value) ≡ filter (λ p. t p.key) (p ∷ ps)) [
      | before _ is ↦ ap (filter (λ p. t p.key)) is ∙ ap (λ b. cond b (pair_of key value ∷ filter (λ p. t p.key) (p ∷ ps)) (filter (λ p. t p.key) (p ∷ ps))) out
      | here same _ is ↦ ap (filter (λ p. t p.key)) is ∙ ap (λ b. cond b (pair_of key value ∷ filter (λ p. t p.key) ps) (filter (λ p. t p.key) ps)) out
          ∙ sym (ap (λ b. cond b (p ∷ filter (λ p. t p.key) ps) (filter (λ p. t p.key) ps)) (ap t same ∙ out))
      | later _ _ _ is ↦ ap (filter (λ p. t p.key)) is ∙ ap (λ (qs : List Pair). cond (t p.key) (p ∷ qs) qs) (filter-put_outside t key value ps out)
    ]

-- in a range with the key
pub filter-put_inside : (t : List ℕ → Bool) (key value : List ℕ) (ps : List Pair) → t key ≡ true → is_ascending ps ≡ true → filter (λ p. t p.key) (pairs_with ps key value) ≡ pairs_with (filter (λ p. t p.key) ps) key value
filter-put_inside t key value [] pass e = ap (λ b. cond b (pair_of key value ∷ []) []) pass
filter-put_inside t key value (p ∷ ps) pass e =
    let parts = ascending_parts p ps e in
    elim (put_case key value p ps) as (λ _. filter (λ p. t p.key) (pairs_with (p ∷ ps) key value) ≡ pairs_with (filter (λ p. t p.key) (p ∷ ps)) key value) [
      | before low is ↦ ap (filter (λ p. t p.key)) is ∙ ap (λ b. cond b (pair_of key value ∷ filter (λ p. t p.key) (p ∷ ps)) (filter (λ p. t p.key) (p ∷ ps))) pass
          ∙ sym (put_first key value (filter (λ p. t p.key) (p ∷ ps)) (above_filter key (λ p. t p.key) (p ∷ ps) (all_above key (p ∷ ps) low e)))
      | here same up is ↦ ap (filter (λ p. t p.key)) is ∙ ap (λ b. cond b (pair_of key value ∷ filter (λ p. t p.key) ps) (filter (λ p. t p.key) ps)) pass
          ∙ sym (ap (λ b. pairs_with (cond b (p ∷ filter (λ p. t p.key) ps) (filter (λ p. t p.key) ps)) key value) (ap t same ∙ pass)
          ∙ (ap (λ b. if b then pair_of key value ∷ p ∷ filter (λ p. t p.key) ps else (if bytes_eq p.key key then pair_of key value ∷ filter (λ p. t p.key) ps else p ∷ pairs_with (filter (λ p. t p.key) ps) key value)) up
          ∙ ap (λ b. if b then pair_of key value ∷ filter (λ p. t p.key) ps else p ∷ pairs_with (filter (λ p. t p.key) ps) key value) (ap (λ (k : List ℕ). bytes_eq k key) same ∙ bytes_eq-refl key)))
      | later high up off is ↦ ap (filter (λ p. t p.key)) is
          ∙ elim (t p.key) as (λ b. cond b (p ∷ filter (λ p. t p.key) (pairs_with ps key value)) (filter (λ p. t p.key) (pairs_with ps key value)) ≡ pairs_with (cond b (p ∷ filter (λ p. t p.key) ps) (filter (λ p. t p.key) ps)) key value) [
            | true ↦ ap (λ (qs : List Pair). p ∷ qs) (filter-put_inside t key value ps pass parts.1)
                ∙ sym (ap (λ b. if b then pair_of key value ∷ p ∷ filter (λ p. t p.key) ps else (if bytes_eq p.key key then pair_of key value ∷ filter (λ p. t p.key) ps else p ∷ pairs_with (filter (λ p. t p.key) ps) key value)) up
                ∙ ap (λ b. if b then pair_of key value ∷ filter (λ p. t p.key) ps else p ∷ pairs_with (filter (λ p. t p.key) ps) key value) off)
            | false ↦ filter-put_inside t key value ps pass parts.1
          ]
    ]

-- what holds of the new pair and of the old ones
pub all-put : (P : Pair → Type 0) (key value : List ℕ) (ps : List Pair) → AllByRecursion P ps → P (pair_of key value) → AllByRecursion P (pairs_with ps key value)
all-put P key value [] all new = (new, tt)
all-put P key value (p ∷ ps) all new = elim (put_case key value p ps) as (λ _. AllByRecursion P (pairs_with (p ∷ ps) key value)) [
  | before _ is ↦ subst (AllByRecursion P) (sym is) (new, all)
  | here _ _ is ↦ subst (AllByRecursion P) (sym is) (new, all.1)
  | later _ _ _ is ↦ subst (AllByRecursion P) (sym is) (all.0, all-put P key value ps all.1 new)
]

-- one more pair at most, and none more where the key is there
pub length-put : (key value : List ℕ) (ps : List Pair) → length (pairs_with ps key value) ≤ length ps + 1
length-put key value [] = omega arith
length-put key value (p ∷ ps) = elim (put_case key value p ps) as (λ _. length (pairs_with (p ∷ ps) key value) ≤ suc (length ps) + 1) [
  | before _ is ↦ let e = ap length is in omega arith
  | here _ _ is ↦ let e = ap length is in omega arith
  | later _ _ _ is ↦ let e = ap length is in let rest = length-put key value ps in omega arith
]

-- Pairs cut at a key

-- the pairs below the first key of the second part are the first part
pub filter-below : (ps : List Pair) (q : Pair) (qs : List Pair) → is_ascending (ps ++ q ∷ qs) ≡ true → (filter (λ p. key_lt p.key q.key) (ps ++ q ∷ qs) ≡ ps) × (filter (λ p. not (key_lt p.key q.key)) (ps ++ q ∷ qs) ≡ q ∷ qs)
filter-below [] q qs e =
    let all = all_above q.key qs (ascending_parts q qs e).0 (ascending_parts q qs e).1 in (
      ap (λ b. cond b (q ∷ filter (λ p. key_lt p.key q.key) qs) (filter (λ p. key_lt p.key q.key) qs)) (not_below q.key) ∙ none qs all,
      ap (λ b. cond (not b) (q ∷ filter (λ p. not (key_lt p.key q.key)) qs) (filter (λ p. not (key_lt p.key q.key)) qs)) (not_below q.key) ∙ ap (λ (l : List Pair). q ∷ l) (whole qs all),
    )
  where
    none : (rs : List Pair) → AllAbove q.key rs → filter (λ p. key_lt p.key q.key) rs ≡ []
    none [] all = refl
    none (r ∷ rs) all = ap (λ b. cond b (r ∷ filter (λ p. key_lt p.key q.key) rs) (filter (λ p. key_lt p.key q.key) rs)) (turned q.key r.key all.0) ∙ none rs all.1

    whole : (rs : List Pair) → AllAbove q.key rs → filter (λ p. not (key_lt p.key q.key)) rs ≡ rs
    whole [] all = refl
    whole (r ∷ rs) all = ap (λ b. cond (not b) (r ∷ filter (λ p. not (key_lt p.key q.key)) rs) (filter (λ p. not (key_lt p.key q.key)) rs)) (turned q.key r.key all.0) ∙ ap (λ (l : List Pair). r ∷ l) (whole rs all.1)
filter-below (p ∷ ps) q qs e =
    let parts = ascending_parts p (ps ++ q ∷ qs) e in
    let rest = filter-below ps q qs parts.1 in
    let low = at_end ps (all_above p.key (ps ++ q ∷ qs) parts.0 parts.1) in (
      ap (λ b. cond b (p ∷ filter (λ x. key_lt x.key q.key) (ps ++ q ∷ qs)) (filter (λ x. key_lt x.key q.key) (ps ++ q ∷ qs))) low ∙ ap (λ (l : List Pair). p ∷ l) rest.0,
      ap (λ b. cond (not b) (p ∷ filter (λ x. not (key_lt x.key q.key)) (ps ++ q ∷ qs)) (filter (λ x. not (key_lt x.key q.key)) (ps ++ q ∷ qs))) low ∙ rest.1,
    )
  where
    at_end : (rs : List Pair) → AllAbove p.key (rs ++ q ∷ qs) → key_lt p.key q.key ≡ true
    at_end [] all = all.0
    at_end (r ∷ rs) all = at_end rs all.1

-- two parts of ascending pairs
pub record TwoParts (xs : List Pair) (q : Pair) (qs : List Pair) : Type 0 where
  pub lows : is_ascending xs ≡ true
  pub highs : is_ascending (q ∷ qs) ≡ true
  pub below : AllByRecursion (λ p. key_lt p.key q.key ≡ true) xs
  pub above : AllAbove q.key qs

pub two_parts : (xs : List Pair) (q : Pair) (qs : List Pair) → is_ascending (xs ++ q ∷ qs) ≡ true → TwoParts xs q qs
two_parts [] q qs e = record { lows = refl; highs = e; below = tt; above = all_above q.key qs (ascending_parts q qs e).0 (ascending_parts q qs e).1 }
two_parts (p ∷ xs) q qs e =
    let parts = ascending_parts p (xs ++ q ∷ qs) e in
    let rest = two_parts xs q qs parts.1 in
    record { lows = ascending_cons p xs (front xs parts.0) rest.lows; highs = rest.highs; below = (at_end xs (all_above p.key (xs ++ q ∷ qs) parts.0 parts.1), rest.below); above = rest.above }
  where
    front : (rs : List Pair) → first_above p.key (rs ++ q ∷ qs) ≡ true → first_above p.key rs ≡ true
    front [] f = refl
    front (r ∷ rs) f = f

    at_end : (rs : List Pair) → AllAbove p.key (rs ++ q ∷ qs) → key_lt p.key q.key ≡ true
    at_end [] all = all.0
    at_end (r ∷ rs) all = at_end rs all.1
