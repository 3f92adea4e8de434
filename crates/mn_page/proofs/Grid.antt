-- Lists of lists, by two places: the pages of a forest by node and slot.
use Rattle.std.proofs.Common.{◌≡◌, ℕ, zero, suc, ◌+◌, ◌<◌, ◌≤◌, ◌⊎◌, inl, inr, Bool, true, false, cond, ◌&&◌, List, [], ◌∷◌, ◌++◌, length, Option, Some, refl, subst, sym, ap, ◌∙◌, arith, slice_get, slice_set, slice_index_or}
use Rattle.std.specs.Prelude.{filter}
use Rattle.std.specs.List.{flat_map, AllByRecursion}
use Rattle.std.specs.Option.{option_and_then}
use Rattle.std.proofs.lemmas.List.Elements.{filter-append}
use Rattle.std.proofs.lemmas.List.{length-append, length-set}
use Rattle.mn_base.proofs.Lists.{all_append, last_at}

abbrev pub get_in : {X : Type 0} → List (List X) → ℕ → ℕ → Option X
get_in xss n s = option_and_then (λ xs. slice_get xs s) (slice_get xss n)

abbrev pub set_in : {X : Type 0} → List (List X) → ℕ → ℕ → X → List (List X)
set_in xss n s x = slice_set xss n (slice_set (slice_index_or xss n []) s x)

abbrev pub flat : {X : Type 0} → List (List X) → List X
flat xss = flat_map (λ xs. xs) xss

-- Filters

pub filter_both : {X : Type 0} (t u : X → Bool) (xs : List X) → filter t (filter u xs) ≡ filter (λ x. u x && t x) xs
filter_both t u [] = refl
filter_both {X} t u (x ∷ xs) =
    elim (u x) as (λ b. filter t (cond b (x ∷ filter u xs) (filter u xs)) ≡ cond (b && t x) (x ∷ filter (λ x. u x && t x) xs) (filter (λ x. u x && t x) xs)) [
      | true ↦ ap (λ (ys : List X). cond (t x) (x ∷ ys) ys) (filter_both t u xs)
      | false ↦ filter_both t u xs
    ]

pub all_filter : {X : Type 0} (P : X → Type 0) (t : X → Bool) (xs : List X) → AllByRecursion (λ x. t x ≡ true → P x) xs → AllByRecursion P (filter t xs)
all_filter P t [] all = tt
all_filter {X} P t (x ∷ xs) all =
    elim (t x) as (λ b. (b ≡ true → P x) → AllByRecursion P (cond b (x ∷ filter t xs) (filter t xs))) [
      | true ↦ λ h. (h refl, all_filter P t xs all.1)
      | false ↦ λ h. all_filter P t xs all.1
    ] all.0

pub all_of_filter : {X : Type 0} (P : X → Type 0) (t : X → Bool) (xs : List X) → AllByRecursion P (filter t xs) → AllByRecursion (λ x. t x ≡ true → P x) xs
all_of_filter P t [] all = tt
all_of_filter {X} P t (x ∷ xs) all =
    elim (t x) as (λ b. AllByRecursion P (cond b (x ∷ filter t xs) (filter t xs)) → (b ≡ true → P x) × AllByRecursion (λ x. t x ≡ true → P x) xs) [
      | true ↦ λ h. (λ e. h.0, all_of_filter P t xs h.1)
      | false ↦ λ h. (λ e. absurd cc, all_of_filter P t xs h)
    ] all

-- Reading and writing at two places

pub get_in-set_same : {X : Type 0} (xss : List (List X)) (n s : ℕ) (p q : X) → get_in xss n s ≡ Some p → get_in (set_in xss n s q) n s ≡ Some q
get_in-set_same [] n s p q e = absurd cc
get_in-set_same (xs ∷ xss) zero s p q e = one xs s e
  where
    one : (xs : List _) (s : ℕ) → slice_get xs s ≡ Some p → slice_get (slice_set xs s q) s ≡ Some q
    one [] s e = absurd cc
    one (x ∷ xs) zero e = refl
    one (x ∷ xs) (suc s) e = one xs s e
get_in-set_same (xs ∷ xss) (suc n) s p q e = get_in-set_same xss n s p q e

pub get_in-set_other : {X : Type 0} (xss : List (List X)) (n s : ℕ) (q : X) (m t : ℕ) → (n ≡ m → s ≡ t → ⊥) → get_in (set_in xss n s q) m t ≡ get_in xss m t
get_in-set_other [] n s q m t other = refl
get_in-set_other (xs ∷ xss) zero s q zero t other = one xs s t (other refl)
  where
    one : (xs : List _) (s t : ℕ) → (s ≡ t → ⊥) → slice_get (slice_set xs s q) t ≡ slice_get xs t
    one [] s t apart = refl
    one (x ∷ xs) zero zero apart = absurd (apart refl)
    one (x ∷ xs) zero (suc t) apart = refl
    one (x ∷ xs) (suc s) zero apart = refl
    one (x ∷ xs) (suc s) (suc t) apart = one xs s t (λ e. apart (ap suc e))
get_in-set_other (xs ∷ xss) zero s q (suc m) t other = refl
get_in-set_other (xs ∷ xss) (suc n) s q zero t other = refl
get_in-set_other (xs ∷ xss) (suc n) s q (suc m) t other = get_in-set_other xss n s q m t (λ e f. other (ap suc e) f)

-- an element that a test does not tell from the old one leaves the number of those that pass
pub count-set_in : {X : Type 0} (u : X → Bool) (xss : List (List X)) (n s : ℕ) (p q : X) → get_in xss n s ≡ Some p → u q ≡ u p → length (filter u (flat (set_in xss n s q))) ≡ length (filter u (flat xss))
count-set_in u [] n s p q e same = absurd cc
count-set_in u (xs ∷ xss) zero s p q e same =
    ap length (filter-append u (slice_set xs s q) (flat xss)) ∙ length-append _ _ ∙ ap (λ k. k + length (filter u (flat xss))) (one xs s e)
    ∙ sym (ap length (filter-append u xs (flat xss)) ∙ length-append _ _)
  where
    one : (xs : List _) (s : ℕ) → slice_get xs s ≡ Some p → length (filter u (slice_set xs s q)) ≡ length (filter u xs)
    one [] s e = absurd cc
    one (x ∷ xs) zero e =
        let here : x ≡ p = cc in
        let alike : u q ≡ u x = same ∙ ap u (sym here) in
        ap (λ b. length (cond b (q ∷ filter u xs) (filter u xs))) alike ∙ shape (u x)
      where
        shape : (b : Bool) → length (cond b (q ∷ filter u xs) (filter u xs)) ≡ length (cond b (x ∷ filter u xs) (filter u xs))
        shape true = refl
        shape false = refl
    one (x ∷ xs) (suc s) e =
        elim (u x) as (λ b. length (cond b (x ∷ filter u (slice_set xs s q)) (filter u (slice_set xs s q))) ≡ length (cond b (x ∷ filter u xs) (filter u xs))) [
          | true ↦ ap suc (one xs s e)
          | false ↦ one xs s e
        ]
count-set_in u (xs ∷ xss) (suc n) s p q e same =
    ap length (filter-append u xs (flat (set_in xss n s q))) ∙ length-append _ _ ∙ ap (λ k. length (filter u xs) + k) (count-set_in u xss n s p q e same)
    ∙ sym (ap length (filter-append u xs (flat xss)) ∙ length-append _ _)

pub lengths-set_in : {X : Type 0} (P : ℕ → Type 0) (xss : List (List X)) (n s : ℕ) (q : X) → AllByRecursion (λ xs. P (length xs)) xss → AllByRecursion (λ xs. P (length xs)) (set_in xss n s q)
lengths-set_in P [] n s q all = tt
lengths-set_in P (xs ∷ xss) zero s q all = (subst P (sym (length-set xs s q)) all.0, all.1)
lengths-set_in P (xs ∷ xss) (suc n) s q all = (all.0, lengths-set_in P xss n s q all.1)

-- All elements, by their places

pub all_split : {X : Type 0} (P : X → Type 0) (xs ys : List X) → AllByRecursion P (xs ++ ys) → AllByRecursion P xs × AllByRecursion P ys
all_split P [] ys all = (tt, all)
all_split P (x ∷ xs) ys all = ((all.0, (all_split P xs ys all.1).0), (all_split P xs ys all.1).1)

pub all_by_place : {X : Type 0} (P : X → Type 0) (xs : List X) → ((s : ℕ) (x : X) → slice_get xs s ≡ Some x → P x) → AllByRecursion P xs
all_by_place P [] at = tt
all_by_place P (x ∷ xs) at = (at 0 x refl, all_by_place P xs (λ s y e. at (suc s) y e))

pub all_at_place : {X : Type 0} (P : X → Type 0) (xs : List X) (s : ℕ) (x : X) → AllByRecursion P xs → slice_get xs s ≡ Some x → P x
all_at_place P [] s x all e = absurd cc
all_at_place {X} P (y ∷ xs) zero x all e = let same : y ≡ x = cc in subst P same all.0
all_at_place P (y ∷ xs) (suc s) x all e = all_at_place P xs s x all.1 e

pub all_by_places : {X : Type 0} (P : X → Type 0) (xss : List (List X)) → ((n s : ℕ) (x : X) → get_in xss n s ≡ Some x → P x) → AllByRecursion P (flat xss)
all_by_places P [] at = tt
all_by_places P (xs ∷ xss) at = all_append P xs (flat xss) (all_by_place P xs (λ s x e. at 0 s x e)) (all_by_places P xss (λ n s x e. at (suc n) s x e))

pub all_at_places : {X : Type 0} (P : X → Type 0) (xss : List (List X)) (n s : ℕ) (x : X) → AllByRecursion P (flat xss) → get_in xss n s ≡ Some x → P x
all_at_places P [] n s x all e = absurd cc
all_at_places P (xs ∷ xss) zero s x all e = all_at_place P xs s x (all_split P xs (flat xss) all).0 e
all_at_places P (xs ∷ xss) (suc n) s x all e = all_at_places P xss n s x (all_split P xs (flat xss) all).1 e

-- Just one element passes

-- an element that passes is counted
counted_one : {X : Type 0} (u : X → Bool) (xs : List X) (s : ℕ) (x : X) → slice_get xs s ≡ Some x → u x ≡ true → 1 ≤ length (filter u xs)
counted_one u [] s x e pass = absurd cc
counted_one {X} u (y ∷ xs) zero x e pass =
    let same : y ≡ x = cc in
    subst (λ b. 1 ≤ length (cond b (y ∷ filter u xs) (filter u xs))) (sym (ap u same ∙ pass)) (omega arith)
counted_one u (y ∷ xs) (suc s) x e pass =
    elim (u y) as (λ b. 1 ≤ length (cond b (y ∷ filter u xs) (filter u xs))) [
      | true ↦ omega arith
      | false ↦ counted_one u xs s x e pass
    ]

counted : {X : Type 0} (u : X → Bool) (xss : List (List X)) (n s : ℕ) (x : X) → get_in xss n s ≡ Some x → u x ≡ true → 1 ≤ length (filter u (flat xss))
counted u [] n s x e pass = absurd cc
counted u (xs ∷ xss) zero s x e pass =
    let sum : length (filter u (xs ++ flat xss)) ≡ length (filter u xs) + length (filter u (flat xss)) = ap length (filter-append u xs (flat xss)) ∙ length-append _ _ in
    let one = counted_one u xs s x e pass in omega arith
counted u (xs ∷ xss) (suc n) s x e pass =
    let sum : length (filter u (xs ++ flat xss)) ≡ length (filter u xs) + length (filter u (flat xss)) = ap length (filter-append u xs (flat xss)) ∙ length-append _ _ in
    let one = counted u xss n s x e pass in omega arith

same_place : {X : Type 0} (u : X → Bool) (xs : List X) (s t : ℕ) (x y : X) → length (filter u xs) ≤ 1 → slice_get xs s ≡ Some x → slice_get xs t ≡ Some y → u x ≡ true → u y ≡ true → s ≡ t
same_place u [] s t x y few e f p q = absurd cc
same_place u (z ∷ xs) zero zero x y few e f p q = refl
same_place {X} u (z ∷ xs) zero (suc t) x y few e f p q =
    let same : z ≡ x = cc in
    let is : length (cond true (z ∷ filter u xs) (filter u xs)) ≤ 1 = subst (λ b. length (cond b (z ∷ filter u xs) (filter u xs)) ≤ 1) (ap u same ∙ p) few in
    let one = counted_one u xs t y f q in absurd (omega arith)
same_place {X} u (z ∷ xs) (suc s) zero x y few e f p q =
    let same : z ≡ y = cc in
    let is : length (cond true (z ∷ filter u xs) (filter u xs)) ≤ 1 = subst (λ b. length (cond b (z ∷ filter u xs) (filter u xs)) ≤ 1) (ap u same ∙ q) few in
    let one = counted_one u xs s x e p in absurd (omega arith)
same_place u (z ∷ xs) (suc s) (suc t) x y few e f p q = ap suc (same_place u xs s t x y (fewer (u z) few) e f p q)
  where
    fewer : (b : Bool) → length (cond b (z ∷ filter u xs) (filter u xs)) ≤ 1 → length (filter u xs) ≤ 1
    fewer true h = omega arith
    fewer false h = h

-- two places whose elements pass are one
pub same_places : {X : Type 0} (u : X → Bool) (xss : List (List X)) (n s m t : ℕ) (x y : X) → length (filter u (flat xss)) ≤ 1 → get_in xss n s ≡ Some x → get_in xss m t ≡ Some y → u x ≡ true → u y ≡ true → (n ≡ m) × (s ≡ t)
same_places u [] n s m t x y few e f p q = absurd cc
same_places u (xs ∷ xss) zero s zero t x y few e f p q =
    let sum : length (filter u (xs ++ flat xss)) ≡ length (filter u xs) + length (filter u (flat xss)) = ap length (filter-append u xs (flat xss)) ∙ length-append _ _ in
    (refl, same_place u xs s t x y (omega arith) e f p q)
same_places u (xs ∷ xss) zero s (suc m) t x y few e f p q =
    let sum : length (filter u (xs ++ flat xss)) ≡ length (filter u xs) + length (filter u (flat xss)) = ap length (filter-append u xs (flat xss)) ∙ length-append _ _ in
    let one = counted_one u xs s x e p in
    let two = counted u xss m t y f q in absurd (omega arith)
same_places u (xs ∷ xss) (suc n) s zero t x y few e f p q =
    let sum : length (filter u (xs ++ flat xss)) ≡ length (filter u xs) + length (filter u (flat xss)) = ap length (filter-append u xs (flat xss)) ∙ length-append _ _ in
    let one = counted_one u xs t y f q in
    let two = counted u xss n s x e p in absurd (omega arith)
same_places u (xs ∷ xss) (suc n) s (suc m) t x y few e f p q =
    let sum : length (filter u (xs ++ flat xss)) ≡ length (filter u xs) + length (filter u (flat xss)) = ap length (filter-append u xs (flat xss)) ∙ length-append _ _ in
    let rest = same_places u xss n s m t x y (omega arith) e f p q in (ap suc rest.0, rest.1)

-- some place has an element that passes
pub some_place : {X : Type 0} (u : X → Bool) (xs : List X) → 1 ≤ length (filter u xs) → (s : ℕ) × (x : X) × (slice_get xs s ≡ Some x) × (u x ≡ true)
some_place u [] some = absurd (omega arith)
some_place {X} u (x ∷ xs) some =
    elim (u x) as (λ b. u x ≡ b → 1 ≤ length (cond b (x ∷ filter u xs) (filter u xs)) → (s : ℕ) × (y : X) × (slice_get (x ∷ xs) s ≡ Some y) × (u y ≡ true)) [
      | true ↦ λ e h. (0, x, refl, e)
      | false ↦ λ e h. let r = some_place u xs h in (suc r.0, r.1, r.2, r.3)
    ] refl some

pub some_places : {X : Type 0} (u : X → Bool) (xss : List (List X)) → 1 ≤ length (filter u (flat xss)) → (n s : ℕ) × (x : X) × (get_in xss n s ≡ Some x) × (u x ≡ true)
some_places u [] some = absurd (omega arith)
some_places {X} u (xs ∷ xss) some =
    let sum : length (filter u (xs ++ flat xss)) ≡ length (filter u xs) + length (filter u (flat xss)) = ap length (filter-append u xs (flat xss)) ∙ length-append _ _ in
    cases (length (filter u xs)) refl sum (λ h. some_places u xss h)
  where
    cases : (k : ℕ) → length (filter u xs) ≡ k → length (filter u (xs ++ flat xss)) ≡ length (filter u xs) + length (filter u (flat xss))
        → (1 ≤ length (filter u (flat xss)) → (n s : ℕ) × (x : X) × (get_in xss n s ≡ Some x) × (u x ≡ true)) → (n s : ℕ) × (x : X) × (get_in (xs ∷ xss) n s ≡ Some x) × (u x ≡ true)
    cases zero e sum rest = let r = rest (omega arith) in (suc r.0, r.1, r.2, r.3, r.4)
    cases (suc k) e sum rest = let r = some_place u xs (omega arith) in (0, r.0, r.1, r.2, r.3)

-- Counting after a change

one-set : {X : Type 0} (u : X → Bool) (xs : List X) (s : ℕ) (p q : X) → slice_get xs s ≡ Some p → length (filter u (slice_set xs s q)) + cond (u p) 1 0 ≡ length (filter u xs) + cond (u q) 1 0
one-set u [] s p q e = absurd cc
one-set {X} u (x ∷ xs) zero p q e =
    let here : x ≡ p = cc in
    subst (λ (y : X). length (cond (u q) (q ∷ filter u xs) (filter u xs)) + cond (u y) 1 0 ≡ length (cond (u x) (x ∷ filter u xs) (filter u xs)) + cond (u q) 1 0) here (both (u q) (u x))
  where
    both : (a b : Bool) → length (cond a (q ∷ filter u xs) (filter u xs)) + cond b 1 0 ≡ length (cond b (x ∷ filter u xs) (filter u xs)) + cond a 1 0
    both true true = refl
    both true false = omega arith
    both false true = omega arith
    both false false = refl
one-set u (x ∷ xs) (suc s) p q e = step (u x) (one-set u xs s p q e)
  where
    step : (a : Bool) → length (filter u (slice_set xs s q)) + cond (u p) 1 0 ≡ length (filter u xs) + cond (u q) 1 0
        → length (cond a (x ∷ filter u (slice_set xs s q)) (filter u (slice_set xs s q))) + cond (u p) 1 0 ≡ length (cond a (x ∷ filter u xs) (filter u xs)) + cond (u q) 1 0
    step true h = omega arith
    step false h = h

flat_length : {X : Type 0} (u : X → Bool) (xs : List X) (xss : List (List X)) → length (filter u (flat (xs ∷ xss))) ≡ length (filter u xs) + length (filter u (flat xss))
flat_length u xs xss = ap length (filter-append u xs (flat xss)) ∙ length-append (filter u xs) (filter u (flat xss))

pub count-set : {X : Type 0} (u : X → Bool) (xss : List (List X)) (n s : ℕ) (p q : X) → get_in xss n s ≡ Some p → length (filter u (flat (set_in xss n s q))) + cond (u p) 1 0 ≡ length (filter u (flat xss)) + cond (u q) 1 0
count-set u [] n s p q e = absurd cc
count-set u (xs ∷ xss) zero s p q e =
    let one = one-set u xs s p q e in
    let now = flat_length u (slice_set xs s q) xss in
    let was = flat_length u xs xss in omega arith
count-set u (xs ∷ xss) (suc n) s p q e =
    let rest = count-set u xss n s p q e in
    let now = flat_length u xs (set_in xss n s q) in
    let was = flat_length u xs xss in omega arith

-- One more element behind a list

abbrev pub add_in : {X : Type 0} → List (List X) → ℕ → X → List (List X)
add_in xss n x = slice_set xss n (slice_index_or xss n [] ++ x ∷ [])

pub count-add : {X : Type 0} (u : X → Bool) (xss : List (List X)) (n : ℕ) (x : X) → n < length xss → length (filter u (flat (add_in xss n x))) ≡ length (filter u (flat xss)) + cond (u x) 1 0
count-add u [] n x in' = absurd (omega arith)
count-add u (xs ∷ xss) zero x in' =
    let now = flat_length u (xs ++ x ∷ []) xss in
    let was = flat_length u xs xss in
    let end : length (filter u (xs ++ x ∷ [])) ≡ length (filter u xs) + length (filter u (x ∷ [])) = ap length (filter-append u xs (x ∷ [])) ∙ length-append (filter u xs) (filter u (x ∷ [])) in
    let one = single (u x) in omega arith
  where
    single : (b : Bool) → length (cond b (x ∷ []) []) ≡ cond b 1 0
    single true = refl
    single false = refl
count-add u (xs ∷ xss) (suc n) x in' =
    let rest = count-add u xss n x (omega arith) in
    let now = flat_length u xs (add_in xss n x) in
    let was = flat_length u xs xss in omega arith

get-push_old : {X : Type 0} (xs : List X) (x : X) (s : ℕ) (p : X) → slice_get xs s ≡ Some p → slice_get (xs ++ x ∷ []) s ≡ Some p
get-push_old [] x s p e = absurd cc
get-push_old (y ∷ xs) x zero p e = e
get-push_old (y ∷ xs) x (suc s) p e = get-push_old xs x s p e

get-push_cases : {X : Type 0} (xs : List X) (x : X) (s : ℕ) (y : X) → slice_get (xs ++ x ∷ []) s ≡ Some y → (slice_get xs s ≡ Some y) ⊎ ((s ≡ length xs) × (y ≡ x))
get-push_cases [] x zero y e = inr (refl, cc)
get-push_cases [] x (suc s) y e = absurd cc
get-push_cases (z ∷ xs) x zero y e = inl e
get-push_cases (z ∷ xs) x (suc s) y e = elim (get-push_cases xs x s y e) as (λ _. (slice_get xs s ≡ Some y) ⊎ ((suc s ≡ suc (length xs)) × (y ≡ x))) [
  | inl f ↦ inl f
  | inr f ↦ inr (ap suc f.0, f.1)
]

pub get_in-add_old : {X : Type 0} (xss : List (List X)) (m : ℕ) (x : X) (n s : ℕ) (p : X) → get_in xss n s ≡ Some p → get_in (add_in xss m x) n s ≡ Some p
get_in-add_old [] m x n s p e = absurd cc
get_in-add_old (xs ∷ xss) zero x zero s p e = get-push_old xs x s p e
get_in-add_old (xs ∷ xss) zero x (suc n) s p e = e
get_in-add_old (xs ∷ xss) (suc m) x zero s p e = e
get_in-add_old (xs ∷ xss) (suc m) x (suc n) s p e = get_in-add_old xss m x n s p e

pub get_in-add_new : {X : Type 0} (xss : List (List X)) (n : ℕ) (x : X) → n < length xss → get_in (add_in xss n x) n (length (slice_index_or xss n [])) ≡ Some x
get_in-add_new [] n x in' = absurd (omega arith)
get_in-add_new (xs ∷ xss) zero x in' = last_at xs x
get_in-add_new (xs ∷ xss) (suc n) x in' = get_in-add_new xss n x (omega arith)

pub get_in-add_cases : {X : Type 0} (xss : List (List X)) (m : ℕ) (x : X) (n s : ℕ) (y : X) → get_in (add_in xss m x) n s ≡ Some y → (get_in xss n s ≡ Some y) ⊎ ((n ≡ m) × (s ≡ length (slice_index_or xss m [])) × (y ≡ x))
get_in-add_cases [] m x n s y e = absurd cc
get_in-add_cases (xs ∷ xss) zero x zero s y e = elim (get-push_cases xs x s y e) as (λ _. (slice_get xs s ≡ Some y) ⊎ ((zero ≡ zero) × (s ≡ length xs) × (y ≡ x))) [
  | inl f ↦ inl f
  | inr f ↦ inr (refl, f.0, f.1)
]
get_in-add_cases (xs ∷ xss) zero x (suc n) s y e = inl e
get_in-add_cases (xs ∷ xss) (suc m) x zero s y e = inl e
get_in-add_cases (xs ∷ xss) (suc m) x (suc n) s y e = elim (get_in-add_cases xss m x n s y e) as (λ _. (get_in xss n s ≡ Some y) ⊎ ((suc n ≡ suc m) × (s ≡ length (slice_index_or xss m [])) × (y ≡ x))) [
  | inl f ↦ inl f
  | inr f ↦ inr (ap suc f.0, f.1, f.2)
]

pub lengths-add_in : {X : Type 0} (P : ℕ → Type 0) (xss : List (List X)) (n : ℕ) (x : X) → AllByRecursion (λ xs. P (length xs)) xss → P (length (slice_index_or xss n []) + 1) → AllByRecursion (λ xs. P (length xs)) (add_in xss n x)
lengths-add_in P [] n x all new = tt
lengths-add_in P (xs ∷ xss) zero x all new = (subst P (sym (length-append xs (x ∷ []))) new, all.1)
lengths-add_in P (xs ∷ xss) (suc n) x all new = (all.0, lengths-add_in P xss n x all.1 new)

-- Counting from places

-- where no element passes none is counted
pub none_pass : {X : Type 0} (u : X → Bool) (xs : List X) → ((s : ℕ) (x : X) → slice_get xs s ≡ Some x → u x ≡ true → ⊥) → filter u xs ≡ []
none_pass u [] none = refl
none_pass {X} u (x ∷ xs) none =
    elim (u x) as (λ b. (b ≡ true → ⊥) → cond b (x ∷ filter u xs) (filter u xs) ≡ []) [
      | true ↦ λ h. absurd (h refl)
      | false ↦ λ h. none_pass u xs (λ s y e f. none (suc s) y e f)
    ] (none 0 x refl)

pub none_passes : {X : Type 0} (u : X → Bool) (xss : List (List X)) → ((n s : ℕ) (x : X) → get_in xss n s ≡ Some x → u x ≡ true → ⊥) → filter u (flat xss) ≡ []
none_passes u [] none = refl
none_passes u (xs ∷ xss) none =
    filter-append u xs (flat xss) ∙ ap (λ ys. ys ++ filter u (flat xss)) (none_pass u xs (λ s x e f. none 0 s x e f)) ∙ none_passes u xss (λ n s x e f. none (suc n) s x e f)

-- where just one element passes one is counted
one_passes_in : {X : Type 0} (u : X → Bool) (xs : List X) (s : ℕ) (x : X) → slice_get xs s ≡ Some x → u x ≡ true → ((t : ℕ) (y : X) → slice_get xs t ≡ Some y → u y ≡ true → s ≡ t) → length (filter u xs) ≡ 1
one_passes_in u [] s x e pass only = absurd cc
one_passes_in {X} u (z ∷ xs) zero x e pass only =
    let same : z ≡ x = cc in
    let rest : filter u xs ≡ [] = none_pass u xs (λ t y f g. let bad : zero ≡ suc t = only (suc t) y f g in absurd (omega arith)) in
    ap (λ b. length (cond b (z ∷ filter u xs) (filter u xs))) (ap u same ∙ pass) ∙ ap (λ (ys : List X). length (z ∷ ys)) rest
one_passes_in {X} u (z ∷ xs) (suc s) x e pass only =
    elim (u z) as (λ b. (b ≡ true → suc s ≡ zero) → length (cond b (z ∷ filter u xs) (filter u xs)) ≡ 1) [
      | true ↦ λ h. let bad = h refl in absurd (omega arith)
      | false ↦ λ h. one_passes_in u xs s x e pass (λ t y f g. let next : suc s ≡ suc t = only (suc t) y f g in omega arith)
    ] (only 0 z refl)

pub one_passes : {X : Type 0} (u : X → Bool) (xss : List (List X)) (n s : ℕ) (x : X) → get_in xss n s ≡ Some x → u x ≡ true
    → ((m t : ℕ) (y : X) → get_in xss m t ≡ Some y → u y ≡ true → (n ≡ m) × (s ≡ t)) → length (filter u (flat xss)) ≡ 1
one_passes u [] n s x e pass only = absurd cc
one_passes {X} u (xs ∷ xss) zero s x e pass only =
    let here = one_passes_in u xs s x e pass (λ t y f g. (only 0 t y f g).1) in
    let rest : filter u (flat xss) ≡ [] = none_passes u xss (λ n t y f g. let bad : zero ≡ suc n = (only (suc n) t y f g).0 in absurd (omega arith)) in
    flat_length u xs xss ∙ ap (λ (ys : List X). length (filter u xs) + length ys) rest ∙ ap (λ k. k + 0) here
one_passes {X} u (xs ∷ xss) (suc n) s x e pass only =
    let first : filter u xs ≡ [] = none_pass u xs (λ t y f g. let bad : suc n ≡ zero = (only 0 t y f g).0 in absurd (omega arith)) in
    let rest = one_passes u xss n s x e pass (λ m t y f g. let both = only (suc m) t y f g in let nodes : suc n ≡ suc m = both.0 in (omega arith, both.1)) in
    let sum = flat_length u xs xss in
    let zero_here : length (filter u xs) ≡ 0 = ap (λ (ys : List X). length ys) first in omega arith
