-- Plain facts about lists: what holds of all, of some, and what stands at a place.
use Rattle.std.proofs.Common.{◌≡◌, ℕ, zero, suc, ◌+◌, ◌<◌, Bool, true, false, ◌&&◌, ◌||◌, List, [], ◌∷◌, ◌++◌, length, map, reverse, Some, refl, ap, ◌∙◌, arith, if◌then◌else◌, slice_get, slice_set}
use Rattle.std.specs.Prelude.{filter}
use Rattle.std.specs.List.{AllByRecursion, list_any, range_with_len}
use Rattle.std.proofs.lemmas.List.{reverse-append}
use Rattle.std.proofs.lemmas.List.Folds.{list_any-append}

pub weaker : {X : Type 0} (P Q : X → Type 0) → ((x : X) → P x → Q x) → (xs : List X) → AllByRecursion P xs → AllByRecursion Q xs
weaker P Q more [] all = tt
weaker P Q more (x ∷ xs) all = (more x all.0, weaker P Q more xs all.1)

pub all_append : {X : Type 0} (P : X → Type 0) (xs ys : List X) → AllByRecursion P xs → AllByRecursion P ys → AllByRecursion P (xs ++ ys)
all_append P [] ys one other = other
all_append P (x ∷ xs) ys one other = (one.0, all_append P xs ys one.1 other)

pub all_both : {X : Type 0} (P Q R : X → Type 0) → ((x : X) → P x → Q x → R x) → (xs : List X) → AllByRecursion P xs → AllByRecursion Q xs → AllByRecursion R xs
all_both P Q R each [] one other = tt
all_both P Q R each (x ∷ xs) one other = (each x one.0 other.0, all_both P Q R each xs one.1 other.1)

pub any_agree : {X : Type 0} (t u : X → Bool) (xs : List X) → AllByRecursion (λ x. t x ≡ u x) xs → list_any t xs ≡ list_any u xs
any_agree t u [] all = refl
any_agree t u (x ∷ xs) all = ap (λ b. b || list_any t xs) all.0 ∙ ap (λ b. u x || b) (any_agree t u xs all.1)

pub any_same : {X : Type 0} (t u : X → Bool) → ((x : X) → t x ≡ u x) → (xs : List X) → list_any t xs ≡ list_any u xs
any_same t u same [] = refl
any_same t u same (x ∷ xs) = ap (λ b. b || list_any t xs) (same x) ∙ ap (λ b. u x || b) (any_same t u same xs)

pub any_filter : {X : Type 0} (t s : X → Bool) (xs : List X) → list_any t (filter s xs) ≡ list_any (λ x. s x && t x) xs
any_filter t s [] = refl
any_filter {X} t s (x ∷ xs) = cases (s x) (any_filter t s xs)
  where
    cases : (b : Bool) → list_any t (filter s xs) ≡ list_any (λ y. s y && t y) xs → list_any t (if b then x ∷ filter s xs else filter s xs) ≡ ((b && t x) || list_any (λ y. s y && t y) xs)
    cases true e = ap (λ c. t x || c) e
    cases false e = e

pub any_hit : {X : Type 0} (t : X → Bool) (xs : List X) (i : ℕ) (x : X) → slice_get xs i ≡ Some x → t x ≡ true → list_any t xs ≡ true
any_hit t [] i x at is = absurd cc
any_hit t (y ∷ xs) zero x at is = let same : y ≡ x = cc in ap (λ b. b || list_any t xs) (ap t same ∙ is)
any_hit t (y ∷ xs) (suc i) x at is = right (t y) (any_hit t xs i x at is)
  where
    right : (b : Bool) {c : Bool} → c ≡ true → (b || c) ≡ true
    right true e = refl
    right false e = e

pub any_map : {X Y : Type 0} (t : Y → Bool) (f : X → Y) (xs : List X) → list_any t (map f xs) ≡ list_any (λ x. t (f x)) xs
any_map t f [] = refl
any_map t f (x ∷ xs) = ap (λ b. t (f x) || b) (any_map t f xs)

pub any_turned : {X : Type 0} (t : X → Bool) (xs : List X) → list_any t (reverse xs) ≡ list_any t xs
any_turned t [] = refl
any_turned t (x ∷ xs) = ap (list_any t) (reverse-append (x ∷ []) xs) ∙ (list_any-append t (reverse xs) (x ∷ []) ∙ (ap (λ b. b || (t x || false)) (any_turned t xs) ∙ turn (list_any t xs) (t x)))
  where
    turn : (a b : Bool) → (a || (b || false)) ≡ (b || a)
    turn true true = refl
    turn true false = refl
    turn false true = refl
    turn false false = refl

pub range_at : (a n i : ℕ) → i < n → slice_get (range_with_len a n) i ≡ Some (a + i)
range_at a zero i in' = absurd (omega arith)
range_at a (suc n) zero in' = let e : a ≡ a + 0 = omega arith in ap Some e
range_at a (suc n) (suc i) in' = let e : a + 1 + i ≡ a + suc i = omega arith in range_at (a + 1) n i (omega arith) ∙ ap Some e

pub set_at : {X : Type 0} (xs : List X) (i : ℕ) (x y : X) → slice_get xs i ≡ Some x → slice_get (slice_set xs i y) i ≡ Some y
set_at [] i x y at = absurd cc
set_at (z ∷ xs) zero x y at = refl
set_at (z ∷ xs) (suc i) x y at = set_at xs i x y at

pub set_beside : {X : Type 0} (xs : List X) (i : ℕ) (y : X) (j : ℕ) → (j ≡ i → ⊥) → slice_get (slice_set xs i y) j ≡ slice_get xs j
set_beside [] i y j off = refl
set_beside (z ∷ xs) zero y zero off = absurd (off refl)
set_beside (z ∷ xs) zero y (suc j) off = refl
set_beside (z ∷ xs) (suc i) y zero off = refl
set_beside (z ∷ xs) (suc i) y (suc j) off = set_beside xs i y j (λ e. off (ap suc e))

pub set_same : {X : Type 0} (xs : List X) (i : ℕ) (x : X) → slice_get xs i ≡ Some x → slice_set xs i x ≡ xs
set_same [] i x at = absurd cc
set_same {X} (z ∷ xs) zero x at = let same : x ≡ z = cc in ap (λ (y : X). y ∷ xs) same
set_same {X} (z ∷ xs) (suc i) x at = ap (λ (ys : List X). z ∷ ys) (set_same xs i x at)

pub set_mapped : {X Y : Type 0} (f : X → Y) (xs : List X) (i : ℕ) (x y : X) → slice_get xs i ≡ Some x → f y ≡ f x → map f (slice_set xs i y) ≡ map f xs
set_mapped f [] i x y at e = absurd cc
set_mapped {X} {Y} f (z ∷ xs) zero x y at e = let same : x ≡ z = cc in ap (λ (w : Y). w ∷ map f xs) (e ∙ ap f same)
set_mapped {X} {Y} f (z ∷ xs) (suc i) x y at e = ap (λ (ws : List Y). f z ∷ ws) (set_mapped f xs i x y at e)

pub before_last : {X : Type 0} (xs ys : List X) (i : ℕ) → i < length xs → slice_get (xs ++ ys) i ≡ slice_get xs i
before_last [] ys i in' = absurd (omega arith)
before_last (x ∷ xs) ys zero in' = refl
before_last (x ∷ xs) ys (suc i) in' = before_last xs ys i (omega arith)

pub last_at : {X : Type 0} (xs : List X) (y : X) → slice_get (xs ++ y ∷ []) (length xs) ≡ Some y
last_at [] y = refl
last_at (x ∷ xs) y = last_at xs y
