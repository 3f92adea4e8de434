-- Reading from the front.
use Rattle.std.proofs.Common.{◌≡◌, ℕ, zero, suc, ◌<◌, ◌≤◌, ◌+◌, Bool, true, false, ◌&&◌, List, [], ◌∷◌, ◌++◌, length, take, map, get_or, refl, ap, sym, ◌∙◌, arith, append_assoc, append-nil, length-append, add-one, slice_set}
use Rattle.std.proofs.Math.Seq.{take-suc-set}
use Rattle.std.proofs.lemmas.List.{map-append}
use Rattle.std.specs.Prelude.{nat_lt}
use Rattle.std.specs.List.{flat_map, list_all, AllByRecursion}
use Rattle.std.proofs.lemmas.Bool.Decides.{nat_tests}
use Rattle.mn_base.proofs.Booleans.{both_true}
use Rattle.mn_page.specs.Reading.{Begins, AreMany}

small : (b : ℕ) → b < 256 → nat_lt b 256 ≡ true
small b h = grind (arith, nat_tests)

-- the items of a slice of bytes are bytes
pub are_bytes : (bs : List ℕ) → ((i : ℕ) → get_or bs i 0 < 256) → list_all (λ b. nat_lt b 256) bs ≡ true
are_bytes [] h = refl
are_bytes (b ∷ bs) h = both_true (nat_lt b 256) (list_all (λ c. nat_lt c 256) bs) (small b (h 0)) (are_bytes bs (λ i. h (suc i)))

-- Lists of values, one behind the other

-- so many are read; where the bytes are a list of so many and more, they begin it, and the others
-- and more are left
pub record Progress {X : Type 0} (Is : X → Type 0) (spelling : X → List ℕ) (count : ℕ) (bytes : List ℕ) (i : ℕ) (read : List X) (rest : List ℕ) : Type 0 where
  pub many : length read ≡ i
  pub may : AllByRecursion Is read
  pub spelled : bytes ≡ flat_map spelling read ++ rest
  pub only : (xs : List X) (more : List ℕ) → AreMany Is count xs → bytes ≡ flat_map spelling xs ++ more → (left : List X) × (xs ≡ read ++ left) × AllByRecursion Is left × (rest ≡ flat_map spelling left ++ more)

pub progress_none : {X : Type 0} (Is : X → Type 0) (spelling : X → List ℕ) (count : ℕ) (bytes : List ℕ) → Progress Is spelling count bytes 0 [] bytes
progress_none Is spelling count bytes = record { many = refl; may = tt; spelled = refl; only = λ xs more are spelled. (xs, refl, are.1, spelled) }

all_append : {X : Type 0} (Is : X → Type 0) (xs : List X) (x : X) → AllByRecursion Is xs → Is x → AllByRecursion Is (xs ++ x ∷ [])
all_append Is [] x all is = (is, tt)
all_append Is (y ∷ xs) x all is = (all.0, all_append Is xs x all.1 is)

flat_append : {X : Type 0} (f : X → List ℕ) (xs : List X) (x : X) (rest : List ℕ) → flat_map f xs ++ (f x ++ rest) ≡ flat_map f (xs ++ x ∷ []) ++ rest
flat_append f [] x rest = sym (ap (λ (l : List ℕ). l ++ rest) (append-nil (f x)))
flat_append f (y ∷ xs) x rest =
    append_assoc (f y) (flat_map f xs) (f x ++ rest) ∙ (ap (λ (l : List ℕ). f y ++ l) (flat_append f xs x rest) ∙ sym (append_assoc (f y) (flat_map f (xs ++ x ∷ [])) rest))

one_longer : {X : Type 0} (xs : List X) (x : X) (i : ℕ) → length xs ≡ i → length (xs ++ x ∷ []) ≡ i + 1
one_longer xs x i e = length-append xs (x ∷ []) ∙ ap (λ n. n + 1) e

-- what is left is not empty before the end
still_left : {X : Type 0} (count i : ℕ) (xs read left : List X) → length xs ≡ count → length read ≡ i → i < count → xs ≡ read ++ left → 1 ≤ length left
still_left count i xs read left n m h e = let l = ap (λ l. length l) e ∙ length-append read left in omega (arith, n, m, h, l)

-- one more is read, which is the only one that can be
pub progress_more : {X : Type 0} (Is : X → Type 0) (spelling : X → List ℕ) (count : ℕ) (bytes : List ℕ) (i : ℕ) (read : List X) (rest : List ℕ) (x : X) (behind : List ℕ) → Progress Is spelling count bytes i read rest → i < count
    → Begins Is spelling rest x behind → ((y : X) (more : List ℕ) → Is y → rest ≡ spelling y ++ more → (x ≡ y) × (behind ≡ more)) → Progress Is spelling count bytes (i + 1) (read ++ x ∷ []) behind
progress_more {X = X} Is spelling count bytes i read rest x behind p h b only = record {
  many = one_longer read x i p.many;
  may = all_append Is read x p.may b.may;
  spelled = p.spelled ∙ (ap (λ (l : List ℕ). flat_map spelling read ++ l) b.spelled ∙ flat_append spelling read x behind);
  only = λ xs more are spelled. next xs more are (p.only xs more are spelled);
}
  where
    cells : (xs : List X) (more : List ℕ) (left : List X) → 1 ≤ length left → xs ≡ read ++ left → AllByRecursion Is left → rest ≡ flat_map spelling left ++ more
        → (l : List X) × (xs ≡ (read ++ x ∷ []) ++ l) × AllByRecursion Is l × (behind ≡ flat_map spelling l ++ more)
    cells xs more [] some e all s = absurd (omega (arith, some))
    cells xs more (y ∷ l) some e all s =
        let same = only y (flat_map spelling l ++ more) all.0 (s ∙ append_assoc (spelling y) (flat_map spelling l) more) in
        (l, e ∙ (ap (λ (z : X). read ++ z ∷ l) (sym same.0) ∙ sym (append_assoc read (x ∷ []) l)), all.1, same.1)

    next : (xs : List X) (more : List ℕ) → AreMany Is count xs → (left : List X) × (xs ≡ read ++ left) × AllByRecursion Is left × (rest ≡ flat_map spelling left ++ more)
        → (l : List X) × (xs ≡ (read ++ x ∷ []) ++ l) × AllByRecursion Is l × (behind ≡ flat_map spelling l ++ more)
    next xs more are left = cells xs more left.0 (still_left count i xs read left.0 are.0 p.many h left.1) left.1 left.2 left.3

-- where no more can be read, the bytes are no list of so many
pub progress_ends : {X : Type 0} (Is : X → Type 0) (spelling : X → List ℕ) (count : ℕ) (bytes : List ℕ) (i : ℕ) (read : List X) (rest : List ℕ) → Progress Is spelling count bytes i read rest → i < count
    → ((y : X) (more : List ℕ) → Is y → rest ≡ spelling y ++ more → ⊥) → (xs : List X) (more : List ℕ) → AreMany Is count xs → bytes ≡ flat_map spelling xs ++ more → ⊥
progress_ends {X = X} Is spelling count bytes i read rest p h none xs more are spelled = next (p.only xs more are spelled)
  where
    cells : (left : List X) → 1 ≤ length left → AllByRecursion Is left → rest ≡ flat_map spelling left ++ more → ⊥
    cells [] some all s = absurd (omega (arith, some))
    cells (y ∷ l) some all s = none y (flat_map spelling l ++ more) all.0 (s ∙ append_assoc (spelling y) (flat_map spelling l) more)

    next : (left : List X) × (xs ≡ read ++ left) × AllByRecursion Is left × (rest ≡ flat_map spelling left ++ more) → ⊥
    next left = cells left.0 (still_left count i xs read left.0 are.0 p.many h left.1) left.2 left.3

-- at the end the bytes begin with what is read, and with no other
pub progress_begins : {X : Type 0} (Is : X → Type 0) (spelling : X → List ℕ) (count : ℕ) (bytes : List ℕ) (read : List X) (rest : List ℕ) → Progress Is spelling count bytes count read rest
    → Begins (AreMany Is count) (flat_map spelling) bytes read rest
progress_begins Is spelling count bytes read rest p = record { may = (p.many, p.may); spelled = p.spelled }

nothing_left : {X : Type 0} (count : ℕ) (xs read left : List X) → length xs ≡ count → length read ≡ count → xs ≡ read ++ left → left ≡ []
nothing_left count xs read [] n m e = refl
nothing_left count xs read (y ∷ left) n m e = let l = ap (λ l. length l) e ∙ length-append read (y ∷ left) in absurd (omega (arith, n, m, l))

pub progress_only : {X : Type 0} (Is : X → Type 0) (spelling : X → List ℕ) (count : ℕ) (bytes : List ℕ) (read : List X) (rest : List ℕ) → Progress Is spelling count bytes count read rest
    → (xs : List X) (more : List ℕ) → AreMany Is count xs → bytes ≡ flat_map spelling xs ++ more → (read ≡ xs) × (rest ≡ more)
progress_only {X = X} Is spelling count bytes read rest p xs more are spelled =
    let left = p.only xs more are spelled in
    let none = nothing_left count xs read left.0 are.0 p.many left.1 in
    (sym (left.1 ∙ (ap (λ (l : List X). read ++ l) none ∙ append-nil read)), left.3 ∙ ap (λ (l : List X). flat_map spelling l ++ more) none)

pub all_take : (p : ℕ → Bool) (n : ℕ) (bs : List ℕ) → list_all p bs ≡ true → list_all p (take n bs) ≡ true
all_take p zero bs h = refl
all_take p (suc n) [] h = refl
all_take p (suc n) (b ∷ bs) h = both_true (p b) (list_all p (take n bs)) (left_true (p b) (list_all p bs) h) (all_take p n bs (right_true (p b) (list_all p bs) h))
  where
    left_true : (s t : Bool) → (s && t) ≡ true → s ≡ true
    left_true true t e = refl
    left_true false t e = e

    right_true : (s t : Bool) → (s && t) ≡ true → t ≡ true
    right_true true t e = e
    right_true false t e = absurd cc

-- an array of which one more element is set
pub seen_more : {A B : Type 0} (f : A → B) (xs : List A) (i : ℕ) (x : A) → i < length xs → map f (take (i + 1) (slice_set xs i x)) ≡ map f (take i xs) ++ f x ∷ []
seen_more f xs i x h = ap (map f) (ap (λ n. take n (slice_set xs i x)) (add-one i) ∙ take-suc-set xs i x h) ∙ map-append f (take i xs) (x ∷ [])
