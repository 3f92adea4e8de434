-- Lists of records: one record more, and places in them.
use Rattle.std.proofs.Common.{◌≡◌, ◌<◌, ◌≤◌, ◌+◌, ◌⊎◌, inl, inr, append-nil, append_assoc, Contains, ℕ, zero, suc, List, [], ◌∷◌, ◌++◌, length, take, reverse, get_or, Some, None, refl, ap, sym, ◌∙◌, arith, slice_get}
use Rattle.std.specs.List.{flat_map}
use Rattle.std.proofs.lemmas.List.{take_more, reverse-append}
use Rattle.std.proofs.lemmas.List.Elements.{Contains-append_left, Contains-append_right}
use Rattle.std.proofs.lemmas.List.Sorted.{Contains-permutation, IsPermutation-reverse}
use Rattle.mn_mini.specs.declared.record.Record.{Record}

-- one record more
pub next_record : (records : List Record) (n : ℕ) (r : Record) → n < length records → r ≡ get_or records n r → reverse (take (n + 1) records) ≡ r ∷ reverse (take n records)
next_record records n r less is =
    ap (λ (l : List Record). reverse l) (take_more records n r less) ∙ reverse-append (take n records) (get_or records n r ∷ []) ∙ ap (λ (x : Record). x ∷ reverse (take n records)) (sym is)

-- what stands at a place
pub at_place : {X : Type 0} (xs : List X) (i : ℕ) (x : X) → i < length xs → x ≡ get_or xs i x → slice_get xs i ≡ Some x
at_place [] i x less is = absurd (omega arith)
at_place (y ∷ xs) zero x less is = ap Some (sym is)
at_place (y ∷ xs) (suc i) x less is = at_place xs i x (omega arith) is

pub place_in : {X : Type 0} (xs : List X) (i : ℕ) (x : X) → slice_get xs i ≡ Some x → i < length xs
place_in [] i x is = absurd cc
place_in (y ∷ xs) zero x is = omega arith
place_in (y ∷ xs) (suc i) x is = let low = place_in xs i x is in omega arith

pub read_at : {X : Type 0} (xs : List X) (i : ℕ) (x d : X) → slice_get xs i ≡ Some x → get_or xs i d ≡ x
read_at [] i x d is = absurd cc
read_at (y ∷ xs) zero x d is = cc
read_at (y ∷ xs) (suc i) x d is = read_at xs i x d is

pub none_at : {X : Type 0} (xs : List X) (i : ℕ) → slice_get xs i ≡ None → length xs ≤ i
none_at [] i is = omega arith
none_at (y ∷ xs) zero is = absurd cc
none_at (y ∷ xs) (suc i) is = let low = none_at xs i is in omega arith

-- one list more, put behind the others
pub joined_more : (lists : List (List Record)) (i : ℕ) (list : List Record) → i < length lists → list ≡ get_or lists i list
    → reverse (flat_map (λ l. l) (take (i + 1) lists)) ≡ reverse list ++ reverse (flat_map (λ l. l) (take i lists))
joined_more lists i list less is =
    ap (λ (x : List (List Record)). reverse (flat_map (λ l. l) x)) (take_more lists i list less ∙ ap (λ (x : List Record). take i lists ++ x ∷ []) (sym is))
    ∙ ap (λ (x : List Record). reverse x) (joined (take i lists) list) ∙ reverse-append (flat_map (λ l. l) (take i lists)) list
  where
    joined : (xs : List (List Record)) (x : List Record) → flat_map (λ l. l) (xs ++ x ∷ []) ≡ flat_map (λ l. l) xs ++ x
    joined [] x = append-nil x
    joined (y ∷ xs) x = ap (λ (l : List Record). y ++ l) (joined xs x) ∙ sym (append_assoc y (flat_map (λ l. l) xs) x)

-- what stands in a list that one more was put behind
pub pushed_at : {X : Type 0} (xs : List X) (y x : X) (n : ℕ) → slice_get (xs ++ y ∷ []) n ≡ Some x → (slice_get xs n ≡ Some x) ⊎ ((n ≡ length xs) × (x ≡ y))
pushed_at [] y x zero is = inr (refl, cc)
pushed_at [] y x (suc n) is = absurd cc
pushed_at (z ∷ xs) y x zero is = inl is
pushed_at (z ∷ xs) y x (suc n) is = by (pushed_at xs y x n is)
  where
    by : (slice_get xs n ≡ Some x) ⊎ ((n ≡ length xs) × (x ≡ y)) → (slice_get xs n ≡ Some x) ⊎ ((suc n ≡ suc (length xs)) × (x ≡ y))
    by (inl here) = inl here
    by (inr last) = inr (ap suc last.0, last.1)

-- each record of each list is among all
pub among_all : (lists : List (List Record)) (n i : ℕ) (r : Record) → slice_get (get_or lists n []) i ≡ Some r → Contains (reverse (flat_map (λ l. l) lists)) r
among_all lists n i r is = Contains-permutation (flat_map (λ l. l) lists) (reverse (flat_map (λ l. l) lists)) r (IsPermutation-reverse (flat_map (λ l. l) lists)) (joined lists n is)
  where
    joined : (lists : List (List Record)) (n : ℕ) → slice_get (get_or lists n []) i ≡ Some r → Contains (flat_map (λ l. l) lists) r
    joined [] n is = absurd cc
    joined (x ∷ lists) zero is = Contains-append_left x (flat_map (λ l. l) lists) r (i, place_in x i r is, read_at x i r r is)
    joined (x ∷ lists) (suc n) is = Contains-append_right x (flat_map (λ l. l) lists) r (joined lists n is)

-- what is read in a list is the same with any default
pub read_or : {X : Type 0} (xs : List X) (i : ℕ) (x d : X) → i < length xs → x ≡ get_or xs i x → x ≡ get_or xs i d
read_or [] i x d less is = absurd (omega arith)
read_or (y ∷ xs) zero x d less is = is
read_or (y ∷ xs) (suc i) x d less is = read_or xs i x d (omega arith) is
