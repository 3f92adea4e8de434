-- What stands at the places of lists that are put together, turned round and taken apart.
use Rattle.std.proofs.Common.{◌≡◌, ◌<◌, ◌+◌, ◌++◌, ◌∙◌, ℕ, zero, suc, List, [], ◌∷◌, length, map, drop, reverse, refl, ap, sym, arith, inl, inr, Some, add-one}
use Rattle.std.specs.Prelude.{◌⊎◌, slice_get, option_map}
use Rattle.std.proofs.lemmas.List.{reverse-append, reverse-reverse}
use Rattle.std.proofs.lemmas.Option.{slice_get-map, slice_get_within}

pub unsome : {X : Type 0} (x y : X) → Some x ≡ Some y → x ≡ y
unsome x y e = cc

-- the place behind a list
pub seam : {X : Type 0} (xs : List X) (y : X) (ys : List X) → slice_get (xs ++ y ∷ ys) (length xs) ≡ Some y
seam [] y ys = refl
seam (x ∷ xs) y ys = seam xs y ys

-- a place of two lists is one of the first, or one of the second
pub split_at : {X : Type 0} (xs ys : List X) (k : ℕ) (x : X) → slice_get (xs ++ ys) k ≡ Some x → ((k < length xs) × (slice_get xs k ≡ Some x)) ⊎ ((j : ℕ) × (k ≡ length xs + j) × (slice_get ys j ≡ Some x))
split_at [] ys k x is = inr (k, omega arith, is)
split_at (y ∷ xs) ys zero x is = inl (omega arith, is)
split_at {X} (y ∷ xs) ys (suc k) x is = elim (split_at xs ys k x is) as (λ _. ((suc k < suc (length xs)) × (slice_get xs k ≡ Some x)) ⊎ ((j : ℕ) × (suc k ≡ suc (length xs) + j) × (slice_get ys j ≡ Some x))) [
  | inl low ↦ inl (omega (arith, low.0), low.1)
  | inr high ↦ inr (high.0, omega (arith, high.1), high.2)
]

-- a place behind those that are dropped
pub drop_at : {X : Type 0} (xs : List X) (n j : ℕ) → slice_get (drop n xs) j ≡ slice_get xs (n + j)
drop_at [] zero j = ap (slice_get []) (zero_on j)
  where
    zero_on : (j : ℕ) → j ≡ 0 + j
    zero_on j = omega arith
drop_at [] (suc n) j = refl
drop_at (x ∷ xs) zero j = ap (slice_get (x ∷ xs)) (zero_on j)
  where
    zero_on : (j : ℕ) → j ≡ 0 + j
    zero_on j = omega arith
drop_at (x ∷ xs) (suc n) j = drop_at xs n j ∙ sym (ap (slice_get (x ∷ xs)) (suc_on n j))
  where
    suc_on : (n j : ℕ) → suc n + j ≡ suc (n + j)
    suc_on n j = omega arith

-- a place of a mapped list
pub map_at : {X Y : Type 0} (f : X → Y) (xs : List X) (k : ℕ) (y : Y) → slice_get (map f xs) k ≡ Some y → (x : X) × (slice_get xs k ≡ Some x) × (f x ≡ y)
map_at f [] k y is = absurd cc
map_at f (x ∷ xs) zero y is = (x, refl, unsome (f x) y is)
map_at f (x ∷ xs) (suc k) y is = map_at f xs k y is

pub mapped_at : {X Y : Type 0} (f : X → Y) (xs : List X) (k : ℕ) (x : X) → slice_get xs k ≡ Some x → slice_get (map f xs) k ≡ Some (f x)
mapped_at f xs k x is = slice_get-map f xs k ∙ ap (option_map f) is

-- there is one at each place within
pub there_at : {X : Type 0} (xs : List X) (k : ℕ) → k < length xs → (x : X) × (slice_get xs k ≡ Some x)
there_at [] k low = absurd (omega arith)
there_at (x ∷ xs) zero low = (x, refl)
there_at (x ∷ xs) (suc k) low = there_at xs k (omega arith)

pub one_at : {X : Type 0} (xs : List X) (k : ℕ) (x y : X) → slice_get xs k ≡ Some x → slice_get xs k ≡ Some y → x ≡ y
one_at xs k x y is also = unsome x y (sym is ∙ also)

pub within : {X : Type 0} (xs : List X) (k : ℕ) (x : X) → slice_get xs k ≡ Some x → k < length xs
within xs k x is = slice_get_within xs k x is

-- the last one of what is left, turned round, is the next one
next_of : {X : Type 0} (xs rest : List X) (k : ℕ) (x : X) → drop k xs ≡ x ∷ rest → (slice_get xs k ≡ Some x) × (rest ≡ drop (suc k) xs)
next_of [] rest zero x e = absurd cc
next_of [] rest (suc k) x e = absurd cc
next_of (y ∷ xs) rest zero x e = (cc, cc)
next_of (y ∷ xs) rest (suc k) x e = next_of xs rest k x e

pub next_reversed : {X : Type 0} (xs rest left : List X) (k : ℕ) (x : X) → left ≡ reverse (drop k xs) → left ≡ rest ++ x ∷ [] → (slice_get xs k ≡ Some x) × (rest ≡ reverse (drop (k + 1) xs))
next_reversed {X} xs rest left k x turned is =
    let whole : drop k xs ≡ x ∷ reverse rest =
    sym (reverse-reverse (drop k xs)) ∙ ap (λ (l : List X). reverse l) (sym turned ∙ is) ∙ reverse-append rest (x ∷ []) in
    let next = next_of xs (reverse rest) k x whole in (
      next.0,
      sym (reverse-reverse rest) ∙ ap (λ (l : List X). reverse l) next.1 ∙ ap (λ (n : ℕ). reverse (drop n xs)) (sym (add-one k)),
    )
