-- Sums of versions.
use Rattle.std.proofs.Common.{◌≡◌, ℕ, zero, suc, ◌+◌, List, [], ◌∷◌, ◌++◌, map, take, sym, ap, ◌∙◌, add-one, slice_get}
use Rattle.std.specs.Prelude.{IsSomeAnd}

next-suc : {X : Type 0} (f : X → ℕ) (xs : List X) (n x : ℕ) → IsSomeAnd (slice_get xs n) (λ v. x ≡ f v) → map f (take (suc n) xs) ≡ map f (take n xs) ++ x ∷ []
next-suc f [] n x told = absurd told
next-suc f (y ∷ ys) zero x told = ap (λ (z : ℕ). z ∷ []) (sym told)
next-suc f (y ∷ ys) (suc n) x told = ap (λ (l : List ℕ). f y ∷ l) (next-suc f ys n x told)

pub next-sum : {X : Type 0} (f : X → ℕ) (xs : List X) (n x : ℕ) (old new : List ℕ) → IsSomeAnd (slice_get xs n) (λ v. x ≡ f v) → old ≡ map f (take n xs)
    → new ≡ old ++ x ∷ [] → new ≡ map f (take (n + 1) xs)
next-sum f xs n x old new told o e =
    e ∙ ap (λ (l : List ℕ). l ++ x ∷ []) o ∙ sym (next-suc f xs n x told) ∙ ap (λ (k : ℕ). map f (take k xs)) (sym (add-one n))
