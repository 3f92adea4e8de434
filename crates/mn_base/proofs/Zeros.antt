-- Bytes that are all zero.
use Rattle.std.proofs.Common.{◌≡◌, ◌≤◌, ℕ, Bool, ◌&&◌, List, [], ◌∷◌, length, replicate, take, refl, ap, ◌∙◌}
use Rattle.std.specs.Prelude.{nat_eq}
use Rattle.std.specs.List.{list_all}
use Rattle.std.specs.Cmp.Lexicographic.{pointwise}
use Rattle.std.proofs.lemmas.List.{take-replicate}

as_many : (bs : List ℕ) → pointwise nat_eq bs (replicate (length bs) 0) ≡ list_all (λ b. nat_eq b 0) bs
as_many [] = refl
as_many (b ∷ bs) = ap (λ t. nat_eq b 0 && t) (as_many bs)

-- bytes are all zero where they equal as many of a block of zeros
pub zeros_at_once : (bs : List ℕ) (size : ℕ) → length bs ≤ size → (b : Bool) → b ≡ pointwise nat_eq bs (take (length bs) (replicate size 0)) → b ≡ list_all (λ x. nat_eq x 0) bs
zeros_at_once bs size fits b e = e ∙ ap (pointwise nat_eq bs) (take-replicate (length bs) size 0 fits) ∙ as_many bs
