-- Bytes that are all zero.
use Rattle.std.proofs.Common.{◌≡◌, ℕ, Bool, true, false, List, length, replicate, ap, sym, subst, ◌∙◌}
use Rattle.std.specs.Prelude.{nat_eq, MatchBool}
use Rattle.std.specs.List.{list_all}
use Rattle.std.specs.Cmp.Lexicographic.{pointwise, same_text, other_text}
use Rattle.mn_base.proofs.Booleans.{clash}
use Rattle.mn_page.proofs.PageText.{are_zeros, zeros_are}
use Rattle.mn_forest.specs.Rules.{zeros}

pub decides : (bs : List ℕ) (b : Bool) → b ≡ list_all (λ x. nat_eq x 0) bs → MatchBool b (bs ≡ replicate (length bs) 0) (bs ≡ replicate (length bs) 0 → ⊥)
decides bs true e = zeros_are bs (sym e)
decides bs false e = λ z. clash (list_all (λ x. nat_eq x 0) bs) (ap (λ (l : List ℕ). list_all (λ x. nat_eq x 0) l) z ∙ are_zeros (length bs)) (sym e)

-- so many
pub sized : (bs : List ℕ) (n : ℕ) (b : Bool) → length bs ≡ n → MatchBool b (bs ≡ replicate (length bs) 0) (bs ≡ replicate (length bs) 0 → ⊥) → MatchBool b (bs ≡ replicate n 0) (bs ≡ replicate n 0 → ⊥)
sized bs n b is = subst (λ (k : ℕ). MatchBool b (bs ≡ replicate k 0) (bs ≡ replicate k 0 → ⊥)) is

pub zeros_of : (bs : List ℕ) (n : ℕ) (b : Bool) → length bs ≡ n → MatchBool b (bs ≡ replicate (length bs) 0) (bs ≡ replicate (length bs) 0 → ⊥) → MatchBool b (bs ≡ zeros n) (bs ≡ zeros n → ⊥)
unfolding zeros
zeros_of bs n b is = sized bs n b is

pub same_bytes : (xs ys : List ℕ) (b : Bool) → b ≡ pointwise nat_eq xs ys → MatchBool b (xs ≡ ys) (xs ≡ ys → ⊥)
same_bytes xs ys true e = same_text xs ys e
same_bytes xs ys false e = other_text xs ys e
