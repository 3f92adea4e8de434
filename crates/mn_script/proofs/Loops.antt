-- Texts that are written one after another.
use Rattle.std.proofs.Common.{◌≡◌, ◌<◌, ◌+◌, ℕ, suc, List, ◌∷◌, ◌++◌, length, drop, get_or, ap, sym, ◌∙◌, append_assoc, add-one, drop-cons}
use Rattle.std.specs.Prelude.{flat_map}

-- the text of one more of them, behind those so far
pub texts_on : {A : Type 0} (f : A → List ℕ) (before now whole : List ℕ) (xs : List A) (i : ℕ) (x : A) → i < length xs → x ≡ get_or xs i x → now ≡ before ++ f x
    → before ++ flat_map f (drop i xs) ≡ whole → now ++ flat_map f (drop (i + 1) xs) ≡ whole
texts_on {A = A} f before now whole xs i x within is next so_far =
    let rest = flat_map f (drop (i + 1) xs) in
    let split : drop i xs ≡ x ∷ drop (i + 1) xs = drop-cons xs i x within ∙ ap (λ (y : A). y ∷ drop (suc i) xs) (sym is) ∙ ap (λ (n : ℕ). x ∷ drop n xs) (sym (add-one i)) in
    ap (λ (l : List ℕ). l ++ rest) next ∙ append_assoc before (f x) rest ∙ ap (λ (l : List A). before ++ flat_map f l) (sym split) ∙ so_far
