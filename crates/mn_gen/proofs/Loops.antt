-- Lists that loops make by number.
use Rattle.std.proofs.Common.{◌≡◌, ℕ, zero, suc, ◌+◌, List, [], ◌∷◌, ◌++◌, map, flat_map, refl, sym, ap, ap₂, ◌∙◌, arith, append_assoc, append-nil, add-one}
use Rattle.std.specs.List.{range_with_len}
use Rattle.std.proofs.lemmas.List.FromFn.{map-range_with_len_more}
use Rattle.mn_gen.specs.Generated.{state_at, state_behind}

pub next-map : {X : Type 0} (f : ℕ → X) (before old new : List X) (n : ℕ) (x : X) → old ≡ before ++ map f (range_with_len 0 n) → new ≡ old ++ x ∷ [] → x ≡ f n
    → new ≡ before ++ map f (range_with_len 0 (n + 1))
next-map {X} f before old new n x o e is =
    let more : map f (range_with_len 0 (n + 1)) ≡ map f (range_with_len 0 n) ++ f n ∷ [] = map-range_with_len_more f 0 n n (omega arith) in
    e ∙ ap₂ (λ (l : List X) (y : X). l ++ y ∷ []) o is ∙ rw append_assoc (ap (λ (l : List X). before ++ l) (sym more))

flat-suc : {X : Type 0} (f : ℕ → List X) (a n : ℕ) → flat_map f (range_with_len a (suc n)) ≡ flat_map f (range_with_len a n) ++ f (a + n)
flat-suc f a zero = append-nil (f a) ∙ ap f (omega arith)
flat-suc {X} f a (suc n) =
    let here : a + 1 + n ≡ a + suc n = omega arith in
    ap (λ (l : List X). f a ++ l) (flat-suc f (a + 1) n ∙ ap (λ (k : ℕ). flat_map f (range_with_len (a + 1) n) ++ f k) here) ∙ rw append_assoc refl

pub next-flat : {X : Type 0} (f : ℕ → List X) (old new : List X) (n : ℕ) → old ≡ flat_map f (range_with_len 0 n) → new ≡ old ++ f n → new ≡ flat_map f (range_with_len 0 (n + 1))
next-flat {X} f old new n o e =
    let zero-is : n ≡ 0 + n = omega arith in
    e ∙ ap₂ (λ (l : List X) (k : ℕ). l ++ f k) o zero-is ∙ sym (flat-suc f 0 n) ∙ ap (λ (k : ℕ). flat_map f (range_with_len 0 k)) (sym (add-one n))

state_at-suc : (number n : ℕ) → state_at number (suc n) ≡ state_behind (state_at number n) n
unfolding state_at
state_at-suc number n = refl

pub state_at-more : (number n : ℕ) → state_at number (n + 1) ≡ state_behind (state_at number n) n
state_at-more number n = ap (state_at number) (add-one n) ∙ state_at-suc number n
