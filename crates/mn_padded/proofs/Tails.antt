-- Bytes that end with zeros.
use Rattle.std.proofs.Common.{◌≡◌, ◌≤◌, ◌-◌, ◌+◌, ◌&&◌, ℕ, zero, suc, Bool, true, false, List, [], ◌∷◌, ◌++◌, length, replicate, take, drop, refl, sym, ap, ◌∙◌, arith}
use Rattle.std.specs.Prelude.{nat_eq, bytes_eq}
use Rattle.std.specs.List.{list_all}
use Rattle.std.proofs.lemmas.Bool.{eqb-true}
use Rattle.std.proofs.lemmas.List.{drop-drop, take-append-drop}
use Rattle.std.proofs.lemmas.List.Folds.{list_all-append}
use Rattle.mn_base.proofs.Booleans.{left_true, right_true}
use Rattle.mn_padded.specs.Zeros.{zeros_from, IsFilled}

-- all of these are zero
abbrev are_zeros : List ℕ → Bool
are_zeros bytes = list_all (λ b. nat_eq b 0) bytes

and_true : (a : Bool) → (a && true) ≡ a
and_true true = refl
and_true false = refl

zeros_behind : (n : ℕ) (bytes : List ℕ) → are_zeros bytes ≡ true → are_zeros (drop n bytes) ≡ true
zeros_behind zero bytes e = e
zeros_behind (suc n) [] e = refl
zeros_behind (suc n) (b ∷ bytes) e = zeros_behind n bytes (right_true (nat_eq b 0) (are_zeros bytes) e)

-- zeros from a place on are zeros from each later place on
pub zeros_later : (filled at : ℕ) (bytes : List ℕ) → filled ≤ at → zeros_from filled bytes ≡ true → zeros_from at bytes ≡ true
zeros_later filled at bytes before e =
    let n : filled + (at - filled) ≡ at = omega arith in
    ap are_zeros (sym (drop-drop (at - filled) filled bytes ∙ ap (λ k. drop k bytes) n)) ∙ zeros_behind (at - filled) (drop filled bytes) e

-- where all is zero from a place on, what stands before that place decides
pub zeros_until : (at filled : ℕ) (bytes : List ℕ) → at ≤ filled → zeros_from filled bytes ≡ true
    → list_all (λ b. nat_eq b 0) (take (filled - at) (drop at bytes)) ≡ zeros_from at bytes
zeros_until at filled bytes before e =
    let n : at + (filled - at) ≡ filled = omega arith in
    let front = take (filled - at) (drop at bytes) in
    let behind : are_zeros (drop (filled - at) (drop at bytes)) ≡ true = ap are_zeros (drop-drop (filled - at) at bytes ∙ ap (λ k. drop k bytes) n) ∙ e in
    let whole : are_zeros (drop at bytes) ≡ (are_zeros front && are_zeros (drop (filled - at) (drop at bytes))) =
    ap are_zeros (sym (take-append-drop (filled - at) (drop at bytes))) ∙ list_all-append (λ b. nat_eq b 0) front (drop (filled - at) (drop at bytes)) in
    sym (whole ∙ ap (λ t. are_zeros front && t) behind ∙ and_true (are_zeros front))

both_zeros : (a b : List ℕ) → length a ≡ length b → are_zeros a ≡ true → are_zeros b ≡ true → bytes_eq a b ≡ true
both_zeros [] [] l e f = refl
both_zeros [] (y ∷ b) l e f = absurd (omega (arith, l))
both_zeros (x ∷ a) [] l e f = absurd (omega (arith, l))
both_zeros (x ∷ a) (y ∷ b) l e f =
    let here : x ≡ 0 = eqb-true x 0 (left_true (nat_eq x 0) (are_zeros a) e) in
    let there : y ≡ 0 = eqb-true y 0 (left_true (nat_eq y 0) (are_zeros b) f) in
    ap (λ k. nat_eq k y && bytes_eq a b) here ∙ ap (λ k. nat_eq 0 k && bytes_eq a b) there
    ∙ both_zeros a b (omega (arith, l)) (right_true (nat_eq x 0) (are_zeros a) e) (right_true (nat_eq y 0) (are_zeros b) f)

-- bytes of one length that are zeros from a place on are the same where their fronts are
pub same_front : (filled : ℕ) (a b : List ℕ) → length a ≡ length b → zeros_from filled a ≡ true → zeros_from filled b ≡ true
    → bytes_eq (take filled a) (take filled b) ≡ bytes_eq a b
same_front zero a b l e f = sym (both_zeros a b l e f)
same_front (suc n) [] [] l e f = refl
same_front (suc n) [] (y ∷ b) l e f = absurd (omega (arith, l))
same_front (suc n) (x ∷ a) [] l e f = absurd (omega (arith, l))
same_front (suc n) (x ∷ a) (y ∷ b) l e f = ap (λ t. nat_eq x y && t) (same_front n a b (omega (arith, l)) e f)

behind_front : (at : ℕ) (bytes rest : List ℕ) → at ≤ length bytes → drop at (take at bytes ++ rest) ≡ rest
behind_front zero bytes rest le = refl
behind_front (suc n) [] rest le = absurd (omega (arith, le))
behind_front (suc n) (b ∷ bytes) rest le = behind_front n bytes rest (omega (arith, le))

only_zeros : (n : ℕ) → are_zeros (replicate n 0) ≡ true
only_zeros zero = refl
only_zeros (suc n) = only_zeros n

within_front : (at n : ℕ) (bytes : List ℕ) → at ≤ length bytes → at ≤ length (take at bytes ++ replicate n 0)
within_front zero n bytes le = omega arith
within_front (suc k) n [] le = absurd (omega (arith, le))
within_front (suc k) n (b ∷ bytes) le = let rest = within_front k n bytes (omega (arith, le)) in omega (arith, rest)

-- zeros that stand behind the front of bytes are all that stands from there on
pub zeros_put : (at n : ℕ) (bytes : List ℕ) → at ≤ length bytes → IsFilled at (take at bytes ++ replicate n 0)
zeros_put at n bytes le = (within_front at n bytes le, ap are_zeros (behind_front at bytes (replicate n 0) le) ∙ only_zeros n)
