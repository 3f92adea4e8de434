-- Bytes that are put in place one after another.
use Rattle.std.proofs.Common.{◌≡◌, ℕ, zero, suc, ◌+◌, ◌<◌, List, [], ◌∷◌, ◌++◌, length, take, refl, sym, ap, ◌∙◌, arith, slice_set, get_or}
use Rattle.mn_mini.specs.Flat.{overwritten}

none : (s : List ℕ) → overwritten s zero [] ≡ s
none [] = refl
none (x ∷ s) = refl

-- one more byte
push : (s : List ℕ) (start : ℕ) (bytes : List ℕ) (b i : ℕ) → i ≡ start + length bytes → overwritten s start (bytes ++ b ∷ []) ≡ slice_set (overwritten s start bytes) i b
push [] start bytes b i e = refl
push (x ∷ s) zero [] b zero e = ap (λ (l : List ℕ). b ∷ l) (none s)
push (x ∷ s) zero [] b (suc i) e = absurd (omega arith)
push (x ∷ s) zero (c ∷ bytes) b zero e = absurd (omega arith)
push (x ∷ s) zero (c ∷ bytes) b (suc i) e = ap (λ (l : List ℕ). c ∷ l) (push s zero bytes b i (omega arith))
push (x ∷ s) (suc start) bytes b zero e = absurd (omega arith)
push (x ∷ s) (suc start) bytes b (suc i) e = ap (λ (l : List ℕ). x ∷ l) (push s start bytes b i (omega arith))

-- the byte at i joins those before it
taken : (xs : List ℕ) (i : ℕ) → i < length xs → take (i + 1) xs ≡ take i xs ++ get_or xs i 0 ∷ []
taken [] i h = absurd (omega arith)
taken (x ∷ xs) zero h = refl
taken (x ∷ xs) (suc i) h =
    let next : suc i + 1 ≡ suc (i + 1) = omega arith in
    ap (λ k. take k (x ∷ xs)) next ∙ ap (λ (l : List ℕ). x ∷ l) (taken xs i (omega arith))

length_taken : (xs : List ℕ) (i : ℕ) → i < length xs → i ≡ length (take i xs)
length_taken [] i h = absurd (omega arith)
length_taken (x ∷ xs) zero h = refl
length_taken (x ∷ xs) (suc i) h = ap suc (length_taken xs i (omega arith))

pub one_more : (old now : List ℕ) (start : ℕ) (bytes : List ℕ) (i : ℕ) → i < length bytes → now ≡ overwritten old start (take i bytes) → slice_set now (start + i) (get_or bytes i 0) ≡ overwritten old start (take (i + 1) bytes)
one_more old now start bytes i h is =
    ap (λ (l : List ℕ). slice_set l (start + i) (get_or bytes i 0)) is
    ∙ (sym (push old start (take i bytes) (get_or bytes i 0) (start + i) (ap (λ k. start + k) (length_taken bytes i h))) ∙ ap (overwritten old start) (sym (taken bytes i h)))

pub no_byte : (s : List ℕ) (start : ℕ) → s ≡ overwritten s start []
no_byte [] start = refl
no_byte (x ∷ s) zero = refl
no_byte (x ∷ s) (suc start) = ap (λ (l : List ℕ). x ∷ l) (no_byte s start)
