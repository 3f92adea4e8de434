-- Reading and writing pieces of one length that stand one after another in a list of bytes, with
-- other bytes before and behind.
use Rattle.std.proofs.Common.{◌≡◌, ℕ, zero, suc, ◌+◌, ◌-◌, ◌*◌, ◌≤◌, List, [], ◌∷◌, ◌++◌, length, replicate, Some, refl, subst, sym, ap, ◌∙◌, arith, slice_get, slice_set}
use Rattle.std.specs.List.{AllByRecursion, flat_map}
use Rattle.std.proofs.Math.Nat.{mul-suc}
use Rattle.std.proofs.lemmas.List.{length-append, append_assoc, take_at}
use Rattle.mn_mini.specs.Flat.{bytes_in, overwritten}
use Rattle.mn_mini.proofs.Bytes.{length-overwritten}
use Rattle.mn_page.specs.Grammar.{padded, entry_bytes, IsEntry}
use Rattle.mn_page.specs.declared.entry.CatEntry.{CatEntry}
use Rattle.mn_page.proofs.Spelled.{entry_length}

-- Behind a front, and before a rest

pub bytes_in-skip : (a b : List ℕ) (k s n : ℕ) → k ≡ length a + s → bytes_in (a ++ b) k n ≡ bytes_in b s n
bytes_in-skip [] b k s n e = let f : k ≡ s = omega arith in ap (λ j. bytes_in b j n) f
bytes_in-skip (x ∷ a) b zero s n e = absurd (omega arith)
bytes_in-skip (x ∷ a) b (suc k) s n e = bytes_in-skip a b k s n (omega arith)

pub bytes_in-within : (a b : List ℕ) (s n : ℕ) → s + n ≤ length a → bytes_in (a ++ b) s n ≡ bytes_in a s n
bytes_in-within [] b zero zero h = refl
bytes_in-within [] b zero (suc n) h = absurd (omega arith)
bytes_in-within [] b (suc s) n h = absurd (omega arith)
bytes_in-within (x ∷ a) b zero zero h = refl
bytes_in-within (x ∷ a) b zero (suc n) h = ap (λ (l : List ℕ). x ∷ l) (bytes_in-within a b zero n (omega arith))
bytes_in-within (x ∷ a) b (suc s) n h = bytes_in-within a b s n (omega arith)

pub overwritten-skip : (a b : List ℕ) (k s : ℕ) (w : List ℕ) → k ≡ length a + s → overwritten (a ++ b) k w ≡ a ++ overwritten b s w
overwritten-skip [] b k s w e = let f : k ≡ s = omega arith in ap (λ j. overwritten b j w) f
overwritten-skip (x ∷ a) b zero s w e = absurd (omega arith)
overwritten-skip (x ∷ a) b (suc k) s w e = ap (λ (l : List ℕ). x ∷ l) (overwritten-skip a b k s w (omega arith))

overwritten-none : (a : List ℕ) → overwritten a zero [] ≡ a
overwritten-none [] = refl
overwritten-none (x ∷ a) = refl

pub overwritten-within : (a b : List ℕ) (s : ℕ) (w : List ℕ) → s + length w ≤ length a → overwritten (a ++ b) s w ≡ overwritten a s w ++ b
overwritten-within [] b zero [] h = overwritten-none b
overwritten-within [] b zero (y ∷ w) h = absurd (omega arith)
overwritten-within [] b (suc s) w h = absurd (omega arith)
overwritten-within (x ∷ a) b zero [] h = refl
overwritten-within (x ∷ a) b zero (y ∷ w) h = ap (λ (l : List ℕ). y ∷ l) (overwritten-within a b zero w (omega arith))
overwritten-within (x ∷ a) b (suc s) w h = ap (λ (l : List ℕ). x ∷ l) (overwritten-within a b s w (omega arith))

pub overwritten-whole : (a w : List ℕ) → length w ≡ length a → overwritten a zero w ≡ w
overwritten-whole [] [] h = refl
overwritten-whole [] (y ∷ w) h = absurd (omega arith)
overwritten-whole (x ∷ a) [] h = absurd (omega arith)
overwritten-whole (x ∷ a) (y ∷ w) h = ap (λ (l : List ℕ). y ∷ l) (overwritten-whole a w (omega arith))

-- In padded bytes

pub bytes_in-padded : (n : ℕ) (a : List ℕ) (s k : ℕ) → s + k ≤ length a → bytes_in (padded n a) s k ≡ bytes_in a s k
bytes_in-padded n a s k h = bytes_in-within a (replicate (n - length a) 0) s k h

pub overwritten-padded : (n : ℕ) (a : List ℕ) (s : ℕ) (w : List ℕ) → s + length w ≤ length a → overwritten (padded n a) s w ≡ padded n (overwritten a s w)
overwritten-padded n a s w h =
    overwritten-within a (replicate (n - length a) 0) s w h ∙ ap (λ k. overwritten a s w ++ replicate (n - k) 0) (sym (length-overwritten a s w))

-- the first bytes of the zeros
overwritten-zeros : (k : ℕ) (w : List ℕ) → length w ≤ k → overwritten (replicate k 0) zero w ≡ w ++ replicate (k - length w) 0
overwritten-zeros zero [] h = refl
overwritten-zeros zero (y ∷ w) h = absurd (omega arith)
overwritten-zeros (suc k) [] h = let e : suc k ≡ suc k - 0 = omega arith in ap (λ j. replicate j 0) e
overwritten-zeros (suc k) (y ∷ w) h =
    let e : k - length w ≡ suc k - suc (length w) = omega arith in
    ap (λ (l : List ℕ). y ∷ l) (overwritten-zeros k w (omega arith)) ∙ ap (λ j. y ∷ (w ++ replicate j 0)) e

-- a write just behind the text makes it longer
pub overwritten-end : (n : ℕ) (a w : List ℕ) → length a + length w ≤ n → overwritten (padded n a) (length a) w ≡ padded n (a ++ w)
overwritten-end n a w h =
    let e : n - length a - length w ≡ n - (length a + length w) = omega arith in
    overwritten-skip a (replicate (n - length a) 0) (length a) zero w (omega arith)
    ∙ (ap (λ (l : List ℕ). a ++ l) (overwritten-zeros (n - length a) w (omega arith))
    ∙ (sym (append_assoc a w (replicate (n - length a - length w) 0))
    ∙ (ap (λ j. (a ++ w) ++ replicate j 0) e ∙ ap (λ j. (a ++ w) ++ replicate (n - j) 0) (sym (length-append a w)))))

-- bytes behind the text are zeros
abbrev pub AreZeros : List ℕ → Type 0
AreZeros bytes = AllByRecursion (λ b. ◌≡◌ {A = ℕ} b 0) bytes

zeros : (k s n : ℕ) → AreZeros (bytes_in (replicate k 0) s n)
zeros zero zero zero = tt
zeros zero zero (suc n) = tt
zeros zero (suc s) zero = tt
zeros zero (suc s) (suc n) = tt
zeros (suc k) zero zero = tt
zeros (suc k) zero (suc n) = (refl, zeros k zero n)
zeros (suc k) (suc s) n = zeros k s n

pub zeros_behind : (n : ℕ) (a : List ℕ) (s k : ℕ) → length a ≤ s → AreZeros (bytes_in (padded n a) s k)
zeros_behind n a s k h = subst AreZeros (sym (bytes_in-skip a (replicate (n - length a) 0) s (s - length a) k (omega arith))) (zeros (n - length a) (s - length a) k)

-- Pieces of one length

pub length-pieces : {X : Type 0} (f : X → List ℕ) (c : ℕ) (xs : List X) → AllByRecursion (λ x. length (f x) ≡ c) xs → length (flat_map f xs) ≡ c * length xs
length-pieces f c [] all = omega arith
length-pieces f c (x ∷ xs) all =
    let rest = length-pieces f c xs all.1 in
    length-append (f x) (flat_map f xs) ∙ (ap (λ k. k + length (flat_map f xs)) all.0 ∙ (ap (λ k. c + k) rest ∙ (turn c (c * length xs) ∙ sym (mul-suc c (length xs)))))
  where
    turn : (a b : ℕ) → a + b ≡ b + a
    turn a b = omega arith

step : (c i k : ℕ) → k ≡ c * suc i → k ≡ c + c * i
step c i k e = let m = mul-suc c i in omega arith

pub read_piece : {X : Type 0} (f : X → List ℕ) (c : ℕ) (xs : List X) (i k : ℕ) (x : X) → AllByRecursion (λ x. length (f x) ≡ c) xs → slice_get xs i ≡ Some x → k ≡ c * i → bytes_in (flat_map f xs) k c ≡ f x
read_piece f c [] i k x all at e = absurd cc
read_piece {X} f c (y ∷ xs) zero k x all at e =
    let is : y ≡ x = cc in
    let z : k ≡ 0 = omega arith in
    ap (λ j. bytes_in (f y ++ flat_map f xs) j c) z ∙ (take_at (f y) (flat_map f xs) c all.0 ∙ ap f is)
read_piece f c (y ∷ xs) (suc i) k x all at e =
    let first = all.0 in
    bytes_in-skip (f y) (flat_map f xs) k (c * i) c (step c i k e ∙ ap (λ j. j + c * i) (sym first)) ∙ read_piece f c xs i (c * i) x all.1 at refl

pub write_piece : {X : Type 0} (f : X → List ℕ) (c : ℕ) (xs : List X) (i k : ℕ) (x y : X) → AllByRecursion (λ x. length (f x) ≡ c) xs → slice_get xs i ≡ Some x → length (f y) ≡ c → k ≡ c * i
    → overwritten (flat_map f xs) k (f y) ≡ flat_map f (slice_set xs i y)
write_piece f c [] i k x y all at new e = absurd cc
write_piece f c (z ∷ xs) zero k x y all at new e =
    let first = all.0 in
    let none : k ≡ 0 = omega arith in
    ap (λ j. overwritten (f z ++ flat_map f xs) j (f y)) none
    ∙ (overwritten-within (f z) (flat_map f xs) zero (f y) (let l : length (f y) ≡ length (f z) = new ∙ sym first in omega arith) ∙ ap (λ (l : List ℕ). l ++ flat_map f xs) (overwritten-whole (f z) (f y) (new ∙ sym first)))
write_piece f c (z ∷ xs) (suc i) k x y all at new e =
    let first = all.0 in
    overwritten-skip (f z) (flat_map f xs) k (c * i) (f y) (step c i k e ∙ ap (λ j. j + c * i) (sym first)) ∙ ap (λ (l : List ℕ). f z ++ l) (write_piece f c xs i (c * i) x y all.1 at new refl)

-- Reading

pub entry_sizes : (es : List CatEntry) → AllByRecursion IsEntry es → AllByRecursion (λ e. length (entry_bytes e) ≡ 64) es
entry_sizes [] all = tt
entry_sizes (e ∷ es) all = (entry_length e all.0, entry_sizes es all.1)
