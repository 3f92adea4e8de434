-- The order of bytes, of which four are read as one number.
use Rattle.std.proofs.Common.{◌≡◌, true, false, true≢false, ℕ, zero, suc, ◌+◌, ◌*◌, ◌<◌, ◌≤◌, List, [], ◌∷◌, length, get_or, drop, min, refl, ap, sym, ◌∙◌, arith, below_more}
use Rattle.std.proofs.Math.Seq.{drop-cons}
use Rattle.std.specs.declared.cmp.Ordering.{Ordering}
use Rattle.std.specs.declared.cmp.Ordering.TheVariants.{Less, Equal, Greater}
use Rattle.std.specs.Ordering.{nat_cmp, ordering_then, MatchOrdering, is_ne}
use Rattle.std.specs.Cmp.{ranks, nat_cmp_is}
use Rattle.std.proofs.lemmas.Cmp.{ranked}
use Rattle.mn_base.specs.Order.{key_cmp, word_at}

-- the first n bytes are alike
abbrev pub AreAlike : ℕ → List ℕ → List ℕ → Type 0
AreAlike n a b = (k : ℕ) → k < n → get_or a k 0 ≡ get_or b k 0

abbrev pub AreBytes : List ℕ → Type 0
AreBytes a = (k : ℕ) → get_or a k 0 < 256

same_first : (x y : ℕ) (r : Ordering) → x ≡ y → ordering_then (nat_cmp x y) r ≡ r
same_first x y r e = ap (λ (o : Ordering). ordering_then o r) (sym (nat_cmp_is x y Equal e))

past : (n : ℕ) (a b : List ℕ) → n ≤ length a → n ≤ length b → AreAlike n a b → key_cmp a b ≡ key_cmp (drop n a) (drop n b)
past zero a b p q h = refl
past (suc n) [] b p q h = absurd (omega arith)
past (suc n) (x ∷ a) [] p q h = absurd (omega arith)
past (suc n) (x ∷ a) (y ∷ b) p q h =
    same_first x y (key_cmp a b) (h 0 (omega arith)) ∙ past n a b (omega arith) (omega arith) (λ k l. h (suc k) (omega arith))

decided : (r o : Ordering) → is_ne r ≡ true → ordering_then r o ≡ r
decided Less o e = refl
decided Equal o e = absurd (true≢false (sym e))
decided Greater o e = refl

settled : (r s o p : Ordering) → p ≡ ordering_then s o → r ≡ s → is_ne r ≡ true → r ≡ p
settled r s o p whole e unequal = e ∙ sym (whole ∙ ap (λ (t : Ordering). ordering_then t o) (sym e) ∙ decided r o unequal ∙ e)

pub undecided : (x y : ℕ) (r : Ordering) → r ≡ nat_cmp x y → is_ne r ≡ false → x ≡ y
undecided x y Less e equal = absurd (true≢false equal)
undecided x y Equal e equal = ranked x y Equal e
undecided x y Greater e equal = absurd (true≢false equal)

then_then : (p q r : Ordering) → ordering_then (ordering_then p q) r ≡ ordering_then p (ordering_then q r)
then_then Less q r = refl
then_then Equal q r = refl
then_then Greater q r = refl

-- z and w lie as x and y do
lie_alike : (x y z w : ℕ) → (x < y → z < w) → (x ≡ y → z ≡ w) → (y < x → w < z) → nat_cmp z w ≡ nat_cmp x y
lie_alike x y z w less same more = sym (nat_cmp_is z w (nat_cmp x y) (by (nat_cmp x y) (ranks x y)))
  where
    by : (r : Ordering) → MatchOrdering r (x < y) (x ≡ y) (y < x) → MatchOrdering r (z < w) (z ≡ w) (w < z)
    by Less l = less l
    by Equal l = same l
    by Greater l = more l

-- a number with one more byte
more_byte : (x y u v : ℕ) → u < 256 → v < 256 → nat_cmp (x * 256 + u) (y * 256 + v) ≡ ordering_then (nat_cmp x y) (nat_cmp u v)
more_byte x y u v p q = by (nat_cmp x y) (ranks x y)
  where
    by : (r : Ordering) → MatchOrdering r (x < y) (x ≡ y) (y < x) → nat_cmp (x * 256 + u) (y * 256 + v) ≡ ordering_then r (nat_cmp u v)
    by Less l = let less : x < y = l in sym (nat_cmp_is (x * 256 + u) (y * 256 + v) Less (omega arith))
    by Equal l =
        let same : x ≡ y = l in
        lie_alike u v (x * 256 + u) (y * 256 + v) (λ h. omega arith) (λ h. omega arith) (λ h. omega arith)
    by Greater l = let more : y < x = l in sym (nat_cmp_is (x * 256 + u) (y * 256 + v) Greater (omega arith))

module _ (a0 a1 a2 a3 b0 b1 b2 b3 : ℕ) (p1 : a1 < 256) (p2 : a2 < 256) (p3 : a3 < 256) (q1 : b1 < 256) (q2 : b2 < 256) (q3 : b3 < 256) where
  four_bytes : nat_cmp (((a0 * 256 + a1) * 256 + a2) * 256 + a3) (((b0 * 256 + b1) * 256 + b2) * 256 + b3)
      ≡ ordering_then (ordering_then (ordering_then (nat_cmp a0 b0) (nat_cmp a1 b1)) (nat_cmp a2 b2)) (nat_cmp a3 b3)
  four_bytes =
      more_byte ((a0 * 256 + a1) * 256 + a2) ((b0 * 256 + b1) * 256 + b2) a3 b3 p3 q3
      ∙ ap (λ (o : Ordering). ordering_then o (nat_cmp a3 b3))
      (more_byte (a0 * 256 + a1) (b0 * 256 + b1) a2 b2 p2 q2 ∙ ap (λ (o : Ordering). ordering_then o (nat_cmp a2 b2)) (more_byte a0 b0 a1 b1 p1 q1))

  four_first : (a b : List ℕ) → ordering_then (nat_cmp (((a0 * 256 + a1) * 256 + a2) * 256 + a3) (((b0 * 256 + b1) * 256 + b2) * 256 + b3)) (key_cmp a b)
      ≡ key_cmp (a0 ∷ a1 ∷ a2 ∷ a3 ∷ a) (b0 ∷ b1 ∷ b2 ∷ b3 ∷ b)
  four_first a b =
      let first : Ordering = nat_cmp a0 b0 in
      let second : Ordering = nat_cmp a1 b1 in
      let third : Ordering = nat_cmp a2 b2 in
      let fourth : Ordering = nat_cmp a3 b3 in
      ap (λ (o : Ordering). ordering_then o (key_cmp a b)) four_bytes
      ∙ then_then (ordering_then (ordering_then first second) third) fourth (key_cmp a b)
      ∙ then_then (ordering_then first second) third (ordering_then fourth (key_cmp a b))
      ∙ then_then first second (ordering_then third (ordering_then fourth (key_cmp a b)))

next : (a : List ℕ) (j k : ℕ) → j < length a → k ≡ j + 1 → drop j a ≡ get_or a j 0 ∷ drop k a
next a j k lt e = let at : suc j ≡ k = omega arith in drop-cons a j 0 lt ∙ ap (λ (m : ℕ). get_or a j 0 ∷ drop m a) at

four_at : (a : List ℕ) (i : ℕ) → i + 4 ≤ length a → drop i a ≡ get_or a i 0 ∷ get_or a (i + 1) 0 ∷ get_or a (i + 2) 0 ∷ get_or a (i + 3) 0 ∷ drop (i + 4) a
four_at a i fits =
    next a i (i + 1) (omega arith) (omega arith)
    ∙ ap (λ (l : List ℕ). get_or a i 0 ∷ l) (next a (i + 1) (i + 2) (omega arith) (omega arith)
    ∙ ap (λ (l : List ℕ). get_or a (i + 1) 0 ∷ l) (next a (i + 2) (i + 3) (omega arith) (omega arith)
    ∙ ap (λ (l : List ℕ). get_or a (i + 2) 0 ∷ l) (next a (i + 3) (i + 4) (omega arith) (omega arith))))

module _ (a b : List ℕ) where
  -- the bytes at i settle the order where they are the first that differ
  pub byte_settles : (i : ℕ) (r : Ordering) → i < length a → i < length b → AreAlike i a b → r ≡ nat_cmp (get_or a i 0) (get_or b i 0) → is_ne r ≡ true → r ≡ key_cmp a b
  byte_settles i r p q h e unequal =
      settled r (nat_cmp (get_or a i 0) (get_or b i 0)) (key_cmp (drop (i + 1) a) (drop (i + 1) b)) (key_cmp a b)
      (past i a b (omega arith) (omega arith) h ∙ (λ t. key_cmp (next a i (i + 1) p refl t) (next b i (i + 1) q refl t))) e unequal

  word_first : (i : ℕ) → AreBytes a → AreBytes b → i + 4 ≤ length a → i + 4 ≤ length b → AreAlike i a b
      → key_cmp a b ≡ ordering_then (nat_cmp (word_at a i) (word_at b i)) (key_cmp (drop (i + 4) a) (drop (i + 4) b))
  word_first i f g p q h =
      past i a b (omega arith) (omega arith) h
      ∙ (λ t. key_cmp (four_at a i p t) (four_at b i q t))
      ∙ sym (four_first (get_or a i 0) (get_or a (i + 1) 0) (get_or a (i + 2) 0) (get_or a (i + 3) 0) (get_or b i 0) (get_or b (i + 1) 0) (get_or b (i + 2) 0) (get_or b (i + 3) 0)
      (f (i + 1)) (f (i + 2)) (f (i + 3)) (g (i + 1)) (g (i + 2)) (g (i + 3)) (drop (i + 4) a) (drop (i + 4) b))

  -- the words at i settle the order where they differ and what is before them does not
  pub word_settles : (i : ℕ) (r : Ordering) → AreBytes a → AreBytes b → i + 4 ≤ length a → i + 4 ≤ length b → AreAlike i a b
      → r ≡ nat_cmp (word_at a i) (word_at b i) → is_ne r ≡ true → r ≡ key_cmp a b
  word_settles i r f g p q h e unequal =
      settled r (nat_cmp (word_at a i) (word_at b i)) (key_cmp (drop (i + 4) a) (drop (i + 4) b)) (key_cmp a b) (word_first i f g p q h) e unequal

  pub fewer : (i j : ℕ) → i ≤ j → AreAlike j a b → AreAlike i a b
  fewer i j le h k l = h k (omega arith)

  one_more : (i j : ℕ) → j ≡ i + 1 → AreAlike i a b → get_or a i 0 ≡ get_or b i 0 → AreAlike j a b
  one_more i j e h here k l = below_more (λ (m : ℕ). get_or a m 0 ≡ get_or b m 0) i h here k (omega arith)

  pub four_more : (i : ℕ) → AreBytes a → AreBytes b → word_at a i ≡ word_at b i → AreAlike i a b → AreAlike (i + 4) a b
  four_more i f g e h =
      let a1 = f (i + 1) in
      let a2 = f (i + 2) in
      let a3 = f (i + 3) in
      let b1 = g (i + 1) in
      let b2 = g (i + 2) in
      let b3 = g (i + 3) in
      let first : get_or a i 0 ≡ get_or b i 0 = omega arith in
      let second : get_or a (i + 1) 0 ≡ get_or b (i + 1) 0 = omega arith in
      let third : get_or a (i + 2) 0 ≡ get_or b (i + 2) 0 = omega arith in
      let fourth : get_or a (i + 3) 0 ≡ get_or b (i + 3) 0 = omega arith in
      one_more (i + 3) (i + 4) (omega arith) (one_more (i + 2) (i + 3) (omega arith)
      (one_more (i + 1) (i + 2) (omega arith) (one_more i (i + 1) refl h first) second) third) fourth

one_longer : (n m : ℕ) → nat_cmp (suc n) (suc m) ≡ nat_cmp n m
one_longer n m = lie_alike n m (suc n) (suc m) (λ h. omega arith) (λ h. omega arith) (λ h. omega arith)

ended : (n : ℕ) (a b : List ℕ) → n ≡ min (length a) (length b) → key_cmp (drop n a) (drop n b) ≡ nat_cmp (length a) (length b)
ended zero [] [] e = refl
ended zero [] (y ∷ b) e = nat_cmp_is 0 (length (y ∷ b)) Less (omega arith)
ended zero (x ∷ a) [] e = nat_cmp_is (length (x ∷ a)) 0 Greater (omega arith)
ended zero (x ∷ a) (y ∷ b) e = absurd (omega arith)
ended (suc n) [] b e = absurd (omega arith)
ended (suc n) (x ∷ a) [] e = absurd (omega arith)
ended (suc n) (x ∷ a) (y ∷ b) e = ended n a b (omega arith) ∙ sym (one_longer (length a) (length b))

-- where the shorter is a prefix, the lengths decide
pub by_lengths : (n : ℕ) (a b : List ℕ) → n ≡ min (length a) (length b) → AreAlike n a b → key_cmp a b ≡ nat_cmp (length a) (length b)
by_lengths n a b e h = past n a b (omega arith) (omega arith) h ∙ ended n a b e
