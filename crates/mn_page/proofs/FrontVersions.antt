-- A set of versions of which the first bytes are known: with zeros behind them it has the fewest.
use Rattle.std.proofs.Common.{◌≡◌, ℕ, zero, suc, ◌+◌, ◌-◌, ◌*◌, ◌/◌, ◌%◌, ◌<◌, ◌≤◌, ◌^◌, Bool, true, false, ◌&&◌, List, [], ◌∷◌, ◌++◌, length, drop, get_or, filter, replicate, refl, sym, ap, ◌∙◌, subst, arith, cond, append-nil, length-append}
use Rattle.std.specs.Prelude.{nat_eq, nat_lt}
use Rattle.std.specs.List.{list_all, range_with_len}
use Rattle.std.specs.Int.{bit_at, byte_at}
use Rattle.std.proofs.lemmas.Bool.Decides.{nat_tests}
use Rattle.std.proofs.lemmas.List.{length-replicate}
use Rattle.std.proofs.lemmas.Nat.{pow-add}
use Rattle.std.proofs.lemmas.Nat.Bits.{bit_at-zero, bit_at_above}
use Rattle.std.proofs.Math.Nat.{div-div-eq-div-mul, div-one}
use Rattle.byteorder.specs.Endian.{big_bytes}
use Rattle.mn_base.specs.Tree.{has_version}
use Rattle.mn_base.proofs.Naturals.{lt_from}
use Rattle.mn_base.proofs.Booleans.{clash}
use Rattle.mn_page.specs.Reading.{AreVersions, Begins, are_above, eight, versions_text}
use Rattle.mn_page.specs.PageFronts.{Judged}
use Rattle.mn_page.proofs.KeyRoom.{filled_small}
use Rattle.mn_page.proofs.EntryFronts.{number_of}
use Rattle.mn_page.proofs.FrontFields.{front_of, long_none}

-- Bits of bytes

pow_256 : (k : ℕ) → 2 ^ (8 * k) ≡ 256 ^ k
pow_256 zero = refl
pow_256 (suc k) =
    let one : 8 * suc k ≡ 8 * k + 8 = omega arith in
    let next : suc k ≡ k + 1 = omega arith in
    ap (λ (n : ℕ). 2 ^ n) one ∙ (pow-add 2 (8 * k) 8 ∙ (ap (λ (n : ℕ). n * 256) (pow_256 k) ∙ (sym (pow-add 256 k 1) ∙ ap (λ (n : ℕ). 256 ^ n) (sym next))))

byte_is : (k n : ℕ) → byte_at k n ≡ n / 256 ^ k % 256
byte_is zero n = ap (λ (m : ℕ). m % 256) (sym (div-one n))
byte_is (suc k) n = refl

low_bit : (j m : ℕ) → j < 8 → m / 2 ^ j % 2 ≡ m % 256 / 2 ^ j % 2
low_bit zero m h = omega arith
low_bit (suc zero) m h = omega arith
low_bit (suc (suc zero)) m h = omega arith
low_bit (suc (suc (suc zero))) m h = omega arith
low_bit (suc (suc (suc (suc zero)))) m h = omega arith
low_bit (suc (suc (suc (suc (suc zero))))) m h = omega arith
low_bit (suc (suc (suc (suc (suc (suc zero)))))) m h = omega arith
low_bit (suc (suc (suc (suc (suc (suc (suc zero))))))) m h = omega arith
low_bit (suc (suc (suc (suc (suc (suc (suc (suc j)))))))) m h = absurd (omega arith)

-- a bit is that of its byte
bit_of_byte : (k j n : ℕ) → j < 8 → bit_at n (8 * k + j) ≡ bit_at (byte_at k n) j
bit_of_byte k j n h =
    ap (λ (p : ℕ). n / p % 2) (pow-add 2 (8 * k) j ∙ ap (λ (p : ℕ). p * 2 ^ j) (pow_256 k))
    ∙ (ap (λ (q : ℕ). q % 2) (sym (div-div-eq-div-mul n (256 ^ k) (2 ^ j)))
    ∙ (low_bit j (n / 256 ^ k) h ∙ ap (λ (b : ℕ). b / 2 ^ j % 2) (sym (byte_is k n))))

at_least : (a b : ℕ) → nat_lt a b ≡ false → b ≤ a
at_least a b e = grind (arith, nat_tests)

-- in the highest byte
high_bit : (k a b w : ℕ) → 8 * k ≤ w → w < 8 * suc k → (bit_at (byte_at k a) (w - 8 * k) ≡ 1 → bit_at (byte_at k b) (w - 8 * k) ≡ 1) → bit_at a w ≡ 1 → bit_at b w ≡ 1
high_bit k a b w low top same one =
    let at : w ≡ 8 * k + (w - 8 * k) = omega arith in
    let small : w - 8 * k < 8 = omega arith in
    ap (bit_at b) at ∙ (bit_of_byte k (w - 8 * k) b small ∙ same (sym (bit_of_byte k (w - 8 * k) a small) ∙ (sym (ap (bit_at a) at) ∙ one)))

-- with zeros behind the same bytes a number has no other bits
bits_kept : (k a b w : ℕ) (cs r : List ℕ) → big_bytes k a ≡ cs ++ replicate (k - length cs) 0 → big_bytes k b ≡ cs ++ r → w < 8 * k → bit_at a w ≡ 1 → bit_at b w ≡ 1
bits_kept zero a b w cs r e f h one = absurd (omega arith)
bits_kept (suc k) a b w [] r e f h one = by_order (λ low. bits_kept k a b w [] (drop 1 r) rest (ap (drop 1) f) low one) (nat_lt w (8 * k)) refl
  where
    all : byte_at k a ∷ big_bytes k a ≡ 0 ∷ replicate k 0
    all = e ∙ ap (λ (n : ℕ). replicate n 0) (whole (suc k))
      where
        whole : (n : ℕ) → n - 0 ≡ n
        whole n = omega arith

    none : byte_at k a ≡ 0
    none = ap (λ (l : List ℕ). get_or l 0 0) all

    rest : big_bytes k a ≡ replicate (k - 0) 0
    rest = ap (drop 1) all ∙ ap (λ (n : ℕ). replicate n 0) (whole k)
      where
        whole : (n : ℕ) → n ≡ n - 0
        whole n = omega arith

    zero_one : (j : ℕ) → bit_at (byte_at k a) j ≡ 1 → bit_at (byte_at k b) j ≡ 1
    zero_one j g = let no : bit_at 0 j ≡ 1 = sym (ap (λ (m : ℕ). bit_at m j) none) ∙ g in let is = bit_at-zero j in absurd (omega (arith, no, is))

    by_order : (w < 8 * k → bit_at b w ≡ 1) → (t : Bool) → nat_lt w (8 * k) ≡ t → bit_at b w ≡ 1
    by_order low true g = low (lt_from w (8 * k) g)
    by_order low false g = high_bit k a b w (at_least w (8 * k) g) h (zero_one (w - 8 * k)) one
bits_kept (suc k) a b w (c ∷ cs) r e f h one = by_order (λ low. bits_kept k a b w cs r rest (ap (drop 1) f) low one) (nat_lt w (8 * k)) refl
  where
    same : byte_at k a ≡ byte_at k b
    same = ap (λ (l : List ℕ). get_or l 0 0) e ∙ sym (ap (λ (l : List ℕ). get_or l 0 0) f)

    rest : big_bytes k a ≡ cs ++ replicate (k - length cs) 0
    rest = ap (drop 1) e ∙ ap (λ (n : ℕ). cs ++ replicate n 0) (one_less k (length cs))
      where
        one_less : (n m : ℕ) → suc n - suc m ≡ n - m
        one_less n m = omega arith

    by_order : (w < 8 * k → bit_at b w ≡ 1) → (t : Bool) → nat_lt w (8 * k) ≡ t → bit_at b w ≡ 1
    by_order low true g = low (lt_from w (8 * k) g)
    by_order low false g = high_bit k a b w (at_least w (8 * k) g) h (λ x. sym (ap (λ (m : ℕ). bit_at m (w - 8 * k)) same) ∙ x) one

-- Sets

fewer : (p has more : ℕ → Bool) → ((w : ℕ) → has w ≡ true → more w ≡ true) → (ws : List ℕ) → list_all p (filter more ws) ≡ true → list_all p (filter has ws) ≡ true
fewer p has more within [] h = refl
fewer p has more within (w ∷ ws) h = by_both (has w) (more w) (within w) (filter has ws) (filter more ws) (fewer p has more within ws) h
  where
    both : (s t : Bool) → s ≡ true → t ≡ true → (s && t) ≡ true
    both true t e f = f
    both false t e f = e

    left_true : (s t : Bool) → (s && t) ≡ true → s ≡ true
    left_true true t e = refl
    left_true false t e = e

    right_true : (s t : Bool) → (s && t) ≡ true → t ≡ true
    right_true true t e = e
    right_true false t e = absurd cc

    by_both : (s t : Bool) → (s ≡ true → t ≡ true) → (few many : List ℕ) → (list_all p many ≡ true → list_all p few ≡ true) → list_all p (cond t (w ∷ many) many) ≡ true → list_all p (cond s (w ∷ few) few) ≡ true
    by_both true true in' few many rest h = both (p w) (list_all p few) (left_true (p w) (list_all p many) h) (rest (right_true (p w) (list_all p many) h))
    by_both true false in' few many rest h = absurd (clash false (in' refl) refl)
    by_both false true in' few many rest h = rest (right_true (p w) (list_all p many) h)
    by_both false false in' few many rest h = rest h

has_bit : (n w : ℕ) → has_version n w ≡ true → bit_at n w ≡ 1
has_bit n w e = is_one (bit_at n w) e
  where
    is_one : (m : ℕ) → nat_eq m 1 ≡ true → m ≡ 1
    is_one m e = grind (arith, nat_tests)

bit_has : (n w : ℕ) → bit_at n w ≡ 1 → has_version n w ≡ true
bit_has n w e = ap (λ (m : ℕ). nat_eq m 1) e

above_kept : (made a b : ℕ) (cs r : List ℕ) → a < 2 ^ 64 → big_bytes 8 a ≡ cs ++ replicate (8 - length cs) 0 → big_bytes 8 b ≡ cs ++ r → are_above made b ≡ true → are_above made a ≡ true
unfolding are_above
above_kept made a b cs r top e f h = fewer (nat_lt made) (has_version a) (has_version b) (λ w is. by_order w is (nat_lt w 64) refl) (range_with_len 0 64) h
  where
    by_order : (w : ℕ) → has_version a w ≡ true → (t : Bool) → nat_lt w 64 ≡ t → has_version b w ≡ true
    by_order w is true g = bit_has b w (bits_kept 8 a b w cs r e f (lt_from w 64 g) (has_bit a w is))
    by_order w is false g = let none = bit_at_above a 64 w top (at_least w 64 g) in let one = has_bit a w is in absurd (omega (arith, none, one))

-- A number of eight bytes

number_from : (bs : List ℕ) → length bs ≡ 8 → list_all (λ b. nat_lt b 256) bs ≡ true → (n : ℕ) × (n < 2 ^ 64) × (big_bytes 8 n ≡ bs)
number_from (a ∷ (b ∷ (c ∷ (d ∷ (e ∷ (f ∷ (g ∷ (h ∷ [])))))))) l s = number_of a b c d e f g h s
number_from (a ∷ (b ∷ (c ∷ (d ∷ (e ∷ (f ∷ (g ∷ (h ∷ (i ∷ more))))))))) l s = absurd (omega (arith, l))
number_from bs l s = absurd (omega (arith, l))

right_small : (b : ℕ) (bs : List ℕ) → list_all (λ x. nat_lt x 256) (b ∷ bs) ≡ true → list_all (λ x. nat_lt x 256) bs ≡ true
right_small b bs s = right_true (nat_lt b 256) _ s
  where
    right_true : (s t : Bool) → (s && t) ≡ true → t ≡ true
    right_true true t e = e
    right_true false t e = absurd cc

-- where some versions go on from the bytes, zeros do
pub with_zeros : (bytes r : List ℕ) (x : ℕ × ℕ) → length bytes ≤ 9 → list_all (λ b. nat_lt b 256) bytes ≡ true → AreVersions x → versions_text x ≡ bytes ++ r
    → (y : ℕ × ℕ) × AreVersions y × (versions_text y ≡ bytes ++ replicate (9 - length bytes) 0)
unfolding eight are_above
with_zeros [] r x l s is e = ((0, 0), (omega arith, omega arith, refl), refl)
with_zeros (m ∷ cs) r x l s is e =
    let zeros : List ℕ = replicate (8 - length cs) 0 in
    let both = length-append cs zeros in
    let count : length {A = ℕ} zeros ≡ 8 - length cs = length-replicate (8 - length cs) 0 in
    let n = number_from (cs ++ zeros) (omega (arith, both, count, l)) (filled_small cs (8 - length cs) (right_small m cs s)) in
    let made : x.0 ≡ m = ap (λ (l : List ℕ). get_or l 0 0) e in
    let copied : big_bytes 8 x.1 ≡ cs ++ r = ap (drop 1) e in (
      (m, n.0),
      (subst (λ (k : ℕ). k < 64) made is.0, n.1, subst (λ (k : ℕ). are_above k n.0 ≡ true) made (above_kept x.0 n.0 x.1 cs r n.1 n.2 copied is.2)),
      ap (λ (l : List ℕ). m ∷ l) (n.2 ∙ ap (λ (k : ℕ). cs ++ replicate k 0) (one_less (length cs))),
    )
  where
    one_less : (k : ℕ) → 8 - k ≡ 9 - suc k
    one_less k = omega arith

text_length : (x : ℕ × ℕ) → length (versions_text x) ≡ 9
unfolding eight
text_length x = refl

no_rest : (v : ℕ × ℕ) (whole rest : List ℕ) → length whole ≡ 9 → whole ≡ versions_text v ++ rest → whole ≡ versions_text v
no_rest v whole [] l e = e ∙ append-nil (versions_text v)
no_rest v whole (b ∷ rest) l e = let both = ap (λ (x : List ℕ). length x) e ∙ length-append (versions_text v) (b ∷ rest) in let nine = text_length v in absurd (omega (arith, both, nine, l))

padded_length : (bytes : List ℕ) → length bytes ≤ 9 → length (bytes ++ replicate (9 - length bytes) 0) ≡ 9
padded_length bytes l =
    let zeros : List ℕ = replicate (9 - length bytes) 0 in
    let both = length-append bytes zeros in
    let count : length {A = ℕ} zeros ≡ 9 - length bytes = length-replicate (9 - length bytes) 0 in
    omega (arith, both, count, l)

pub versions_yes : (bytes whole rest : List ℕ) (v : ℕ × ℕ) → length bytes ≤ 9 → whole ≡ bytes ++ replicate (9 - length bytes) 0 → Begins AreVersions versions_text whole v rest → Judged AreVersions versions_text bytes true
versions_yes bytes whole rest v l e b = (v, replicate (9 - length bytes) 0, b.may, sym (no_rest v whole rest (ap (λ (x : List ℕ). length x) e ∙ padded_length bytes l) b.spelled) ∙ e)

pub versions_no : (bytes whole : List ℕ) → length bytes ≤ 9 → list_all (λ b. nat_lt b 256) bytes ≡ true → whole ≡ bytes ++ replicate (9 - length bytes) 0
    → ((v : ℕ × ℕ) (more : List ℕ) → AreVersions v → whole ≡ versions_text v ++ more → ⊥) → Judged AreVersions versions_text bytes false
versions_no bytes whole l s e none = λ x tail more is f.
    let nine = text_length x in
    let r = front_of bytes (versions_text x) tail more (omega (arith, nine, l)) f in
    let y = with_zeros bytes r.0 x l s is r.1 in
    none y.0 [] y.1 (e ∙ (sym y.2 ∙ sym (append-nil (versions_text y.0))))

pub versions_long : (bytes : List ℕ) → 9 ≤ length bytes → ((v : ℕ × ℕ) (more : List ℕ) → AreVersions v → bytes ≡ versions_text v ++ more → ⊥) → Judged AreVersions versions_text bytes false
versions_long bytes l none = long_none AreVersions versions_text bytes (λ x. let nine = text_length x in omega (arith, nine, l)) none

pub not_less : (n : ℕ) → 9 ≤ n → nat_lt n 9 ≡ false
not_less n h = grind (arith, nat_tests)
