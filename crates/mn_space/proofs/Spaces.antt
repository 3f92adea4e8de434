-- Bytes in a range and bytes put over a range, where the zeros at the end of a space aren't kept.
use Rattle.std.proofs.Common.{◌≡◌, ◌≤◌, ◌<◌, ◌+◌, ◌-◌, ℕ, zero, suc, min, max, Bool, true, false, ◌&&◌, nat_eq, List, [], ◌∷◌, ◌++◌, length, take, drop, replicate, refl, sym, ap, ◌∙◌, arith}
use Rattle.std.specs.Prelude.{bytes_eq, nat_le}
use Rattle.std.specs.List.{list_all}
use Rattle.std.specs.Cmp.Lexicographic.{pointwise}
use Rattle.std.proofs.lemmas.Bool.Decides.{nat_tests}
use Rattle.std.proofs.lemmas.Cmp.{nat_eq_equiv}
use Rattle.std.proofs.Math.Seq.{drop-append-add, take-append-add}
use Rattle.std.proofs.lemmas.List.{append-nil, append_assoc, drop-append-le, drop-replicate, length-append, length-drop, length-replicate, length-take-le, replicate-append-replicate, take-append-le, take-replicate, take_all}
use Rattle.mn_mini.specs.Flat.{bytes_in, overwritten}
use Rattle.mn_page.specs.Grammar.{padded}

pub padded_long : (bytes : List ℕ) (size : ℕ) → length bytes ≤ size → length (padded size bytes) ≡ size
padded_long bytes size short =
    let long = length-append bytes (replicate (size - length bytes) 0) in
    let zeros : length {A = ℕ} (replicate (size - length bytes) 0) ≡ size - length bytes = length-replicate (size - length bytes) 0 in
    omega (arith, long, zeros, short)

-- A range

module _ (kept : List ℕ) (n start count : ℕ) (within : start + count ≤ length kept + n) where
  -- it is kept
  kept_whole : start + count ≤ length kept → padded count (take (start + count - start) (drop start kept)) ≡ bytes_in (kept ++ replicate n 0) start count
  kept_whole le =
      let same : start + count - start ≡ count = omega arith in
      let long : length (take count (drop start kept)) ≡ count = length-take-le count (drop start kept) (omega (arith, length-drop start kept, le)) in
      let none : count - length (take count (drop start kept)) ≡ 0 = omega (arith, long) in
      ap (λ (m : ℕ). padded count (take m (drop start kept))) same
      ∙ ap (λ (m : ℕ). take count (drop start kept) ++ replicate m 0) none
      ∙ append-nil (take count (drop start kept))
      ∙ sym (take-append-le count (drop start kept) (replicate n 0) (omega (arith, length-drop start kept, le)))
      ∙ ap (λ (l : List ℕ). take count l) (sym (drop-append-le start kept (replicate n 0) (omega (arith, le))))

  -- its front is kept
  kept_front : start ≤ length kept → length kept < start + count → padded count (take (length kept - start) (drop start kept)) ≡ bytes_in (kept ++ replicate n 0) start count
  kept_front le lt =
      let long = length-drop start kept in
      let all : take (length kept - start) (drop start kept) ≡ drop start kept = take_all (length kept - start) (drop start kept) (omega (arith, long)) in
      let sum : length (drop start kept) + (count - length (drop start kept)) ≡ count = omega (arith, long, le, lt) in
      ap (λ (l : List ℕ). padded count l) all
      ∙ ap (λ (l : List ℕ). drop start kept ++ l) (sym (take-replicate (count - length (drop start kept)) n 0 (omega (arith, long, le, within))))
      ∙ sym (take-append-add (drop start kept) (replicate n 0) (count - length (drop start kept)))
      ∙ ap (λ (m : ℕ). take m (drop start kept ++ replicate n 0)) sum
      ∙ ap (λ (l : List ℕ). take count l) (sym (drop-append-le start kept (replicate n 0) le))

  -- none of it is kept
  kept_none : length kept < start → padded count (take (length kept - length kept) (drop (length kept) kept)) ≡ bytes_in (kept ++ replicate n 0) start count
  kept_none lt =
      let zero : length kept - length kept ≡ 0 = omega arith in
      let behind : length kept + (start - length kept) ≡ start = omega (arith, lt) in
      let all : count - 0 ≡ count = omega arith in
      ap (λ (m : ℕ). padded count (take m (drop (length kept) kept))) zero
      ∙ ap (λ (m : ℕ). replicate m 0) all
      ∙ sym (take-replicate count (n - (start - length kept)) 0 (omega (arith, lt, within)))
      ∙ ap (λ (l : List ℕ). take count l) (sym (drop-replicate (start - length kept) n 0) ∙ sym (drop-append-add kept (replicate n 0) (start - length kept)) ∙ ap (λ (m : ℕ). drop m (kept ++ replicate n 0)) behind)

  -- what is kept of it, and zeros, are its bytes
  pub kept_is : padded count (take (min (length kept) (start + count) - min (length kept) start) (drop (min (length kept) start) kept)) ≡ bytes_in (kept ++ replicate n 0) start count
  kept_is = by (nat_le start (length kept)) (nat_le (start + count) (length kept)) refl refl
    where
      parts : (from to : ℕ) → min (length kept) start ≡ from → min (length kept) (start + count) ≡ to
          → padded count (take (min (length kept) (start + count) - min (length kept) start) (drop (min (length kept) start) kept)) ≡ padded count (take (to - from) (drop from kept))
      parts from to e f = ap (λ (m : ℕ). padded count (take (m - min (length kept) start) (drop (min (length kept) start) kept))) f ∙ ap (λ (m : ℕ). padded count (take (to - m) (drop m kept))) e

      by : (b d : Bool) → nat_le start (length kept) ≡ b → nat_le (start + count) (length kept) ≡ d
          → padded count (take (min (length kept) (start + count) - min (length kept) start) (drop (min (length kept) start) kept)) ≡ bytes_in (kept ++ replicate n 0) start count
      by true true b d = parts start (start + count) (grind (arith, nat_tests, b)) (grind (arith, nat_tests, d)) ∙ kept_whole (grind (arith, nat_tests, d))
      by true false b d = parts start (length kept) (grind (arith, nat_tests, b)) (grind (arith, nat_tests, d)) ∙ kept_front (grind (arith, nat_tests, b)) (grind (arith, nat_tests, d))
      by false d b e = parts (length kept) (length kept) (grind (arith, nat_tests, b)) (grind (arith, nat_tests, b)) ∙ kept_none (grind (arith, nat_tests, b))

-- Bytes put over a range

pub overwritten-inside : (space : List ℕ) (start : ℕ) (bytes : List ℕ) → start + length bytes ≤ length space
    → overwritten space start bytes ≡ take start space ++ (bytes ++ drop (start + length bytes) space)
overwritten-inside [] zero [] within = refl
overwritten-inside [] zero (b ∷ bytes) within = absurd (grind arith)
overwritten-inside [] (suc start) bytes within = absurd (grind arith)
overwritten-inside (x ∷ space) zero [] within = refl
overwritten-inside (x ∷ space) zero (b ∷ bytes) within =
    let rest = overwritten-inside space zero bytes (grind arith) in
    let further : suc (zero + length bytes) ≡ zero + length (b ∷ bytes) = omega arith in
    ap (λ (s : List ℕ). b ∷ s) rest ∙ ap (λ (n : ℕ). b ∷ (bytes ++ drop n (x ∷ space))) further
overwritten-inside (x ∷ space) (suc start) bytes within =
    let rest = overwritten-inside space start bytes (grind arith) in
    let further : suc (start + length bytes) ≡ suc start + length bytes = omega arith in
    ap (λ (s : List ℕ). x ∷ s) rest ∙ ap (λ (n : ℕ). x ∷ (take start space ++ (bytes ++ drop n (x ∷ space)))) further

overwritten_before : (front back : List ℕ) (start : ℕ) (bytes : List ℕ) → start + length bytes ≤ length front → overwritten (front ++ back) start bytes ≡ overwritten front start bytes ++ back
overwritten_before [] [] zero [] within = refl
overwritten_before [] (y ∷ back) zero [] within = refl
overwritten_before [] back zero (b ∷ bytes) within = absurd (grind arith)
overwritten_before [] back (suc start) bytes within = absurd (grind arith)
overwritten_before (x ∷ front) back zero [] within = refl
overwritten_before (x ∷ front) back zero (b ∷ bytes) within = ap (λ (l : List ℕ). b ∷ l) (overwritten_before front back zero bytes (omega arith))
overwritten_before (x ∷ front) back (suc start) bytes within = ap (λ (l : List ℕ). x ∷ l) (overwritten_before front back start bytes (omega arith))

pub overwritten_long : (space : List ℕ) (start : ℕ) (bytes : List ℕ) → length (overwritten space start bytes) ≡ length space
overwritten_long [] start bytes = refl
overwritten_long (x ∷ space) zero [] = refl
overwritten_long (x ∷ space) zero (b ∷ bytes) = ap (λ (n : ℕ). suc n) (overwritten_long space zero bytes)
overwritten_long (x ∷ space) (suc start) bytes = ap (λ (n : ℕ). suc n) (overwritten_long space start bytes)

-- over what is kept
pub put_kept : (kept new : List ℕ) (size start : ℕ) (bytes : List ℕ) → start + length bytes ≤ length kept → new ≡ overwritten kept start bytes → padded size new ≡ overwritten (padded size kept) start bytes
put_kept kept new size start bytes within is =
    ap (λ (l : List ℕ). padded size l) is
    ∙ ap (λ (n : ℕ). overwritten kept start bytes ++ replicate (size - n) 0) (overwritten_long kept start bytes)
    ∙ sym (overwritten_before kept (replicate (size - length kept) 0) start bytes within)

-- more zeros are kept
kept_longer : (kept : List ℕ) (size more : ℕ) → length kept + more ≤ size → padded size (kept ++ replicate more 0) ≡ padded size kept
kept_longer kept size more within =
    let long = length-append kept (replicate more 0) in
    let zeros : length {A = ℕ} (replicate more 0) ≡ more = length-replicate more 0 in
    let left : more + (size - length (kept ++ replicate more 0)) ≡ size - length kept = omega (arith, long, zeros, within) in
    let rest = size - length (kept ++ replicate more 0) in
    append_assoc kept (replicate more 0) (replicate rest 0)
    ∙ ap (λ (l : List ℕ). kept ++ l) (replicate-append-replicate more rest 0 ∙ ap (λ (n : ℕ). replicate n 0) left)

-- zeros are kept up to a place
pub reached : (kept new : List ℕ) (size end : ℕ) → length kept ≤ size → end ≤ size
    → new ≡ take (max (length kept) end) kept ++ replicate (max (length kept) end - length kept) 0
    → (padded size new ≡ padded size kept) × (end ≤ length new)
reached kept new size end short within is =
    let whole : new ≡ kept ++ replicate (max (length kept) end - length kept) 0 = is ∙ ap (λ (l : List ℕ). l ++ replicate (max (length kept) end - length kept) 0) (take_all (max (length kept) end) kept (omega arith)) in
    let long = length-append kept (replicate (max (length kept) end - length kept) 0) in
    let zeros : length {A = ℕ} (replicate (max (length kept) end - length kept) 0) ≡ max (length kept) end - length kept = length-replicate (max (length kept) end - length kept) 0 in
    let count : length new ≡ length (kept ++ replicate (max (length kept) end - length kept) 0) = ap (λ (l : List ℕ). length l) whole in
    (ap (λ (l : List ℕ). padded size l) whole ∙ kept_longer kept size (max (length kept) end - length kept) (omega (arith, short, within)), omega (arith, long, zeros, count))

-- Bytes compared

turned : (b : ℕ) (x y : Bool) → x ≡ y → (nat_eq b 0 && x) ≡ (nat_eq 0 b && y)
turned b x y e = ap (λ c. c && x) (nat_eq_equiv.symm b 0) ∙ ap (λ c. nat_eq 0 b && c) e

further : (a b c d : Bool) → (b && c) ≡ d → ((a && b) && c) ≡ (a && d)
further true b c d e = e
further false b c d e = refl

all_zeros : (bytes : List ℕ) → list_all (λ b. nat_eq b 0) bytes ≡ bytes_eq (replicate (length bytes) 0) bytes
all_zeros [] = refl
all_zeros (b ∷ bytes) = turned b (list_all (λ b. nat_eq b 0) bytes) (bytes_eq (replicate (length bytes) 0) bytes) (all_zeros bytes)

holds_more : (kept bytes : List ℕ) (n : ℕ) → length kept + n ≡ length bytes
    → (pointwise nat_eq kept (take (length kept) bytes) && list_all (λ b. nat_eq b 0) (drop (length kept) bytes)) ≡ bytes_eq (kept ++ replicate n 0) bytes
holds_more [] bytes n long = let all : length bytes ≡ n = omega (arith, long) in all_zeros bytes ∙ ap (λ (k : ℕ). bytes_eq (replicate k 0) bytes) all
holds_more (x ∷ kept) [] n long = absurd (omega (arith, long))
holds_more (x ∷ kept) (b ∷ bytes) n long = further (nat_eq x b) (pointwise nat_eq kept (take (length kept) bytes)) (list_all (λ b. nat_eq b 0) (drop (length kept) bytes)) (bytes_eq (kept ++ replicate n 0) bytes) (holds_more kept bytes n (omega (arith, long)))

-- bytes stand there where what is kept is their front, and their rest is zeros
pub holds_is : (kept bytes : List ℕ) → length kept ≤ length bytes
    → (pointwise nat_eq kept (take (length kept) bytes) && list_all (λ b. nat_eq b 0) (drop (length kept) bytes)) ≡ bytes_eq (padded (length bytes) kept) bytes
holds_is kept bytes short = holds_more kept bytes (length bytes - length kept) (omega (arith, short))
