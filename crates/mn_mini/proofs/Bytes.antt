-- Writes keep the length of a space, and the bytes of every range that they do not meet.
use Rattle.std.proofs.Common.{◌≡◌, ℕ, zero, suc, ◌+◌, ◌≤◌, Bool, true, false, ◌&&◌, ◌||◌, List, [], ◌∷◌, length, Option, Some, refl, sym, ap, ◌∙◌, arith, if◌then◌else◌}
use Rattle.std.specs.Prelude.{nat_lt, min, max}
use Rattle.std.proofs.lemmas.Bool.Decides.{nat_tests}
use Rattle.std.specs.List.{list_any}
use Rattle.std.specs.Prelude.{bytes_eq}
use Rattle.mn_base.specs.declared.ids.Range.{Range}
use Rattle.mn_mini.specs.declared.part.PartItem.{PartItem}
use Rattle.mn_mini.specs.declared.part.PartItem.TheVariants.{Compare, Read, Write}
use Rattle.mn_base.specs.Ranges.{ranges_meet}
use Rattle.mn_base.proofs.Booleans.{or_split}
use Rattle.mn_mini.specs.Mini.{items_conflict, range_of, is_write, item_conflicts_with, parts_conflict}
use Rattle.mn_mini.specs.Flat.{Mismatched, bytes_in, overwritten, part_mismatch_from, part_reads, space_after_part}

pub length-overwritten : (space : List ℕ) (start : ℕ) (bytes : List ℕ) → length (overwritten space start bytes) ≡ length space
length-overwritten [] start bytes = refl
length-overwritten (x ∷ space) zero [] = refl
length-overwritten (x ∷ space) zero (b ∷ bytes) = ap suc (length-overwritten space zero bytes)
length-overwritten (x ∷ space) (suc start) bytes = ap suc (length-overwritten space start bytes)

-- nothing is written
overwritten-nothing : (space : List ℕ) (start : ℕ) → overwritten space start [] ≡ space
overwritten-nothing [] start = refl
overwritten-nothing (x ∷ space) zero = refl
overwritten-nothing (x ∷ space) (suc start) = ap (λ ys. x ∷ ys) (overwritten-nothing space start)

-- a range below the write
below_write : (space : List ℕ) (start : ℕ) (bytes : List ℕ) (s n : ℕ) → s + n ≤ start → bytes_in (overwritten space start bytes) s n ≡ bytes_in space s n
below_write [] start bytes s n le = refl
below_write (x ∷ space) zero bytes zero zero le = refl
below_write (x ∷ space) zero bytes zero (suc n) le = absurd (omega arith)
below_write (x ∷ space) zero bytes (suc s) n le = absurd (omega arith)
below_write (x ∷ space) (suc start) bytes zero zero le = refl
below_write (x ∷ space) (suc start) bytes zero (suc n) le = ap (λ ys. x ∷ ys) (below_write space start bytes zero n (omega arith))
below_write (x ∷ space) (suc start) bytes (suc s) n le = below_write space start bytes s n (omega arith)

-- a range above the write
above_write : (space : List ℕ) (start : ℕ) (bytes : List ℕ) (s n : ℕ) → start + length bytes ≤ s → bytes_in (overwritten space start bytes) s n ≡ bytes_in space s n
above_write [] start bytes s n le = refl
above_write (x ∷ space) zero [] s n le = refl
above_write (x ∷ space) zero (b ∷ bytes) zero n le = absurd (omega arith)
above_write (x ∷ space) zero (b ∷ bytes) (suc s) n le = above_write space zero bytes s n (omega arith)
above_write (x ∷ space) (suc start) bytes zero n le = absurd (omega arith)
above_write (x ∷ space) (suc start) bytes (suc s) n le = above_write space start bytes s n (omega arith)

-- ranges that do not meet: one is empty, or they lie one below the other
data Lie (s n t m : ℕ) : Type 0 where
  NoneRead : n ≡ 0 → Lie s n t m
  NoneWritten : m ≡ 0 → Lie s n t m
  Above : t + m ≤ s → Lie s n t m
  Below : s + n ≤ t → Lie s n t m

apart : (s n t m : ℕ) → nat_lt (max s t) (min (s + n) (t + m)) ≡ false → Lie s n t m
apart s n t m e = by (nat_lt 0 n) refl (nat_lt 0 m) refl (nat_lt s (t + m)) refl
  where
    by : (a : Bool) → nat_lt 0 n ≡ a → (b : Bool) → nat_lt 0 m ≡ b → (c : Bool) → nat_lt s (t + m) ≡ c → Lie s n t m
    by false f b g c h = NoneRead (grind (arith, nat_tests))
    by true f false g c h = NoneWritten (grind (arith, nat_tests))
    by true f true g false h = Above (grind (arith, nat_tests))
    by true f true g true h = Below (grind (arith, nat_tests))

-- no bytes
none : (bytes : List ℕ) → length bytes ≡ 0 → bytes ≡ []
none [] e = refl
none (b ∷ bytes) e = absurd (omega (arith, e))

-- a part that writes nowhere in a range leaves its bytes
abbrev pub WritesApart : Range → List PartItem → Type 0
WritesApart range part = list_any (λ item. ranges_meet range (range_of item) && is_write item) part ≡ false

and_true : (a : Bool) → (a && true) ≡ false → a ≡ false
and_true true e = e
and_true false e = refl

pub range-after_part : (space : List ℕ) (range : Range) (part : List PartItem) → WritesApart range part → bytes_in (space_after_part space part) range.start range.length ≡ bytes_in space range.start range.length
range-after_part space range [] e = refl
range-after_part space range (Compare start bytes ∷ part) e = range-after_part space range part (or_split _ _ e).1
range-after_part space range (Read start n ∷ part) e = range-after_part space range part (or_split _ _ e).1
range-after_part space range (Write start bytes ∷ part) e =
    let s = or_split (ranges_meet range (range_of (Write start bytes)) && true) (list_any (λ item. ranges_meet range (range_of item) && is_write item) part) e in
    range-after_part (overwritten space start bytes) range part s.1
    ∙ kept (apart range.start range.length start (length bytes) (and_true _ s.0))
  where
    kept : Lie range.start range.length start (length bytes)
        → bytes_in (overwritten space start bytes) range.start range.length ≡ bytes_in space range.start range.length
    kept (NoneRead n) =
        ap (bytes_in (overwritten space start bytes) range.start) n ∙ sym (ap (bytes_in space range.start) n)
    kept (NoneWritten m) =
        ap (λ (l : List ℕ). bytes_in l range.start range.length)
        (ap (overwritten space start) (none bytes m) ∙ overwritten-nothing space start)
    kept (Above above) = above_write space start bytes range.start range.length above
    kept (Below below) = below_write space start bytes range.start range.length below

-- Writes that do not meet commute

commute_below : (space : List ℕ) (a : ℕ) (bs : List ℕ) (c : ℕ) (ds : List ℕ) → a + length bs ≤ c → overwritten (overwritten space a bs) c ds ≡ overwritten (overwritten space c ds) a bs
commute_below [] a bs c ds le = refl
commute_below (x ∷ space) zero [] c ds le = sym (overwritten-nothing (overwritten (x ∷ space) c ds) zero)
commute_below (x ∷ space) zero (b ∷ bs) zero ds le = absurd (omega arith)
commute_below (x ∷ space) zero (b ∷ bs) (suc c) ds le = ap (λ ys. b ∷ ys) (commute_below space zero bs c ds (omega arith))
commute_below (x ∷ space) (suc a) bs zero ds le = absurd (omega arith)
commute_below (x ∷ space) (suc a) bs (suc c) ds le = ap (λ ys. x ∷ ys) (commute_below space a bs c ds (omega arith))

-- a write and a part that does not write in its range
write-after_part : (space : List ℕ) (a : ℕ) (bs : List ℕ) (part : List PartItem) → WritesApart (record { start = a; length = length bs }) part
    → space_after_part (overwritten space a bs) part ≡ overwritten (space_after_part space part) a bs
write-after_part space a bs [] e = refl
write-after_part space a bs (Compare start bytes ∷ part) e = write-after_part space a bs part (or_split _ _ e).1
write-after_part space a bs (Read start n ∷ part) e = write-after_part space a bs part (or_split _ _ e).1
write-after_part space a bs (Write start bytes ∷ part) e =
    let range : Range = record { start = a; length = length bs } in
    let s = or_split (ranges_meet range (range_of (Write start bytes)) && true) (list_any (λ item. ranges_meet range (range_of item) && is_write item) part) e in
    ap (λ (w : List ℕ). space_after_part w part) (swapped (apart a (length bs) start (length bytes) (and_true _ s.0))) ∙ write-after_part (overwritten space start bytes) a bs part s.1
  where
    swapped : Lie a (length bs) start (length bytes)
        → overwritten (overwritten space a bs) start bytes ≡ overwritten (overwritten space start bytes) a bs
    swapped (NoneRead n) =
        ap (λ (l : List ℕ). overwritten (overwritten space a l) start bytes) (none bs n)
        ∙ (ap (λ (l : List ℕ). overwritten l start bytes) (overwritten-nothing space a)
        ∙ (sym (overwritten-nothing (overwritten space start bytes) a)
        ∙ ap (overwritten (overwritten space start bytes) a) (sym (none bs n))))
    swapped (NoneWritten m) =
        ap (overwritten (overwritten space a bs) start) (none bytes m)
        ∙ (overwritten-nothing (overwritten space a bs) start
        ∙ ap (λ (l : List ℕ). overwritten l a bs)
        (sym (ap (overwritten space start) (none bytes m) ∙ overwritten-nothing space start)))
    swapped (Above above) = sym (commute_below space start bytes a bs above)
    swapped (Below below) = commute_below space a bs start bytes below

-- an item that does not conflict with a part: the part writes nowhere in its range
apart_from : (item : PartItem) (part : List PartItem) → item_conflicts_with item part ≡ false → WritesApart (range_of item) part
apart_from item [] e = refl
apart_from item (r ∷ part) e =
    let s = or_split (ranges_meet (range_of item) (range_of r) && (is_write item || is_write r)) (item_conflicts_with item part) e in
    weaker (ranges_meet (range_of item) (range_of r)) (is_write item) (is_write r) _ s.0 (apart_from item part s.1)
  where
    weaker : (m i w rest : Bool) → (m && (i || w)) ≡ false → rest ≡ false → ((m && w) || rest) ≡ false
    weaker true true w rest e f = absurd cc
    weaker true false w rest e f = cc
    weaker false i w rest e f = f

-- parts that do not conflict commute
pub parts-commute : (space : List ℕ) (p q : List PartItem) → parts_conflict p q ≡ false → space_after_part (space_after_part space p) q ≡ space_after_part (space_after_part space q) p
parts-commute space [] q e = refl
parts-commute space (Compare start bytes ∷ p) q e = parts-commute space p q (or_split _ _ e).1
parts-commute space (Read start n ∷ p) q e = parts-commute space p q (or_split _ _ e).1
parts-commute space (Write start bytes ∷ p) q e =
    let s = or_split (item_conflicts_with (Write start bytes) q) (parts_conflict p q) e in
    parts-commute (overwritten space start bytes) p q s.1 ∙ ap (λ (w : List ℕ). space_after_part w p) (write-after_part space start bytes q (apart_from (Write start bytes) q s.0))

-- the compares of a part are not touched by a part that does not conflict
pub mismatch-after_part : (space : List ℕ) (p q : List PartItem) (i : ℕ) → parts_conflict p q ≡ false → part_mismatch_from (space_after_part space q) i p ≡ part_mismatch_from space i p
mismatch-after_part space [] q i e = refl
mismatch-after_part space (Compare start bytes ∷ p) q i e =
    let s = or_split (item_conflicts_with (Compare start bytes) q) (parts_conflict p q) e in
    let same : bytes_in (space_after_part space q) start (length bytes) ≡ bytes_in space start (length bytes) = range-after_part space (range_of (Compare start bytes)) q (apart_from (Compare start bytes) q s.0) in
    ap (λ (w : List ℕ). if bytes_eq w bytes then part_mismatch_from (space_after_part space q) (i + 1) p else Some (record { item = i; found = w })) same
    ∙ ap (λ (o : Option Mismatched). if bytes_eq (bytes_in space start (length bytes)) bytes then o else Some (record { item = i; found = bytes_in space start (length bytes) })) (mismatch-after_part space p q (i + 1) s.1)
mismatch-after_part space (Read start n ∷ p) q i e = mismatch-after_part space p q i (or_split _ _ e).1
mismatch-after_part space (Write start bytes ∷ p) q i e = mismatch-after_part space p q i (or_split _ _ e).1

-- Conflicts are the same both ways

flipped : (a b : PartItem) → items_conflict a b ≡ false → items_conflict b a ≡ false
flipped a b e =
    let same = meet_turned (range_of b).start (range_of b).length (range_of a).start (range_of a).length in
    ap (λ (m : Bool). m && (is_write b || is_write a)) same ∙ turn (ranges_meet (range_of a) (range_of b)) (is_write a) (is_write b) e
  where
    meet_turned : (s n t m : ℕ) → nat_lt (max s t) (min (s + n) (t + m)) ≡ nat_lt (max t s) (min (t + m) (s + n))
    meet_turned s n t m = grind (arith, nat_tests)

    turn : (x v w : Bool) → (x && (v || w)) ≡ false → (x && (w || v)) ≡ false
    turn true true w e = absurd cc
    turn true false true e = absurd cc
    turn true false false e = refl
    turn false v w e = refl

item_front : (b : PartItem) (p : List PartItem) (q : List PartItem) → parts_conflict p (b ∷ q) ≡ false → (item_conflicts_with b p ≡ false) × (parts_conflict p q ≡ false)
item_front b [] q e = (refl, refl)
item_front b (a ∷ p) q e =
    let s = or_split (items_conflict a b || item_conflicts_with a q) (parts_conflict p (b ∷ q)) e in
    let t = or_split (items_conflict a b) (item_conflicts_with a q) s.0 in
    let r = item_front b p q s.1 in
    (both (items_conflict b a) (item_conflicts_with b p) (flipped a b t.0) r.0, both (item_conflicts_with a q) (parts_conflict p q) t.1 r.1)
  where
    both : (x y : Bool) → x ≡ false → y ≡ false → (x || y) ≡ false
    both x y f g = cc

pub conflict_turned : (p q : List PartItem) → parts_conflict p q ≡ false → parts_conflict q p ≡ false
conflict_turned p [] e = refl
conflict_turned p (b ∷ q) e =
    let s = item_front b p q e in
    both (item_conflicts_with b p) (parts_conflict q p) s.0 (conflict_turned p q s.1)
  where
    both : (x y : Bool) → x ≡ false → y ≡ false → (x || y) ≡ false
    both x y f g = cc

-- a part without a write leaves the space
pub no_write_leaves : (space : List ℕ) (part : List PartItem) → list_any is_write part ≡ false → space_after_part space part ≡ space
no_write_leaves space [] e = refl
no_write_leaves space (Compare start bytes ∷ part) e = no_write_leaves space part e
no_write_leaves space (Read start n ∷ part) e = no_write_leaves space part e
no_write_leaves space (Write start bytes ∷ part) e = absurd cc

-- the reads of a part are not touched by a part that does not conflict
pub reads-after_part : (space : List ℕ) (p q : List PartItem) → parts_conflict p q ≡ false → part_reads (space_after_part space q) p ≡ part_reads space p
reads-after_part space [] q e = refl
reads-after_part space (Compare start bytes ∷ p) q e = reads-after_part space p q (or_split (item_conflicts_with (Compare start bytes) q) (parts_conflict p q) e).1
reads-after_part space (Read start n ∷ p) q e =
    let s = or_split (item_conflicts_with (Read start n) q) (parts_conflict p q) e in
    let same : bytes_in (space_after_part space q) start n ≡ bytes_in space start n = range-after_part space (range_of (Read start n)) q (apart_from (Read start n) q s.0) in
    ap (λ (w : List ℕ). w ∷ part_reads (space_after_part space q) p) same ∙ ap (λ (ws : List (List ℕ)). bytes_in space start n ∷ ws) (reads-after_part space p q s.1)
reads-after_part space (Write start bytes ∷ p) q e = reads-after_part space p q (or_split (item_conflicts_with (Write start bytes) q) (parts_conflict p q) e).1
