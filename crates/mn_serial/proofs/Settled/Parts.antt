-- What the writes of parts do at a place that they meet in whole or not at all.
use Rattle.std.proofs.Common.{◌≡◌, ℕ, zero, suc, ◌+◌, ◌<◌, ◌≤◌, ◌⊎◌, inl, inr, Bool, true, false, ◌&&◌, ◌||◌, List, [], ◌∷◌, length, refl, subst, sym, ap, ◌∙◌, arith, if◌then◌else◌, Contains}
use Rattle.std.specs.List.{AllByRecursion, list_any}
use Rattle.std.proofs.lemmas.List.Elements.{Contains-append_right}
use Rattle.mn_base.specs.Ids.{tid_same}
use Rattle.mn_base.specs.Ranges.{ranges_meet}
use Rattle.mn_base.specs.declared.ids.Range.{Range}
use Rattle.mn_base.specs.declared.ids.Tid.{Tid}
use Rattle.mn_base.proofs.Booleans.{clash, or_split}
use Rattle.mn_base.proofs.Lists.{weaker, all_both}
use Rattle.mn_mini.specs.declared.part.PartItem.{PartItem}
use Rattle.mn_mini.specs.declared.part.PartItem.TheVariants.{Compare, Read, Write}
use Rattle.mn_mini.specs.Mini.{range_of, is_write, items_conflict, item_conflicts_with, parts_conflict}
use Rattle.mn_mini.specs.Flat.{bytes_in, overwritten, space_after_part}
use Rattle.mn_mini.specs.Node.{HeldPart, without_tid, with_held}
use Rattle.mn_mini.proofs.Bytes.{WritesApart, range-after_part, length-overwritten}
use Rattle.mn_runs.specs.Seen.{Place}
use Rattle.mn_law.specs.Places.{place_range, content_in, WritesWhole}
use Rattle.mn_plans.proofs.Told.{all_there}

-- One write

pub written_there : (space : List ℕ) (start : ℕ) (bytes : List ℕ) → start + length bytes ≤ length space → bytes_in (overwritten space start bytes) start (length bytes) ≡ bytes
written_there [] start [] fits = nothing start
  where
    nothing : (k : ℕ) → bytes_in [] k 0 ≡ []
    nothing zero = refl
    nothing (suc k) = refl
written_there [] start (b ∷ bytes) fits = absurd (omega arith)
written_there (x ∷ space) zero [] fits = refl
written_there (x ∷ space) zero (b ∷ bytes) fits = ap (λ (l : List ℕ). b ∷ l) (written_there space zero bytes (omega arith))
written_there (x ∷ space) (suc start) bytes fits = written_there space start bytes (omega arith)

-- A part

-- it writes the place, at last with these bytes
pub record Sets (place : Place) (P : List ℕ → Type 0) (part : List PartItem) : Type 0 where
  pub bytes : List ℕ
  pub passes : P bytes
  pub there : Contains part (Write place.start bytes)
  pub long : length bytes ≡ place.length
  pub sets : (space : List ℕ) → place.start + place.length ≤ length space → content_in (space_after_part space part) place ≡ bytes

-- it writes nothing there
abbrev pub IsApart : Place → List PartItem → Type 0
IsApart place part = WritesApart (place_range place) part

pub apart_leaves : (place : Place) (part : List PartItem) (space : List ℕ) → IsApart place part → content_in (space_after_part space part) place ≡ content_in space place
apart_leaves place part space apart = range-after_part space (place_range place) part apart

none_written : (m rest : Bool) → rest ≡ false → ((m && false) || rest) ≡ false
none_written true rest e = e
none_written false rest e = e

unmet : (m rest : Bool) → m ≡ false → rest ≡ false → ((m && true) || rest) ≡ false
unmet true rest e f = absurd cc
unmet false rest e f = f

-- a part whose writes meet the place in whole writes nothing there, or sets it
pub part_on : (place : Place) (P : List ℕ → Type 0) (part : List PartItem) → AllByRecursion (WritesWhole place P) part → IsApart place part ⊎ Sets place P part
part_on place P [] all = inl refl
part_on place P (Compare start bytes ∷ part) all = by (part_on place P part all.1)
  where
    by : IsApart place part ⊎ Sets place P part → IsApart place (Compare start bytes ∷ part) ⊎ Sets place P (Compare start bytes ∷ part)
    by (inl apart) = inl (none_written (ranges_meet (place_range place) (range_of (Compare start bytes))) _ apart)
    by (inr s) = inr (record { bytes = s.bytes; passes = s.passes; there = Contains-append_right (Compare start bytes ∷ []) part (Write place.start s.bytes) s.there; long = s.long; sets = λ space fits. s.sets space fits })
part_on place P (Read start n ∷ part) all = by (part_on place P part all.1)
  where
    by : IsApart place part ⊎ Sets place P part → IsApart place (Read start n ∷ part) ⊎ Sets place P (Read start n ∷ part)
    by (inl apart) = inl (none_written (ranges_meet (place_range place) (range_of (Read start n))) _ apart)
    by (inr s) = inr (record { bytes = s.bytes; passes = s.passes; there = Contains-append_right (Read start n ∷ []) part (Write place.start s.bytes) s.there; long = s.long; sets = λ space fits. s.sets space fits })
part_on place P (Write start bytes ∷ part) all = by (part_on place P part all.1)
  where
    here : IsApart place part → (b : Bool) → ranges_meet (place_range place) (range_of (Write start bytes)) ≡ b → IsApart place (Write start bytes ∷ part) ⊎ Sets place P (Write start bytes ∷ part)
    here apart false e = inl (unmet (ranges_meet (place_range place) (range_of (Write start bytes))) _ e apart)
    here apart true e =
        let whole = all.0 e in
        let begins : start ≡ place.start = whole.0 in
        let long : length bytes ≡ place.length = whole.1 in
        inr (record {
          bytes = bytes;
          passes = whole.2;
          there = (0, omega arith, ap (λ (k : ℕ). Write k bytes) begins);
          long = long;
          sets = λ space fits.
              apart_leaves place part (overwritten space start bytes) apart
              ∙ (ap (λ (k : ℕ). bytes_in (overwritten space k bytes) place.start place.length) begins
              ∙ (ap (λ (n : ℕ). bytes_in (overwritten space place.start bytes) place.start n) (sym long)
              ∙ written_there space place.start bytes (subst (λ (n : ℕ). place.start + n ≤ length space) (sym long) fits)));
        })

    by : IsApart place part ⊎ Sets place P part → IsApart place (Write start bytes ∷ part) ⊎ Sets place P (Write start bytes ∷ part)
    by (inl apart) = here apart (ranges_meet (place_range place) (range_of (Write start bytes))) refl
    by (inr s) = inr (record {
      bytes = s.bytes;
      passes = s.passes;
      there = Contains-append_right (Write start bytes ∷ []) part (Write place.start s.bytes) s.there;
      long = s.long;
      sets = λ space fits. s.sets (overwritten space start bytes) (subst (λ (n : ℕ). place.start + place.length ≤ n) (sym (length-overwritten space start bytes)) fits);
    })

-- what writes nothing there meets it in no write
pub apart_whole : (place : Place) (P : List ℕ → Type 0) (part : List PartItem) → IsApart place part → AllByRecursion (WritesWhole place P) part
apart_whole place P [] e = tt
apart_whole place P (Compare start bytes ∷ part) e = (tt, apart_whole place P part (or_split _ _ e).1)
apart_whole place P (Read start n ∷ part) e = (tt, apart_whole place P part (or_split _ _ e).1)
apart_whole place P (Write start bytes ∷ part) e =
    let s = or_split (ranges_meet (place_range place) (range_of (Write start bytes)) && true) (list_any (λ item. ranges_meet (place_range place) (range_of item) && is_write item) part) e in
    ((λ meets. absurd (clash _ meets (off (ranges_meet (place_range place) (range_of (Write start bytes))) s.0))), apart_whole place P part s.1)
  where
    off : (m : Bool) → (m && true) ≡ false → m ≡ false
    off true h = h
    off false h = h

-- bytes that pass one test pass another
pub whole_more : (place : Place) (P Q : List ℕ → Type 0) → ((bytes : List ℕ) → P bytes → Q bytes) → (part : List PartItem) → AllByRecursion (WritesWhole place P) part → AllByRecursion (WritesWhole place Q) part
whole_more place P Q more part all = weaker (WritesWhole place P) (WritesWhole place Q) each part all
  where
    each : (item : PartItem) → WritesWhole place P item → WritesWhole place Q item
    each (Compare start bytes) w = tt
    each (Read start n) w = tt
    each (Write start bytes) w = λ meets. let x = w meets in (x.0, x.1, more bytes x.2)

-- Conflicts

none_any : {X : Type 0} (t : X → Bool) (xs : List X) → list_any t xs ≡ false → AllByRecursion (λ x. t x ≡ false) xs
none_any t [] e = tt
none_any t (x ∷ xs) e = let s = or_split (t x) (list_any t xs) e in (s.0, none_any t xs s.1)

unconflicted : (item : PartItem) (part : List PartItem) → item_conflicts_with item part ≡ false → WritesApart (range_of item) part
unconflicted item [] e = refl
unconflicted item (r ∷ part) e =
    let s = or_split (ranges_meet (range_of item) (range_of r) && (is_write item || is_write r)) (item_conflicts_with item part) e in
    less (ranges_meet (range_of item) (range_of r)) (is_write item) (is_write r) _ s.0 (unconflicted item part s.1)
  where
    less : (m i w rest : Bool) → (m && (i || w)) ≡ false → rest ≡ false → ((m && w) || rest) ≡ false
    less true true w rest e f = absurd cc
    less true false w rest e f = cc
    less false i w rest e f = f

-- a part that doesn't conflict with one that sets the place writes nothing there
pub sets_alone : (place : Place) (P : List ℕ → Type 0) (part other : List PartItem) → Sets place P part → parts_conflict part other ≡ false → IsApart place other
sets_alone place P part other s none =
    let item : PartItem = Write place.start s.bytes in
    let free : item_conflicts_with item other ≡ false = all_there (λ i. item_conflicts_with i other ≡ false) part item (none_any (λ i. item_conflicts_with i other) part none) s.there in
    subst (λ (n : ℕ). WritesApart (record { start = place.start; length = n }) other) s.long (unconflicted item other free)

-- Held parts

-- where no committed part writes the place, it has what it has below them
pub layers_leave : (place : Place) (f : Tid → Bool) (space : List ℕ) (hs : List HeldPart) → AllByRecursion (λ h. f h.tid ≡ true → IsApart place h.part) hs → content_in (with_held f space hs) place ≡ content_in space place
layers_leave place f space [] all = refl
layers_leave place f space (h ∷ hs) all =
    elim (f h.tid) as (λ b. f h.tid ≡ b → content_in (if b then space_after_part (with_held f space hs) h.part else with_held f space hs) place ≡ content_in space place) [
      | true ↦ λ on. apart_leaves place h.part (with_held f space hs) (all.0 on) ∙ layers_leave place f space hs all.1
      | false ↦ λ _. layers_leave place f space hs all.1
    ] refl

-- the id's part is gone
pub without_all : (Q : HeldPart → Type 0) (t : Tid) (hs : List HeldPart) → AllByRecursion (λ h. tid_same h.tid t ≡ false → Q h) hs → AllByRecursion Q (without_tid t hs)
without_all Q t [] all = tt
without_all Q t (h ∷ hs) all =
    elim (tid_same h.tid t) as (λ b. tid_same h.tid t ≡ b → AllByRecursion Q (if b then without_tid t hs else h ∷ without_tid t hs)) [
      | true ↦ λ _. without_all Q t hs all.1
      | false ↦ λ off. (all.0 off, without_all Q t hs all.1)
    ] refl

-- Lengths

length-part : (space : List ℕ) (part : List PartItem) → length (space_after_part space part) ≡ length space
length-part space [] = refl
length-part space (Compare start bytes ∷ part) = length-part space part
length-part space (Read start n ∷ part) = length-part space part
length-part space (Write start bytes ∷ part) = length-part (overwritten space start bytes) part ∙ length-overwritten space start bytes

pub length-layers : (f : Tid → Bool) (space : List ℕ) (hs : List HeldPart) → length (with_held f space hs) ≡ length space
length-layers f space [] = refl
length-layers f space (h ∷ hs) = elim (f h.tid) as (λ b. length (if b then space_after_part (with_held f space hs) h.part else with_held f space hs) ≡ length space) [
  | true ↦ length-part (with_held f space hs) h.part ∙ length-layers f space hs
  | false ↦ length-layers f space hs
]

-- where the committed parts write the place in whole, with bytes that pass, it is as below them, or
-- has such bytes
pub layers_on : (place : Place) (P : List ℕ → Type 0) (f : Tid → Bool) (space : List ℕ) (hs : List HeldPart) → place.start + place.length ≤ length space
    → AllByRecursion (λ h. f h.tid ≡ true → AllByRecursion (WritesWhole place P) h.part) hs
    → (content_in (with_held f space hs) place ≡ content_in space place) ⊎ ((bytes : List ℕ) × P bytes × (content_in (with_held f space hs) place ≡ bytes))
layers_on place P f space [] fits all = inl refl
layers_on place P f space (h ∷ hs) fits all = by (f h.tid) refl (layers_on place P f space hs fits all.1)
  where
    fits' : place.start + place.length ≤ length (with_held f space hs)
    fits' = subst (λ (n : ℕ). place.start + place.length ≤ n) (sym (length-layers f space hs)) fits

    over : (content_in (with_held f space hs) place ≡ content_in space place) ⊎ ((bytes : List ℕ) × P bytes × (content_in (with_held f space hs) place ≡ bytes)) → IsApart place h.part ⊎ Sets place P h.part
        → (content_in (space_after_part (with_held f space hs) h.part) place ≡ content_in space place) ⊎ ((bytes : List ℕ) × P bytes × (content_in (space_after_part (with_held f space hs) h.part) place ≡ bytes))
    over (inl same) (inl apart) = inl (apart_leaves place h.part (with_held f space hs) apart ∙ same)
    over (inr (bytes, passes, is)) (inl apart) = inr (bytes, passes, apart_leaves place h.part (with_held f space hs) apart ∙ is)
    over below (inr s) = inr (s.bytes, s.passes, s.sets (with_held f space hs) fits')

    by : (b : Bool) → f h.tid ≡ b → (content_in (with_held f space hs) place ≡ content_in space place) ⊎ ((bytes : List ℕ) × P bytes × (content_in (with_held f space hs) place ≡ bytes))
        → (content_in (if b then space_after_part (with_held f space hs) h.part else with_held f space hs) place ≡ content_in space place) ⊎ ((bytes : List ℕ) × P bytes × (content_in (if b then space_after_part (with_held f space hs) h.part else with_held f space hs) place ≡ bytes))
    by true on below = over below (part_on place P h.part (all.0 on))
    by false off below = below
