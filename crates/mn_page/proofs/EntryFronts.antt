-- The longest front of bytes that begins some entry.
use Rattle.std.proofs.Common.{◌≡◌, ℕ, zero, suc, ◌+◌, ◌-◌, ◌<◌, ◌≤◌, ◌^◌, Bool, true, false, ◌&&◌, ◌||◌, List, [], ◌∷◌, ◌++◌, length, take, drop, get_or, refl, sym, ap, ◌∙◌, subst, arith, add-one, length-append, replicate, cond, if◌then◌else◌}
use Rattle.std.specs.Prelude.{nat_eq, nat_lt, Option, Some, None}
use Rattle.std.specs.Int.{byte_at, from_be_bytes, w16, w64}
use Rattle.std.proofs.lemmas.Nat.{be_bytes_2, be_bytes_8}
use Rattle.mn_base.specs.declared.ids.Addr.{Addr}
use Rattle.std.proofs.lemmas.List.{length-take-le}
use Rattle.std.proofs.Math.ListN.{drop_of_length-le}
use Rattle.std.proofs.Math.Seq.{drop-cons}
use Rattle.byteorder.specs.Endian.{big_bytes}
use Rattle.mn_base.specs.declared.ids.VersionNo.{VersionNo}
use Rattle.std.specs.List.{list_all}
use Rattle.std.proofs.lemmas.Bool.Decides.{nat_tests}
use Rattle.mn_base.specs.Name.{is_name_byte}
use Rattle.mn_base.proofs.Booleans.{both_true, left_true, right_true}
use Rattle.mn_page.specs.declared.entry.CatEntry.{CatEntry}
use Rattle.mn_page.specs.Grammar.{SpellsEntry, IsEntry, IsParent, IsAddr, entry_bytes, state_byte, parent_byte, addr_bytes}
use Rattle.mn_page.specs.Reading.{eight}
use Rattle.mn_page.specs.Reading.{entry_text as read_text}
use Rattle.mn_page.proofs.Spelled.{big_bytes-inj, entry_length, entry_text}
use Rattle.mn_page.proofs.PageText.{are_zeros}
use Rattle.mn_page.proofs.EntryText.{whole_entry, entry_named}
use Rattle.mn_page.proofs.Scanned.{all_take}
use Rattle.mn_page.specs.Fronts.{BeginsEntry, IsLongest, entry_goes_on}

-- all bytes from a place on may stand there
abbrev pub runs : ℕ → Bool → ℕ → List ℕ → Bool
runs at some count [] = true
runs at some count (b ∷ bs) = entry_goes_on at some count b && runs (at + 1) (some || nat_lt 0 b) (if nat_eq at 13 then b else count) bs

-- how many of them may, up to the end of an entry
abbrev pub place : ℕ → Bool → ℕ → List ℕ → ℕ
place at some count [] = 0
place at some count (b ∷ bs) = if nat_lt at 64 && entry_goes_on at some count b then suc (place (at + 1) (some || nat_lt 0 b) (if nat_eq at 13 then b else count) bs) else 0

-- Fronts

pub runs_front : (a c : List ℕ) (at : ℕ) (some : Bool) (count : ℕ) → runs at some count (a ++ c) ≡ true → runs at some count a ≡ true
runs_front [] c at some count h = refl
runs_front (b ∷ a) c at some count h =
    both_true (entry_goes_on at some count b) _ (left_true (entry_goes_on at some count b) _ h) (runs_front a c (at + 1) _ _ (right_true (entry_goes_on at some count b) _ h))

pub place_within : (bs : List ℕ) (at : ℕ) (some : Bool) (count : ℕ) → place at some count bs ≤ length bs
place_within [] at some count = omega arith
place_within (b ∷ bs) at some count =
    elim (nat_lt at 64 && entry_goes_on at some count b) as (λ t. cond t (suc (place (at + 1) (some || nat_lt 0 b) (if nat_eq at 13 then b else count) bs)) 0 ≤ suc (length bs)) [
      | true ↦ let rest = place_within bs (at + 1) (some || nat_lt 0 b) (if nat_eq at 13 then b else count) in omega arith
      | false ↦ omega arith
    ]

pub place_short : (bs : List ℕ) (at : ℕ) (some : Bool) (count : ℕ) → at ≤ 64 → at + place at some count bs ≤ 64
place_short [] at some count h = omega arith
place_short (b ∷ bs) at some count h =
    elim (nat_lt at 64 && entry_goes_on at some count b) as (λ t. (nat_lt at 64 && entry_goes_on at some count b) ≡ t → at + cond t (suc (place (at + 1) (some || nat_lt 0 b) (if nat_eq at 13 then b else count) bs)) 0 ≤ 64) [
      | true ↦ λ e.
          let less : at < 64 = below at (left_true (nat_lt at 64) _ e) in
          let rest = place_short bs (at + 1) (some || nat_lt 0 b) (if nat_eq at 13 then b else count) (omega arith) in omega arith
      | false ↦ λ e. omega arith
    ] refl
  where
    below : (n : ℕ) → nat_lt n 64 ≡ true → n < 64
    below n e = grind (arith, nat_tests)

pub place_runs : (bs : List ℕ) (at : ℕ) (some : Bool) (count : ℕ) → runs at some count (take (place at some count bs) bs) ≡ true
place_runs [] at some count = refl
place_runs (b ∷ bs) at some count =
    elim (nat_lt at 64 && entry_goes_on at some count b) as (λ t. (nat_lt at 64 && entry_goes_on at some count b) ≡ t
    → runs at some count (take (cond t (suc (place (at + 1) (some || nat_lt 0 b) (if nat_eq at 13 then b else count) bs)) 0) (b ∷ bs)) ≡ true) [
      | true ↦ λ e. both_true (entry_goes_on at some count b) _ (right_true (nat_lt at 64) _ e) (place_runs bs (at + 1) _ _)
      | false ↦ λ e. refl
    ] refl

pub place_stops : (bs : List ℕ) (at : ℕ) (some : Bool) (count : ℕ) → place at some count bs < length bs → at + place at some count bs < 64 → runs at some count (take (suc (place at some count bs)) bs) ≡ true → ⊥
place_stops [] at some count less short h = omega arith
place_stops (b ∷ bs) at some count less short h =
    elim (nat_lt at 64 && entry_goes_on at some count b) as (λ t. (nat_lt at 64 && entry_goes_on at some count b) ≡ t
    → cond t (suc (place (at + 1) (some || nat_lt 0 b) (if nat_eq at 13 then b else count) bs)) 0 < suc (length bs)
    → at + cond t (suc (place (at + 1) (some || nat_lt 0 b) (if nat_eq at 13 then b else count) bs)) 0 < 64
    → runs at some count (take (suc (cond t (suc (place (at + 1) (some || nat_lt 0 b) (if nat_eq at 13 then b else count) bs)) 0)) (b ∷ bs)) ≡ true → ⊥) [
      | true ↦ λ e l s r.
          place_stops bs (at + 1) (some || nat_lt 0 b) (if nat_eq at 13 then b else count) (omega arith) (omega arith) (right_true (entry_goes_on at some count b) _ r)
      | false ↦ λ e l s r. clash (nat_lt at 64) (entry_goes_on at some count b) (above at s) (left_true (entry_goes_on at some count b) _ r) e
    ] refl less short h
  where
    above : (n : ℕ) → n + 0 < 64 → nat_lt n 64 ≡ true
    above n s = grind (arith, nat_tests)

    unlike : (c : Bool) → c ≡ true → c ≡ false → ⊥
    unlike c g h = cc

    clash : (s t : Bool) → s ≡ true → t ≡ true → (s && t) ≡ false → ⊥
    clash s t e f g = unlike (s && t) (both_true s t e f) g

-- What goes on to the end spells an entry

-- a byte that goes on at each place
abbrev next_byte : ℕ → ℕ → ℕ
next_byte at count = if nat_lt at 14 then 1 else (if nat_lt at (14 + count) then 97 else 0)

next_goes : (at : ℕ) (some : Bool) (count : ℕ) → entry_goes_on at some count (next_byte at count) ≡ true
next_goes at some count = grind (arith, nat_tests)

next_small : (at count : ℕ) → nat_lt (next_byte at count) 256 ≡ true
next_small at count = grind (arith, nat_tests)

-- bytes behind a front that go on to the end
pub record GoesOn (at : ℕ) (some : Bool) (count n : ℕ) (front : List ℕ) : Type 0 where
  pub rest : List ℕ
  pub long : length (front ++ rest) ≡ n
  pub on : runs at some count (front ++ rest) ≡ true
  pub small : list_all (λ b. nat_lt b 256) (front ++ rest) ≡ true

fill : (n at : ℕ) (some : Bool) (count : ℕ) → GoesOn at some count n []
fill zero at some count = record { rest = []; long = refl; on = refl; small = refl }
fill (suc n) at some count =
    let b = next_byte at count in
    let more = fill n (at + 1) (some || nat_lt 0 b) (if nat_eq at 13 then b else count) in
    record {
      rest = b ∷ more.rest;
      long = ap suc more.long;
      on = both_true (entry_goes_on at some count b) _ (next_goes at some count) more.on;
      small = both_true (nat_lt b 256) _ (next_small at count) more.small;
    }

pub goes_on : (front : List ℕ) (n at : ℕ) (some : Bool) (count : ℕ) → runs at some count front ≡ true → length front ≤ n → list_all (λ b. nat_lt b 256) front ≡ true → GoesOn at some count n front
goes_on [] n at some count h l s = fill n at some count
goes_on (b ∷ front) zero at some count h l s = absurd (omega arith)
goes_on (b ∷ front) (suc n) at some count h l s =
    let more = goes_on front n (at + 1) (some || nat_lt 0 b) (if nat_eq at 13 then b else count) (right_true (entry_goes_on at some count b) _ h) (omega arith) (right_true (nat_lt b 256) _ s) in
    record {
      rest = more.rest;
      long = ap suc more.long;
      on = both_true (entry_goes_on at some count b) _ (left_true (entry_goes_on at some count b) _ h) more.on;
      small = both_true (nat_lt b 256) _ (left_true (nat_lt b 256) _ s) more.small;
    }

-- The name and the zeros

-- places behind the fields of one length
behind_head : (at : ℕ) (some : Bool) (count b : ℕ) → 14 ≤ at → entry_goes_on at some count b ≡ (if nat_lt at (14 + count) then is_name_byte b else nat_eq b 0)
behind_head at some count b h = grind (arith, nat_tests)

-- the length of the name stays known
kept : (at count b : ℕ) → 14 ≤ at → (if nat_eq at 13 then b else count) ≡ count
kept at count b h = grind (arith, nat_tests)

rest_runs : (b : ℕ) (bs : List ℕ) (at : ℕ) (some : Bool) (count : ℕ) → 14 ≤ at → runs at some count (b ∷ bs) ≡ true → runs (at + 1) (some || nat_lt 0 b) count bs ≡ true
rest_runs b bs at some count low h = subst (λ (c : ℕ). runs (at + 1) (some || nat_lt 0 b) c bs ≡ true) (kept at count b low) (right_true (entry_goes_on at some count b) _ h)

both_run : (b : ℕ) (bs : List ℕ) (at : ℕ) (some : Bool) (count : ℕ) → 14 ≤ at → entry_goes_on at some count b ≡ true → runs (at + 1) (some || nat_lt 0 b) count bs ≡ true → runs at some count (b ∷ bs) ≡ true
both_run b bs at some count low e h = both_true (entry_goes_on at some count b) _ e (subst (λ (c : ℕ). runs (at + 1) (some || nat_lt 0 b) c bs ≡ true) (sym (kept at count b low)) h)

in_name : (at count : ℕ) → at < 14 + count → nat_lt at (14 + count) ≡ true
in_name at count h = grind (arith, nat_tests)

in_zeros : (at count : ℕ) → 14 + count ≤ at → nat_lt at (14 + count) ≡ false
in_zeros at count h = grind (arith, nat_tests)

name_byte : (at : ℕ) (some : Bool) (count b : ℕ) → 14 ≤ at → at < 14 + count → entry_goes_on at some count b ≡ is_name_byte b
name_byte at some count b low less = behind_head at some count b low ∙ ap (λ (t : Bool). if t then is_name_byte b else nat_eq b 0) (in_name at count less)

zero_byte : (at : ℕ) (some : Bool) (count b : ℕ) → 14 ≤ at → 14 + count ≤ at → entry_goes_on at some count b ≡ nat_eq b 0
zero_byte at some count b low more = behind_head at some count b low ∙ ap (λ (t : Bool). if t then is_name_byte b else nat_eq b 0) (in_zeros at count more)

zeros_read : (bs : List ℕ) (at : ℕ) (some : Bool) (count : ℕ) → 14 ≤ at → 14 + count ≤ at → runs at some count bs ≡ true → list_all (λ b. nat_eq b 0) bs ≡ true
zeros_read [] at some count low more h = refl
zeros_read (b ∷ bs) at some count low more h =
    both_true (nat_eq b 0) _ (sym (zero_byte at some count b low more) ∙ left_true (entry_goes_on at some count b) _ h)
    (zeros_read bs (at + 1) (some || nat_lt 0 b) count (omega arith) (omega arith) (rest_runs b bs at some count low h))

zeros_run : (bs : List ℕ) (at : ℕ) (some : Bool) (count : ℕ) → 14 ≤ at → 14 + count ≤ at → list_all (λ b. nat_eq b 0) bs ≡ true → runs at some count bs ≡ true
zeros_run [] at some count low more h = refl
zeros_run (b ∷ bs) at some count low more h =
    both_run b bs at some count low (zero_byte at some count b low more ∙ left_true (nat_eq b 0) _ h)
    (zeros_run bs (at + 1) (some || nat_lt 0 b) count (omega arith) (omega arith) (right_true (nat_eq b 0) _ h))

-- so many bytes of the name, and then zeros
pub record NameAndZeros (n : ℕ) (bs : List ℕ) : Type 0 where
  pub name : list_all is_name_byte (take n bs) ≡ true
  pub zeros : list_all (λ b. nat_eq b 0) (drop n bs) ≡ true

name_read : (bs : List ℕ) (n at : ℕ) (some : Bool) (count : ℕ) → 14 ≤ at → at + n ≡ 14 + count → runs at some count bs ≡ true → NameAndZeros n bs
name_read bs zero at some count low end h = record { name = refl; zeros = zeros_read bs at some count low (omega arith) h }
name_read [] (suc n) at some count low end h = record { name = refl; zeros = refl }
name_read (b ∷ bs) (suc n) at some count low end h =
    let rest = name_read bs n (at + 1) (some || nat_lt 0 b) count (omega arith) (omega arith) (rest_runs b bs at some count low h) in
    record { name = both_true (is_name_byte b) _ (sym (name_byte at some count b low (omega arith)) ∙ left_true (entry_goes_on at some count b) _ h) rest.name; zeros = rest.zeros }

name_runs : (name rest : List ℕ) (at : ℕ) (some : Bool) (count : ℕ) → 14 ≤ at → at + length name ≡ 14 + count → list_all is_name_byte name ≡ true → list_all (λ b. nat_eq b 0) rest ≡ true → runs at some count (name ++ rest) ≡ true
name_runs [] rest at some count low end is zeros = zeros_run rest at some count low (omega arith) zeros
name_runs (b ∷ name) rest at some count low end is zeros =
    both_run b (name ++ rest) at some count low (name_byte at some count b low (omega arith) ∙ left_true (is_name_byte b) _ is)
    (name_runs name rest (at + 1) (some || nat_lt 0 b) count (omega arith) (omega arith) (right_true (is_name_byte b) _ is) zeros)

-- The sequence number

-- some byte isn't zero
abbrev some_in : Bool → List ℕ → Bool
some_in some [] = some
some_in some (b ∷ bs) = some_in (some || nat_lt 0 b) bs

none_but_zeros : (bs : List ℕ) (some : Bool) → some_in some bs ≡ false → (some ≡ false) × (bs ≡ replicate (length bs) 0)
none_but_zeros [] some e = (e, refl)
none_but_zeros (b ∷ bs) some e =
    let rest = none_but_zeros bs (some || nat_lt 0 b) e in
    let parts = or_false some (nat_lt 0 b) rest.0 in
    (parts.0, ap (λ (x : ℕ). x ∷ bs) (is_zero b parts.1) ∙ ap (λ (l : List ℕ). 0 ∷ l) rest.1)
  where
    or_false : (s t : Bool) → (s || t) ≡ false → (s ≡ false) × (t ≡ false)
    or_false true t e = absurd cc
    or_false false t e = (refl, e)

    is_zero : (n : ℕ) → nat_lt 0 n ≡ false → n ≡ 0
    is_zero n e = grind (arith, nat_tests)

number_some : (n : ℕ) → 1 ≤ n → n < 2 ^ 64 → some_in false (big_bytes 8 n) ≡ true
number_some n low high = cases (some_in false (big_bytes 8 n)) refl
  where
    cases : (t : Bool) → some_in false (big_bytes 8 n) ≡ t → some_in false (big_bytes 8 n) ≡ true
    cases true e = e
    cases false e =
        let same : big_bytes 8 n ≡ big_bytes 8 0 = (none_but_zeros (big_bytes 8 n) false e).1 in
        let none : n ≡ 0 = big_bytes-inj 8 n 0 (omega arith) (omega arith) same in
        absurd (omega arith)

some_number : (bs : List ℕ) (n : ℕ) → some_in false bs ≡ true → big_bytes 8 n ≡ bs → 1 ≤ n
some_number bs zero some e = absurd (unlike (some_in false bs) some (ap (λ (l : List ℕ). some_in false l) (sym e)))
  where
    unlike : (c : Bool) → c ≡ true → c ≡ false → ⊥
    unlike c g h = cc
some_number bs (suc n) some e = omega arith

-- Spelled entries go on

state_goes : (frozen : Bool) → (nat_eq (state_byte frozen) 1 || nat_eq (state_byte frozen) 2) ≡ true
state_goes true = refl
state_goes false = refl

parent_goes : (parent : Option VersionNo) → IsParent parent → (nat_lt (parent_byte parent) 64 || nat_eq (parent_byte parent) 255) ≡ true
parent_goes None is = refl
parent_goes (Some v) is = small v.0 is
  where
    small : (n : ℕ) → n < 64 → (nat_lt n 64 || nat_eq n 255) ≡ true
    small n h = grind (arith, nat_tests)

node_goes : (n : ℕ) → n < 8 → nat_lt n 8 ≡ true
node_goes n h = grind (arith, nat_tests)

slot_goes : (n : ℕ) → n < 4096 → nat_lt (byte_at 1 n) 16 ≡ true
slot_goes n h = less (byte_at 1 n) (omega arith)
  where
    less : (m : ℕ) → m < 16 → nat_lt m 16 ≡ true
    less m h = grind (arith, nat_tests)

count_goes : (n : ℕ) → 1 ≤ n → n ≤ 16 → (nat_lt 0 n && nat_lt n 17) ≡ true
count_goes n low high = grind (arith, nat_tests)

entry_runs : (e : CatEntry) → IsEntry e → runs 0 false 0 (entry_bytes e) ≡ true
entry_runs e is =
    both_true _ _ (number_some e.seq is.seq_low is.seq_high)
    (both_true _ _ (state_goes e.frozen)
    (both_true _ _ (parent_goes e.parent is.parent)
    (both_true _ _ (node_goes e.root.node.0 is.root.0)
    (both_true _ _ (slot_goes e.root.slot is.root.1)
    (both_true _ _ (count_goes (length e.name) is.name.0 is.name.1)
    (name_runs e.name (replicate (64 - length (entry_text e)) 0) 14 _ (length e.name) (omega arith) (omega arith) is.name.2 (are_zeros (64 - length (entry_text e)))))))))

pub sound : (t : List ℕ) (e : CatEntry) → SpellsEntry t e → (runs 0 false 0 t ≡ true) × (length t ≡ 64)
sound t e s = (ap (λ (l : List ℕ). runs 0 false 0 l) s.1 ∙ entry_runs e s.0, ap (λ (l : List ℕ). length l) s.1 ∙ entry_length e s.0)

-- Bytes that go on spell an entry

pub fit : (bs : List ℕ) → list_all (λ b. nat_lt b 256) bs ≡ true → (i : ℕ) → get_or bs i 0 < 256
fit [] h i = omega arith
fit (b ∷ bs) h zero = below b (left_true (nat_lt b 256) _ h)
  where
    below : (n : ℕ) → nat_lt n 256 ≡ true → n < 256
    below n e = grind (arith, nat_tests)
fit (b ∷ bs) h (suc i) = fit bs (right_true (nat_lt b 256) _ h) i

-- eight bytes are those of a number
pub number_of : (c0 c1 c2 c3 c4 c5 c6 c7 : ℕ) → list_all (λ b. nat_lt b 256) (c0 ∷ c1 ∷ c2 ∷ c3 ∷ c4 ∷ c5 ∷ c6 ∷ c7 ∷ []) ≡ true
    → (n : ℕ) × (n < 2 ^ 64) × (big_bytes 8 n ≡ c0 ∷ c1 ∷ c2 ∷ c3 ∷ c4 ∷ c5 ∷ c6 ∷ c7 ∷ [])
number_of c0 c1 c2 c3 c4 c5 c6 c7 s =
    let bs : List ℕ = c0 ∷ c1 ∷ c2 ∷ c3 ∷ c4 ∷ c5 ∷ c6 ∷ c7 ∷ [] in
    (from_be_bytes w64 bs, fits, be_bytes_8 bs (from_be_bytes w64 bs) refl (fit bs s) refl)
  where
    fits : from_be_bytes w64 (c0 ∷ c1 ∷ c2 ∷ c3 ∷ c4 ∷ c5 ∷ c6 ∷ c7 ∷ []) < 2 ^ 64
    fits =
        let bs : List ℕ = c0 ∷ c1 ∷ c2 ∷ c3 ∷ c4 ∷ c5 ∷ c6 ∷ c7 ∷ [] in
        let f0 : c0 < 256 = fit bs s 0 in
        let f1 : c1 < 256 = fit bs s 1 in
        let f2 : c2 < 256 = fit bs s 2 in
        let f3 : c3 < 256 = fit bs s 3 in
        let f4 : c4 < 256 = fit bs s 4 in
        let f5 : c5 < 256 = fit bs s 5 in
        let f6 : c6 < 256 = fit bs s 6 in
        let f7 : c7 < 256 = fit bs s 7 in
        omega arith

-- the cells of an entry that go on are those of some entry
record Cells (t : List ℕ) (e : CatEntry) (rest : List ℕ) : Type 0 where
  pub is : IsEntry e
  pub spelled : t ≡ read_text e ++ rest
  pub zeros : list_all (λ b. nat_eq b 0) rest ≡ true

state_is : (c : ℕ) → (nat_eq c 1 || nat_eq c 2) ≡ true → c ≡ state_byte (nat_eq c 2)
state_is c h = elim (nat_eq c 2) as (λ t. nat_eq c 2 ≡ t → (nat_eq c 1 || t) ≡ true → c ≡ state_byte t) [
  | true ↦ λ e h. is_two c e
  | false ↦ λ e h. is_one c h
] refl h
  where
    is_two : (n : ℕ) → nat_eq n 2 ≡ true → n ≡ 2
    is_two n e = grind (arith, nat_tests)

    is_one : (n : ℕ) → (nat_eq n 1 || false) ≡ true → n ≡ 1
    is_one n e = grind (arith, nat_tests)

parent_is : (c : ℕ) → (nat_lt c 64 || nat_eq c 255) ≡ true → (parent : Option VersionNo) × IsParent parent × (c ≡ parent_byte parent)
parent_is c h = elim (nat_lt c 64) as (λ t. nat_lt c 64 ≡ t → (t || nat_eq c 255) ≡ true → (parent : Option VersionNo) × IsParent parent × (c ≡ parent_byte parent)) [
  | true ↦ λ e h. (Some (record { 0 = c }), below c e, refl)
  | false ↦ λ e h. (None, tt, is_none c h)
] refl h
  where
    below : (n : ℕ) → nat_lt n 64 ≡ true → n < 64
    below n e = grind (arith, nat_tests)

    is_none : (n : ℕ) → (false || nat_eq n 255) ≡ true → n ≡ 255
    is_none n e = grind (arith, nat_tests)

pub addr_is : (c0 c1 c2 : ℕ) → nat_lt c0 8 ≡ true → nat_lt c1 16 ≡ true → c2 < 256 → (addr : Addr) × IsAddr addr × (addr_bytes addr ≡ c0 ∷ c1 ∷ c2 ∷ [])
addr_is c0 c1 c2 e f s =
    let node : c0 < 8 = below8 c0 e in
    let high : c1 < 16 = below16 c1 f in
    let bs : List ℕ = c1 ∷ c2 ∷ [] in
    let n = from_be_bytes w16 bs in
    (record { node = record { 0 = c0 }; slot = n }, (node, omega arith), ap (λ (l : List ℕ). c0 ∷ l) (be_bytes_2 bs n refl (two c1 c2 (omega arith) s) refl))
  where
    below8 : (n : ℕ) → nat_lt n 8 ≡ true → n < 8
    below8 n e = grind (arith, nat_tests)

    below16 : (n : ℕ) → nat_lt n 16 ≡ true → n < 16
    below16 n e = grind (arith, nat_tests)

    two : (a b : ℕ) → a < 256 → b < 256 → (i : ℕ) → get_or (a ∷ b ∷ []) i 0 < 256
    two a b p q zero = p
    two a b p q (suc zero) = q
    two a b p q (suc (suc i)) = omega arith

count_is : (c : ℕ) → (nat_lt 0 c && nat_lt c 17) ≡ true → (1 ≤ c) × (c ≤ 16)
count_is c h = (grind (arith, nat_tests), grind (arith, nat_tests))

cells : (c0 c1 c2 c3 c4 c5 c6 c7 c8 c9 c10 c11 c12 c13 : ℕ) (more : List ℕ) → length more ≡ 50
    → some_in false (c0 ∷ c1 ∷ c2 ∷ c3 ∷ c4 ∷ c5 ∷ c6 ∷ c7 ∷ []) ≡ true → list_all (λ b. nat_lt b 256) (c0 ∷ c1 ∷ c2 ∷ c3 ∷ c4 ∷ c5 ∷ c6 ∷ c7 ∷ []) ≡ true
    → (nat_eq c8 1 || nat_eq c8 2) ≡ true → (nat_lt c9 64 || nat_eq c9 255) ≡ true → nat_lt c10 8 ≡ true → nat_lt c11 16 ≡ true → c12 < 256 → (nat_lt 0 c13 && nat_lt c13 17) ≡ true → NameAndZeros c13 more
    → (e : CatEntry) × (rest : List ℕ) × Cells (c0 ∷ c1 ∷ c2 ∷ c3 ∷ c4 ∷ c5 ∷ c6 ∷ c7 ∷ c8 ∷ c9 ∷ c10 ∷ c11 ∷ c12 ∷ c13 ∷ more) e rest
unfolding eight
cells c0 c1 c2 c3 c4 c5 c6 c7 c8 c9 c10 c11 c12 c13 more l some s8 h8 h9 h10 h11 h12 h13 named =
    let number = number_of c0 c1 c2 c3 c4 c5 c6 c7 s8 in
    let parent = parent_is c9 h9 in
    let addr = addr_is c10 c11 c12 h10 h11 h12 in
    let count = count_is c13 h13 in
    let long : length (take c13 more) ≡ c13 = length-take-le c13 more (omega (arith, count.1)) in
    let e : CatEntry = record { seq = number.0; frozen = nat_eq c8 2; parent = parent.0; root = addr.0; name = take c13 more } in (
      e,
      drop c13 more,
      record {
        is = record {
          seq_low = some_number (c0 ∷ c1 ∷ c2 ∷ c3 ∷ c4 ∷ c5 ∷ c6 ∷ c7 ∷ []) number.0 some number.2;
          seq_high = number.1;
          parent = parent.1;
          root = addr.1;
          name = (omega (arith, count.0), omega (arith, count.1), named.name);
        };
        spelled =
            ap (λ (x : List ℕ). c0 ∷ c1 ∷ c2 ∷ c3 ∷ c4 ∷ c5 ∷ c6 ∷ c7 ∷ c8 ∷ c9 ∷ c10 ∷ c11 ∷ c12 ∷ c13 ∷ x) (sym (take_rest_is c13 more))
            ∙ ap (λ (x : ℕ). c0 ∷ c1 ∷ c2 ∷ c3 ∷ c4 ∷ c5 ∷ c6 ∷ c7 ∷ c8 ∷ c9 ∷ c10 ∷ c11 ∷ c12 ∷ x ∷ (take c13 more ++ drop c13 more)) (sym long)
            ∙ ap (λ (x : List ℕ). (c0 ∷ c1 ∷ c2 ∷ c3 ∷ c4 ∷ c5 ∷ c6 ∷ c7 ∷ c8 ∷ c9 ∷ []) ++ (x ++ (length (take c13 more) ∷ (take c13 more ++ drop c13 more)))) (sym addr.2)
            ∙ ap (λ (x : ℕ). (c0 ∷ c1 ∷ c2 ∷ c3 ∷ c4 ∷ c5 ∷ c6 ∷ c7 ∷ c8 ∷ x ∷ []) ++ (addr_bytes addr.0 ++ (length (take c13 more) ∷ (take c13 more ++ drop c13 more)))) parent.2
            ∙ ap (λ (x : ℕ). (c0 ∷ c1 ∷ c2 ∷ c3 ∷ c4 ∷ c5 ∷ c6 ∷ c7 ∷ x ∷ parent_byte parent.0 ∷ []) ++ (addr_bytes addr.0 ++ (length (take c13 more) ∷ (take c13 more ++ drop c13 more)))) (state_is c8 h8)
            ∙ ap (λ (x : List ℕ). x ++ (state_byte (nat_eq c8 2) ∷ parent_byte parent.0 ∷ (addr_bytes addr.0 ++ (length (take c13 more) ∷ (take c13 more ++ drop c13 more))))) (sym number.2);
        zeros = named.zeros;
      },
    )
  where
    take_rest_is : (n : ℕ) (xs : List ℕ) → take n xs ++ drop n xs ≡ xs
    take_rest_is zero xs = refl
    take_rest_is (suc n) [] = refl
    take_rest_is (suc n) (x ∷ xs) = ap (λ (l : List ℕ). x ∷ l) (take_rest_is n xs)

pub whole : (t : List ℕ) → runs 0 false 0 t ≡ true → length t ≡ 64 → list_all (λ b. nat_lt b 256) t ≡ true → (e : CatEntry) × SpellsEntry t e
whole (c0 ∷ (c1 ∷ (c2 ∷ (c3 ∷ (c4 ∷ (c5 ∷ (c6 ∷ (c7 ∷ (c8 ∷ (c9 ∷ (c10 ∷ (c11 ∷ (c12 ∷ (c13 ∷ more)))))))))))))) h l s =
    let t : List ℕ = c0 ∷ c1 ∷ c2 ∷ c3 ∷ c4 ∷ c5 ∷ c6 ∷ c7 ∷ c8 ∷ c9 ∷ c10 ∷ c11 ∷ c12 ∷ c13 ∷ more in
    let some = some_in false (c0 ∷ c1 ∷ c2 ∷ c3 ∷ c4 ∷ c5 ∷ c6 ∷ c7 ∷ c8 ∷ c9 ∷ c10 ∷ c11 ∷ c12 ∷ c13 ∷ []) in
    let r14 = runs 14 some c13 more in
    let r13 = (nat_lt 0 c13 && nat_lt c13 17) && r14 in
    let r11 = nat_lt c11 16 && r13 in
    let r10 = nat_lt c10 8 && r11 in
    let r9 = (nat_lt c9 64 || nat_eq c9 255) && r10 in
    let r8 = (nat_eq c8 1 || nat_eq c8 2) && r9 in
    let e8 : r8 ≡ true = right_true (some_in false (c0 ∷ c1 ∷ c2 ∷ c3 ∷ c4 ∷ c5 ∷ c6 ∷ c7 ∷ [])) r8 h in
    let e9 : r9 ≡ true = right_true (nat_eq c8 1 || nat_eq c8 2) r9 e8 in
    let e10 : r10 ≡ true = right_true (nat_lt c9 64 || nat_eq c9 255) r10 e9 in
    let e11 : r11 ≡ true = right_true (nat_lt c10 8) r11 e10 in
    let e13 : r13 ≡ true = right_true (nat_lt c11 16) r13 e11 in
    let e14 : r14 ≡ true = right_true (nat_lt 0 c13 && nat_lt c13 17) r14 e13 in
    let found = cells c0 c1 c2 c3 c4 c5 c6 c7 c8 c9 c10 c11 c12 c13 more (omega arith) (left_true (some_in false (c0 ∷ c1 ∷ c2 ∷ c3 ∷ c4 ∷ c5 ∷ c6 ∷ c7 ∷ [])) r8 h) (all_take (λ b. nat_lt b 256) 8 t s)
    (left_true (nat_eq c8 1 || nat_eq c8 2) r9 e8) (left_true (nat_lt c9 64 || nat_eq c9 255) r10 e9) (left_true (nat_lt c10 8) r11 e10) (left_true (nat_lt c11 16) r13 e11) (fit t s 12)
    (left_true (nat_lt 0 c13 && nat_lt c13 17) r14 e13) (name_read more c13 14 some c13 (omega arith) (omega arith) e14) in
    let made = whole_entry t found.1 found.0 l (record { may = entry_named found.0 (found.2).is; spelled = (found.2).spelled }) (found.2).zeros in
    (found.0, ((found.2).is, made.1))
whole t h l s = absurd (omega arith)

pub longest : (bs : List ℕ) → list_all (λ b. nat_lt b 256) bs ≡ true → IsLongest BeginsEntry bs (place 0 false 0 bs)
longest bs s = record {
  within = place_within bs 0 false 0;
  here =
      let n = place 0 false 0 bs in
      let short = place_short bs 0 false 0 (omega arith) in
      let more = goes_on (take n bs) 64 0 false 0 (place_runs bs 0 false 0) (let l = length-take-le n bs (place_within bs 0 false 0) in omega arith) (all_take (λ b. nat_lt b 256) n bs s) in
      let found = whole (take n bs ++ more.rest) more.on more.long more.small in
      (more.rest, found.0, found.1);
  further = λ less front.
      let n = place 0 false 0 bs in
      let so = sound (take (n + 1) bs ++ front.0) front.1 front.2 in
      let long = length-append (take (n + 1) bs) front.0 in
      let one = length-take-le (n + 1) bs (omega arith) in
      place_stops bs 0 false 0 less (omega (arith, so.1)) (ap (λ (k : ℕ). runs 0 false 0 (take k bs)) (sym (add-one n)) ∙ runs_front (take (n + 1) bs) front.0 0 false 0 so.0);
}

-- One byte after the other

pub at_end : (bs : List ℕ) (at : ℕ) (some : Bool) (count : ℕ) → length bs ≤ at → place at some count (drop at bs) ≡ 0
at_end bs at some count h = ap (λ (l : List ℕ). place at some count l) (drop_of_length-le bs h)

pub past_end : (bs : List ℕ) (some : Bool) (count : ℕ) → place 64 some count bs ≡ 0
past_end [] some count = refl
past_end (b ∷ bs) some count = refl

abbrev after : ℕ → Bool → ℕ → ℕ → List ℕ → ℕ
after at some count b bs = if nat_lt at 64 && entry_goes_on at some count b then suc (place (at + 1) (some || nat_lt 0 b) (if nat_eq at 13 then b else count) bs) else 0

opened : (bs : List ℕ) (at : ℕ) (some : Bool) (count b : ℕ) → at < length bs → b ≡ get_or bs at 0 → place at some count (drop at bs) ≡ after at some count b (drop (at + 1) bs)
opened bs at some count b h e =
    ap (λ (l : List ℕ). place at some count l) (drop-cons bs at 0 h ∙ ap (λ (n : ℕ). get_or bs at 0 ∷ drop n bs) (sym (add-one at)))
    ∙ ap (λ (x : ℕ). after at some count x (drop (at + 1) bs)) (sym e)

pub stays : (bs : List ℕ) (at : ℕ) (some : Bool) (count b : ℕ) → at < length bs → b ≡ get_or bs at 0 → entry_goes_on at some count b ≡ false → place at some count (drop at bs) ≡ 0
stays bs at some count b h e f =
    opened bs at some count b h e ∙ ap (λ (t : Bool). if nat_lt at 64 && t then suc (place (at + 1) (some || nat_lt 0 b) (if nat_eq at 13 then b else count) (drop (at + 1) bs)) else 0) f
    ∙ none (nat_lt at 64) (suc (place (at + 1) (some || nat_lt 0 b) (if nat_eq at 13 then b else count) (drop (at + 1) bs)))
  where
    none : (t : Bool) (n : ℕ) → (if t && false then n else 0) ≡ 0
    none true n = refl
    none false n = refl

pub goes_further : (bs : List ℕ) (at : ℕ) (some next : Bool) (count known b : ℕ) → at < 64 → at < length bs → b ≡ get_or bs at 0 → entry_goes_on at some count b ≡ true
    → next ≡ (some || nat_lt 0 b) → known ≡ (if nat_eq at 13 then b else count) → place at some count (drop at bs) ≡ suc (place (at + 1) next known (drop (at + 1) bs))
goes_further bs at some next count known b low h e f g k =
    opened bs at some count b h e
    ∙ ap (λ (t : Bool). if t then suc (place (at + 1) (some || nat_lt 0 b) (if nat_eq at 13 then b else count) (drop (at + 1) bs)) else 0) (both_true (nat_lt at 64) (entry_goes_on at some count b) (below at low) f)
    ∙ ap (λ (t : Bool). suc (place (at + 1) t (if nat_eq at 13 then b else count) (drop (at + 1) bs))) (sym g)
    ∙ ap (λ (n : ℕ). suc (place (at + 1) next n (drop (at + 1) bs))) (sym k)
  where
    below : (n : ℕ) → n < 64 → nat_lt n 64 ≡ true
    below n e = grind (arith, nat_tests)
