-- The logs of disks that are read one after the other.
use Rattle.std.proofs.Common.{◌≡◌, ◌<◌, ◌+◌, ◌++◌, ◌∙◌, ℕ, zero, suc, List, [], ◌∷◌, length, map, drop, ap, sym, subst, arith, inl, inr, Some, length-append, length-drop}
use Rattle.std.specs.Prelude.{◌⊎◌, slice_get}
use Rattle.std.proofs.lemmas.List.{length-map}
use Rattle.mn_flat.proofs.Lists.{pushed_at}
use Rattle.mn_io.specs.DiskModel.{DiskState, IsDisk}
use Rattle.mn_mini.specs.declared.record.Record.{Record}
use Rattle.mn_redo.specs.Grammar.{Stands}
use Rattle.mn_redo.specs.Redo.{RedoState}
use Rattle.mn_top.specs.declared.due.DamageRule.TheVariants.{Log, Votes, Both, Forest, Runs, Kept}
use Rattle.mn_top.specs.declared.due.Due.{Due}
use Rattle.mn_top.specs.declared.due.Due.TheVariants.{Report, Usage, Refused, ReadFault, DiskFault, Damaged, NoMemory, Disks}
use Rattle.mn_top.specs.Logs.{AreRead, IsDueAtOpening, IsDueOf, WasRead, WasntRead, WerentRead}
use Rattle.mn_top.specs.Opening.{AreUnwritten, IsBadLog, IsUnwritten, ReadsAs, WereRead}
use Rattle.mn_top.proofs.Gets.{drop_at, map_at, one_at, seam, split_at, there_at, unsome, within}

module _ {D : Type 0} (state : D → DiskState) (faults : D → ℕ) (given : List D) where
  -- one log more
  more_each : (redos : List (RedoState D)) (records : List (List Record)) (disk : D) (redo : RedoState D) (list : List Record) → AreRead state faults given redos records → slice_get given (length redos) ≡ Some disk
      → WasRead state faults (length given) (length redos) disk redo list → (k : ℕ) (d : D) (r : RedoState D) (l : List Record) → slice_get given k ≡ Some d
      → (slice_get redos k ≡ Some r) ⊎ ((k ≡ length redos) × (r ≡ redo)) → (slice_get records k ≡ Some l) ⊎ ((k ≡ length records) × (l ≡ list)) → WasRead state faults (length given) k d r l
  more_each redos records disk redo list are at was k d r l is (inl there) (inl also) = are.each k d r l is there also
  more_each redos records disk redo list are at was k d r l is (inl there) (inr also) = absurd (let low = within redos k r there in omega (arith, low, also.0, are.same))
  more_each redos records disk redo list are at was k d r l is (inr there) (inl also) = absurd (let low = within records k l also in omega (arith, low, there.0, are.same))
  more_each redos records disk redo list are at was k d r l is (inr there) (inr also) =
      let same = one_at given (length redos) disk d at (subst (λ (n : ℕ). slice_get given n ≡ Some d) there.0 is) in
      subst (λ (n : ℕ). WasRead state faults (length given) n d r l) (sym there.0)
      (subst (λ (x : D). WasRead state faults (length given) (length redos) x r l) same
      (subst (λ (x : RedoState D). WasRead state faults (length given) (length redos) disk x l) (sym there.1)
      (subst (λ (x : List Record). WasRead state faults (length given) (length redos) disk redo x) (sym also.1) was)))

  joined : (redos : List (RedoState D)) (records : List (List Record)) (disk : D) (redo : RedoState D) (list : List Record) → AreRead state faults given redos records → slice_get given (length redos) ≡ Some disk
      → WasRead state faults (length given) (length redos) disk redo list → AreRead state faults given (redos ++ redo ∷ []) (records ++ list ∷ [])
  joined redos records disk redo list are at was = record {
    within = let low = within given (length redos) disk at in omega (arith, low, length-append redos (redo ∷ []));
    same = length-append records (list ∷ []) ∙ (ap (λ (n : ℕ). n + 1) are.same ∙ sym (length-append redos (redo ∷ [])));
    each = λ k d r l is there also. more_each redos records disk redo list are at was k d r l is (pushed_at redos redo r k there) (pushed_at records list l k also);
  }

  pub read_more : (redos redos' : List (RedoState D)) (records records' : List (List Record)) (disk : D) (redo : RedoState D) (list : List Record) → redos' ≡ redos ++ redo ∷ [] → records' ≡ records ++ list ∷ []
      → AreRead state faults given redos records → slice_get given (length redos) ≡ Some disk → WasRead state faults (length given) (length redos) disk redo list → AreRead state faults given redos' records'
  read_more redos redos' records records' disk redo list more more' are at was =
      subst (λ (l : List (RedoState D)). AreRead state faults given l records') (sym more) (subst (λ (l : List (List Record)). AreRead state faults given (redos ++ redo ∷ []) l) (sym more') (joined redos records disk redo list are at was))

-- Disks that weren't written

-- a disk that was not called
same_unwritten : {D : Type 0} (state : D → DiskState) → ((disk : D) → (state disk).honest → IsDisk (state disk)) → (disk : D) → IsUnwritten (state disk) (state disk)
same_unwritten state is_disk disk = record {
  honest = λ h. h;
  writes_nothing = λ h. record { later = omega arith; each = λ c since. (is_disk disk h).only_now c since; before = λ t c early since. inl since };
  none_new = λ h c image. image;
}

pub none_written : {D : Type 0} (state : D → DiskState) → ((disk : D) → (state disk).honest → IsDisk (state disk)) → (given : List D) → AreUnwritten state given given
none_written state is_disk given k old new was is = subst (λ d. IsUnwritten (state old) (state d)) (one_at given k old new was is) (same_unwritten state is_disk old)

module _ {D : Type 0} (state : D → DiskState) (faults : D → ℕ) (is_disk : (disk : D) → (state disk).honest → IsDisk (state disk)) (given : List D) (redos : List (RedoState D)) (records : List (List Record)) (are : AreRead state faults given redos records) where
  -- the log of a place
  read_at : (k : ℕ) (old : D) (redo : RedoState D) → slice_get given k ≡ Some old → slice_get redos k ≡ Some redo → (list : List Record) × WasRead state faults (length given) k old redo list
  read_at k old redo was is =
      let there = there_at records k (let low = within redos k redo is in omega (arith, low, are.same)) in
      (there.0, are.each k old redo there.0 was is there.1)

  -- where all logs were read, their disks are unwritten
  closed_at : (k : ℕ) (old new : D) → slice_get given k ≡ Some old → slice_get (map (λ (r : RedoState D). r.disk) redos) k ≡ Some new → IsUnwritten (state old) (state new)
  closed_at k old new was is =
      let there = map_at (λ (r : RedoState D). r.disk) redos k new is in
      subst (λ (d : D). IsUnwritten (state old) (state d)) there.2 (read_at k old there.0 was there.1).1.unwritten

  pub closed_unwritten : (left : List D) → left ≡ map (λ (r : RedoState D). r.disk) redos → AreUnwritten state given left
  closed_unwritten left is k old new was at = closed_at k old new was (subst (λ (l : List D). slice_get l k ≡ Some new) is at)

  -- what the disks in front of a place show
  reads_before : (m : ℕ) (d : D) → m < length redos → slice_get given m ≡ Some d → (list : List Record) × ReadsAs (length given) m (state d) list
  reads_before m d low is =
      let there = there_at redos m low in
      let read = read_at m d there.0 is there.1 in (
        read.0,
        record { sound = read.1.records.sound; stands = λ h. subst (λ (l : List (List ℕ)). Stands m (length given) (state d).content l) read.1.records.bodies_are (read.1.read h) },
      )

  module _ (disk bad : D) (left : List D) (due : Due) (at : slice_get given (length redos) ≡ Some disk) (is : left ≡ map (λ (r : RedoState D). r.disk) redos ++ bad ∷ drop (length redos + 1) given)
      (wasnt : WasntRead state faults (length given) (length redos) disk bad due) where
    count : length (map (λ (r : RedoState D). r.disk) redos) ≡ length redos
    count = length-map redos (λ (r : RedoState D). r.disk)

    unwritten_at : (k : ℕ) (old new : D) → slice_get given k ≡ Some old
        → ((k < length (map (λ (r : RedoState D). r.disk) redos)) × (slice_get (map (λ (r : RedoState D). r.disk) redos) k ≡ Some new))
        ⊎ ((j : ℕ) × (k ≡ length (map (λ (r : RedoState D). r.disk) redos) + j) × (slice_get (bad ∷ drop (length redos + 1) given) j ≡ Some new)) → IsUnwritten (state old) (state new)
    unwritten_at k old new was (inl front) = closed_at k old new was front.1
    unwritten_at k old new was (inr (zero, place, there)) =
        let here : k ≡ length redos = omega (arith, place, count) in
        let same = one_at given (length redos) disk old at (subst (λ (n : ℕ). slice_get given n ≡ Some old) here was) in
        subst (λ (d : D). IsUnwritten (state d) (state new)) same (subst (λ (d : D). IsUnwritten (state disk) (state d)) (unsome bad new there) wasnt.unwritten)
    unwritten_at k old new was (inr (suc j, place, there)) =
        let here : length redos + 1 + j ≡ k = omega (arith, place, count) in
        none_written state is_disk given k old new was (subst (λ (n : ℕ). slice_get given n ≡ Some new) here (sym (drop_at given (length redos + 1) j) ∙ there))

    untouched : AreUnwritten state given left
    untouched k old new was there = unwritten_at k old new was (split_at (map (λ (r : RedoState D). r.disk) redos) (bad ∷ drop (length redos + 1) given) k new (subst (λ (l : List D). slice_get l k ≡ Some new) is there))

    bad_at : slice_get left (length redos) ≡ Some bad
    bad_at = ap (λ (l : List D). slice_get l (length redos)) is
        ∙ ap (λ (n : ℕ). slice_get (map (λ (r : RedoState D). r.disk) redos ++ bad ∷ drop (length redos + 1) given) n) (sym count) ∙ seam (map (λ (r : RedoState D). r.disk) redos) bad (drop (length redos + 1) given)

    pub left_count : length left ≡ length given
    left_count = let low = within given (length redos) disk at in
        omega (arith, ap (λ (l : List D). length l) is, length-append (map (λ (r : RedoState D). r.disk) redos) (bad ∷ drop (length redos + 1) given), count, low, length-drop (length redos + 1) given)

    before : (n : ℕ) → n ≡ length redos → WereRead state given n
    before n here m d low is = reads_before m d (subst (λ (k : ℕ). m < k) here low) is

    due_so : (due' : Due) → IsDueOf state faults (length given) (length redos) disk bad due' → IsDueAtOpening state faults given left due'
    due_so (DiskFault n) (here, rose) = (record { old = disk; new = bad; was = ap (slice_get given) here ∙ at; is = ap (slice_get left) here ∙ bad_at; rose = rose }, before n here)
    due_so (Damaged n place Log) (here, bad_log) = record {
      disk = disk;
      is = ap (slice_get given) here ∙ at;
      bad = subst (λ (k : ℕ). IsBadLog (length given) k (state disk) place) (sym here) bad_log;
      before = before n here;
    }
    due_so NoMemory told = tt
    due_so (Damaged n place Votes) told = absurd told
    due_so (Damaged n place Both) told = absurd told
    due_so (Damaged n place (Forest rule)) told = absurd told
    due_so (Damaged n place Runs) told = absurd told
    due_so (Damaged n place Kept) told = absurd told
    due_so (Report text) told = absurd told
    due_so Usage told = absurd told
    due_so (Refused row column) told = absurd told
    due_so ReadFault told = absurd told
    due_so (Disks told wanted) is_told = absurd is_told

    pub wasnt_opened : WerentRead state faults given left due
    wasnt_opened = record { unwritten = untouched; due_is = due_so due wasnt.due_is }
