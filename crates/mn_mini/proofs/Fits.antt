-- What the records answer fits the request.
use Rattle.std.proofs.Common.{◌≡◌, ◌≢◌, ◌≤◌, ◌+◌, inl, inr, ℕ, zero, suc, Bool, true, false, List, [], ◌∷◌, length, drop, Option, Some, None, refl, sym, ◌∙◌, subst, arith, if◌then◌else◌}
use Rattle.std.specs.Prelude.{bytes_eq}
use Rattle.std.specs.List.{AllByRecursion}
use Rattle.std.proofs.lemmas.List.{length-take-le, length-drop}
use Rattle.std.proofs.lemmas.Slice.Eq.{bytes_eq-Decides}
use Rattle.mn_base.specs.Ids.{tid_lt, tid_same}
use Rattle.mn_base.specs.declared.ids.Tid.{Tid}
use Rattle.mn_mini.specs.declared.part.PartItem.{PartItem}
use Rattle.mn_mini.specs.declared.part.PartItem.TheVariants.{Compare, Read, Write}
use Rattle.mn_mini.specs.declared.doubt.Doubt.{Doubt}
use Rattle.mn_mini.specs.declared.record.Record.{Record}
use Rattle.mn_mini.specs.declared.record.Record.TheVariants.{Voted, Executed, Decided, Forced}
use Rattle.mn_mini.specs.declared.request.Request.TheVariants as Ask
use Rattle.mn_mini.specs.declared.reply.NodeReply.{NodeReply}
use Rattle.mn_mini.specs.declared.reply.NodeReply.TheVariants as Say
use Rattle.mn_mini.specs.Mini.{range_of, has_write, space_size}
use Rattle.mn_mini.specs.Flat.{Mismatched, bytes_in, part_mismatch_from, part_reads, space_after_part}
use Rattle.mn_base.specs.Ranges.{least_tid}
use Rattle.mn_mini.specs.Node.{HeldPart, Clash, held_parts, holders, clash_or, clash_of, has_voted, has_forced, after_locks, after_compares, with_held, space_of, only_reply, tested, with_doubt, doubts_of}
use Rattle.mn_mini.specs.RecordGrammar.{IsPartItem, IsRecord, IsTid, AreParticipants}
use Rattle.mn_mini.specs.Sound.{AreReadsOf, Fits, IsDoubt, IsOtherThan, IsRangeIn}
use Rattle.mn_mini.specs.Laws.{AnswersFit}
use Rattle.mn_mini.proofs.Apart.{All-without}
use Rattle.mn_mini.proofs.Bytes.{length-overwritten}

-- The space keeps its size

length-part : (space : List ℕ) (part : List PartItem) → length (space_after_part space part) ≡ length space
length-part space [] = refl
length-part space (Compare start bytes ∷ part) = length-part space part
length-part space (Read start size ∷ part) = length-part space part
length-part space (Write start bytes ∷ part) = length-part _ part ∙ length-overwritten space start bytes

length-held : (is_so : Tid → Bool) (space : List ℕ) (held : List HeldPart) → length (with_held is_so space held) ≡ length space
length-held is_so space [] = refl
length-held is_so space (h ∷ hs) =
    elim (is_so h.tid) as (λ b. length (if b then space_after_part (with_held is_so space hs) h.part else with_held is_so space hs) ≡ length space) [
      | true ↦ length-part (with_held is_so space hs) h.part ∙ length-held is_so space hs
      | false ↦ length-held is_so space hs
    ]

pub length-space_of : (base : List ℕ) (records : List Record) → length (space_of base records) ≡ length base
length-space_of base [] = refl
length-space_of base (Voted tid participants part ∷ records) = length-space_of base records
length-space_of base (Executed tid part ∷ records) = length-part (space_of base records) part ∙ length-space_of base records
length-space_of base (Decided tid true ∷ records) = length-held (λ t. tid_same t tid) (space_of base records) (held_parts records) ∙ length-space_of base records
length-space_of base (Decided tid false ∷ records) = length-space_of base records
length-space_of base (Forced tid ∷ records) = length-space_of base records

length-in : (space : List ℕ) (start size : ℕ) → start + size ≤ length space → length (bytes_in space start size) ≡ size
length-in space start size within = length-take-le size (drop start space) (omega (arith, within, length-drop start space))

-- What a part reads, and what differs

abbrev AreWithin : List ℕ → List PartItem → Type 0
AreWithin space part = AllByRecursion (λ i. (range_of i).start + (range_of i).length ≤ length space) part

reads_fit : (space : List ℕ) (part : List PartItem) → AreWithin space part → AreReadsOf (part_reads space part) part
reads_fit space [] within = tt
reads_fit space (Compare start bytes ∷ part) within = skipped (part_reads space part) (reads_fit space part within.1)
  where
    skipped : (reads : List (List ℕ)) → AreReadsOf reads part → AreReadsOf reads (Compare start bytes ∷ part)
    skipped [] told = told
    skipped (r ∷ reads) told = told
reads_fit space (Read start size ∷ part) within = (length-in space start size within.0, reads_fit space part within.1)
reads_fit space (Write start bytes ∷ part) within = skipped (part_reads space part) (reads_fit space part within.1)
  where
    skipped : (reads : List (List ℕ)) → AreReadsOf reads part → AreReadsOf reads (Write start bytes ∷ part)
    skipped [] told = told
    skipped (r ∷ reads) told = told

other_bytes : (xs ys : List ℕ) → bytes_eq xs ys ≡ false → xs ≢ ys
other_bytes xs ys e = λ same. turned (sym ((bytes_eq-Decides xs ys).1 same) ∙ e)
  where
    turned : true ≡ false → ⊥
    turned f = cc

-- a mismatch found behind i compares is at one of the items
abbrev IsAmong : ℕ → Mismatched → List PartItem → Type 0
IsAmong i at part = (k : ℕ) × (at.item ≡ i + k) × IsOtherThan k at.found part

pub unsome : {X : Type 0} (x y : X) → Some x ≡ Some y → x ≡ y
unsome x y e = cc

mismatch_among : (space : List ℕ) (i : ℕ) (part : List PartItem) (at : Mismatched) → AreWithin space part → part_mismatch_from space i part ≡ Some at → IsAmong i at part
mismatch_among space i [] at within e = absurd cc
mismatch_among space i (Compare start bytes ∷ part) at within e =
    let here = bytes_in space start (length bytes) in
    elim (bytes_eq here bytes) as (λ b. bytes_eq here bytes ≡ b → (if b then part_mismatch_from space (i + 1) part else Some (record { item = i; found = here })) ≡ Some at → IsAmong i at (Compare start bytes ∷ part)) [
      | true ↦ λ same rest.
          let told = mismatch_among space (i + 1) part at within.1 rest in
          (suc told.0, omega (arith, told.1), told.2)
      | false ↦ λ differs found.
          subst (λ (m : Mismatched). IsAmong i m (Compare start bytes ∷ part)) (unsome _ at found)
          (0, omega arith, (length-in space start (length bytes) within.0, other_bytes here bytes differs))
    ] refl e
mismatch_among space i (Read start size ∷ part) at within e =
    let told = mismatch_among space i part at within.1 e in
    (told.0, told.1, over told.0 told.2)
  where
    over : (k : ℕ) → IsOtherThan k at.found part → IsOtherThan k at.found (Read start size ∷ part)
    over zero told = told
    over (suc k) told = told
mismatch_among space i (Write start bytes ∷ part) at within e =
    let told = mismatch_among space i part at within.1 e in
    (told.0, told.1, over told.0 told.2)
  where
    over : (k : ℕ) → IsOtherThan k at.found part → IsOtherThan k at.found (Write start bytes ∷ part)
    over zero told = told
    over (suc k) told = told

mismatch_fits : (space : List ℕ) (part : List PartItem) (at : Mismatched) → AreWithin space part → part_mismatch_from space 0 part ≡ Some at → IsOtherThan at.item at.found part
mismatch_fits space part at within e =
    let told = mismatch_among space 0 part at within e in
    subst (λ (n : ℕ). IsOtherThan n at.found part) (omega (arith, told.1)) told.2

clash_fits : (hs : List HeldPart) (tid : Tid) (part : List PartItem) (clash : Clash) → clash_of hs tid part ≡ Some clash → IsRangeIn clash.range.start clash.range.length part
clash_fits hs tid [] clash e = absurd cc
clash_fits hs tid (item ∷ part) clash e =
    elim (least_tid (holders hs tid item)) as (λ o. clash_or item o (clash_of hs tid part) ≡ Some clash → IsRangeIn clash.range.start clash.range.length (item ∷ part)) [
      | None ↦ λ rest. inr (clash_fits hs tid part clash rest)
      | Some t ↦ λ found. subst (λ (c : Clash). IsRangeIn c.range.start c.range.length (item ∷ part)) (unsome _ clash found) (inl (refl, refl))
    ] e

-- A part that is tested

abbrev FitsPart : List PartItem → NodeReply → Type 0
FitsPart part (Say.Done reads) = AreReadsOf reads part
FitsPart part (Say.BadLock start size holder) = IsRangeIn start size part
FitsPart part (Say.BadCompare item found) = IsOtherThan item found part
FitsPart part reply = ⊥

tested_fits : (space : List ℕ) (hs : List HeldPart) (tid : Tid) (part : List PartItem) (added : Option Record) → AreWithin space part → FitsPart part (after_locks space part added (clash_of hs tid part)).reply
tested_fits space hs tid part added within =
    elim (clash_of hs tid part) as (λ o. clash_of hs tid part ≡ o → FitsPart part (after_locks space part added o).reply) [
      | Some clash ↦ λ e. clash_fits hs tid part clash e
      | None ↦ λ e. elim (part_mismatch_from space 0 part) as (λ o. part_mismatch_from space 0 part ≡ o → FitsPart part (after_compares space part added o).reply) [
        | Some at ↦ λ f. mismatch_fits space part at within f
        | None ↦ λ f. reads_fit space part within
      ] refl
    ] refl

prepare_fits : (tid : Tid) (participants : List Rattle.mn_base.specs.declared.ids.NodeNo.NodeNo) (part : List PartItem) (reply : NodeReply) → FitsPart part reply → Fits (Ask.Prepare tid participants part) reply
prepare_fits tid participants part (Say.Done reads) told = told
prepare_fits tid participants part (Say.BadLock start size holder) told = told
prepare_fits tid participants part (Say.BadCompare item found) told = told
prepare_fits tid participants part Say.BadForced told = absurd told
prepare_fits tid participants part (Say.Vote verdict) told = absurd told
prepare_fits tid participants part Say.Decided told = absurd told
prepare_fits tid participants part (Say.Listed doubts) told = absurd told
prepare_fits tid participants part (Say.Peeked bytes) told = absurd told
prepare_fits tid participants part Say.Down told = absurd told
prepare_fits tid participants part Say.Stopped told = absurd told
prepare_fits tid participants part Say.NoMemory told = absurd told

exec_fits : (tid : Tid) (part : List PartItem) (reply : NodeReply) → FitsPart part reply → Fits (Ask.Exec tid part) reply
exec_fits tid part (Say.Done reads) told = told
exec_fits tid part (Say.BadLock start size holder) told = told
exec_fits tid part (Say.BadCompare item found) told = told
exec_fits tid part Say.BadForced told = absurd told
exec_fits tid part (Say.Vote verdict) told = absurd told
exec_fits tid part Say.Decided told = absurd told
exec_fits tid part (Say.Listed doubts) told = absurd told
exec_fits tid part (Say.Peeked bytes) told = absurd told
exec_fits tid part Say.Down told = absurd told
exec_fits tid part Say.Stopped told = absurd told
exec_fits tid part Say.NoMemory told = absurd told

-- What is held

abbrev IsHeldSoundly : HeldPart → Type 0
IsHeldSoundly h = IsTid h.tid × AreParticipants h.participants

held_soundly : (records : List Record) → AllByRecursion IsRecord records → AllByRecursion IsHeldSoundly (held_parts records)
held_soundly [] are = tt
held_soundly (Voted tid participants part ∷ records) are = ((are.0.id, are.0.follows.0), held_soundly records are.1)
held_soundly (Executed tid part ∷ records) are = held_soundly records are.1
held_soundly (Decided tid verdict ∷ records) are = All-without IsHeldSoundly tid (held_parts records) (held_soundly records are.1)
held_soundly (Forced tid ∷ records) are = held_soundly records are.1

placed_soundly : (d : Doubt) (ds : List Doubt) → IsDoubt d → AllByRecursion IsDoubt ds → AllByRecursion IsDoubt (with_doubt d ds)
placed_soundly d [] is are = (is, tt)
placed_soundly d (e ∷ ds) is are =
    elim (tid_lt d.tid e.tid) as (λ b. AllByRecursion IsDoubt (if b then d ∷ e ∷ ds else e ∷ with_doubt d ds)) [
      | true ↦ (is, are)
      | false ↦ (are.0, placed_soundly d ds is are.1)
    ]

doubts_soundly : (hs : List HeldPart) → AllByRecursion IsHeldSoundly hs → AllByRecursion IsDoubt (doubts_of hs)
doubts_soundly [] are = tt
doubts_soundly (h ∷ hs) are = placed_soundly (record { tid = h.tid; participants = h.participants }) (doubts_of hs) are.0 (doubts_soundly hs are.1)

-- All answers

within_of : (space : List ℕ) (part : List PartItem) → length space ≡ space_size → AllByRecursion IsPartItem part → AreWithin space part
within_of space [] size are = tt
within_of space (item ∷ part) size are = (subst (λ (n : ℕ). (range_of item).start + (range_of item).length ≤ n) (sym size) are.0.2, within_of space part size are.1)

pub answers_do_fit : AnswersFit
answers_do_fit base records (Ask.Prepare tid participants part) size are sound =
    let full = length-space_of base records ∙ size in
    elim (has_forced records tid) as (λ b. Fits (Ask.Prepare tid participants part) (if b then only_reply Say.BadForced else tested base records tid part (Some (Voted tid participants part))).reply) [
      | true ↦ tt
      | false ↦ prepare_fits tid participants part _ (tested_fits (space_of base records) (held_parts records) tid part (Some (Voted tid participants part)) (within_of (space_of base records) part full sound.3.inside))
    ]
answers_do_fit base records (Ask.Exec tid part) size are sound =
    let full = length-space_of base records ∙ size in
    exec_fits tid part _ (tested_fits (space_of base records) (held_parts records) tid part (if has_write part then Some (Executed tid part) else None) (within_of (space_of base records) part full sound.1.inside))
answers_do_fit base records (Ask.Decide tid verdict) size are sound = tt
answers_do_fit base records (Ask.Force tid) size are sound =
    elim (has_voted records tid) as (λ b. Fits (Ask.Force tid) (if b then only_reply (Say.Vote true) else record { reply = Say.Vote false; added = if has_forced records tid then None else Some (Forced tid) }).reply) [ true ↦ tt | false ↦ tt ]
answers_do_fit base records Ask.List size are sound = (tt, doubts_soundly (held_parts records) (held_soundly records are))
answers_do_fit base records (Ask.Peek start n) size are sound =
    let full = length-space_of base records ∙ size in
    length-in (space_of base records) start n (subst (λ (k : ℕ). start + n ≤ k) (sym full) sound.2)
