-- What is due of a disk whose log wasn't opened.
use Rattle.std.proofs.Common.{◌≡◌, ◌≢◌, ℕ, List, [], length, refl, ap, sym, subst, arith, inl, inr}
use Rattle.std.specs.Prelude.{◌⊎◌}
use Rattle.mn_io.specs.DiskModel.{DiskState, NoneNew, DiskStays, WritesNothing}
use Rattle.mn_mini.specs.declared.record.Record.{Record}
use Rattle.mn_node.specs.State.{AreRecords, IsFirstBadBody}
use Rattle.mn_node.specs.declared.start.StartCause.{StartCause}
use Rattle.mn_node.specs.declared.start.StartCause.TheVariants as starts
use Rattle.mn_redo.specs.Grammar.{AreInFront, IsDamaged, IsFresh, IsLogAt, Stands}
use Rattle.mn_redo.specs.Redo.{RedoState}
use Rattle.mn_redo.specs.declared.redo.Phase.{Phase}
use Rattle.mn_redo.specs.declared.redo.Phase.TheVariants.{Closing, Fresh, Started}
use Rattle.mn_redo.specs.declared.open.OpenCause.TheVariants as opens
use Rattle.mn_top.specs.Opening.{Begins, IsDamagedBehind, IsUnwritten}
use Rattle.mn_top.specs.Logs.{WasRefused, WasntRead, due_of_starting}
use Rattle.mn_top.specs.declared.due.DamageRule.TheVariants.{Log}
use Rattle.mn_top.specs.declared.due.Due.TheVariants as dues

-- the law of the log
abbrev pub OneListStands : Type 0
OneListStands = (node nodes : ℕ) (content : List ℕ) (bodies others : List (List ℕ)) → Stands node nodes content bodies → Stands node nodes content others → bodies ≡ others

still_nothing : (old mid new : DiskState) → WritesNothing old mid → NoneNew old mid → DiskStays mid new → WritesNothing old new
still_nothing old mid new writes none stays = record {
  later = omega (arith, writes.later, stays.time.later);
  each = λ c since. one_of (old.images c) (stays.time.nothing_else old.moment c writes.later since) (writes.each c) (λ image. none c (stays.images c image));
  before = λ t c early since. two_of (old.since t c) (old.images c) (stays.time.nothing_else t c (omega (arith, early, writes.later)) since) (writes.before t c early) (λ image. none c (stays.images c image));
}
  where
    one_of : (P : Type 0) {A B : Type 0} → A ⊎ B → (A → P) → (B → P) → P
    one_of P (inl a) f g = f a
    one_of P (inr b) f g = g b

    two_of : (P Q : Type 0) {A B : Type 0} → A ⊎ B → (A → P ⊎ Q) → (B → Q) → P ⊎ Q
    two_of P Q (inl a) f g = f a
    two_of P Q (inr b) f g = inr (g b)

still_unwritten : (old mid new : DiskState) → IsUnwritten old mid → (mid.honest → DiskStays mid new) → IsUnwritten old new
still_unwritten old mid new was same = record {
  honest = λ h. (same (was.honest h)).time.honest;
  writes_nothing = λ h. still_nothing old mid new (was.writes_nothing h) (was.none_new h) (same (was.honest h));
  none_new = λ h c image. was.none_new h c ((same (was.honest h)).images c image);
}

module _ {D : Type 0} (state : D → DiskState) (faults : D → ℕ) (nodes k : ℕ) (old disk new : D) (at : ℕ) (was : WasRefused state faults nodes k old (opens.Damaged at) disk)
    (same : (state disk).honest → DiskStays (state disk) (state new)) where
  unwritten : IsUnwritten (state old) (state new)
  unwritten = still_unwritten (state old) (state disk) (state new) was.unwritten same

  -- the damage is that of the disk as it was given, and what was read stands in front of it
  behind : (start : ℕ) (bodies : List (List ℕ)) → ((state disk).honest → IsDamaged k nodes (state disk).content at → AreInFront k nodes (state disk).content at start bodies) → (state old).honest → IsDamagedBehind nodes k (state old).content at start bodies
  behind start bodies front h =
      let damaged = was.damaged h at refl in
      let content = was.content h at refl in (
        damaged,
        subst (λ (l : List ℕ). AreInFront k nodes l at start bodies) content (front (was.unwritten.honest h) (subst (λ (l : List ℕ). IsDamaged k nodes l at) (sym content) damaged)),
      )

  -- all bodies in front of the damage are records
  pub damaged_first : (start : ℕ) (bodies : List (List ℕ)) → ((state disk).honest → IsDamaged k nodes (state disk).content at → AreInFront k nodes (state disk).content at start bodies) → (records : List Record) × AreRecords bodies records
      → WasntRead state faults nodes k old new (dues.Damaged k at Log)
  damaged_first start bodies front are = record { unwritten = unwritten; due_is = (refl, λ h. inl (start, (bodies, behind start bodies front h, are))) }

  -- one of them is not
  pub bad_first : (start : ℕ) (bodies : List (List ℕ)) (place : ℕ) → ((state disk).honest → IsDamaged k nodes (state disk).content at → AreInFront k nodes (state disk).content at start bodies) → IsFirstBadBody start bodies place
      → WasntRead state faults nodes k old new (dues.Damaged k place Log)
  bad_first start bodies place front bad = record { unwritten = unwritten; due_is = (refl, λ h. inr (start, (bodies, inr (at, behind start bodies front h), bad))) }

  -- the disk gave other bytes than before, which an honest one doesn't
  pub misread : (place : ℕ) → ((state disk).honest → IsDamaged k nodes (state disk).content at → ⊥) → WasntRead state faults nodes k old new (dues.Damaged k place Log)
  misread place never = record {
    unwritten = unwritten;
    due_is = (
      refl,
      λ h. absurd (never (was.unwritten.honest h) (subst (λ (l : List ℕ). IsDamaged k nodes l at) (sym (was.content h at refl)) (was.damaged h at refl))),
    );
  }

-- a log whose header is there, or a fresh disk, which has no body
begins_so : {D : Type 0} (state : D → DiskState) (nodes k : ℕ) (old : D) (redo : RedoState D) (at : ℕ) (phase : Phase) → redo.phase ≡ phase → (phase ≢ Closing) → (state old).honest → ((state old).honest → Stands k nodes (state old).content redo.bodies)
    → ((state old).honest → redo.phase ≡ Fresh → IsFresh (state old).content) → ((state old).honest → redo.phase ≡ Started → IsLogAt k nodes (state old).content redo.number redo.start redo.bodies) → OneListStands
    → IsFirstBadBody redo.start redo.bodies at → (start : ℕ) × ((bodies : List (List ℕ)) × Begins nodes k (state old).content start bodies × IsFirstBadBody start bodies at)
begins_so state nodes k old redo at Fresh is going h stands fresh log one bad =
    let none : redo.bodies ≡ [] = one k nodes (state old).content redo.bodies [] (stands h) (inl (fresh h is, refl)) in
    let never : ⊥ = omega (arith, bad.within, ap (λ (l : List (List ℕ)). length l) none) in absurd never
begins_so state nodes k old redo at Started is going h stands fresh log one bad = (redo.start, (redo.bodies, inl (redo.number, log h is), bad))
begins_so state nodes k old redo at Closing is going h stands fresh log one bad = absurd (going refl)

-- the log was read, and its bodies are not all records
pub unread : {D : Type 0} (state : D → DiskState) (faults : D → ℕ) (nodes k : ℕ) (old : D) (redo : RedoState D) (cause : StartCause) → IsUnwritten (state old) (state redo.disk) → redo.phase ≢ Closing
    → ((state old).honest → Stands k nodes (state old).content redo.bodies) → ((state old).honest → redo.phase ≡ Fresh → IsFresh (state old).content)
    → ((state old).honest → redo.phase ≡ Started → IsLogAt k nodes (state old).content redo.number redo.start redo.bodies) → OneListStands
    → ((at : ℕ) → cause ≡ starts.Damaged at → IsFirstBadBody redo.start redo.bodies at) → (cause ≡ starts.Fault → ⊥) → WasntRead state faults nodes k old redo.disk (due_of_starting k cause)
unread state faults nodes k old redo starts.Fault still going stands fresh log one bad none = absurd (none refl)
unread state faults nodes k old redo (starts.Damaged at) still going stands fresh log one bad none =
    record { unwritten = still; due_is = (refl, λ h. inr (begins_so state nodes k old redo at redo.phase refl going h stands fresh log one (bad at refl))) }
unread state faults nodes k old redo starts.NoMemory still going stands fresh log one bad none = record { unwritten = still; due_is = tt }
