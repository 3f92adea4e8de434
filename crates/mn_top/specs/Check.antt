-- What a check of disks comes to, by what is due.
use Rattle.std.specs.Prelude.{ℕ, ◌≡◌, ⊤, List, [], length, slice_get, Some, Option}
use Rattle.mn_base.specs.Store.{Store}
use Rattle.mn_hist.specs.Audit.{versions_told}
use Rattle.mn_io.specs.DiskModel.{DiskState}
use Rattle.mn_io.specs.Faults.{Rose}
use Rattle.mn_mini.specs.declared.record.Record.{Record}
use Rattle.mn_report.specs.Report.{check_text}
use Rattle.mn_runs.specs.declared.entry.Entry.{Entry}
use Rattle.mn_runs.specs.Protocol.{start_of}
use Rattle.mn_top.specs.declared.due.DamageRule.{DamageRule}
use Rattle.mn_top.specs.declared.due.DamageRule.TheVariants.{Log, Runs}
use Rattle.mn_top.specs.declared.due.Due.{Due}
use Rattle.mn_top.specs.declared.due.Due.TheVariants.{Report, DiskFault, Damaged, NoMemory}
use Rattle.mn_top.specs.Ending.{Misfits}
use Rattle.mn_top.specs.Opening.{AreUnwritten, IsFirstBadLog, IsOpenedAs, Show, WereRead}
use Rattle.mn_top.specs.Words.{AskCheck, Text}

-- the count of this disk rose
pub record HasRisen {D : Type 0} (faults : D → ℕ) (given left : List D) (n : ℕ) : Type 0 where
  pub old : D
  pub new : D
  pub was : slice_get given n ≡ Some old
  pub is : slice_get left n ≡ Some new
  pub rose : Rose (faults old) (faults new)

-- the disks show records that hold a store, and the text tells its versions as a report does
pub record IsChecked {D : Type 0} (state : D → DiskState) (given : List D) (text : Text)
    : Type 0 where
  pub records : List (List Record)
  pub shown : Show state given records
  pub store : Store
  pub opened : IsOpenedAs (start_of records) store
  pub printed : text ≡ check_text (versions_told store)

-- Each damage that is told at opening: the log of this disk, with those before it read; or the
-- records that the disks show. Whether a number is left for a run is no matter.
abbrev pub IsOpeningDamage : {D : Type 0} → (D → DiskState) → List D → ℕ → ℕ → DamageRule
    → Type 0
IsOpeningDamage state given n place Log = IsFirstBadLog state given n place
IsOpeningDamage state given n place Runs = ⊥
IsOpeningDamage state given n place rule =
    (records : List (List Record)) × Show state given records × Misfits records n place rule

-- A disk fault is that of the first disk that wasn't read. Want of memory is free.
abbrev pub ChecksTo : {D : Type 0} → (D → DiskState) → (D → ℕ) → List D → List D → Due → Type 0
ChecksTo state faults given left (Report text) = IsChecked state given text
ChecksTo state faults given left (DiskFault n) =
    HasRisen faults given left n × WereRead state given n
ChecksTo state faults given left (Damaged n place rule) =
    IsOpeningDamage state given n place rule
ChecksTo state faults given left NoMemory = ⊤
ChecksTo state faults given left due = ⊥

-- the words ask for a check, which came to this; no disk was written, no log was made, and the
-- source was left alone
pub record MeetsCheck {D : Type 0} (state : D → DiskState) (faults : D → ℕ) (words : List Text)
    (known unread : Option (List ℕ)) (given left : List D) (log : List (ℕ × Entry))
    (due : Due) : Type 0 where
  pub asked : AskCheck words (length given)
  pub unread_so : unread ≡ known
  pub count : length left ≡ length given
  pub unwritten : AreUnwritten state given left
  pub none : log ≡ []
  pub so : ChecksTo state faults given left due
