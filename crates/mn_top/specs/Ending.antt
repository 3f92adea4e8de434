-- What a script that is played on disks may come to, by what is due.
use Rattle.std.specs.Prelude.{ℕ, ◌≡◌, ◌⊎◌, true, List, [], length, slice_get, Some, Option}
use Rattle.mn_base.specs.Store.{Store}
use Rattle.mn_cell.specs.Calls.{numbered}
use Rattle.mn_forest.specs.declared.error.ForestError.TheVariants as forest
use Rattle.mn_flat.specs.declared.error.VoteError.TheVariants as vote
use Rattle.mn_flat.specs.Refusal.{RefusesRecords}
use Rattle.mn_forest.specs.Refusal.{RefusesMemory}
use Rattle.mn_io.specs.DiskModel.{DiskState}
use Rattle.mn_mini.specs.declared.record.Record.{Record}
use Rattle.mn_callers.specs.Failed.{HadOther, RoseBeyond}
use Rattle.mn_callers.specs.Trace.{IsOfScript}
use Rattle.mn_script.specs.Script.{Script}
use Rattle.mn_runs.specs.declared.entry.Entry.{Entry}
use Rattle.mn_runs.specs.Calls.{node_entries}
use Rattle.mn_runs.specs.Nodes.{is_down}
use Rattle.mn_runs.specs.Sound.{AreSound, opened_memory}
use Rattle.mn_law.specs.Opened.{HeldAreGreater}
use Rattle.mn_runs.specs.Protocol.{base_at, start_of, start_records, entries_of}
use Rattle.mn_law.specs.Run.{IsLogOfRun}
use Rattle.mn_top.specs.Crashes.{AnyStopLeaves}
use Rattle.mn_top.specs.declared.words.Command.{Command}
use Rattle.mn_top.specs.declared.due.DamageRule.{DamageRule}
use Rattle.mn_top.specs.declared.due.DamageRule.TheVariants.{Log, Votes, Both, Forest, Runs, Kept}
use Rattle.mn_top.specs.declared.due.Due.{Due}
use Rattle.mn_top.specs.declared.due.Due.TheVariants.{Report, DiskFault, Damaged, NoMemory}
use Rattle.mn_top.specs.Opening.{AreUnwritten, HasNumber, IsFirstBadLog, IsOpenedAs, Show}
use Rattle.mn_top.specs.Opening.{WereRead}
use Rattle.mn_top.specs.Replayed.{FollowsToClosingBy, IsLeft, IsReplayed}

-- a script that is played on disks by a command: the disks as they were given and as they are left,
-- and the log, which is empty where none was made
pub record Replaying (D : Type 0) : Type 0 where
  pub command : Command
  pub script : Script
  pub given : List D
  pub left : List D
  pub log : List (ℕ × Entry)

-- From what the disks showed, which holds a store and leaves a number for a run, these entries made
-- one. Its clients did no more than the script asks for: what each has begun are its first
-- operations, in order. Each disk is as the entries leave it, and whatever a crash leaves of the
-- disks holds all that was replied to.
pub record HasRun {D : Type 0} (state : D → DiskState) (faults : D → ℕ) (r : Replaying D)
    (past : List (ℕ × Entry)) : Type 0 where
  pub records : List (List Record)
  pub shown : Show state r.given records
  pub store : Store
  pub opened : IsOpenedAs (start_of records) store
  pub numbered_so : HasNumber (start_of records)
  pub run : IsLogOfRun (start_of records) past
  pub of_script : IsOfScript r.script (entries_of past)
  pub disks : (k : ℕ) (old new : D) → slice_get r.given k ≡ Some old
      → slice_get r.left k ≡ Some new
      → IsLeft state faults (start_of records) (entries_of past) (numbered k) old new
  pub stops : AnyStopLeaves state r.given r.left (start_of records) store (entries_of past)

-- nothing was written, and no log was made
abbrev pub IsUntouched : {D : Type 0} → (D → DiskState) → Replaying D → Type 0
IsUntouched state r = AreUnwritten state r.given r.left × (r.log ≡ [])

-- nothing was done; or some entries made a run, which the log tells, or it tells none
abbrev pub EndsEarly : {D : Type 0} → (D → DiskState) → (D → ℕ) → Replaying D → Type 0
EndsEarly state faults r =
    IsUntouched state r
    ⊎ ((past : List (ℕ × Entry)) × HasRun state faults r past × ((r.log ≡ past) ⊎ (r.log ≡ [])))

-- The count of this disk rose beyond the stops of its node, inside requests of others than the
-- closing coordinator, that nobody asked for: where no log was made, it rose. Nothing was done, but
-- that the disks before it were read; or the log, which may be empty, is a run.
pub record HasFailed {D : Type 0} (state : D → DiskState) (faults : D → ℕ) (r : Replaying D)
    (n : ℕ) : Type 0 where
  pub old : D
  pub new : D
  pub was : slice_get r.given n ≡ Some old
  pub is : slice_get r.left n ≡ Some new
  pub rose : RoseBeyond (entries_of r.log) (numbered n) (faults old) (faults new)
  pub log : (IsUntouched state r × WereRead state r.given n) ⊎ HasRun state faults r r.log

-- The script was played up to a closing, where a restart found another list on this disk than its
-- node had: the disk was not honest.
pub record FoundOther {D : Type 0} (state : D → DiskState) (faults : D → ℕ) (r : Replaying D)
    (n place : ℕ) : Type 0 where
  pub made : HasRun state faults r r.log
  pub follows : FollowsToClosingBy r.command (start_of made.records) r.script (entries_of r.log)
  pub old : D
  pub was : slice_get r.given n ≡ Some old
  pub dishonest : (state old).honest → ⊥
  pub down : is_down (node_entries (numbered n) (entries_of r.log)) ≡ true
  pub kept : Option Record
  pub found : Option Record
  pub other : HadOther (start_of made.records) (entries_of r.log) (numbered n) place kept found

-- Each damage of records, by the rule that fails: a record of all nodes; the memory that the
-- records make; or there is no number for a run.
abbrev pub Misfits : List (List Record) → ℕ → ℕ → DamageRule → Type 0
Misfits records n place Log = ⊥
Misfits records n place Votes = RefusesRecords records (vote.Unvoted (numbered n) place)
Misfits records n place Both = RefusesRecords records (vote.Both (numbered n) place)
Misfits records n place (Forest rule) =
    AreSound (length records) (start_records (start_of records))
    × HeldAreGreater (length records) (base_at (start_of records))
    (start_records (start_of records))
    × RefusesMemory (opened_memory (start_of records)) (forest.Broken (numbered n) place rule)
Misfits records n place Runs =
    (n ≡ 0) × (place ≡ 0) × ((store : Store) × IsOpenedAs (start_of records) store
    × (HasNumber (start_of records) → ⊥))
Misfits records n place Kept = ⊥

-- Each damage: the log of this disk, with those before it read; a restart at closing; or the
-- records that the disks show.
abbrev pub IsDamage : {D : Type 0} → (D → DiskState) → (D → ℕ) → Replaying D → ℕ → ℕ → DamageRule
    → Type 0
IsDamage state faults r n place Log = IsUntouched state r × IsFirstBadLog state r.given n place
IsDamage state faults r n place Kept = FoundOther state faults r n place
IsDamage state faults r n place rule =
    IsUntouched state r × ((records : List (List Record)) × Show state r.given records
    × Misfits records n place rule)

-- A report comes of a script that was played to its end. Want of memory is free.
abbrev pub ComesTo : {D : Type 0} → (D → DiskState) → (D → ℕ) → Replaying D → Due → Type 0
ComesTo state faults r (Report text) =
    IsReplayed state faults r.command r.script r.given r.left r.log text
ComesTo state faults r (DiskFault n) = HasFailed state faults r n
ComesTo state faults r (Damaged n place rule) = IsDamage state faults r n place rule
ComesTo state faults r NoMemory = EndsEarly state faults r
ComesTo state faults r due = ⊥
