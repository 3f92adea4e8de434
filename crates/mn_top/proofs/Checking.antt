-- What a check comes to, and what is due where the logs of disks weren't all read.
use Rattle.std.proofs.Common.{ℕ, List, [], inl, refl}
use Rattle.mn_io.specs.DiskModel.{DiskState}
use Rattle.mn_mini.specs.declared.record.Record.{Record}
use Rattle.mn_redo.specs.Redo.{RedoState}
use Rattle.mn_script.specs.Script.{Script}
use Rattle.mn_top.specs.declared.due.DamageRule.TheVariants.{Log, Votes, Both, Forest, Runs, Kept}
use Rattle.mn_top.specs.declared.due.Due.{Due}
use Rattle.mn_top.specs.declared.due.Due.TheVariants.{Report, Usage, Refused, ReadFault, DiskFault, Damaged, NoMemory, Disks}
use Rattle.mn_top.specs.declared.words.Command.{Command}
use Rattle.mn_top.specs.Check.{ChecksTo}
use Rattle.mn_top.specs.Ending.{ComesTo}
use Rattle.mn_top.specs.Logs.{AllRead, AreJudged, AreTold, HoldNone, IsDueAtOpening}
use Rattle.mn_top.specs.Opening.{AreUnwritten}
use Rattle.mn_top.proofs.OnLogs.{shown}

-- records that hold no store are no start of a run
pub hold_none_judged : (records : List (List Record)) (due : Due) → HoldNone records due → AreJudged records due
hold_none_judged records (Damaged n place Votes) none = none
hold_none_judged records (Damaged n place Both) none = none
hold_none_judged records (Damaged n place (Forest rule)) none = none
hold_none_judged records (Damaged n place Log) none = absurd none
hold_none_judged records (Damaged n place Runs) none = absurd none
hold_none_judged records (Damaged n place Kept) none = absurd none
hold_none_judged records NoMemory none = tt
hold_none_judged records (Report text) none = absurd none
hold_none_judged records (DiskFault n) none = absurd none
hold_none_judged records Usage none = absurd none
hold_none_judged records (Refused row column) none = absurd none
hold_none_judged records ReadFault none = absurd none
hold_none_judged records (Disks told wanted) none = absurd none

module _ {D : Type 0} (state : D → DiskState) (faults : D → ℕ) (given left : List D) where
  -- logs that weren't read are told of a check
  pub opening_checks : (due : Due) → IsDueAtOpening state faults given left due → ChecksTo state faults given left due
  opening_checks (DiskFault n) told = told
  opening_checks (Damaged n place Log) told = told
  opening_checks (Damaged n place Votes) told = absurd told
  opening_checks (Damaged n place Both) told = absurd told
  opening_checks (Damaged n place (Forest rule)) told = absurd told
  opening_checks (Damaged n place Runs) told = absurd told
  opening_checks (Damaged n place Kept) told = absurd told
  opening_checks NoMemory told = tt
  opening_checks (Report text) told = absurd told
  opening_checks Usage told = absurd told
  opening_checks (Refused row column) told = absurd told
  opening_checks ReadFault told = absurd told
  opening_checks (Disks told wanted) is_told = absurd is_told

  -- and of a script
  pub opening_plays : (command : Command) (script : Script) (due : Due) → AreUnwritten state given left → IsDueAtOpening state faults given left due
      → ComesTo state faults (record { command = command; script = script; given = given; left = left; log = [] }) due
  opening_plays command script (DiskFault n) same (risen, before) = record { old = risen.old; new = risen.new; was = risen.was; is = risen.is; rose = risen.rose; log = inl ((same, refl), before) }
  opening_plays command script (Damaged n place Log) same told = ((same, refl), told)
  opening_plays command script (Damaged n place Votes) same told = absurd told
  opening_plays command script (Damaged n place Both) same told = absurd told
  opening_plays command script (Damaged n place (Forest rule)) same told = absurd told
  opening_plays command script (Damaged n place Runs) same told = absurd told
  opening_plays command script (Damaged n place Kept) same told = absurd told
  opening_plays command script NoMemory same told = inl (same, refl)
  opening_plays command script (Report text) same told = absurd told
  opening_plays command script Usage same told = absurd told
  opening_plays command script (Refused row column) same told = absurd told
  opening_plays command script ReadFault same told = absurd told
  opening_plays command script (Disks told wanted) same is_told = absurd is_told

  -- the records of all logs are told of a check
  pub records_check : (redos : List (RedoState D)) (records : List (List Record)) → AllRead state faults given redos records → (due : Due) → AreTold records due → ChecksTo state faults given left due
  records_check redos records all (Report text) told = record { records = records; shown = shown state faults given redos records all; store = told.0; opened = told.1; printed = told.2 }
  records_check redos records all (Damaged n place Votes) none = (records, shown state faults given redos records all, none)
  records_check redos records all (Damaged n place Both) none = (records, shown state faults given redos records all, none)
  records_check redos records all (Damaged n place (Forest rule)) none = (records, shown state faults given redos records all, none)
  records_check redos records all (Damaged n place Log) none = absurd none
  records_check redos records all (Damaged n place Runs) none = absurd none
  records_check redos records all (Damaged n place Kept) none = absurd none
  records_check redos records all NoMemory none = tt
  records_check redos records all (DiskFault n) none = absurd none
  records_check redos records all Usage none = absurd none
  records_check redos records all (Refused row column) none = absurd none
  records_check redos records all ReadFault none = absurd none
  records_check redos records all (Disks told wanted) none = absurd none
