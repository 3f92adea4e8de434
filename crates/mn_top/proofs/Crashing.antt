-- Whatever a replay comes to, a crash leaves disks that hold a store.
use Rattle.std.proofs.Common.{◌≡◌, ◌∙◌, ℕ, List, length, sym, subst, arith, inl, inr, Some}
use Rattle.std.specs.Prelude.{slice_get}
use Rattle.mn_io.specs.DiskModel.{DiskState}
use Rattle.mn_runs.specs.declared.entry.Entry.{Entry}
use Rattle.mn_runs.specs.Protocol.{entries_of, start_of}
use Rattle.mn_script.specs.Script.{Script}
use Rattle.mn_top.specs.declared.words.Command.{Command}
use Rattle.mn_top.specs.Crashes.{AreOpenable, StayOpenable}
use Rattle.mn_top.specs.declared.due.DamageRule.TheVariants.{Log, Votes, Both, Forest, Runs, Kept}
use Rattle.mn_top.specs.declared.due.Due.{Due}
use Rattle.mn_top.specs.declared.due.Due.TheVariants.{Report, Usage, Refused, ReadFault, DiskFault, Damaged, NoMemory, Disks}
use Rattle.mn_top.specs.Ending.{ComesTo, EndsEarly, HasFailed, HasRun}
use Rattle.mn_top.specs.Opening.{AreUnwritten}
use Rattle.mn_top.proofs.Gets.{there_at, within}
use Rattle.mn_top.proofs.Stopped.{hold}

module _ {D : Type 0} (state : D → DiskState) (given left : List D) (count : length left ≡ length given) where
  given_at : (k : ℕ) (new : D) → slice_get left k ≡ Some new → (old : D) × (slice_get given k ≡ Some old)
  given_at k new is = there_at given k (let low = within left k new is in omega (arith, low, count))

  pub untouched : AreUnwritten state given left → StayOpenable state given left
  untouched same open' = record {
    honest = λ k new is. let old = given_at k new is in (same k old.0 new old.1 is).honest (open'.honest k old.0 old.1);
    hold = λ images are. open'.hold images (record {
      count = are.count ∙ count;
      each = λ k old image was there.
          let new = there_at left k (let low = within given k old was in omega (arith, low, count)) in
          (same k old new.0 was new.1).none_new (open'.honest k old was) image (are.each k new.0 image new.1 there);
    });
  }

  module _ (faults : D → ℕ) (command : Command) (script : Script) (log : List (ℕ × Entry)) where
    ran : (past : List (ℕ × Entry)) → HasRun state faults (record { command = command; script = script; given = given; left = left; log = log }) past → StayOpenable state given left
    ran past run open' = record {
      honest = λ k new is. let old = given_at k new is in (run.disks k old.0 new old.1 is).honest (open'.honest k old.0 old.1);
      hold = λ images are. hold (start_of run.records) run.store (entries_of past) images (are.count ∙ count ∙ sym run.shown.count) (run.stops open'.honest images are);
    }

    after_fault : (n : ℕ) → HasFailed state faults (record { command = command; script = script; given = given; left = left; log = log }) n → StayOpenable state given left
    after_fault n failed = elim failed.log as (λ _. StayOpenable state given left) [
      | inl same ↦ untouched same.0.0
      | inr run ↦ ran log run
    ]

    early : EndsEarly state faults (record { command = command; script = script; given = given; left = left; log = log }) → StayOpenable state given left
    early (inl same) = untouched same.0
    early (inr run) = ran run.0 run.1

    pub stay : (due : Due) → ComesTo state faults (record { command = command; script = script; given = given; left = left; log = log }) due → StayOpenable state given left
    stay (Report text) done = ran log (record {
      records = done.records;
      shown = done.shown;
      store = done.store;
      opened = done.opened;
      numbered_so = done.numbered_so;
      run = done.run;
      of_script = done.of_script;
      disks = λ k old new was is. (done.disks k old new was is).0;
      stops = done.stops;
    })
    stay (DiskFault n) failed = after_fault n failed
    stay (Damaged n place Log) damage = untouched damage.0.0
    stay (Damaged n place Votes) damage = untouched damage.0.0
    stay (Damaged n place Both) damage = untouched damage.0.0
    stay (Damaged n place (Forest rule)) damage = untouched damage.0.0
    stay (Damaged n place Runs) damage = untouched damage.0.0
    stay (Damaged n place Kept) other = ran log other.made
    stay NoMemory ends = early ends
    stay Usage told = absurd told
    stay (Refused row column) told = absurd told
    stay ReadFault told = absurd told
    stay (Disks told wanted) is_told = absurd is_told

pub same_stay : {D : Type 0} (state : D → DiskState) (given left : List D) → left ≡ given → StayOpenable state given left
same_stay {D} state given left is open' = subst (λ (l : List D). AreOpenable state l) (sym is) open'
