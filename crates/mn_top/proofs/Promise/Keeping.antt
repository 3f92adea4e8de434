-- The program keeps the promise: what it writes tells one history, and the disks hold its store.
use Rattle.std.proofs.Common.{◌≡◌, ◌<◌, ◌≤◌, ◌∙◌, ℕ, suc, true, List, [], length, reverse, refl, ap, sym, subst, arith, inl, inr, Option, Some, None}
use Rattle.std.specs.Prelude.{◌⊎◌, slice_get}
use Rattle.std.specs.List.{AllByRecursion}
use Rattle.std.specs.Io.KnownBytes.{Appends}
use Rattle.std.proofs.lemmas.Bool.{false≢true}
use Rattle.std.proofs.lemmas.List.{reverse-reverse}
use Rattle.mn_base.specs.History.{store_after}
use Rattle.mn_base.specs.Store.{Store}
use Rattle.mn_base.specs.declared.ids.ClientNo.{ClientNo}
use Rattle.mn_base.specs.declared.ids.NodeNo.{NodeNo}
use Rattle.mn_cell.specs.Calls.{numbered}
use Rattle.mn_hist.specs.Audit.{said_by}
use Rattle.mn_hist.specs.Points.{points_met}
use Rattle.mn_io.specs.DiskModel.{DiskState}
use Rattle.mn_law.proofs.MakeRun.{runs_follow_protocol}
use Rattle.mn_mini.specs.RecordGrammar.{IsRecord}
use Rattle.mn_node.proofs.Built.{all-reverse}
use Rattle.mn_node.proofs.Found.{first_sound}
use Rattle.mn_node.specs.Node.{StandsUpTo}
use Rattle.mn_promise.specs.Promise.{GoesBy, IsMeaning, Promised, Recovers}
use Rattle.mn_report.specs.Report.{report_text}
use Rattle.mn_runs.specs.declared.entry.Entry.{Entry}
use Rattle.mn_runs.specs.Protocol.{FollowsProtocol, Start, entries_of, records_of, start_nodes, start_of}
use Rattle.mn_script.specs.Script.{Script}
use Rattle.mn_serial.specs.History.{pasts_of}
use Rattle.mn_serial.specs.Meaning.{EndsOpened, HistoryRun}
use Rattle.mn_top.proofs.Complete.{one_asked}
use Rattle.mn_top.proofs.Gets.{there_at, within}
use Rattle.mn_top.proofs.Promise.Acts.{by_acts}
use Rattle.mn_top.proofs.Promise.Dying.{die_as_told}
use Rattle.mn_top.proofs.Promise.Explaining.{explained}
use Rattle.mn_top.proofs.Promise.Holding.{run_holds, shown_holds}
use Rattle.mn_top.proofs.Promise.Marked.{by_marks}
use Rattle.mn_top.proofs.Promise.Played.{Ended, played_ends, run_ends}
use Rattle.mn_top.proofs.Promise.Printing.{report_same}
use Rattle.mn_top.proofs.Promise.Sayings.{says_so, take_turns, times_by}
use Rattle.mn_top.proofs.Promise.Surviving.{recovers}
use Rattle.mn_top.specs.Crashes.{AreHonest, AreImages}
use Rattle.mn_top.specs.Ending.{ComesTo, EndsEarly, HasFailed, HasRun, Replaying}
use Rattle.mn_top.specs.Opening.{AreUnwritten}
use Rattle.mn_top.specs.Program.{Finishes, IsAsked, IsDue, Meets, status_of, text_of}
use Rattle.mn_top.specs.Promise.{HoldNow, HoldsStore, IsReported, KeepsPromise, Survives, SurvivesCrashes, contents_of, is_on_threads, writes_report}
use Rattle.mn_top.specs.Replayed.{FollowsBy, IsReplayed}
use Rattle.mn_top.specs.Telling.{Reports, Tells}
use Rattle.mn_top.specs.Words.{AskFor, MayHaveNumber}
use Rattle.mn_top.specs.declared.due.DamageRule.TheVariants.{Log, Votes, Both, Forest, Runs, Kept}
use Rattle.mn_top.specs.declared.due.Due.{Due}
use Rattle.mn_top.specs.declared.due.Due.TheVariants.{Report, Usage, Refused, ReadFault, DiskFault, Damaged, NoMemory, Disks}
use Rattle.mn_top.specs.declared.words.Command.{Command}
use Rattle.mn_top.specs.declared.words.Command.TheVariants.{Replay, Run, Gen, Check}

-- A report

module _ (ends : EndsOpened) {D : Type 0} (state : D → DiskState) (faults : D → ℕ) (command : Command) (script : Script) (given left : List D) (count : length left ≡ length given) (log : List (ℕ × Entry)) (text : List ℕ)
    (writes : writes_report command ≡ true) (few : length script.clients ≤ 16) (honest : AreHonest state given) (done : IsReplayed state faults command script given left log text) where
  abbrev past : List Entry
  past = entries_of log

  abbrev start : Start
  start = start_of done.records

  follow : FollowsProtocol start past
  follow = runs_follow_protocol start past done.run.run

  reports : Reports start done.store script past text
  reports = by command writes done.told
    where
      by : (c : Command) → writes_report c ≡ true → Tells c start done.store script past text → Reports start done.store script past text
      by Replay is tells = tells
      by Run is tells = tells
      by Gen is tells = absurd (false≢true is)
      by Check is tells = absurd (false≢true is)

  as_told : GoesBy (is_on_threads command) script (said_by past) (times_by past)
  as_told = by command writes done.follows
    where
      by : (c : Command) → writes_report c ≡ true → FollowsBy c start script past → GoesBy (is_on_threads c) script (said_by past) (times_by past)
      by Replay is follows = by_acts start script past follow done.of_script.begins few _ follows
      by Run is follows = by_marks start script _ _ past follow follows few
      by Gen is follows = absurd (false≢true is)
      by Check is follows = absurd (false≢true is)

  ended : (c : ClientNo) (small : c.0 < 16) → c.0 < length script.clients → Ended script c small past
  ended c small among = by command writes done.follows
    where
      by : (k : Command) → writes_report k ≡ true → FollowsBy k start script past → Ended script c small past
      by Replay is follows = played_ends script c small _ past follows among
      by Run is follows = run_ends script c small _ _ past follows among
      by Gen is follows = absurd (false≢true is)
      by Check is follows = absurd (false≢true is)

  history : HistoryRun start done.store past reports.audit.placed
  history = record { opened = record { opened = done.opened; run = done.run.run }; history = reports.audit.history }

  old_at : (k : ℕ) → k < start_nodes start → (old : D) × (slice_get given k ≡ Some old)
  old_at k low = there_at given k (let same = done.shown.count in omega (arith, low, same))

  new_at : (k : ℕ) → k < start_nodes start → (new : D) × (slice_get left k ≡ Some new)
  new_at k low = there_at left k (let same = done.shown.count in omega (arith, low, same, count))

  sound : (n : NodeNo) → n.0 < start_nodes start → AllByRecursion IsRecord (records_of start past n)
  sound n low =
      let old = old_at n.0 low in
      let new = new_at n.0 low in
      subst (AllByRecursion IsRecord) (reverse-reverse (records_of start past n))
      (all-reverse IsRecord (reverse (records_of start past n)) (first_sound (reverse (records_of start past n)) _ (done.disks n.0 old.0 new.0 old.1 new.1).0.sound))

  durable : (images : List (List ℕ)) → AreImages state left images → HoldsStore images (store_after done.store (pasts_of reports.audit.placed))
  durable images are = run_holds start done.store past images same ends reports.audit.placed history follow sound stand
    where
      same : length images ≡ start_nodes start
      same = are.count ∙ count ∙ sym done.shown.count

      stand : (k : ℕ) (image : List ℕ) → slice_get images k ≡ Some image → StandsUpTo k (start_nodes start) image (reverse (records_of start past (numbered k)))
      stand k image is =
          let low : k < start_nodes start = (let at = within images k image is in omega (arith, at, same)) in
          let old = old_at k low in
          let new = new_at k low in
          (done.disks k old.0 new.0 old.1 new.1).1 (honest k old.0 old.1) image (are.each k new.0 image new.1 is)

  pub promised : Promised (is_on_threads command) script done.store text HoldsStore (AreImages state left)
  promised = record {
    said = said_by past;
    times = times_by past;
    in_turn = take_turns start past follow;
    as_told = as_told;
    history = pasts_of reports.audit.placed;
    explains = explained start done.store script past reports.audit.placed follow done.of_script.begins reports.audit.one (said_by past) (times_by past) (says_so past);
    points = points_met script.points past;
    deaths = die_as_told start script past follow done.of_script.begins few ended;
    printed = reports.printed ∙ ap report_text (reports.audit.told ∙ report_same done.store script past reports.audit.placed);
    durable = durable;
  }

-- a script that is read has at most sixteen clients
few_of : (command : Command) (number : Option ℕ) (known unread : Option (List ℕ)) (given : ℕ) (script : Script) → writes_report command ≡ true → MayHaveNumber command number → IsAsked number known unread given script → length script.clients ≤ 16
few_of command None known unread given script writes may asked = asked.3.clients.count
few_of Replay (Some n) known unread given script writes may asked = absurd may
few_of Run (Some n) known unread given script writes may asked = absurd may
few_of Gen (Some n) known unread given script writes may asked = absurd (false≢true writes)
few_of Check (Some n) known unread given script writes may asked = absurd (false≢true writes)

no_check : (command : Command) → command ≡ Check → writes_report command ≡ true → ⊥
no_check command is writes = false≢true (sym (ap writes_report is) ∙ writes)

other_status : (k status : ℕ) → status ≡ suc k → status ≡ 0 → ⊥
other_status k status is zero_is = omega (arith, is, zero_is)

module _ (ends : EndsOpened) {D : Type 0} (state : D → DiskState) (faults : D → ℕ) (words : List (List ℕ)) (known : Option (List ℕ)) (failed sink : Type 0) (unread : Option (List ℕ)) (given left : List D) (log : List (ℕ × Entry)) (old new : Option (List ℕ)) where
  module _ (command : Command) (writes : writes_report command ≡ true) (asks : AskFor words command (length given) None) (honest : AreHonest state given) where
    reported : (text : List ℕ) → Appends old new text → Meets state faults words known unread given left log (Report text) → IsReported state words known unread given left old new command
    reported text written meets =
        let asked = meets.called.asked in
        let same : meets.command ≡ command = (one_asked words _ _ asked.1.1 asks.1.1).0 in
        let also : writes_report meets.command ≡ true = ap writes_report same ∙ writes in
        let few = few_of meets.command meets.called.number known unread (length given) meets.script also asked.1.1.number meets.called.made_or_read in
        subst (IsReported state words known unread given left old new) same (record {
          script = meets.script;
          called = meets.called;
          opening = meets.so.store;
          held = shown_holds state given honest meets.so.records meets.so.shown meets.so.store meets.so.opened;
          text = text;
          written = written;
          promised = promised ends state faults meets.command meets.script given left meets.count log text also few honest meets.so;
        })

    by_due : (due : Due) → status_of due ≡ 0 → Appends old new (text_of due) → IsDue state faults words known failed unread given left log due → IsReported state words known unread given left old new command
    by_due (Report text) zero_is written (inl before) = absurd before.0
    by_due (Report text) zero_is written (inr (inl meets)) = reported text written meets
    by_due (Report text) zero_is written (inr (inr checked)) =
        let asked = checked.asked in
        absurd (no_check command (one_asked words _ _ asks.1.1 asked.1).0 writes)
    by_due Usage zero_is written is = absurd (other_status 0 1 refl zero_is)
    by_due (Refused row column) zero_is written is = absurd (other_status 1 2 refl zero_is)
    by_due ReadFault zero_is written is = absurd (other_status 2 3 refl zero_is)
    by_due (DiskFault n) zero_is written is = absurd (other_status 4 5 refl zero_is)
    by_due (Damaged n place rule) zero_is written is = absurd (other_status 5 6 refl zero_is)
    by_due NoMemory zero_is written is = absurd (other_status 6 7 refl zero_is)
    by_due (Disks told wanted) zero_is written is = absurd (other_status 7 8 refl zero_is)

  pub keeps : (due : Due) (status : ℕ) → IsDue state faults words known failed unread given left log due → Finishes due status old new sink → KeepsPromise state words known unread given left old new status
  keeps due status is finished command writes asks honest zero_is = by finished
    where
      by : Finishes due status old new sink → IsReported state words known unread given left old new command
      by (inl whole) = by_due command writes asks honest due (sym whole.0 ∙ zero_is) whole.1 is
      by (inr part) = absurd (other_status 3 status part.0 zero_is)

-- Crashes

module _ (meaning : IsMeaning HoldsStore) {D : Type 0} (state : D → DiskState) (faults : D → ℕ) (words : List (List ℕ)) (known : Option (List ℕ)) (failed : Type 0) (unread : Option (List ℕ)) (given left : List D) (log : List (ℕ × Entry)) (opening : Store) (now : HoldNow state given opening) where
  abbrev Stays : Type 0
  Stays = (images : List (List ℕ)) → AreImages state left images → HoldsStore images opening

  -- nothing was written
  untouched : length left ≡ length given → AreUnwritten state given left → Stays
  untouched count same images are = now.after images (record {
    count = are.count ∙ count;
    each = λ k old image was there.
        let new = there_at left k (let low = within given k old was in omega (arith, low, count)) in
        (same k old new.0 was new.1).none_new (now.honest k old was) image (are.each k new.0 image new.1 there);
  })

  module _ (due : Due) (meets : Meets state faults words known unread given left log due) where
    abbrev played : Replaying D
    played = record { command = meets.command; script = meets.script; given = given; left = left; log = log }

    ran : (past : List (ℕ × Entry)) → HasRun state faults played past → (log ≡ past) ⊎ (log ≡ []) → Survives state words known unread given left log opening
    ran past run told = record {
      command = meets.command;
      script = meets.script;
      called = meets.called;
      said = said_by (entries_of past);
      times = times_by (entries_of past);
      in_turn = take_turns (start_of run.records) (entries_of past) (runs_follow_protocol (start_of run.records) (entries_of past) run.run.run);
      told = as_told told;
      stops = λ images are.
          subst (λ (s : Store). Recovers meets.script s (said_by (entries_of past)) (times_by (entries_of past)) HoldsStore images)
          (meaning.one (contents_of state given) run.store opening (shown_holds state given now.honest run.records run.shown run.store run.opened) now.held)
          (recovers (start_of run.records) run.store meets.script (entries_of past) images (are.count ∙ meets.count ∙ sym run.shown.count) run.of_script.begins (run.stops now.honest images are));
    }
      where
        as_told : (log ≡ past) ⊎ (log ≡ []) → ((c : ClientNo) (n : ℕ) → said_by (entries_of past) c n ≡ said_by (entries_of log) c n) ⊎ (log ≡ [])
        as_told (inl same) = inl (λ c n. ap (λ (l : List (ℕ × Entry)). said_by (entries_of l) c n) (sym same))
        as_told (inr none) = inr none

    of_log : HasRun state faults played log → Survives state words known unread given left log opening
    of_log run = ran log run (inl refl)

    after_fault : (n : ℕ) → HasFailed state faults played n → Stays ⊎ Survives state words known unread given left log opening
    after_fault n fault = elim fault.log as (λ _. Stays ⊎ Survives state words known unread given left log opening) [
      | inl same ↦ inl (untouched meets.count same.0.0)
      | inr run ↦ inr (of_log run)
    ]

    early : EndsEarly state faults played → Stays ⊎ Survives state words known unread given left log opening
    early (inl same) = inl (untouched meets.count same.0)
    early (inr run) = inr (ran run.0 run.1 run.2)

    met : (d : Due) → ComesTo state faults played d → Stays ⊎ Survives state words known unread given left log opening
    met (Report text) done = inr (of_log (record {
      records = done.records;
      shown = done.shown;
      store = done.store;
      opened = done.opened;
      numbered_so = done.numbered_so;
      run = done.run;
      of_script = done.of_script;
      disks = λ k old new was is. (done.disks k old new was is).0;
      stops = done.stops;
    }))
    met (DiskFault n) fault = after_fault n fault
    met (Damaged n place Log) damage = inl (untouched meets.count damage.0.0)
    met (Damaged n place Votes) damage = inl (untouched meets.count damage.0.0)
    met (Damaged n place Both) damage = inl (untouched meets.count damage.0.0)
    met (Damaged n place (Forest rule)) damage = inl (untouched meets.count damage.0.0)
    met (Damaged n place Runs) damage = inl (untouched meets.count damage.0.0)
    met (Damaged n place Kept) other = inr (of_log other.made)
    met NoMemory early_end = early early_end
    met Usage none = absurd none
    met (Refused row column) none = absurd none
    met ReadFault none = absurd none
    met (Disks told wanted) none = absurd none

  survived : (due : Due) → IsDue state faults words known failed unread given left log due → Stays ⊎ Survives state words known unread given left log opening
  survived due (inl before) = inl (λ images are. now.after images (subst (λ (l : List D). AreImages state l images) before.1 are))
  survived due (inr (inl meets)) = met due meets due meets.so
  survived due (inr (inr checked)) = inl (untouched checked.count checked.unwritten)

pub survives : IsMeaning HoldsStore → {D : Type 0} (state : D → DiskState) (faults : D → ℕ) (words : List (List ℕ)) (known : Option (List ℕ)) (failed : Type 0) (unread : Option (List ℕ)) (given left : List D) (log : List (ℕ × Entry)) (due : Due)
    → IsDue state faults words known failed unread given left log due → SurvivesCrashes state words known unread given left log
survives meaning state faults words known failed unread given left log due is opening now = survived meaning state faults words known failed unread given left log opening now due is
