use Rattle.std.proofs.Common.{◌≡◌, ℕ, suc, ◌+◌, ◌∙◌, List, [], ◌∷◌, length, take, ap, refl, subst, sym, arith}
use Rattle.mn_runs.specs.declared.entry.Entry.{Entry}
use Rattle.mn_serial.specs.History.{Placed}
use Rattle.mn_serial.specs.Meaning.{OpenedRun}
use Rattle.mn_runs.specs.Protocol.{entries_of}
use Rattle.mn_hist.specs.Told.{ReaderHasRead, ReaderHasTold}
use Rattle.mn_hist.proofs.Joining.{has_place, take_whole}
use Rattle.mn_runs.proofs.Logs.{newest}
use Rattle.mn_hist.proofs.history.read_log.Goals as goal

plus_one : (n : ℕ) → suc n ≡ n + 1
plus_one n = omega arith

pub loop-place-init : goal.loop-place-init
loop-place-init c = record {
  laws = (c.runs_have_history.ensures, c.history_is_one.ensures);
  one = c.runs_are_one_history.ensures;
  long = refl;
  reads = c.in_ok-reader.ensures.reading;
  tells = λ start store run. ([], c.in_ok-reader.ensures);
}

pub loop-place-preserved : goal.loop-place-preserved
loop-place-preserved c =
    let log = c.args.log.now in
    let i = c.loop-place.place in
    let past = entries_of (take c.loop-place.place c.args.log.now) in
    let more = newest log i c.entry.result.now (omega (arith, c.loop-place-test.true, c.len-place-end.ensures)) c.entry.ensures in
    record {
      laws = c.loop-place.invariant.laws;
      one = c.loop-place.invariant.one;
      long = ap length more ∙ (ap suc c.loop-place.invariant.long ∙ plus_one c.loop-place.place);
      reads = subst (λ (l : List Entry). ReaderHasRead c.follow.new.self l) (sym more) (c.in_ok-follow.ensures.reads past c.loop-place.invariant.reads);
      tells = λ start store run.
          let here : OpenedRun start store (c.entry.result.now ∷ past) = subst (OpenedRun start store) more run in
          let before : OpenedRun start store past = record { opened = here.opened; run = here.run.0 } in
          let told = c.loop-place.invariant.tells start store before in
          let has = has_place start store past c.entry.result.now told.0 c.loop-place.invariant.laws c.loop-place.invariant.one here told.1.history in
          subst (λ (l : List Entry). (placed : List Placed) × ReaderHasTold c.follow.new.self l placed) (sym more) (c.in_ok-follow.ensures.tells start past told.0 before.run (sym c.loop-place.invariant.long) (c.loop-place.invariant.one start store past told.0 (record { opened = before; history = told.1.history })).ascending has told.1);
    }

pub returns : goal.returns
returns c = λ start store run.
    let whole = ap entries_of (take_whole c.args.log.now c.loop-place.place (omega (arith, c.loop-place-test.false, c.len-place-end.ensures))) in
    subst (λ (l : List Entry). (placed : List Placed) × ReaderHasTold c.loop-place.reader l placed) whole (c.loop-place.invariant.tells start store (subst (OpenedRun start store) (sym whole) run))
