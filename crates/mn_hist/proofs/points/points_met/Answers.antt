use Rattle.std.proofs.Common.{◌≡◌, List, length, take, ap, subst, sym, ◌∙◌, rules, arith}
use Rattle.mn_runs.specs.declared.entry.Entry.{Entry}
use Rattle.mn_runs.specs.Protocol.{entries_of}
use Rattle.mn_hist.specs.Points.{points_met}
use Rattle.mn_hist.specs.Watching.{TellsPointsMet}
use Rattle.mn_hist.proofs.Joining.{take_whole}
use Rattle.mn_runs.proofs.Logs.{newest}
use Rattle.mn_hist.proofs.Watched.{meets_none}
use Rattle.mn_hist.proofs.points.points_met.Goals as goal

pub returns-then-is_empty : goal.returns-then-is_empty
returns-then-is_empty c =
    let none : length c.args.points.now ≡ 0 = search rules in
    c.new.ensures.items ∙ sym (meets_none c.args.points.now (entries_of c.args.log.now) none)

pub loop-place-init : goal.loop-place-init
loop-place-init c = record { is = c.in_ok-watch.ensures.is; watches = c.in_ok-watch.ensures.watches }

pub loop-place-preserved : goal.loop-place-preserved
loop-place-preserved c =
    let more = newest c.args.log.now c.loop-place.place c.entry.result.now (omega (arith, c.loop-place-test.true, c.len-place-end.ensures)) c.entry.ensures in
    record {
      is = c.in_ok-note.ensures.is;
      watches = subst (λ (l : List Entry). TellsPointsMet c.note.new.self c.args.points.now l) (sym more)
          (c.in_ok-note.ensures.watches (entries_of (take c.loop-place.place c.args.log.now)) c.loop-place.invariant.watches);
    }

pub returns : goal.returns
returns c = c.loop-place.invariant.watches.met
    ∙ ap (λ (l : List Entry). points_met c.args.points.now l) (ap entries_of (take_whole c.args.log.now c.loop-place.place (omega (arith, c.loop-place-test.false, c.len-place-end.ensures))))
