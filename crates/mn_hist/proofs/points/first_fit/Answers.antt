use Rattle.std.proofs.Common.{sym, ◌∙◌}
use Rattle.mn_hist.specs.Watching.{step_fits}
use Rattle.mn_hist.proofs.Flags.{meets_at, passed_unfit, passed_met}
use Rattle.mn_hist.proofs.points.first_fit.Goals.{else-not-met-at-via-then-not-met-at+else-fits, else-not-met-at-via-else-not-met-at}
use Rattle.mn_hist.proofs.points.first_fit.Goals as goal

pub returns-then-fits : goal.returns-then-fits
returns-then-fits c =
    meets_at (step_fits c.args.step.now) c.args.points.now c.args.met.now c.loop-at.at _ c.requires c.loop-at-test.true c.if-not-met-at.true (sym c.fits.ensures ∙ c.if-fits.true) c.loop-at.invariant

pub loop-at-preserved : goal.loop-at-preserved
loop-at-preserved c =
    elim c.else-not-met-at.branch [
      | else-not-met-at-via-then-not-met-at+else-fits w ↦
          passed_unfit (step_fits c.args.step.now) c.args.points.now c.args.met.now c.loop-at.at _ c.requires c.loop-at-test.true (sym w.fits.ensures ∙ w.if-fits.false) c.loop-at.invariant
      | else-not-met-at-via-else-not-met-at w ↦ passed_met (step_fits c.args.step.now) c.args.points.now c.args.met.now c.loop-at.at c.requires c.loop-at-test.true w.if-not-met-at.false c.loop-at.invariant
    ]
