use Rattle.std.proofs.Common.{sym, ◌∙◌}
use Rattle.mn_callers.proofs.MetPoints.{passes_on}
use Rattle.mn_callers.proofs.points.stop_due.Goals as goal

pub loop-at-preserved : goal.loop-at-preserved
loop-at-preserved c =
    passes_on c.args.node c.args.client c.args.number c.args.points.now c.args.met.now c.loop-at.at _ _ c.requires c.loop-at-test.true (sym c.in_default.is ∙ c.stop_by.ensures) c.loop-at.invariant
