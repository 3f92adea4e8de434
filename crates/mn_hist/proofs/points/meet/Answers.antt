use Rattle.std.proofs.Common.{sym}
use Rattle.mn_hist.specs.Watching.{step_fits}
use Rattle.mn_hist.proofs.Flags.{fits_nothing, no_value, with_none}
use Rattle.mn_hist.proofs.points.meet.Goals as goal

pub returns-then-is_none-2-clause-met : goal.returns-then-is_none-2-clause-met
returns-then-is_none-2-clause-met c =
    let s = c.args.step.now in
    sym (with_none (step_fits s) (fits_nothing s (no_value s.votes c.if-is_none.ensures) (no_value s.asked c.if-is_none-2.ensures)) c.args.points.now c.args.met.now)
