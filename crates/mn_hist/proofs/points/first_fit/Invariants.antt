use Rattle.mn_hist.specs.Watching.{step_fits}
use Rattle.mn_hist.proofs.Flags.{NoneFitsBefore}
use Rattle.mn_hist.proofs.points.first_fit.Given as goal

-- the points so far were met or do not fit
abbrev pub invariant-loop-at : goal.invariant-loop-at
invariant-loop-at l = NoneFitsBefore (step_fits l.step) l.points l.met l.at
