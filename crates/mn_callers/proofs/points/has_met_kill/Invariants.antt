use Rattle.mn_callers.specs.Points.{is_kill_of}
use Rattle.mn_callers.proofs.MetPoints.{NoneMet}
use Rattle.mn_callers.proofs.points.has_met_kill.Given as goal

-- no point so far kills the client
abbrev pub invariant-loop-at : goal.invariant-loop-at
invariant-loop-at l = NoneMet (is_kill_of l.client) l.points l.met l.at
