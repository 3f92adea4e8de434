use Rattle.mn_callers.proofs.MetPoints.{NoneStops}
use Rattle.mn_callers.proofs.points.stop_due.Given as goal

-- no point so far says where to stop
abbrev pub invariant-loop-at : goal.invariant-loop-at
invariant-loop-at l = NoneStops l.node l.client l.number l.points l.met l.at
