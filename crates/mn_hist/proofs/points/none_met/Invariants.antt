use Rattle.std.proofs.Common.{◌≡◌, false, replicate}
use Rattle.mn_hist.proofs.points.none_met.Given as goal

abbrev pub invariant-loop : goal.invariant-loop
invariant-loop l = l.met.items ≡ replicate l.counter false
