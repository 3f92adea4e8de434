use Rattle.std.proofs.Common.{◌≡◌, replicate}
use Rattle.mn_hist.specs.History.{idle}
use Rattle.mn_hist.proofs.callers.idle_callers.Given as goal

abbrev pub invariant-loop : goal.invariant-loop
invariant-loop l = l.callers.items ≡ replicate l.counter idle
