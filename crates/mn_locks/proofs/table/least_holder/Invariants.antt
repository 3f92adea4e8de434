use Rattle.std.proofs.Common.{length}
use Rattle.mn_locks.proofs.Locks.{Walked}
use Rattle.mn_locks.proofs.table.least_holder.Given as goal

abbrev pub invariant-loop-left : goal.invariant-loop-left
invariant-loop-left l = Walked l.tid l.alone l.range l.holds l.left l.least

abbrev pub decreases-loop-left : goal.decreases-loop-left
decreases-loop-left l = length l.left
