use Rattle.std.proofs.Common.{◌≡◌, None, drop}
use Rattle.mn_locks.specs.Locks.{first_held}
use Rattle.mn_locks.proofs.table.first_conflict.Given as goal

-- what is left tells what the whole tells
abbrev pub invariant-loop-range : goal.invariant-loop-range
invariant-loop-range l = first_held l.holds l.tid l.alone (drop l.range-index l.ranges) None ≡ first_held l.holds l.tid l.alone l.ranges None
