use Rattle.std.proofs.Common.{◌++◌}
use Rattle.mn_node.proofs.Found.{BeginAlike}
use Rattle.mn_node.proofs.restart.first_difference.Given as goal

-- the log has the first records
abbrev pub invariant-loop-number : goal.invariant-loop-number
invariant-loop-number l = BeginAlike l.number l.log.bodies (l.first ++ l.rest)
