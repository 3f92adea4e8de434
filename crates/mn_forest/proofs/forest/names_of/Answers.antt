use Rattle.std.proofs.Common.{arith}
use Rattle.mn_forest.proofs.Noting.{names_all}
use Rattle.mn_forest.proofs.forest.names_of.Goals as goal

pub returns : goal.returns
returns c = λ entries are. names_all c.loop-node.names c.args.spaces.now entries c.loop-node.node (omega arith) (c.loop-node.invariant entries are)
