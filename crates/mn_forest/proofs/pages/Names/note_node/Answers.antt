use Rattle.std.proofs.Common.{arith}
use Rattle.mn_forest.proofs.Noting.{names_node}
use Rattle.mn_forest.proofs.pages.Names.note_node.Goals as goal

pub returns : goal.returns
returns c = λ entries are so. names_node c.loop-slot.self c.args.spaces.now entries c.args.node c.loop-slot.slot c.requires (omega arith) (c.loop-slot.invariant entries are so)
