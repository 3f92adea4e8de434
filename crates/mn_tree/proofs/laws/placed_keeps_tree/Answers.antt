use Rattle.mn_tree.proofs.Trees.Placed.{placed_keeps_tree}
use Rattle.mn_tree.proofs.laws.placed_keeps_tree.Goals as goal

pub returns : goal.returns
returns c = placed_keeps_tree
