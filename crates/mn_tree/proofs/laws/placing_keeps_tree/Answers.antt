use Rattle.mn_tree.proofs.Trees.Placing.{placing_keeps_tree}
use Rattle.mn_tree.proofs.laws.placing_keeps_tree.Goals as goal

pub returns : goal.returns
returns c = placing_keeps_tree
