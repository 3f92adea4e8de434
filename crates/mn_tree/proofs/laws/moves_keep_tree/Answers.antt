use Rattle.mn_tree.proofs.Trees.Moved.{moves_keep_tree}
use Rattle.mn_tree.proofs.laws.moves_keep_tree.Goals as goal

pub returns : goal.returns
returns c = moves_keep_tree
