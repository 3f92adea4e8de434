use Rattle.mn_tree.proofs.Trees.Few.{moves_touch_leaves}
use Rattle.mn_tree.proofs.laws.moves_touch_leaves.Goals as goal

pub returns : goal.returns
returns c = moves_touch_leaves
