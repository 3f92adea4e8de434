use Rattle.mn_tree.proofs.Trees.Steps.{step_keeps_tree}
use Rattle.mn_tree.proofs.laws.step_keeps_tree.Goals as goal

pub returns : goal.returns
returns c = step_keeps_tree
