use Rattle.mn_tree.proofs.Trees.Stepped.{stepped_keeps_tree}
use Rattle.mn_tree.proofs.laws.stepped_keeps_tree.Goals as goal

pub returns : goal.returns
returns c = stepped_keeps_tree
