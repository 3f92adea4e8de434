use Rattle.mn_tree.proofs.Trees.Steps.{transaction_keeps_tree}
use Rattle.mn_tree.proofs.laws.transaction_keeps_tree.Goals as goal

pub returns : goal.returns
returns c = transaction_keeps_tree
