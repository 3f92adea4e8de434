use Rattle.mn_tree.proofs.Trees.Steps.{transaction_tells}
use Rattle.mn_tree.proofs.laws.transaction_tells.Goals as goal

pub returns : goal.returns
returns c = transaction_tells
