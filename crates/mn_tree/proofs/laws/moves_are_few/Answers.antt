use Rattle.mn_tree.proofs.Trees.Few.{moves_are_few}
use Rattle.mn_tree.proofs.laws.moves_are_few.Goals as goal

pub returns : goal.returns
returns c = moves_are_few
