use Rattle.mn_tree.proofs.Trees.Tries.{moves_are_met}
use Rattle.mn_tree.proofs.laws.moves_are_met.Goals as goal

pub returns : goal.returns
returns c = moves_are_met
