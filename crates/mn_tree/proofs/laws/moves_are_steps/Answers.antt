use Rattle.mn_tree.proofs.Trees.Plain.{moves_are_steps}
use Rattle.mn_tree.proofs.laws.moves_are_steps.Goals as goal

pub returns : goal.returns
returns c = moves_are_steps
