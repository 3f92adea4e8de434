use Rattle.mn_tree.proofs.Trees.Steps.{path_tells}
use Rattle.mn_tree.proofs.laws.path_tells.Goals as goal

pub returns : goal.returns
returns c = path_tells
