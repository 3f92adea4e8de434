use Rattle.mn_tree.proofs.Trees.Origins.{bad_paths_came}
use Rattle.mn_tree.proofs.laws.bad_paths_came.Goals as goal

pub returns : goal.returns
returns c = bad_paths_came
