use Rattle.mn_tree.proofs.Paths as paths
use Rattle.mn_tree.proofs.laws.walks_are_paths.Goals as goal

pub returns : goal.returns
returns c = paths.walks_are_paths
