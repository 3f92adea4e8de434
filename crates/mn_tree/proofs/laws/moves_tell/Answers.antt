use Rattle.mn_tree.proofs.Trees.Told.{moves_tell}
use Rattle.mn_tree.proofs.laws.moves_tell.Goals as goal

pub returns : goal.returns
returns c = moves_tell
