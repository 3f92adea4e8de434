use Rattle.mn_tree.proofs.Trees.MoveReads.{moves_read}
use Rattle.mn_tree.proofs.laws.moves_read.Goals as goal

pub returns : goal.returns
returns c = moves_read
