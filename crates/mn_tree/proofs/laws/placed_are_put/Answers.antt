use Rattle.mn_tree.proofs.Trees.MoveReads.{moves_read}
use Rattle.mn_tree.proofs.Trees.Put.{placed_are_put}
use Rattle.mn_tree.proofs.laws.placed_are_put.Goals as goal

pub returns : goal.returns
returns c = placed_are_put moves_read
