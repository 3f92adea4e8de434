use Rattle.mn_tree.proofs.Trees.Tries.{placed_have_room}
use Rattle.mn_tree.proofs.laws.placed_have_room.Goals as goal

pub returns : goal.returns
returns c = placed_have_room
