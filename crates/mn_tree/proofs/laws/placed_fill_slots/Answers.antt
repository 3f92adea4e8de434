use Rattle.mn_tree.proofs.Trees.Put.{placed_fill_slots}
use Rattle.mn_tree.proofs.laws.placed_fill_slots.Goals as goal

pub returns : goal.returns
returns c = placed_fill_slots
