use Rattle.mn_tree.proofs.Trees.Tries.{needs_are_slots}
use Rattle.mn_tree.proofs.laws.needs_are_slots.Goals as goal

pub returns : goal.returns
returns c = needs_are_slots
