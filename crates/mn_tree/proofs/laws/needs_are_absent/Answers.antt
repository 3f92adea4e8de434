use Rattle.mn_tree.proofs.Trees.Tries.{needs_are_absent}
use Rattle.mn_tree.proofs.laws.needs_are_absent.Goals as goal

pub returns : goal.returns
returns c = needs_are_absent
