use Rattle.mn_tree.proofs.Trees.Tries.{needs_may_come}
use Rattle.mn_tree.proofs.laws.needs_may_come.Goals as goal

pub returns : goal.returns
returns c = needs_may_come
