use Rattle.mn_tree.proofs.Trees.Plans.{quiet_moves}
use Rattle.mn_tree.proofs.laws.moves_may_be_quiet.Goals as goal

pub returns : goal.returns
returns c = quiet_moves
