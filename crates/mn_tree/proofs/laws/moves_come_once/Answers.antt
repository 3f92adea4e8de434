use Rattle.mn_tree.proofs.Trees.Told.{moves_come_once}
use Rattle.mn_tree.proofs.laws.moves_come_once.Goals as goal

pub returns : goal.returns
returns c = moves_come_once
