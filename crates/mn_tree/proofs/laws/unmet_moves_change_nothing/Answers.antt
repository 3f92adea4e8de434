use Rattle.mn_tree.proofs.Trees.Plain.{unmet_moves_change_nothing}
use Rattle.mn_tree.proofs.laws.unmet_moves_change_nothing.Goals as goal

pub returns : goal.returns
returns c = unmet_moves_change_nothing
