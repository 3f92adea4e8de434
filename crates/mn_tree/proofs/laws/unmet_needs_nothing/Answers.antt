use Rattle.mn_tree.proofs.Trees.Plain.{unmet_needs_nothing}
use Rattle.mn_tree.proofs.laws.unmet_needs_nothing.Goals as goal

pub returns : goal.returns
returns c = unmet_needs_nothing
