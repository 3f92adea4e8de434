use Rattle.mn_tree.proofs.Trees.Plain.{tries_show_needs}
use Rattle.mn_tree.proofs.laws.tries_show_needs.Goals as goal

pub returns : goal.returns
returns c = tries_show_needs
