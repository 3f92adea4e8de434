use Rattle.mn_tree.proofs.Trees.Reads.{add_keeps_draft}
use Rattle.mn_tree.proofs.laws.add_keeps_draft.Goals as goal

pub returns : goal.returns
returns c = add_keeps_draft
