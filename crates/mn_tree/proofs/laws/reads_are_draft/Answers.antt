use Rattle.mn_tree.proofs.Trees.Reads.{reads_are_draft}
use Rattle.mn_tree.proofs.laws.reads_are_draft.Goals as goal

pub returns : goal.returns
returns c = reads_are_draft
