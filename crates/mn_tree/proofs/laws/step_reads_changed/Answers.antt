use Rattle.mn_tree.proofs.Trees.Placed.{step_reads_changed}
use Rattle.mn_tree.proofs.laws.step_reads_changed.Goals as goal

pub returns : goal.returns
returns c = step_reads_changed
