use Rattle.mn_tree.proofs.Trees.Tries.{moves_take_pages}
use Rattle.mn_tree.proofs.laws.moves_take_pages.Goals as goal

pub returns : goal.returns
returns c = moves_take_pages
