use Rattle.mn_tree.proofs.Trees.PlacedPages.{placed_are_pages}
use Rattle.mn_tree.proofs.laws.placed_are_pages.Goals as goal

pub returns : goal.returns
returns c = placed_are_pages
