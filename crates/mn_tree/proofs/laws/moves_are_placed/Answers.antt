use Rattle.mn_tree.proofs.laws.moves_are_placed.Goals as goal
use Rattle.mn_tree.proofs.Trees.MoveReads.{moves_read}
use Rattle.mn_tree.proofs.Trees.PlacedPages.{placed_are_pages}
use Rattle.mn_tree.proofs.Trees.Plans.{moves_are_placed}

pub returns : goal.returns
returns c = moves_are_placed moves_read placed_are_pages
