use Rattle.mn_txn.proofs.Worn.{planned_is_done}
use Rattle.mn_txn.proofs.tries.planned_is_done.Goals as goal

pub returns : goal.returns
returns c = planned_is_done c.moves_read.ensures c.placed_are_put.ensures
