use Rattle.mn_txn.proofs.Worn.{worn_is_changed}
use Rattle.mn_txn.proofs.tries.worn_is_changed.Goals as goal

pub returns : goal.returns
returns c = worn_is_changed c.moves_read.ensures c.placed_are_put.ensures
