use Rattle.mn_txn.proofs.Fits.{unmet_may_be_planned}
use Rattle.mn_txn.proofs.tries.unmet_may_be_planned.Goals as goal

pub returns : goal.returns
returns c = unmet_may_be_planned c.moves_read.ensures c.moves_are_few.ensures c.moves_touch_leaves.ensures
