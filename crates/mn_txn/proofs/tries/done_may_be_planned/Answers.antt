use Rattle.mn_txn.proofs.Fits.{done_may_be_planned}
use Rattle.mn_txn.proofs.tries.done_may_be_planned.Goals as goal

pub returns : goal.returns
returns c =
    done_may_be_planned c.moves_read.ensures c.moves_are_few.ensures c.moves_touch_leaves.ensures
    c.placed_are_put.ensures c.placed_fill_slots.ensures
