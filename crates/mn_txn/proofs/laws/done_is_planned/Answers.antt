use Rattle.mn_txn.proofs.Done.{done_is_planned}
use Rattle.mn_txn.proofs.laws.done_is_planned.Goals as goal

pub returns : goal.returns
returns c =
    done_is_planned c.moves_tell.ensures c.moves_read.ensures c.moves_come_once.ensures c.moves_are_placed.ensures c.moves_may_be_quiet.ensures c.reads_are_draft.ensures c.next_slots_are_free.ensures c.writes_leave_store.ensures
    c.compares_tell.ensures c.numbers_go_on.ensures c.plans_are_in_order.ensures.order
