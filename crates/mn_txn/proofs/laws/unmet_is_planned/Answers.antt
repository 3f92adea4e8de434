use Rattle.mn_txn.proofs.Unmet.{unmet_is_planned}
use Rattle.mn_txn.proofs.laws.unmet_is_planned.Goals as goal

pub returns : goal.returns
returns c = unmet_is_planned c.moves_tell.ensures c.moves_read.ensures c.moves_come_once.ensures c.reads_are_draft.ensures c.compares_tell.ensures c.numbers_go_on.ensures c.plans_are_in_order.ensures.order
