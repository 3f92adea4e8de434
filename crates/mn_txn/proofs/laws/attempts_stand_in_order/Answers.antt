use Rattle.mn_txn.proofs.AttemptOrder.{attempts_stand_in_order}
use Rattle.mn_txn.proofs.laws.attempts_stand_in_order.Goals as goal

pub returns : goal.returns
returns c = attempts_stand_in_order
