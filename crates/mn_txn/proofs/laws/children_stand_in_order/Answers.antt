use Rattle.mn_txn.proofs.ChildOrder.{children_stand_in_order}
use Rattle.mn_txn.proofs.laws.children_stand_in_order.Goals as goal

pub returns : goal.returns
returns c = children_stand_in_order
