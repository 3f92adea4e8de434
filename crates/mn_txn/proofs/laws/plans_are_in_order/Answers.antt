use Rattle.mn_txn.proofs.Plans as plans
use Rattle.mn_txn.proofs.laws.plans_are_in_order.Goals as goal

pub returns-clause-order : goal.returns-clause-order
returns-clause-order c = plans.in_order

pub returns-clause-pages : goal.returns-clause-pages
returns-clause-pages c = plans.pages_stay
