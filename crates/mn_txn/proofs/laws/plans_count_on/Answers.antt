use Rattle.mn_txn.proofs.Plans as plans
use Rattle.mn_txn.proofs.laws.plans_count_on.Goals as goal

pub returns : goal.returns
returns c = plans.count_on
