use Rattle.mn_txn.proofs.Plans as plans
use Rattle.mn_txn.proofs.laws.plans_name_their_places.Goals as goal

pub returns-clause-places : goal.returns-clause-places
returns-clause-places c = plans.their_places

pub returns-clause-others : goal.returns-clause-others
returns-clause-others c = plans.no_other
