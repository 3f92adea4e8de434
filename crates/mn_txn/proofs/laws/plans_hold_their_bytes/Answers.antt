use Rattle.mn_txn.proofs.Plans as plans
use Rattle.mn_txn.proofs.laws.plans_hold_their_bytes.Goals as goal

pub returns : goal.returns
returns c = plans.their_bytes
