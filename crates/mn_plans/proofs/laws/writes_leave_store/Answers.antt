use Rattle.mn_plans.proofs.Written.{writes_leave_store}
use Rattle.mn_plans.proofs.laws.writes_leave_store.Goals as goal

pub returns : goal.returns
returns c = writes_leave_store
