use Rattle.mn_plans.proofs.HoldsOne.{holds_one}
use Rattle.mn_plans.proofs.laws.holds_one.Goals as goal

pub returns : goal.returns
returns c = holds_one
