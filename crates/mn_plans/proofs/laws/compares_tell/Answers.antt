use Rattle.mn_plans.proofs.Told.{compares_tell}
use Rattle.mn_plans.proofs.laws.compares_tell.Goals as goal

pub returns : goal.returns
returns c = compares_tell
