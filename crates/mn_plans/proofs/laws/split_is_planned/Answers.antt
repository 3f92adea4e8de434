use Rattle.mn_plans.proofs.SplitRoot.{split_is_planned}
use Rattle.mn_plans.proofs.laws.split_is_planned.Goals as goal

pub returns : goal.returns
returns c = split_is_planned
