use Rattle.mn_plans.proofs.PutInPlace.{put_is_planned}
use Rattle.mn_plans.proofs.laws.put_is_planned.Goals as goal

pub returns : goal.returns
returns c = put_is_planned
