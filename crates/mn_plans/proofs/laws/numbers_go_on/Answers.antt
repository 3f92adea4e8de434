use Rattle.mn_plans.proofs.Told.{numbers_go_on}
use Rattle.mn_plans.proofs.laws.numbers_go_on.Goals as goal

pub returns : goal.returns
returns c = numbers_go_on
