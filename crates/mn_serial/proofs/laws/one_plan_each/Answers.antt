use Rattle.mn_serial.proofs.Meaning.Once.{one_plan_each}
use Rattle.mn_serial.proofs.laws.one_plan_each.Goals as goal

pub returns : goal.returns
returns c = one_plan_each
