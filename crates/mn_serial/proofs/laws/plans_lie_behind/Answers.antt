use Rattle.mn_serial.proofs.Meaning.Between.{plans_lie_behind}
use Rattle.mn_serial.proofs.laws.plans_lie_behind.Goals as goal

pub returns : goal.returns
returns c = plans_lie_behind
