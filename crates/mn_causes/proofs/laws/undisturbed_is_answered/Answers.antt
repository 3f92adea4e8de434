use Rattle.mn_causes.proofs.Unhindered.{undisturbed_is_answered}
use Rattle.mn_causes.proofs.laws.undisturbed_is_answered.Goals as goal

pub returns : goal.returns
returns c = undisturbed_is_answered
