use Rattle.mn_causes.proofs.Sure.{undisturbed_is_sure}
use Rattle.mn_causes.proofs.laws.undisturbed_is_sure.Goals as goal

pub returns : goal.returns
returns c = undisturbed_is_sure
