use Rattle.mn_causes.proofs.Undisturbed.{up_is_sure}
use Rattle.mn_causes.proofs.laws.up_is_sure.Goals as goal

pub returns : goal.returns
returns c = up_is_sure
