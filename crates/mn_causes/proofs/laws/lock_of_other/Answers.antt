use Rattle.mn_causes.proofs.Held.{lock_of_other}
use Rattle.mn_causes.proofs.laws.lock_of_other.Goals as goal

pub returns : goal.returns
returns c = lock_of_other
