use Rattle.mn_causes.proofs.Held.{lock_was_held}
use Rattle.mn_causes.proofs.laws.lock_was_held.Goals as goal

pub returns : goal.returns
returns c = lock_was_held
