use Rattle.mn_law.proofs.Gathered.{gathered_is_shown}
use Rattle.mn_law.proofs.laws.gathered_is_shown.Goals as goal

pub returns : goal.returns
returns c = gathered_is_shown
