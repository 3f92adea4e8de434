use Rattle.mn_causes.proofs.Forced.{forced_by_other}
use Rattle.mn_causes.proofs.laws.forced_by_other.Goals as goal

pub returns : goal.returns
returns c = forced_by_other
