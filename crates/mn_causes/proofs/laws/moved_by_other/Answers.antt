use Rattle.mn_causes.proofs.Moved.{moved_by_other}
use Rattle.mn_causes.proofs.laws.moved_by_other.Goals as goal

pub returns : goal.returns
returns c = moved_by_other
