use Rattle.mn_law.proofs.Gathered.{gathered_stays}
use Rattle.mn_law.proofs.laws.gathered_stays.Goals as goal

pub returns : goal.returns
returns c = gathered_stays
