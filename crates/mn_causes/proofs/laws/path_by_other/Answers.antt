use Rattle.mn_causes.proofs.Paths.{path_by_other}
use Rattle.mn_causes.proofs.laws.path_by_other.Goals as goal

pub returns : goal.returns
returns c = path_by_other
