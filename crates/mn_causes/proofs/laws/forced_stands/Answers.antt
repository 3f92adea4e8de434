use Rattle.mn_causes.proofs.Forced.{forced_stands}
use Rattle.mn_causes.proofs.laws.forced_stands.Goals as goal

pub returns : goal.returns
returns c = forced_stands
