use Rattle.mn_law.proofs.Gathered.{leaves_are_gathered}
use Rattle.mn_law.proofs.laws.leaves_are_gathered.Goals as goal

pub returns : goal.returns
returns c = leaves_are_gathered
