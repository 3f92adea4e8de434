use Rattle.mn_redo.proofs.Unique.{once}
use Rattle.mn_redo.proofs.laws.one_place.Goals as goal

pub returns : goal.returns
returns c = once
