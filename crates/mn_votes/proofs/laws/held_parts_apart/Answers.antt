use Rattle.mn_votes.proofs.Held.{held_parts_apart}
use Rattle.mn_votes.proofs.laws.held_parts_apart.Goals as goal

pub returns : goal.returns
returns c = held_parts_apart
