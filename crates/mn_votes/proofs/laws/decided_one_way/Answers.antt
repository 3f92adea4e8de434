use Rattle.mn_votes.proofs.Preserved.{decided_one_way}
use Rattle.mn_votes.proofs.laws.decided_one_way.Goals as goal

pub returns : goal.returns
returns c = decided_one_way
