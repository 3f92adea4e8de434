use Rattle.mn_commits.proofs.Commits.Stays.{forced_never_votes}
use Rattle.mn_commits.proofs.laws.forced_never_votes.Goals as goal

pub returns : goal.returns
returns c = forced_never_votes
