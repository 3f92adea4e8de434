use Rattle.mn_commits.proofs.Commits.Records.{yes_has_votes}
use Rattle.mn_commits.proofs.laws.yes_has_votes.Goals as goal

pub returns : goal.returns
returns c = yes_has_votes
