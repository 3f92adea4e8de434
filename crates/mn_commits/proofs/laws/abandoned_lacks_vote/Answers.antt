use Rattle.mn_commits.proofs.Commits.Stays.{abandoned_lacks_vote}
use Rattle.mn_commits.proofs.laws.abandoned_lacks_vote.Goals as goal

pub returns : goal.returns
returns c = abandoned_lacks_vote
