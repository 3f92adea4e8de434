use Rattle.mn_commits.proofs.Commits.Records.{no_is_not_committed}
use Rattle.mn_commits.proofs.laws.no_is_not_committed.Goals as goal

pub returns : goal.returns
returns c = no_is_not_committed
