use Rattle.mn_causes.proofs.OwnCommits.{only_own_commits}
use Rattle.mn_causes.proofs.laws.only_own_commits.Goals as goal

pub returns : goal.returns
returns c = only_own_commits
