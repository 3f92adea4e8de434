use Rattle.mn_commits.proofs.Commits.Once.{commits_once}
use Rattle.mn_commits.proofs.laws.commits_once.Goals as goal

pub returns : goal.returns
returns c = commits_once
