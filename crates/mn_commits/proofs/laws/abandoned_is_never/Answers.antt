use Rattle.mn_commits.proofs.Commits.Never.{abandoned_is_never}
use Rattle.mn_commits.proofs.laws.abandoned_is_never.Goals as goal

pub returns : goal.returns
returns c = abandoned_is_never
