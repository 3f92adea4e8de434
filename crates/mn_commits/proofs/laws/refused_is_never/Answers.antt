use Rattle.mn_commits.proofs.Commits.Never.{refused_is_never}
use Rattle.mn_commits.proofs.laws.refused_is_never.Goals as goal

pub returns : goal.returns
returns c = refused_is_never
