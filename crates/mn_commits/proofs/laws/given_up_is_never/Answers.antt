use Rattle.mn_commits.proofs.Commits.Never.{given_up_is_never}
use Rattle.mn_commits.proofs.laws.given_up_is_never.Goals as goal

pub returns : goal.returns
returns c = given_up_is_never
