use Rattle.mn_commits.proofs.Commits.Unkept.{unkept_is_never}
use Rattle.mn_commits.proofs.laws.unkept_is_never.Goals as goal

pub returns : goal.returns
returns c = unkept_is_never
