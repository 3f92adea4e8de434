use Rattle.mn_commits.proofs.Bytes.Spaces.{commits_are_flat}
use Rattle.mn_commits.proofs.laws.commits_are_flat.Goals as goal

pub returns : goal.returns
returns c = commits_are_flat
