use Rattle.mn_commits.proofs.Bytes.Prepares.{prepares_read_nothing}
use Rattle.mn_commits.proofs.laws.prepares_read_nothing.Goals as goal

pub returns : goal.returns
returns c = prepares_read_nothing
