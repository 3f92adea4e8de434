use Rattle.mn_commits.proofs.Bytes.Reads.{execs_are_flat}
use Rattle.mn_commits.proofs.laws.execs_are_flat.Goals as goal

pub returns : goal.returns
returns c = execs_are_flat
