use Rattle.mn_commits.proofs.Bytes.Reads.{reads_are_flat}
use Rattle.mn_commits.proofs.laws.reads_are_flat.Goals as goal

pub returns : goal.returns
returns c = reads_are_flat
