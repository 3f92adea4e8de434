use Rattle.mn_commits.proofs.Bytes.Spaces.{memory_is_flat}
use Rattle.mn_commits.proofs.laws.memory_is_flat.Goals as goal

pub returns : goal.returns
returns c = memory_is_flat
