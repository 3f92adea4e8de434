use Rattle.mn_commits.proofs.Bytes.Seen.{seen_is_flat}
use Rattle.mn_commits.proofs.laws.seen_is_flat.Goals as goal

pub returns : goal.returns
returns c = seen_is_flat
