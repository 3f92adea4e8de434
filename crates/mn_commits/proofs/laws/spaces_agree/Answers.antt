use Rattle.mn_commits.proofs.Bytes.Spaces.{spaces_agree}
use Rattle.mn_commits.proofs.laws.spaces_agree.Goals as goal

pub returns : goal.returns
returns c = spaces_agree
