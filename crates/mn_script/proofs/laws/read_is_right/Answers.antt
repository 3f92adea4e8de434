use Rattle.mn_script.proofs.Drafts.{read_right}
use Rattle.mn_script.proofs.laws.read_is_right.Goals as goal

pub returns : goal.returns
returns c = read_right
