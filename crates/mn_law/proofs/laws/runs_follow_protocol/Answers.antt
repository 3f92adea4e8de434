use Rattle.mn_law.proofs.MakeRun.{runs_follow_protocol}
use Rattle.mn_law.proofs.laws.runs_follow_protocol.Goals as goal

pub returns : goal.returns
returns c = runs_follow_protocol
