use Rattle.mn_law.proofs.MakeRun.{lists_make_run}
use Rattle.mn_law.proofs.laws.lists_make_run.Goals as goal

pub returns : goal.returns
returns c = lists_make_run
