use Rattle.mn_cell.proofs.Running.{parts_make_run}
use Rattle.mn_cell.proofs.laws.parts_make_run.Goals as goal

pub returns : goal.returns
returns c = parts_make_run
