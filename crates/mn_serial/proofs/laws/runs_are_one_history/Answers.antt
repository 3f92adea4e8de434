use Rattle.mn_serial.proofs.Meaning.Together.{runs_are_one_history}
use Rattle.mn_serial.proofs.laws.runs_are_one_history.Goals as goal

pub returns : goal.returns
returns c = runs_are_one_history
