use Rattle.mn_serial.proofs.Meaning.Together.{runs_have_history}
use Rattle.mn_serial.proofs.laws.runs_have_history.Goals as goal

pub returns : goal.returns
returns c = runs_have_history
