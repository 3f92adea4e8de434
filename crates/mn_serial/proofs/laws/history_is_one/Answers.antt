use Rattle.mn_serial.proofs.Meaning.One.{history_is_one}
use Rattle.mn_serial.proofs.laws.history_is_one.Goals as goal

pub returns : goal.returns
returns c = history_is_one
