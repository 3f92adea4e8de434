use Rattle.mn_serial.proofs.Meaning.Throughout.{ends_opened}
use Rattle.mn_serial.proofs.laws.ends_opened.Goals as goal

pub returns : goal.returns
returns c = ends_opened
