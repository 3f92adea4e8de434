use Rattle.mn_serial.proofs.Meaning.Throughout.{stays_opened}
use Rattle.mn_serial.proofs.laws.stays_opened.Goals as goal

pub returns : goal.returns
returns c = stays_opened
