use Rattle.mn_serial.proofs.Meaning.Throughout.{holds_throughout}
use Rattle.mn_serial.proofs.laws.holds_throughout.Goals as goal

pub returns : goal.returns
returns c = holds_throughout
