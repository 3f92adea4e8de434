use Rattle.mn_serial.proofs.Meaning.Stands.{committed_stands}
use Rattle.mn_serial.proofs.laws.committed_stands.Goals as goal

pub returns : goal.returns
returns c = committed_stands
