use Rattle.mn_serial.proofs.Meaning.Throughout.{frozen_never_changes}
use Rattle.mn_serial.proofs.laws.frozen_never_changes.Goals as goal

pub returns : goal.returns
returns c = frozen_never_changes
