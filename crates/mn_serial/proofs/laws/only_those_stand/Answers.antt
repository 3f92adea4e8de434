use Rattle.mn_serial.proofs.Meaning.Between.{only_those_stand}
use Rattle.mn_serial.proofs.laws.only_those_stand.Goals as goal

pub returns : goal.returns
returns c = only_those_stand
