use Rattle.mn_script.proofs.Written.{written-is}
use Rattle.mn_script.proofs.laws.written_is_read.Goals as goal

pub returns : goal.returns
returns c = written-is
