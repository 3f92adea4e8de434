use Rattle.mn_serial.proofs.Shortened.{shortened_do_stay_opened}
use Rattle.mn_serial.proofs.laws.shortened_stays_opened.Goals as goal

pub returns : goal.returns
returns c = shortened_do_stay_opened
