use Rattle.mn_serial.proofs.Meaning.Stops.{stops_leave_opened}
use Rattle.mn_serial.proofs.laws.stops_leave_opened.Goals as goal

pub returns : goal.returns
returns c = stops_leave_opened
