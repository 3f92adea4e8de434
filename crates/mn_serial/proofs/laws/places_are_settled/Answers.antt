use Rattle.mn_serial.proofs.Settled.Law.{places_are_settled}
use Rattle.mn_serial.proofs.laws.places_are_settled.Goals as goal

pub returns : goal.returns
returns c = places_are_settled
