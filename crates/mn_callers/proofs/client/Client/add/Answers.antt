use Rattle.mn_callers.proofs.Hands.{moves_further, moves_same}
use Rattle.mn_callers.proofs.client.Client.add.Goals as goal

pub returns-in_err-reserve-clause-goes_on : goal.returns-in_err-reserve-clause-goes_on
returns-in_err-reserve-clause-goes_on g c = moves_same g.X.Transport.went g.met.X.Transport.stays _ _ c.reserve.new.self c.reserve.ensures.client c.reserve.ensures.entries

pub returns-clause-goes_on : goal.returns-clause-goes_on
returns-clause-goes_on g c = moves_further g.X.Transport.went g.met.X.Transport.goes_on _ _ _ _ _ _ (moves_same g.X.Transport.went g.met.X.Transport.stays _ _ c.reserve.new.self c.reserve.ensures.client c.reserve.ensures.entries) c.put.ensures.goes_on
