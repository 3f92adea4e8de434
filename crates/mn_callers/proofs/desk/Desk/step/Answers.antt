use Rattle.std.proofs.Common.{ap}
use Rattle.mn_runs.specs.Lists.{ClientState}
use Rattle.mn_callers.proofs.Hands.{moves_same}
use Rattle.mn_callers.proofs.desk.Desk.step.Goals as goal

pub returns-in_err-take_work-clause-goes_on : goal.returns-in_err-take_work-clause-goes_on
returns-in_err-take_work-clause-goes_on g c =
    moves_same g.X.Transport.went g.met.X.Transport.stays _ _ _ (ap (λ (l : ClientState). l.client) c.take_work.ensures.list) (ap (λ (l : ClientState). l.entries) c.take_work.ensures.list)
