use Rattle.std.proofs.Common.{refl}
use Rattle.mn_callers.specs.Clients.{past_of}
use Rattle.mn_callers.proofs.ClientSteps.{handed_out, want_makes}
use Rattle.mn_callers.proofs.client.Client.own_step.Goals as goal

pub take_step-requires-clause-step : goal.take_step-requires-clause-step
take_step-requires-clause-step g c =
    let old = c.args.self.now in
    let past = past_of old in
    let has = c.requires.ready.0 in
    handed_out g.X.Transport.start old.list old.proxy c.next.new.self c.next.ensures.kept has c.in-Ok.step (c.in-Ok.ensures.legal past has.agrees) (λ new x. c.in-Ok.ensures.agrees past new has.agrees x) c.in-Ok.ensures.sound c.in-Ok.ensures.goes_on

pub make-requires-clause-step : goal.make-requires-clause-step
make-requires-clause-step g c =
    let old = c.args.self.now in
    let past = past_of old in
    let ready = c.requires.ready in
    (want_makes g.X.Transport.start old.list old.proxy c.next.new.self c.next.ensures.kept ready.0 old.begun ready.1 c.requires.list.begun (c.in-Err.ensures.want past ready.0.agrees) (λ new x. c.in-Err.ensures.left past new ready.0.agrees x), refl)

pub returns-in-Ok-clause-falls : goal.returns-in-Ok-clause-falls
returns-in-Ok-clause-falls g c = c.take_step.ensures.falls c.args.self.now.proxy c.in-Ok.ensures.falls

pub returns-in-Ok-clause-longer : goal.returns-in-Ok-clause-longer
returns-in-Ok-clause-longer g c = λ lacks. c.take_step.ensures.longer (c.in-Ok.ensures.lacks lacks)
