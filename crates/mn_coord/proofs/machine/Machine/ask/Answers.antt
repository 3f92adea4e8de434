use Rattle.mn_coord.proofs.Stages.{asked_left, asks}
use Rattle.mn_coord.proofs.machine.Machine.ask.Goals as goal

pub returns-clause-step : goal.returns-clause-step
returns-clause-step c =
    asks c.args.self.now c.requires.sound c.requires.idle c.requires.stage c.in-Some.request
    c.pop_front.new.self c.in-Some.ensures.items c.node_at-node.result c.node_at-node.ensures

pub returns-clause-sound : goal.returns-clause-sound
returns-clause-sound c =
    asked_left c.args.self.now c.requires.sound c.requires.idle c.requires.stage c.pop_front.new.self c.pop_front.ensures.rest
