use Rattle.std.proofs.Common.{refl, ◌∙◌}
use Rattle.mn_runs.specs.Protocol.{entries_of}
use Rattle.mn_hist.specs.declared.points.Step.{Step}
use Rattle.mn_callers.proofs.MetPoints.{step_meets}
use Rattle.mn_callers.proofs.points.note.Goals as goal

pub returns-clause-met : goal.returns-clause-met
returns-clause-met c =
    let s : Step = record { client = c.args.client; number = c.args.number; node = c.args.entry.now.node; votes = c.votes_with.result; asked = c.asked_in.result } in
    c.meet.ensures.met ∙ step_meets c.args.points.now c.args.met.now (entries_of c.args.before.now) c.args.entry.now c.args.client s c.requires.own c.requires.by refl c.requires.number refl c.votes_with.ensures c.asked_in.ensures
