use Rattle.std.proofs.Common.{subst, sym}
use Rattle.mn_recov.specs.Legal.{MayMake}
use Rattle.mn_recov.specs.Recovery.{IsSoundStep}
use Rattle.mn_recov.proofs.Sound.{step_sound}
use Rattle.mn_recov.proofs.Legal.{steps_are_allowed}
use Rattle.mn_recov.proofs.recoverer.Recoverer.next.Goals as goal

pub returns-clause-sound : goal.returns-clause-sound
returns-clause-sound c =
    subst (IsSoundStep c.args.self.now.nodes) (sym c.step.ensures) (step_sound c.args.self.now c.is_sound.ensures)

pub returns-clause-legal : goal.returns-clause-legal
returns-clause-legal c = λ es a. subst (MayMake es) (sym c.step.ensures) (steps_are_allowed es c.args.self.now a)
