use Rattle.std.proofs.Common.{◌∷◌, subst, sym, ap, ◌∙◌}
use Rattle.mn_coord.specs.Coordination.{IsSoundStep, after_step}
use Rattle.mn_coord.specs.Legal.{Agrees, MayMake}
use Rattle.mn_coord.proofs.Sound.{step_sound}
use Rattle.mn_coord.proofs.Legal.{steps_are_allowed, handed_out_agrees, abandoned_agrees}
use Rattle.mn_coord.proofs.coordinator.Coordinator.next.Goals as goal

pub returns-clause-sound : goal.returns-clause-sound
returns-clause-sound c =
    let old = c.args.self.now in
    subst (IsSoundStep old.mini.nodes) (sym c.advance.ensures.step) (step_sound old c.parts_sound.ensures c.is_sound.ensures)

pub returns-clause-legal : goal.returns-clause-legal
returns-clause-legal c = λ es a. subst (MayMake es c.args.self.now.tid) (sym c.advance.ensures.step) (steps_are_allowed es c.args.self.now a)

pub returns-clause-agrees : goal.returns-clause-agrees
returns-clause-agrees c = λ es a other. subst (Agrees es) (sym (c.advance.ensures.after ∙ ap (after_step c.args.self.now) c.advance.ensures.step)) (handed_out_agrees es c.args.self.now a other)

pub returns-clause-abandoned : goal.returns-clause-abandoned
returns-clause-abandoned c = λ es e a is none what.
    subst (Agrees (e ∷ es)) (sym (c.advance.ensures.after ∙ ap (after_step c.args.self.now) (c.advance.ensures.step ∙ is))) (abandoned_agrees es e c.args.self.now a is none what)
