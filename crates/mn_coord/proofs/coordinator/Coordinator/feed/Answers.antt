use Rattle.std.proofs.Common.{◌∷◌, ap, subst, sym, ◌∙◌}
use Rattle.mn_coord.specs.Coordination.{Coordination, stage_in, fed}
use Rattle.mn_coord.specs.Legal.{Agrees}
use Rattle.mn_coord.proofs.Stages.{idle_after}
use Rattle.mn_coord.proofs.Legal.{answers_agree, no_answer_agrees}
use Rattle.mn_coord.proofs.coordinator.Coordinator.feed.Goals as goal

pub returns-clause-idle : goal.returns-clause-idle
returns-clause-idle c = ap (λ (s : Coordination). s.asked) c.take.ensures ∙ idle_after c.args.self.now (stage_in c.args.self.now) c.args.reply

pub returns-clause-agrees : goal.returns-clause-agrees
returns-clause-agrees c = λ es e node request a step is. subst (Agrees (e ∷ es)) (sym c.take.ensures) (answers_agree es e c.args.self.now node request c.args.reply a step is)

pub returns-clause-no_entry : goal.returns-clause-no_entry
returns-clause-no_entry c = λ none asks es a. subst (Agrees es) (sym (c.take.ensures ∙ ap (fed c.args.self.now) none)) (no_answer_agrees es c.args.self.now asks a)
