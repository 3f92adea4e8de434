use Rattle.std.proofs.Common.{[], ◌∷◌, ap, length, refl, subst, sym}
use Rattle.std.proofs.lemmas.List.{length-replicate}
use Rattle.mn_mini.specs.Mini.{participants_of}
use Rattle.mn_coord.specs.Coordination.{Coordination, new_coordination}
use Rattle.mn_coord.specs.Inside.{view_of}
use Rattle.mn_coord.specs.Legal.{Agrees}
use Rattle.mn_coord.proofs.Legal.{issues_agree}
use Rattle.mn_coord.proofs.coordinator.Coordinator.new.Goals as goal

pub returns-clause-agrees : goal.returns-clause-agrees
returns-clause-agrees c = λ es e fresh none what.
    subst (λ (made : Coordination). Agrees (e ∷ es) made) (sym (ap view_of c.in_ok-new.ensures.starts))
    (issues_agree es e (new_coordination c.args.tid c.args.mini) fresh c.in_ok-new.ensures.some
    (length-replicate (length (participants_of c.args.mini)) []) refl refl refl refl none what)
