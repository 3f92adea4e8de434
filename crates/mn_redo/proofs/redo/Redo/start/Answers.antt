use Rattle.std.proofs.Common.{◌≢◌, sym, ap, subst}
use Rattle.mn_redo.specs.declared.redo.Phase.TheVariants.{Closing}
use Rattle.mn_redo.proofs.redo.Redo.start.Goals as goal

pub returns-clause-any_moment : goal.returns-clause-any_moment
returns-clause-any_moment g c =
    let going = subst (λ p. p ≢ Closing) (sym (ap (λ s. s.phase) c.self.view_is)) c.requires.going in
    rw (← c.self.view_is) (λ h. c.start.ensures.any_moment _ (c.self.invariant going).log h)

pub returns-clause-stands : goal.returns-clause-stands
returns-clause-stands g c =
    let going = subst (λ p. p ≢ Closing) (sym (ap (λ s. s.phase) c.self.view_is)) c.requires.going in
    rw (← c.self.view_is) (λ h x image. c.start.ensures.stands _ (c.self.invariant going).log h x image)
