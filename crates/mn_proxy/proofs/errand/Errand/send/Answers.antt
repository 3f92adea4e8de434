use Rattle.std.proofs.Common.{refl, subst, sym}
use Rattle.mn_proxy.specs.declared.errand.Errand.{Errand}
use Rattle.mn_proxy.specs.declared.errand.Errand.TheVariants as out
use Rattle.mn_proxy.specs.declared.step.ProxyStep.TheVariants as steps
use Rattle.mn_proxy.specs.Turns.{IsSent}
use Rattle.mn_proxy.proofs.errand.Errand.send.Goals as goal

pub returns-in-Abandon-clause-sent : goal.returns-in-Abandon-clause-sent
returns-in-Abandon-clause-sent c =
    subst (λ (e : Errand). IsSent e (out.Mini c.in-Mini.tid c.next.new.self c.in-Mini.purpose) (steps.Abandon c.in-Mini.tid)) (sym c.in-Mini.is) (
      c.next.new.self,
      refl,
      refl,
      record {
        step_is = c.in-Abandon.ensures.step;
        after_is = c.in-Abandon.ensures.after;
        sound = c.in-Abandon.ensures.sound;
        legal = c.in-Abandon.ensures.legal;
        agrees = c.in-Abandon.ensures.agrees;
        abandoned = c.in-Abandon.ensures.abandoned;
      },
    )
