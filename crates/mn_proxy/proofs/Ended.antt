-- An operation that is answered has had its last turn.
use Rattle.std.proofs.Common.{◌≡◌, Option, None, ap, sym}
use Rattle.mn_base.specs.declared.answer.Answer.{Answer}
use Rattle.mn_proxy.specs.declared.errand.Errand.{Errand}
use Rattle.mn_proxy.specs.declared.step.ProxyStep.TheVariants as steps
use Rattle.mn_proxy.specs.Turn.{turn_of}
use Rattle.mn_proxy.specs.Turn as turns
use Rattle.mn_work.specs.declared.work.Work.{Work}

pub ends_when : (work : Option (Work × Errand)) (answer : Answer) → work ≡ None
    → turns.Ends answer ≡ turn_of work (steps.Done answer)
ends_when work answer none = ap (λ (w : Option (Work × Errand)). turn_of w (steps.Done answer)) (sym none)
