use Rattle.std.proofs.Common.{◌≡◌, Err, sym, ◌∙◌, ap}
use Rattle.std.proofs.lemmas.Result.{err_from_is_err_and}
use Rattle.mn_redo.specs.declared.open.OpenCause.TheVariants.{Damaged}
use Rattle.mn_redo.proofs.Causes.{cause_in}
use Rattle.mn_redo.proofs.redo.Redo.reopen.Goals as goal

pub returns-in_err-found-clause-told : goal.returns-in_err-found-clause-told
returns-in_err-found-clause-told g c at is =
    let r = err_from_is_err_and c.from_residual.result c.from_residual.ensures.1 in
    let same : r.0 ≡ Damaged at = ap cause_in (sym r.1 ∙ is) in
    let told = c.read.ensures.told at (c.in_err-found.was ∙ ap Err (sym r.2 ∙ same)) in
    rw (← c.self.view_is) told

pub returns-in_err-found-clause-damaged : goal.returns-in_err-found-clause-damaged
returns-in_err-found-clause-damaged g c = rw (← c.self.view_is) (λ h at is.
    let r = err_from_is_err_and c.from_residual.result c.from_residual.ensures.1 in
    let same : r.0 ≡ Damaged at = ap cause_in (sym r.1 ∙ is) in
    c.read.ensures.damaged h at (c.in_err-found.was ∙ ap Err (sym r.2 ∙ same)))

pub returns-clause-read : goal.returns-clause-read
returns-clause-read g c = rw (← c.self.view_is) (λ h. c.in_ok-found.ensures.read h)

pub returns-clause-stands : goal.returns-clause-stands
returns-clause-stands g c = rw (← c.self.view_is) (λ h x image. c.in_ok-found.ensures.stands h x image)
