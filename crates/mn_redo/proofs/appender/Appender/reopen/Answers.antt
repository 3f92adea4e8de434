use Rattle.std.proofs.Common.{◌≡◌, Err, sym, ◌∙◌, ap}
use Rattle.std.proofs.lemmas.Result.{err_from_is_err_and}
use Rattle.mn_redo.specs.declared.open.OpenCause.TheVariants.{Damaged}
use Rattle.mn_redo.proofs.Causes.{cause_in}
use Rattle.mn_redo.proofs.appender.Appender.reopen.Goals as goal

pub returns-in_err-found-clause-damaged : goal.returns-in_err-found-clause-damaged
returns-in_err-found-clause-damaged g c h at is =
    let r = err_from_is_err_and c.from_residual.result c.from_residual.ensures.1 in
    let same : r.0 ≡ Damaged at = ap cause_in (sym r.1 ∙ is) in
    c.read.ensures.damaged h at (c.in_err-found.was ∙ ap Err (sym r.2 ∙ same))
