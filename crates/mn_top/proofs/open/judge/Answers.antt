use Rattle.std.proofs.lemmas.Result.{err_from_is_err_and}
use Rattle.mn_top.proofs.Checking.{hold_none_judged}
use Rattle.mn_top.proofs.open.judge.Goals as goal

pub returns-in_err-store-clause-refused : goal.returns-in_err-store-clause-refused
returns-in_err-store-clause-refused c =
    let r = err_from_is_err_and c.from_residual.result c.from_residual.ensures.1 in
    rw (r.1, r.2) (hold_none_judged c.args.records.now _ c.in_err-store.ensures.refused)
