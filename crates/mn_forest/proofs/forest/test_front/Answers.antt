use Rattle.std.proofs.Common.{sym, subst}
use Rattle.std.proofs.lemmas.Result.{err_from_is_err_and}
use Rattle.mn_forest.specs.Rules.{OfHeader, OfCount, HasHeader, HasCount}
use Rattle.mn_forest.specs.Progress.{SaysFailed}
use Rattle.mn_forest.proofs.Testing.{says_at, at_header, at_count, fails_so, passes_so}
use Rattle.mn_forest.proofs.forest.test_front.Goals as goal

pub returns-in_err-pass-clause-fails : goal.returns-in_err-pass-clause-fails
returns-in_err-pass-clause-fails c = λ es.
    let memory = c.args.spaces.now in
    let n = c.args.node in
    let p = err_from_is_err_and c.from_residual.result c.from_residual.ensures.1 in
    let said = c.in_err-pass.ensures.fails in
    rw p.1 (subst (SaysFailed memory es n) (sym p.2) (says_at memory es n OfHeader c.in_err-pass.field-0.0 said.1 tt (fails_so (HasHeader memory n) c.has_header.result c.has_header.ensures said.0) (at_header memory es n)))

pub returns-in_err-pass-2-clause-fails : goal.returns-in_err-pass-2-clause-fails
returns-in_err-pass-2-clause-fails c = λ es.
    let memory = c.args.spaces.now in
    let n = c.args.node in
    let p = err_from_is_err_and c.from_residual-in_err-pass-2.result c.from_residual-in_err-pass-2.ensures.1 in
    let said = c.in_err-pass-2.ensures.fails in
    let header = passes_so (HasHeader memory n) c.has_header.result c.has_header.ensures c.in_ok-pass.ensures.passes in
    rw p.1 (subst (SaysFailed memory es n) (sym p.2) (says_at memory es n OfCount c.in_err-pass-2.field-0.0 said.1 tt (fails_so (HasCount memory n) c.has_count.result c.has_count.ensures said.0) (at_count memory es n header)))

pub returns-clause-passes : goal.returns-clause-passes
returns-clause-passes c =
    let memory = c.args.spaces.now in
    let n = c.args.node in
    (passes_so (HasHeader memory n) c.has_header.result c.has_header.ensures c.in_ok-pass.ensures.passes, passes_so (HasCount memory n) c.has_count.result c.has_count.ensures c.in_ok-pass-2.ensures.passes)
