use Rattle.std.proofs.Common.{sym, subst}
use Rattle.std.proofs.lemmas.Result.{err_from_is_err_and}
use Rattle.mn_forest.specs.Progress.{SaysFailed}
use Rattle.mn_forest.proofs.Testing.{all_pass}
use Rattle.mn_forest.proofs.forest.test_node.Goals as goal

pub returns-in_err-test_front-clause-fails : goal.returns-in_err-test_front-clause-fails
returns-in_err-test_front-clause-fails c = λ es versions names.
    let p = err_from_is_err_and c.from_residual.result c.from_residual.ensures.1 in
    rw p.1 (subst (SaysFailed c.args.spaces.now es c.args.node) (sym p.2) (c.in_err-test_front.ensures.fails es))

pub returns-in_err-test_same_catalog-clause-fails : goal.returns-in_err-test_same_catalog-clause-fails
returns-in_err-test_same_catalog-clause-fails c = λ es versions names.
    let p = err_from_is_err_and c.from_residual-in_err-test_same_catalog.result c.from_residual-in_err-test_same_catalog.ensures.1 in
    rw p.1 (subst (SaysFailed c.args.spaces.now es c.args.node) (sym p.2) (c.in_err-test_same_catalog.ensures.fails es c.in_ok-test_front.ensures.passes))

pub returns-in_err-test_slots-clause-fails : goal.returns-in_err-test_slots-clause-fails
returns-in_err-test_slots-clause-fails c = λ es versions names.
    let p = err_from_is_err_and c.from_residual-in_err-test_slots.result c.from_residual-in_err-test_slots.ensures.1 in
    rw p.1 (subst (SaysFailed c.args.spaces.now es c.args.node) (sym p.2) (c.in_err-test_slots.ensures.fails es versions names c.in_ok-test_front.ensures.passes (c.in_ok-test_same_catalog.ensures.passes es)))

pub returns-clause-passes : goal.returns-clause-passes
returns-clause-passes c = λ es versions names. all_pass c.args.spaces.now es c.args.node c.in_ok-test_front.ensures.passes (c.in_ok-test_same_catalog.ensures.passes es) (c.in_ok-test_slots.ensures.passes es versions names)
