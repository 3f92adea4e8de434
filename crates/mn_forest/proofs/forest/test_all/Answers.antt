use Rattle.std.proofs.Common.{sym, subst, arith}
use Rattle.std.proofs.lemmas.Result.{err_from_is_err_and}
use Rattle.mn_forest.specs.Rules.{entries_of}
use Rattle.mn_forest.specs.Refusal.{RefusesMemory}
use Rattle.mn_forest.proofs.Testing.{all_pass}
use Rattle.mn_forest.proofs.Refusing.{refused}
use Rattle.mn_forest.proofs.forest.test_all.Goals as goal

pub returns-in_err-test_front-clause-fails : goal.returns-in_err-test_front-clause-fails
returns-in_err-test_front-clause-fails c =
    let memory = c.args.spaces.now in
    let es = c.args.entries.now in
    let p = err_from_is_err_and c.from_residual.result c.from_residual.ensures.1 in
    rw p.1 (subst (RefusesMemory memory) (sym p.2) (refused memory es 0 c.in_err-test_front.field-0.0 c.requires.says (omega arith) (λ m low. absurd (omega arith)) (c.in_err-test_front.ensures.fails es)))

pub returns-in_err-test_others-clause-fails : goal.returns-in_err-test_others-clause-fails
returns-in_err-test_others-clause-fails c =
    let memory = c.args.spaces.now in
    let es = c.args.entries.now in
    let p = err_from_is_err_and c.from_residual-in_err-test_others.result c.from_residual-in_err-test_others.ensures.1 in
    let names = c.in_ok-names.ensures (entries_of es) c.in_ok-versions.ensures in
    let first = all_pass memory es 0 c.in_ok-test_front.ensures.passes c.in_ok-test_catalog.ensures.passes (c.in_ok-test_slots.ensures.passes es c.in_ok-versions.ensures names) in
    rw p.1 (subst (RefusesMemory memory) (sym p.2) (c.in_err-test_others.ensures.fails es c.requires.says c.in_ok-versions.ensures names first))

pub returns-clause-passes : goal.returns-clause-passes
returns-clause-passes c =
    let memory = c.args.spaces.now in
    let es = c.args.entries.now in
    let names = c.in_ok-names.ensures (entries_of es) c.in_ok-versions.ensures in
    let first = all_pass memory es 0 c.in_ok-test_front.ensures.passes c.in_ok-test_catalog.ensures.passes (c.in_ok-test_slots.ensures.passes es c.in_ok-versions.ensures names) in
    c.in_ok-test_others.ensures.passes es c.in_ok-versions.ensures names first
