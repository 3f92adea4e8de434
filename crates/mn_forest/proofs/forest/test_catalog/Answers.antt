use Rattle.std.proofs.Common.{sym, subst, arith, below_more}
use Rattle.std.proofs.lemmas.Result.{err_from_is_err_and}
use Rattle.mn_forest.specs.Rules.{HasEntryAt, HasRootAt}
use Rattle.mn_forest.specs.Progress.{SaysFailed}
use Rattle.mn_forest.proofs.forest.test_catalog.Goals as goal

pub loop-version-preserved : goal.loop-version-preserved
loop-version-preserved c =
    below_more (λ w. HasEntryAt c.args.spaces.now c.args.entries.now 0 w × HasRootAt c.args.spaces.now c.args.entries.now 0 w) c.loop-version.version c.loop-version.invariant c.in_ok-test_entry.ensures.passes

pub returns-in_err-test_entry-clause-fails : goal.returns-in_err-test_entry-clause-fails
returns-in_err-test_entry-clause-fails c =
    let p = err_from_is_err_and c.from_residual.result c.from_residual.ensures.1 in
    rw p.1 (subst (SaysFailed c.args.spaces.now c.args.entries.now 0) (sym p.2) (c.in_err-test_entry.ensures.fails c.requires.front c.loop-version.invariant))

pub returns-clause-passes : goal.returns-clause-passes
returns-clause-passes c = λ w less. c.loop-version.invariant w (omega arith)
