use Rattle.std.proofs.Common.{ℕ, ◌≡◌, ap, sym, subst, ◌∙◌, arith, below_more}
use Rattle.std.proofs.lemmas.Result.{err_from_is_err_and}
use Rattle.mn_forest.specs.declared.error.ForestError.TheVariants.{Broken}
use Rattle.mn_forest.specs.declared.error.Rule.TheVariants as rules
use Rattle.mn_flat.specs.Votes.{numbered}
use Rattle.mn_forest.specs.Rules.{OfEntry, entry_place}
use Rattle.mn_forest.specs.Progress.{SaysFailed}
use Rattle.mn_forest.proofs.Testing.{says_at, before_entry, same_entry, other_entry, fails_so, passes_so}
use Rattle.mn_forest.proofs.forest.test_same_catalog.Goals as goal

pub loop-entry-preserved : goal.loop-entry-preserved
loop-entry-preserved c =
    below_more (λ w. entry_place c.args.spaces.now c.args.node w ≡ entry_place c.args.spaces.now 0 w) c.loop-entry.entry c.loop-entry.invariant
    (passes_so (entry_place c.args.spaces.now c.args.node c.loop-entry.entry ≡ entry_place c.args.spaces.now 0 c.loop-entry.entry) c.has_same_entry.result c.has_same_entry.ensures c.in_ok-pass.ensures.passes)

pub returns-in_err-pass-clause-fails : goal.returns-in_err-pass-clause-fails
returns-in_err-pass-clause-fails c = λ es front.
    let memory = c.args.spaces.now in
    let n = c.args.node in
    let k = c.loop-entry.entry in
    let p = err_from_is_err_and c.from_residual.result c.from_residual.ensures.1 in
    let said = c.in_err-pass.ensures.fails in
    let broken = said.1 ∙ ap (λ (s : ℕ). Broken (numbered n) s rules.Entry) c.entry_start.ensures in
    rw p.1
    (subst (SaysFailed memory es n) (sym p.2)
    (says_at memory es n (OfEntry k) c.in_err-pass.field-0.0 broken c.loop-entry-test.true (other_entry memory es n k c.requires.behind (fails_so (entry_place memory n k ≡ entry_place memory 0 k) c.has_same_entry.result c.has_same_entry.ensures said.0))
    (before_entry memory es n k c.loop-entry-test.true front (λ w less. same_entry memory es n w c.requires.behind (c.loop-entry.invariant w less)))))

pub returns-clause-passes : goal.returns-clause-passes
returns-clause-passes c = λ es w less. same_entry c.args.spaces.now es c.args.node w c.requires.behind (c.loop-entry.invariant w (omega arith))
