use Rattle.std.proofs.Common.{ℕ, ap, sym, subst, ◌∙◌}
use Rattle.std.proofs.lemmas.Result.{err_from_is_err_and}
use Rattle.mn_forest.specs.declared.error.ForestError.TheVariants.{Broken}
use Rattle.mn_forest.specs.declared.error.Rule.TheVariants as rules
use Rattle.mn_flat.specs.Votes.{numbered}
use Rattle.mn_forest.specs.Rules.{OfEntry, OfRoot, HasEntryAt, HasRootAt}
use Rattle.mn_forest.specs.Progress.{SaysFailed}
use Rattle.mn_forest.proofs.Testing.{says_at, before_entry, before_root, fails_so, passes_so}
use Rattle.mn_forest.proofs.forest.test_entry.Goals as goal

pub returns-in_err-pass-clause-fails : goal.returns-in_err-pass-clause-fails
returns-in_err-pass-clause-fails c = λ front to.
    let memory = c.args.spaces.now in
    let es = c.args.entries.now in
    let k = c.args.version in
    let p = err_from_is_err_and c.from_residual.result c.from_residual.ensures.1 in
    let said = c.in_err-pass.ensures.fails in
    let broken = said.1 ∙ ap (λ (s : ℕ). Broken (numbered 0) s rules.Entry) c.entry_start-start.ensures in
    rw p.1
    (subst (SaysFailed memory es 0) (sym p.2)
    (says_at memory es 0 (OfEntry k) c.in_err-pass.field-0.0 broken c.requires.place (fails_so (HasEntryAt memory es 0 k) c.has_entry.result c.has_entry.ensures said.0) (before_entry memory es 0 k c.requires.place front to)))

pub returns-in_err-pass-2-clause-fails : goal.returns-in_err-pass-2-clause-fails
returns-in_err-pass-2-clause-fails c = λ front to.
    let memory = c.args.spaces.now in
    let es = c.args.entries.now in
    let k = c.args.version in
    let p = err_from_is_err_and c.from_residual-in_err-pass-2.result c.from_residual-in_err-pass-2.ensures.1 in
    let said = c.in_err-pass-2.ensures.fails in
    let broken = said.1 ∙ ap (λ (s : ℕ). Broken (numbered 0) s rules.Root) c.entry_start-start.ensures in
    let here = passes_so (HasEntryAt memory es 0 k) c.has_entry.result c.has_entry.ensures c.in_ok-pass.ensures.passes in
    rw p.1
    (subst (SaysFailed memory es 0) (sym p.2)
    (says_at memory es 0 (OfRoot k) c.in_err-pass-2.field-0.0 broken c.requires.place (fails_so (HasRootAt memory es 0 k) c.root_fits.result c.root_fits.ensures said.0) (before_root memory es 0 k c.requires.place front to here)))

pub returns-clause-passes : goal.returns-clause-passes
returns-clause-passes c =
    let memory = c.args.spaces.now in
    let es = c.args.entries.now in
    let k = c.args.version in
    (passes_so (HasEntryAt memory es 0 k) c.has_entry.result c.has_entry.ensures c.in_ok-pass.ensures.passes, passes_so (HasRootAt memory es 0 k) c.root_fits.result c.root_fits.ensures c.in_ok-pass-2.ensures.passes)
