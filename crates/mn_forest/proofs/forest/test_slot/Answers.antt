use Rattle.std.proofs.Common.{ℕ, ap, sym, subst, ◌∙◌}
use Rattle.std.proofs.lemmas.Result.{err_from_is_err_and}
use Rattle.mn_forest.specs.declared.error.ForestError.TheVariants.{Broken}
use Rattle.mn_forest.specs.declared.error.Rule.TheVariants as rules
use Rattle.mn_flat.specs.Votes.{numbered}
use Rattle.mn_forest.specs.Rules.{OfPage, OfChildren, OfReach, Passes, entries_of}
use Rattle.mn_forest.specs.Progress.{SaysFailed}
use Rattle.mn_forest.proofs.Testing.{says_at, before_page, before_children, before_reach, fails_so, passes_so}
use Rattle.mn_forest.proofs.forest.test_slot.Goals as goal

pub returns-in_err-pass-clause-fails : goal.returns-in_err-pass-clause-fails
returns-in_err-pass-clause-fails c = λ es versions names front entries to.
    let memory = c.args.spaces.now in
    let n = c.args.node in
    let k = c.args.slot in
    let p = err_from_is_err_and c.from_residual.result c.from_residual.ensures.1 in
    let said = c.in_err-pass.ensures.fails in
    let broken = said.1 ∙ ap (λ (s : ℕ). Broken (numbered n) s rules.Page) c.slot_start-start.ensures in
    rw p.1
    (subst (SaysFailed memory es n) (sym p.2)
    (says_at memory es n (OfPage k) c.in_err-pass.field-0.0 broken c.requires.place (fails_so (Passes memory es n (OfPage k)) c.has_page.result (c.has_page.ensures (entries_of es) versions) said.0) (before_page memory es n k front entries to)))

pub returns-in_err-pass-2-clause-fails : goal.returns-in_err-pass-2-clause-fails
returns-in_err-pass-2-clause-fails c = λ es versions names front entries to.
    let memory = c.args.spaces.now in
    let n = c.args.node in
    let k = c.args.slot in
    let p = err_from_is_err_and c.from_residual-in_err-pass-2.result c.from_residual-in_err-pass-2.ensures.1 in
    let said = c.in_err-pass-2.ensures.fails in
    let broken = said.1 ∙ ap (λ (s : ℕ). Broken (numbered n) s rules.Child) c.slot_start-start.ensures in
    let page = passes_so (Passes memory es n (OfPage k)) c.has_page.result (c.has_page.ensures (entries_of es) versions) c.in_ok-pass.ensures.passes in
    rw p.1
    (subst (SaysFailed memory es n) (sym p.2)
    (says_at memory es n (OfChildren k) c.in_err-pass-2.field-0.0 broken c.requires.place (fails_so (Passes memory es n (OfChildren k)) c.has_children.result (c.has_children.ensures (entries_of es) versions) said.0)
    (before_children memory es n k front entries to page)))

pub returns-in_err-pass-3-clause-fails : goal.returns-in_err-pass-3-clause-fails
returns-in_err-pass-3-clause-fails c = λ es versions names front entries to.
    let memory = c.args.spaces.now in
    let n = c.args.node in
    let k = c.args.slot in
    let p = err_from_is_err_and c.from_residual-in_err-pass-3.result c.from_residual-in_err-pass-3.ensures.1 in
    let said = c.in_err-pass-3.ensures.fails in
    let broken = said.1 ∙ ap (λ (s : ℕ). Broken (numbered n) s rules.Reach) c.slot_start-start.ensures in
    let page = passes_so (Passes memory es n (OfPage k)) c.has_page.result (c.has_page.ensures (entries_of es) versions) c.in_ok-pass.ensures.passes in
    let children = passes_so (Passes memory es n (OfChildren k)) c.has_children.result (c.has_children.ensures (entries_of es) versions) c.in_ok-pass-2.ensures.passes in
    rw p.1
    (subst (SaysFailed memory es n) (sym p.2)
    (says_at memory es n (OfReach k) c.in_err-pass-3.field-0.0 broken c.requires.place (fails_so (Passes memory es n (OfReach k)) c.is_reached.result (c.is_reached.ensures (entries_of es) versions names) said.0)
    (before_reach memory es n k front entries to page children)))

pub returns-clause-passes : goal.returns-clause-passes
returns-clause-passes c = λ es versions names.
    let memory = c.args.spaces.now in
    let n = c.args.node in
    let k = c.args.slot in (
      passes_so (Passes memory es n (OfPage k)) c.has_page.result (c.has_page.ensures (entries_of es) versions) c.in_ok-pass.ensures.passes,
      passes_so (Passes memory es n (OfChildren k)) c.has_children.result (c.has_children.ensures (entries_of es) versions) c.in_ok-pass-2.ensures.passes,
      passes_so (Passes memory es n (OfReach k)) c.is_reached.result (c.is_reached.ensures (entries_of es) versions names) c.in_ok-pass-3.ensures.passes,
    )
