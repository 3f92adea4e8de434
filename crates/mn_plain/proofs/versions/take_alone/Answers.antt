use Rattle.std.proofs.Common.{ap, ◌∙◌, List}
use Rattle.std.proofs.lemmas.Result.{on_ok_weaker, on_err_weaker}
use Rattle.mn_base.specs.declared.op.Step.{Step}
use Rattle.mn_plain.specs.Run.{pairs_after}
use Rattle.mn_plain.specs.Table.{shown}
use Rattle.mn_plain.proofs.Shared.{taken_alone, same_table}
use Rattle.mn_plain.proofs.versions.take_alone.Goals as goal

pub returns-clause-taken : goal.returns-clause-taken
returns-clause-taken c =
    let h = c.index-held-at.result in
    let old = c.index_mut.result.now in
    on_ok_weaker c.take_steps.result
    (λ taken. taken_alone c.args.tables.now.items c.args.held.now c.args.at h old c.take_steps.new.table (λ ps. pairs_after ps c.args.steps.now) c.requires.held c.requires.there c.index-held-at.is c.requires.alone
    c.index_mut.ensures.value (taken ∙ ap (λ (ss : List Step). pairs_after (shown old.entries) ss) c.as_slice.ensures.steps))
    c.take_steps.ensures.taken

pub returns-clause-kept : goal.returns-clause-kept
returns-clause-kept c =
    let h = c.index-held-at.result in
    let old = c.index_mut.result.now in
    on_err_weaker c.take_steps.result
    (λ same. same_table c.args.tables.now.items c.args.held.now (Rattle.std.proofs.Common.get_or c.args.held.now c.args.at h).table old c.take_steps.new.table c.index_mut.ensures.value same)
    c.take_steps.ensures.kept
