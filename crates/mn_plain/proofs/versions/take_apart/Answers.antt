use Rattle.std.proofs.Common.{◌∙◌, ap, get_or}
use Rattle.mn_plain.specs.declared.version.Held.{Held}
use Rattle.mn_plain.proofs.Shared.{apart_same, apart_alone, same_read}
use Rattle.mn_plain.proofs.versions.take_apart.Goals as goal

pub returns-clause-same : goal.returns-clause-same
returns-clause-same c =
    let held = c.args.held.now.items in
    let tables = c.args.tables.now.items in
    let all = apart_same tables held c.args.at c.index_mut.result.now c.len-own.result c.index-2.result.now c.in_ok-copy_of.field-0 c.requires.held c.requires.there c.index_mut.ensures.value (c.len-own.ensures ∙ c.args.tables.now.ok.0)
    (c.index-2.ensures ∙ ap (λ (h : Held). get_or tables h.table c.index-2.result.now) (same_read held c.args.at c.index.result.now c.index_mut.result.now c.requires.there c.index.ensures c.index_mut.ensures.value)) c.in_ok-copy_of.ensures in
    rw c.in_ok-push.ensures.items all

pub returns-clause-alone : goal.returns-clause-alone
returns-clause-alone c =
    apart_alone c.args.tables.now.items c.args.held.now.items c.args.at c.index_mut.result.now c.len-own.result c.requires.held c.requires.there (c.len-own.ensures ∙ c.args.tables.now.ok.0)
