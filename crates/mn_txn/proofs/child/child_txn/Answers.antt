use Rattle.std.proofs.Common.{◌≡◌, get_or, length, ap, ◌∙◌}
use Rattle.std.specs.List.{range_with_len}
use Rattle.std.proofs.lemmas.Option.{get_or_from_slice_get}
use Rattle.mn_base.specs.declared.ids.VersionNo.{VersionNo}
use Rattle.mn_page.specs.declared.entry.CatEntry.{CatEntry}
use Rattle.mn_txn.specs.State.{State}
use Rattle.mn_txn.specs.ChildPlan.{read_state, with_count, with_entries, with_pages}
use Rattle.mn_txn.proofs.child.child_txn.Goals as goal

pub returns : goal.returns
returns c = λ e there.
    let used = c.args.used.now in
    let v = c.args.version in
    let root = c.args.root.now in
    let slot = c.args.slot in
    let es = c.args.entries.now in
    let n : VersionNo = record { 0 = length used } in
    let d = c.index-used-from.result in
    let same : d ≡ e = c.index-used-from.is ∙ (ap (λ k. get_or used k d) c.from.ensures ∙ get_or_from_slice_get used v.0 e d there) in
    c.in_ok-write_count.ensures
    ∙ ap (λ (t : State). with_count t slot) (c.in_ok-write_entries.ensures
    ∙ ap (λ (t : State). with_entries t es (range_with_len 0 c.args.nodes)) (c.in_ok-write_pages.ensures
    ∙ (ap (λ (t : State). with_pages t d.root root n slot) c.in_ok-txn.ensures
    ∙ ap (λ (x : CatEntry). with_pages (read_state c.args.nodes v x root n slot) x.root root n slot) same)))
