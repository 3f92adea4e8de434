use Rattle.std.proofs.Common.{◌+◌, ◌∷◌, List, drop, map, sym, ap, ◌∙◌}
use Rattle.std.proofs.lemmas.List.{at_drop_more}
use Rattle.mn_base.specs.declared.ids.Addr.{Addr}
use Rattle.mn_page.specs.declared.page.Page.{Page}
use Rattle.mn_txn.specs.State.{State}
use Rattle.mn_txn.specs.Attempt.{page_image}
use Rattle.mn_txn.specs.ChildPlan.{with_writes}
use Rattle.mn_txn.proofs.attempt.write_pages.Goals as goal

pub loop-addr-preserved : goal.loop-addr-preserved
loop-addr-preserved c =
    let pages = c.args.pages.now in
    let i = c.loop-addr.addr-index in
    let t = c.loop-addr.txn in
    c.loop-addr.invariant
    ∙ (at_drop_more (λ (l : List (Addr × Page)). with_writes t (map (λ h. page_image h.0 h.1) l)) pages i c.loop-addr-item.result c.loop-addr-test.true
    ∙ (ap (λ (h : Addr × Page). with_writes t (map (λ h. page_image h.0 h.1) (h ∷ drop (i + 1) pages))) (sym c.loop-addr-item.is)
    ∙ ap (λ (u : State). with_writes u (map (λ h. page_image h.0 h.1) (drop (i + 1) pages))) (sym c.in_ok-write_page.ensures)))
