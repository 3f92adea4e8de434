use Rattle.std.proofs.Common.{◌≡◌, ◌+◌, ◌*◌, refl, ap, ◌∙◌}
use Rattle.std.proofs.lemmas.Result.{on_ok_weaker}
use Rattle.mn_page.specs.Copies.{marked_for, copy_for}
use Rattle.mn_page.specs.Grammar.{page_bytes}
use Rattle.mn_page.specs.declared.page.Page.{Page}
use Rattle.mn_txn.specs.ChildPlan.{with_pages}
use Rattle.mn_txn.proofs.ChildTxn.{written_in, written_on}
use Rattle.mn_txn.proofs.child.write_pages.Goals as goal

pub returns : goal.returns
returns c =
    let t = c.args.txn.now in
    let a = c.args.addr in
    let s = c.args.slot in
    let root = c.args.root.now in
    let n = c.args.number in
    let first = 20480 + 1024 * a.slot in
    let second = 20480 + 1024 * s.slot in
    let old = page_bytes (marked_for n root) in
    let new = page_bytes (copy_for n root) in
    let one = written_in t a.node first old in
    on_ok_weaker {P = c.write-2.new.self ≡ written_in c.write.new.self s.node c.slot_start-2.result c.in_ok-new.new}
    {Q = c.write-2.new.self ≡ with_pages t a root n s} c.write-2.result
    (λ kept. written_on c.write-2.new.self c.write.new.self one s.node c.slot_start-2.result second c.in_ok-new.new new kept
    (written_on c.write.new.self t t a.node c.slot_start.result first c.in_ok-old.old old c.in_ok-write.ensures.kept refl c.slot_start.ensures
    (c.in_ok-old.ensures ∙ ap (λ (p : Page). page_bytes p) c.in_ok-marked.ensures.old))
    c.slot_start-2.ensures (c.in_ok-new.ensures ∙ ap (λ (p : Page). page_bytes p) c.in_ok-marked.ensures.copy)) c.write-2.ensures.kept
