use Rattle.std.proofs.Common.{◌+◌, ◌*◌, ◌∷◌, List, drop, refl, sym, ap, ◌∙◌}
use Rattle.std.proofs.lemmas.List.{at_drop_more}
use Rattle.mn_page.specs.Grammar.{entry_bytes}
use Rattle.mn_catalog.specs.Versions.{Numbered}
use Rattle.mn_txn.specs.State.{State}
use Rattle.mn_txn.specs.ChildPlan.{with_entries_on}
use Rattle.mn_txn.proofs.ChildTxn.{written_on}
use Rattle.mn_txn.proofs.child.write_entries_on.Goals as goal

pub loop-number-preserved : goal.loop-number-preserved
loop-number-preserved c =
    let es = c.args.entries.now in
    let i = c.loop-number.number-index in
    let x = c.loop-number-item.result in
    let t = c.loop-number.txn in
    let node = c.args.node in
    let start = 64 + 64 * (x.0).0 in
    let written = written_on c.write.new.self t t node c.entry_start.result start c.in_ok-bytes.bytes (entry_bytes x.1) c.in_ok-write.ensures.kept refl c.entry_start.ensures c.in_ok-bytes.ensures in
    c.loop-number.invariant
    ∙ (at_drop_more (λ (l : List Numbered). with_entries_on t l node.0) es i x c.loop-number-test.true
    ∙ (ap (λ (y : Numbered). with_entries_on t (y ∷ drop (i + 1) es) node.0) (sym c.loop-number-item.is)
    ∙ ap (λ (u : State). with_entries_on u (drop (i + 1) es) node.0) (sym written)))
