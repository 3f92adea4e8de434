use Rattle.std.proofs.Common.{◌≡◌, sym, subst, ◌∙◌}
use Rattle.mn_base.specs.Store.{applied}
use Rattle.mn_base.specs.declared.op.Op.{Op}
use Rattle.mn_hist.proofs.Following.{listing_same, scan_same, tx_same}
use Rattle.mn_hist.proofs.acts.may_change.Goals as goal

pub returns-in-Tx : goal.returns-in-Tx
returns-in-Tx c = λ none store. subst (λ (o : Op). (applied store o).store ≡ store) (sym c.in-Tx.is) (tx_same c.in-Tx.version c.in-Tx.steps (sym c.has_change.ensures ∙ none) store)

pub returns-in-Scan : goal.returns-in-Scan
returns-in-Scan c = λ none store. subst (λ (o : Op). (applied store o).store ≡ store) (sym c.in-Scan.is) (scan_same c.in-Scan.version c.in-Scan.low c.in-Scan.high c.in-Scan.limit store)

pub returns-in-Versions : goal.returns-in-Versions
returns-in-Versions c = λ none store. subst (λ (o : Op). (applied store o).store ≡ store) (sym c.in-Versions.is) (listing_same store)
