use Rattle.std.proofs.Common.{◌≡◌, ◌+◌, ◌*◌, Bool, [], ◌∷◌, refl, sym, ap, ◌∙◌, if◌then◌else◌}
use Rattle.std.proofs.lemmas.Result.{on_ok_weaker}
use Rattle.mn_base.specs.declared.ids.NodeNo.{NodeNo}
use Rattle.mn_page.specs.Grammar.{entry_bytes}
use Rattle.mn_txn.specs.AttemptPlan.{least_node, with_entry, with_reads}
use Rattle.mn_txn.specs.Children.{entry_image}
use Rattle.mn_txn.proofs.ChildTxn.{read_in, read_on}
use Rattle.mn_txn.proofs.attempt.read_entry.Goals as goal

pub returns : goal.returns
returns c =
    let t = c.args.txn.now in
    let v = c.args.version in
    let e = c.args.entry.now in
    let n = least_node t.reads c.args.slots.now in
    on_ok_weaker {P = c.read.new.self ≡ read_in t c.least_node-node.result c.entry_start.result c.in_ok-bytes.bytes}
    {Q = c.read.new.self ≡ with_entry t c.args.steps.now v e c.args.slots.now} c.read.result
    (λ kept. read_on c.read.new.self t t c.least_node-node.result c.entry_start.result (64 + 64 * v.0) c.in_ok-bytes.bytes (entry_bytes e) kept refl
    c.entry_start.ensures c.in_ok-bytes.ensures
    ∙ (ap (λ (m : NodeNo). read_in t m (64 + 64 * v.0) (entry_bytes e)) c.least_node-node.ensures
    ∙ ap (λ (b : Bool). with_reads t (if b then entry_image n v e ∷ [] else [])) (sym c.if-not-has_change.false ∙ c.has_change.ensures))) c.read.ensures.kept
