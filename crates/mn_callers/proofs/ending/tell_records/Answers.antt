use Rattle.std.proofs.Common.{◌≡◌, ℕ, Bool, true, false, Some, sym, ap, ◌∙◌, subst, arith, refl, ltb}
use Rattle.std.specs.Prelude.{slice_get}
use Rattle.std.specs.List.{AllByRecursion}
use Rattle.std.proofs.lemmas.Bool.{ltb-false, ltb-true}
use Rattle.std.proofs.lemmas.Option.{slice_get_within}
use Rattle.mn_mini.specs.RecordGrammar.{IsRecord}
use Rattle.mn_node.specs.Node.{added_to}
use Rattle.mn_node.specs.State.{NodeState}
use Rattle.mn_callers.proofs.Handing.{read_at, some_same}
use Rattle.mn_callers.proofs.ending.tell_records.Goals as goal

pub loop-node-preserved : goal.loop-node-preserved
loop-node-preserved g c k m below at = by (ltb k c.loop-node.node-index) refl
  where
    by : (b : Bool) → ltb k c.loop-node.node-index ≡ b → AllByRecursion IsRecord (added_to m.records m.pending)
    by true is = c.loop-node.invariant k m (ltb-true k c.loop-node.node-index is) at
    by false is =
        let above = ltb-false k c.loop-node.node-index is in
        let here : k ≡ c.loop-node.node-index = omega (arith, above, below) in
        let item : slice_get c.args.nodes.now c.loop-node.node-index ≡ Some c.node-item.result = read_at c.args.nodes.now c.loop-node.node-index c.node-item.result c.loop-node-test.true c.node-item.is in
        let same : c.node-item.result ≡ m = some_same c.node-item.result m (sym item ∙ (ap (λ (i : ℕ). slice_get c.args.nodes.now i) (sym here) ∙ at)) in
        subst (λ (n : NodeState g.row.D.Denot). AllByRecursion IsRecord (added_to n.records n.pending)) same c.records-records.ensures.left

pub returns : goal.returns
returns g c k m at = let within = slice_get_within c.args.nodes.now k m at in c.loop-node.invariant k m (omega (arith, within, c.loop-node-test.false)) at
