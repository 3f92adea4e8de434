use Rattle.std.proofs.Common.{◌≡◌, ℕ, suc, ◌+◌, ◌-◌, ◌<◌, ◌∷◌, List, sym, ap, ◌∙◌, arith}
use Rattle.std.specs.List.{range_with_len}
use Rattle.mn_txn.specs.State.{State}
use Rattle.mn_txn.specs.ChildPlan.{with_entries}
use Rattle.mn_txn.proofs.child.write_entries.Goals as goal

range_on : (a k : ℕ) → a < k → range_with_len a (k - a) ≡ a ∷ range_with_len (a + 1) (k - (a + 1))
range_on a k low = let more : k - a ≡ suc (k - (a + 1)) = omega arith in ap (range_with_len a) more

pub loop-number-preserved : goal.loop-number-preserved
loop-number-preserved c =
    let es = c.args.entries.now in
    let t = c.loop-number.txn in
    let n = c.loop-number.number in
    let k = c.args.nodes in
    c.loop-number.invariant
    ∙ (ap (λ (ns : List ℕ). with_entries t es ns) (range_on n k c.loop-number-test.true)
    ∙ ap (λ (u : State). with_entries u es (range_with_len (n + 1) (k - (n + 1)))) (sym c.in_ok-write_entries_on.ensures))
