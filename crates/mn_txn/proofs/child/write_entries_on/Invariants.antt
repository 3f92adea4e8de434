use Rattle.std.proofs.Common.{◌≡◌, drop}
use Rattle.mn_txn.specs.ChildPlan.{with_entries_on}
use Rattle.mn_txn.proofs.child.write_entries_on.Given as goal

-- what is left is still to come
abbrev pub invariant-loop-number : goal.invariant-loop-number
invariant-loop-number l =
    with_entries_on l.initial.txn l.entries l.node.0
    ≡ with_entries_on l.txn (drop l.number-index l.entries) l.node.0
