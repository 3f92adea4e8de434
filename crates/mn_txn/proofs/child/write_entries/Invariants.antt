use Rattle.std.proofs.Common.{◌≡◌, ◌-◌}
use Rattle.std.specs.List.{range_with_len}
use Rattle.mn_txn.specs.ChildPlan.{with_entries}
use Rattle.mn_txn.proofs.child.write_entries.Given as goal

-- the nodes that are left are still to come
abbrev pub invariant-loop-number : goal.invariant-loop-number
invariant-loop-number l =
    with_entries l.initial.txn l.entries (range_with_len 0 l.nodes)
    ≡ with_entries l.txn l.entries (range_with_len l.number (l.nodes - l.number))
