use Rattle.std.proofs.Common.{◌≡◌, ◌-◌, length}
use Rattle.std.specs.List.{range_with_len}
use Rattle.mn_txn.specs.AttemptPlan.{with_counts}
use Rattle.mn_txn.proofs.attempt.change_counts.Given as goal

-- the nodes that are left are still to come
abbrev pub invariant-loop-number : goal.invariant-loop-number
invariant-loop-number l =
    with_counts l.initial.txn l.counts l.slots (range_with_len 0 (length l.counts))
    ≡ with_counts l.txn l.counts l.slots (range_with_len l.number (length l.counts - l.number))
