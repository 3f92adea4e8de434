use Rattle.std.proofs.Common.{◌≡◌, ◌≤◌, ◌+◌, drop}
use Rattle.mn_plans.specs.Growth.{taken_on}
use Rattle.mn_txn.proofs.attempt.given_on.Given as goal

-- those so far, and those that are left
abbrev pub invariant-loop-slot : goal.invariant-loop-slot
invariant-loop-slot l =
    (l.given + taken_on (drop l.slot-index l.slots) l.node.0 ≡ taken_on l.slots l.node.0)
    × (l.given ≤ l.slot-index)
