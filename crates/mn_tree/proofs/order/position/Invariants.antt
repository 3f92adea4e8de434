use Rattle.std.proofs.Common.{◌≡◌, ◌+◌, drop}
use Rattle.mn_tree.specs.Order.{place_in}
use Rattle.mn_tree.proofs.order.position.Given as goal

-- the number stands nowhere so far
abbrev pub invariant-loop-at : goal.invariant-loop-at
invariant-loop-at l = l.at + place_in (drop l.at l.order) l.number ≡ place_in l.order l.number
