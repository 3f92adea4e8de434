use Rattle.std.proofs.Common.{◌≡◌, ◌++◌, drop, take}
use Rattle.mn_tree.specs.Walk.{helds}
use Rattle.mn_tree.specs.Order.{with_number}
use Rattle.mn_tree.proofs.order.place_before.Given as goal

-- it precedes none so far
abbrev pub invariant-loop-at : goal.invariant-loop-at
invariant-loop-at l = take l.at l.order ++ with_number (helds l.pages.items) l.number (drop l.at l.order) ≡ with_number (helds l.pages.items) l.number l.order
