use Rattle.std.proofs.Common.{◌≡◌, ◌-◌, []}
use Rattle.std.specs.List.{range_with_len}
use Rattle.mn_tree.specs.Walk.{helds}
use Rattle.mn_tree.specs.Order.{with_numbers}
use Rattle.mn_tree.proofs.order.order_of.Given as goal

-- the numbers so far, and the rest
abbrev pub invariant-loop-number : goal.invariant-loop-number
invariant-loop-number l = with_numbers (helds l.pages.items) l.order.items (range_with_len l.number (l.count - l.number)) ≡ with_numbers (helds l.pages.items) [] (range_with_len 0 l.count)
