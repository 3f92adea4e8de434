use Rattle.std.proofs.Common.{◌≡◌, ◌-◌, ◌++◌, map}
use Rattle.std.specs.List.{range_with_len}
use Rattle.mn_tree.specs.Order.{slot_of}
use Rattle.mn_tree.proofs.order.by_number.Given as goal

-- the slots so far, and the rest
abbrev pub invariant-loop-number : goal.invariant-loop-number
invariant-loop-number l = l.by.items ++ map (slot_of l.order l.slots) (range_with_len l.number (l.count - l.number)) ≡ map (slot_of l.order l.slots) (range_with_len 0 l.count)
