use Rattle.std.proofs.Common.{◌≡◌, ◌++◌, drop}
use Rattle.mn_tree.specs.Walk.{helds}
use Rattle.mn_tree.specs.Order.{new_pages}
use Rattle.mn_tree.proofs.order.push_new.Given as goal

-- the pages so far, and the rest
abbrev pub invariant-loop-number : goal.invariant-loop-number
invariant-loop-number l = l.placed.items ++ new_pages l.by (helds l.pages.items) (drop l.number-index l.order) ≡ l.fn.placed.items ++ new_pages l.by (helds l.pages.items) l.order
