use Rattle.std.proofs.Common.{◌≡◌, ◌++◌, drop, filter}
use Rattle.mn_tree.specs.Walk.{helds}
use Rattle.mn_tree.specs.Order.{is_changed, old_pages}
use Rattle.mn_tree.proofs.order.push_changed.Given as goal

-- the pages so far, and the rest
abbrev pub invariant-loop-addr : goal.invariant-loop-addr
invariant-loop-addr l = l.placed.items ++ old_pages l.by (helds l.pages.items) (filter (is_changed l.changed.items) (drop l.addr-index l.read)) ≡ l.fn.placed.items ++ old_pages l.by (helds l.pages.items) (filter (is_changed l.changed.items) l.read)
