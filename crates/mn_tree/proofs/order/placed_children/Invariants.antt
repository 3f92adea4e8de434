use Rattle.std.proofs.Common.{◌≡◌, ◌++◌, map, drop}
use Rattle.mn_page.specs.Overlay.{child_at, placed_addr}
use Rattle.mn_tree.proofs.order.placed_children.Given as goal

-- the children so far, and the rest
abbrev pub invariant-loop-child : goal.invariant-loop-child
invariant-loop-child l = l.children.items ++ map (λ c. child_at c.separator (placed_addr l.by c.addr)) (drop l.child-index l.rest) ≡ map (λ c. child_at c.separator (placed_addr l.by c.addr)) l.rest
