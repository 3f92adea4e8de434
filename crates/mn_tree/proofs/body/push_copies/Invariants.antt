use Rattle.std.proofs.Common.{◌≡◌, ◌++◌, drop}
use Rattle.mn_tree.proofs.body.push_copies.Given as goal

-- what was added so far, and the rest
abbrev pub invariant-loop-child : goal.invariant-loop-child
invariant-loop-child l = l.children.items ++ drop l.child-index l.more ≡ l.fn.children.items ++ l.more
