use Rattle.std.proofs.Common.{◌≡◌, drop}
use Rattle.mn_mini.specs.Flat.{memory_after}
use Rattle.mn_commits.proofs.flat.write_all.Given as goal

-- what the items that are left make of the memory is what all made of it
abbrev pub invariant-loop-item : goal.invariant-loop-item
invariant-loop-item l = memory_after l.memory.items (drop l.item-index l.items) ≡ memory_after l.fn.memory.items l.items
