use Rattle.std.proofs.Common.{◌≡◌, length}
use Rattle.mn_node_tests.proofs.Parts.{AreWrites}
use Rattle.mn_node_tests.proofs.long_logs.block.Given as goal

-- so many writes
abbrev pub invariant-loop-item : goal.invariant-loop-item
invariant-loop-item l = AreWrites l.items.items × (length l.items.items ≡ l.item)
