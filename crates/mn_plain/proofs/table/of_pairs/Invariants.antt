use Rattle.std.proofs.Common.{◌≡◌, ◌++◌}
use Rattle.std.specs.Vec.Iter.{into_iter_items}
use Rattle.mn_plain.specs.Table.{shown}
use Rattle.mn_plain.proofs.table.of_pairs.Given as goal

-- the pairs so far, and the rest
abbrev pub invariant-loop-pair : goal.invariant-loop-pair
invariant-loop-pair l = shown l.table.entries ++ into_iter_items l.pair-iterator ≡ l.fn.pairs.items
