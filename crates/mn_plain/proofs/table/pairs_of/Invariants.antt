use Rattle.std.proofs.Common.{◌≡◌, ◌++◌}
use Rattle.mn_plain.specs.Table.{shown}
use Rattle.mn_plain.proofs.table.pairs_of.Given as goal

-- the pairs so far, and the rest
abbrev pub invariant-loop-key : goal.invariant-loop-key
invariant-loop-key l = l.pairs.items ++ shown l.key-iterator ≡ shown l.fn.table.entries
