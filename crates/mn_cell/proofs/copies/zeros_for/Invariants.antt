use Rattle.std.proofs.Common.{◌≡◌, ◌++◌, drop}
use Rattle.mn_cell.specs.Calls.{lengths_of, read_lengths}
use Rattle.mn_cell.proofs.copies.zeros_for.Given as goal

-- what was made so far, and the rest
abbrev pub invariant-loop-item : goal.invariant-loop-item
invariant-loop-item l = lengths_of l.all.items ++ read_lengths (drop l.item-index l.part) ≡ read_lengths l.part
