use Rattle.std.proofs.Common.{◌≡◌, ◌+◌, ◌≤◌, length}
use Rattle.mn_plain.specs.Table.{shown}
use Rattle.mn_plain.proofs.table.count_of.Given as goal

-- the pairs so far, and the rest
abbrev pub invariant-loop-value : goal.invariant-loop-value
invariant-loop-value l = record {
  told : l.count + length (shown l.value-iterator) ≡ length (shown l.fn.table.entries);
  few : l.count + length l.value-iterator ≤ length l.fn.table.entries;
}
