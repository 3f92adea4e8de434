use Rattle.std.proofs.Common.{◌≡◌, ◌++◌, ◌≤◌, length}
use Rattle.mn_base.specs.Store.{pairs_within}
use Rattle.mn_plain.specs.Table.{shown}
use Rattle.mn_plain.proofs.table.within.Given as goal

-- what was found so far, and what the rest adds
abbrev pub invariant-loop-key : goal.invariant-loop-key
invariant-loop-key l = record {
  found : l.found.items ++ shown l.key-iterator ≡ pairs_within (shown l.fn.table.entries) l.fn.low l.fn.high;
  few : length l.found.items ≤ l.fn.limit;
}
