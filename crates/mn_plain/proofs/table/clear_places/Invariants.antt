use Rattle.std.proofs.Common.{◌≡◌}
use Rattle.mn_plain.specs.Table.{shown}
use Rattle.mn_plain.proofs.table.clear_places.Given as goal

-- the pairs are as they were
abbrev pub invariant-loop-step : goal.invariant-loop-step
invariant-loop-step l = shown l.table.entries ≡ shown l.fn.table.entries
