use Rattle.std.proofs.Common.{◌≡◌, drop}
use Rattle.std.specs.Prelude.{option_map}
use Rattle.mn_base.specs.Store.{value_at}
use Rattle.mn_plain.specs.Run.{left_by_all}
use Rattle.mn_plain.specs.Table.{shown}
use Rattle.mn_plain.proofs.steps.value_after.Given as goal

-- what the rest of the steps makes of it
abbrev pub invariant-loop-step : goal.invariant-loop-step
invariant-loop-step l = left_by_all (option_map (λ v. v.now) l.found) (drop l.step-index l.steps) l.key ≡ left_by_all (value_at (shown l.table.entries) l.key) l.steps l.key
