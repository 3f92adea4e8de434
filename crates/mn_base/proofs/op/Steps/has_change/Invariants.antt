use Rattle.std.proofs.Common.{◌≡◌, drop}
use Rattle.std.specs.List.{list_any}
use Rattle.mn_base.specs.Store.{is_change}
use Rattle.mn_base.proofs.op.Steps.has_change.Given as goal

-- no change so far
abbrev pub invariant-loop-step : goal.invariant-loop-step
invariant-loop-step l = list_any is_change (drop l.step-index l.steps) ≡ list_any is_change l.steps
