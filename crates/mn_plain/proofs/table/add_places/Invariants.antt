use Rattle.std.proofs.Common.{◌≡◌, take}
use Rattle.std.specs.List.{AllByRecursion}
use Rattle.mn_plain.specs.Table.{shown, HasPlace}
use Rattle.mn_plain.proofs.table.add_places.Given as goal

-- the pairs are as they were, and the keys of the steps so far have places
abbrev pub invariant-loop-step : goal.invariant-loop-step
invariant-loop-step l = record {
  same : shown l.table.entries ≡ shown l.fn.table.entries;
  there : AllByRecursion (HasPlace l.table) (take l.step-index l.steps);
}
