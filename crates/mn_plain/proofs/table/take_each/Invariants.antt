use Rattle.std.proofs.Common.{◌≡◌}
use Rattle.std.specs.Vec.Iter.{into_iter_items}
use Rattle.std.specs.List.{AllByRecursion}
use Rattle.mn_plain.specs.Run.{pairs_after}
use Rattle.mn_plain.specs.Table.{shown, HasPlace}
use Rattle.mn_plain.proofs.table.take_each.Given as goal

-- the steps so far, and the rest, whose keys have places
abbrev pub invariant-loop-step : goal.invariant-loop-step
invariant-loop-step l = record {
  done : pairs_after (shown l.table.entries) (into_iter_items l.step-iterator) ≡ pairs_after (shown l.fn.table.entries) l.fn.steps.items;
  there : AllByRecursion (HasPlace l.table) (into_iter_items l.step-iterator);
}
