use Rattle.std.proofs.Common.{◌≤◌, ◌<◌, length, drop}
use Rattle.std.specs.List.{AllByRecursion}
use Rattle.mn_hist.proofs.acts.index_for.Given as goal

-- all behind have greater places
abbrev pub invariant-loop-at : goal.invariant-loop-at
invariant-loop-at l = record {
  within : l.at ≤ length l.acts;
  greater : AllByRecursion (λ a. l.place < a.place) (drop l.at l.acts);
}

abbrev pub decreases-loop-at : goal.decreases-loop-at
decreases-loop-at l = l.at
