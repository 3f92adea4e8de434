use Rattle.std.proofs.Common.{◌≡◌, [], ◌∷◌, take}
use Rattle.mn_runs.specs.Log.{AreSpots, log_of}
use Rattle.mn_runs.proofs.log.in_order.Given as goal

-- the first entries, in order
abbrev pub invariant-loop-before : goal.invariant-loop-before
invariant-loop-before l = record {
  spots : AreSpots (l.entries ∷ []) l.order.items;
  order : log_of (l.entries ∷ []) l.order.items ≡ take l.before l.entries;
}
