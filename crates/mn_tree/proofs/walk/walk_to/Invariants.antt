use Rattle.std.proofs.Common.{◌≡◌, Some}
use Rattle.mn_tree.specs.Walk.{helds}
use Rattle.mn_tree.specs.Way.{IsWay, left_above}
use Rattle.mn_tree.proofs.walk.walk_to.Given as goal

-- the walk has come this far
abbrev pub invariant-loop-held : goal.invariant-loop-held
invariant-loop-held l = record {
  comes : IsWay l.tree l.version.0 l.fn.root (helds l.pages.items) l.key l.way;
  of_key : l.way.key ≡ Some l.key;
}

abbrev pub decreases-loop-held : goal.decreases-loop-held
decreases-loop-held l = left_above l.way.above
