use Rattle.std.proofs.Common.{◌≡◌, ◌++◌, ◌-◌, take}
use Rattle.std.specs.List.{flat_map}
use Rattle.mn_page.specs.Holds.{PagesAt}
use Rattle.mn_page.specs.Reading.{addrs_in}
use Rattle.mn_forest.specs.Shown.{ArePages, pairs_below}
use Rattle.mn_forest.proofs.shown.+take_pairs.Given as goal

-- each step goes one height down
abbrev pub decreases-take_pairs : goal.decreases-take_pairs
decreases-take_pairs l = l.height

-- the pairs under the children so far stand behind the others
abbrev pub invariant-loop-i : goal.invariant-loop-i
invariant-loop-i l = (at : PagesAt) → ArePages l.spaces at → l.pairs.items ≡ l.fn.pairs.items ++ flat_map (pairs_below at (l.height - 1)) (take l.i (addrs_in l.page.body))
