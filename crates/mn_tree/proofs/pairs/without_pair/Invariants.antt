use Rattle.std.proofs.Common.{◌≡◌, ◌++◌, drop}
use Rattle.mn_base.specs.Store.{pairs_without}
use Rattle.mn_tree.proofs.pairs.without_pair.Given as goal

-- what is left of the pairs so far, and of the rest
abbrev pub invariant-loop-pair : goal.invariant-loop-pair
invariant-loop-pair l = l.found.items ++ pairs_without (drop l.pair-index l.pairs) l.key ≡ pairs_without l.pairs l.key
