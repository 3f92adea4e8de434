use Rattle.std.proofs.Common.{◌≡◌, ◌++◌, drop}
use Rattle.mn_base.specs.Store.{pairs_with}
use Rattle.mn_tree.proofs.pairs.push_pairs_with.Given as goal

-- the pairs so far come before the key
abbrev pub invariant-loop-at : goal.invariant-loop-at
invariant-loop-at l = l.found.items ++ pairs_with (drop l.at l.pairs) l.key l.value ≡ l.fn.found.items ++ pairs_with l.pairs l.key l.value
