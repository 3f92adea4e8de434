use Rattle.std.proofs.Common.{◌≡◌, ◌++◌, ◌∷◌, drop}
use Rattle.mn_tree.proofs.pairs.push_tail.Given as goal

-- what was added so far, and the rest
abbrev pub invariant-loop-pair : goal.invariant-loop-pair
invariant-loop-pair l = l.pairs.items ++ drop l.pair-index l.after ≡ l.fn.pairs.items ++ record { key = l.key; value = l.value } ∷ l.after
