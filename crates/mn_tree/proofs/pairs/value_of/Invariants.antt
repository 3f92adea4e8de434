use Rattle.std.proofs.Common.{◌≡◌, drop}
use Rattle.mn_base.specs.Store.{value_at}
use Rattle.mn_tree.proofs.pairs.value_of.Given as goal

-- the key stands nowhere so far
abbrev pub invariant-loop-pair : goal.invariant-loop-pair
invariant-loop-pair l = value_at (drop l.pair-index l.pairs) l.key ≡ value_at l.pairs l.key
