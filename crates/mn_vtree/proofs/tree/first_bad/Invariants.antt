use Rattle.std.proofs.Common.{ℕ, ◌<◌}
use Rattle.mn_vtree.specs.Parents.{numbers_of, IsLess}
use Rattle.mn_vtree.proofs.tree.first_bad.Given as goal

abbrev pub invariant-loop-version : goal.invariant-loop-version
invariant-loop-version l = (w : ℕ) → w < l.version → IsLess (numbers_of l.parents) w
