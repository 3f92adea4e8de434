use Rattle.std.proofs.Common.{ℕ, ◌≡◌, ◌<◌}
use Rattle.mn_forest.specs.Rules.{entry_place}
use Rattle.mn_forest.proofs.forest.test_same_catalog.Given as goal

-- so many places are those of node 0
abbrev pub invariant-loop-entry : goal.invariant-loop-entry
invariant-loop-entry l = (w : ℕ) → w < l.entry → entry_place l.spaces l.node w ≡ entry_place l.spaces 0 w
