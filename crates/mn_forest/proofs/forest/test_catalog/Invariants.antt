use Rattle.mn_forest.specs.Progress.{HasEntriesTo}
use Rattle.mn_forest.proofs.forest.test_catalog.Given as goal

-- the entries so far pass
abbrev pub invariant-loop-version : goal.invariant-loop-version
invariant-loop-version l = HasEntriesTo l.spaces l.entries 0 l.version
