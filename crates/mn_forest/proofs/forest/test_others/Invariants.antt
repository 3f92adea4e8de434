use Rattle.std.proofs.Common.{List, Option}
use Rattle.mn_page.specs.declared.entry.CatEntry.{CatEntry}
use Rattle.mn_forest.specs.Rules.{entries_of}
use Rattle.mn_forest.specs.Progress.{PassesAll}
use Rattle.mn_forest.specs.Trees.{AreVersions, AreNames}
use Rattle.mn_forest.proofs.Refusing.{PassBelow}
use Rattle.mn_forest.proofs.forest.test_others.Given as goal

-- the nodes so far pass
abbrev pub invariant-loop-node : goal.invariant-loop-node
invariant-loop-node l = (es : List (Option CatEntry)) → AreVersions l.versions (entries_of es) → AreNames l.names l.spaces (entries_of es) → PassesAll l.spaces es 0 → PassBelow l.spaces es l.node
