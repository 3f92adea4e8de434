use Rattle.std.proofs.Common.{List}
use Rattle.mn_page.specs.declared.entry.CatEntry.{CatEntry}
use Rattle.mn_forest.specs.Trees.{AreVersions, AreNamesTo}
use Rattle.mn_forest.proofs.forest.names_of.Given as goal

-- the pages of the nodes so far are noted
abbrev pub invariant-loop-node : goal.invariant-loop-node
invariant-loop-node l = (entries : List CatEntry) → AreVersions l.versions entries → AreNamesTo l.names l.spaces entries l.node 0
