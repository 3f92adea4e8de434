use Rattle.std.proofs.Common.{List}
use Rattle.mn_page.specs.declared.entry.CatEntry.{CatEntry}
use Rattle.mn_forest.specs.Trees.{AreVersions, AreNamesTo}
use Rattle.mn_forest.proofs.pages.Names.note_node.Given as goal

-- the pages of the slots so far are noted
abbrev pub invariant-loop-slot : goal.invariant-loop-slot
invariant-loop-slot l = (entries : List CatEntry) → AreVersions l.versions entries → AreNamesTo l.initial.self l.spaces entries l.node 0 → AreNamesTo l.self l.spaces entries l.node l.slot
