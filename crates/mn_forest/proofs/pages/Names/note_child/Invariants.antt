use Rattle.std.proofs.Common.{List}
use Rattle.mn_page.specs.declared.entry.CatEntry.{CatEntry}
use Rattle.mn_forest.specs.Trees.{AreVersions, Notes}
use Rattle.mn_forest.proofs.pages.Names.note_child.Given as goal

-- the child is noted for the versions so far
abbrev pub invariant-loop-version : goal.invariant-loop-version
invariant-loop-version l = (entries : List CatEntry) → AreVersions l.versions entries → Notes l.initial.self l.self entries l.page l.child l.version
