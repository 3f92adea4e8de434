use Rattle.std.proofs.Common.{List}
use Rattle.mn_page.specs.declared.entry.CatEntry.{CatEntry}
use Rattle.mn_forest.specs.Trees.{AreVersions, NotesChildren}
use Rattle.mn_forest.proofs.pages.Names.note_children.Given as goal

-- the children so far are noted
abbrev pub invariant-loop-i : goal.invariant-loop-i
invariant-loop-i l = (entries : List CatEntry) → AreVersions l.versions entries → NotesChildren l.initial.self l.self entries l.page l.i
