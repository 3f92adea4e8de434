use Rattle.std.proofs.Common.{List, Option}
use Rattle.mn_page.specs.declared.entry.CatEntry.{CatEntry}
use Rattle.mn_forest.specs.Rules.{entries_of}
use Rattle.mn_forest.specs.Progress.{HasSlotsTo}
use Rattle.mn_forest.specs.Trees.{AreVersions, AreNames}
use Rattle.mn_forest.proofs.forest.test_slots.Given as goal

-- the slots so far pass
abbrev pub invariant-loop-slot : goal.invariant-loop-slot
invariant-loop-slot l = (es : List (Option CatEntry)) → AreVersions l.versions (entries_of es) → AreNames l.names l.spaces (entries_of es) → HasSlotsTo l.spaces es l.node l.slot
