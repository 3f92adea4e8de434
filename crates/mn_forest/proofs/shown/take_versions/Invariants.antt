use Rattle.mn_page.specs.Holds.{PagesAt}
use Rattle.mn_plain.specs.Kept.{store_of}
use Rattle.mn_forest.specs.Shown.{ArePages, version_shown}
use Rattle.mn_forest.proofs.Refusing.{Taken}
use Rattle.mn_forest.proofs.shown.take_versions.Given as goal

-- what was taken and the rest are all
abbrev pub invariant-loop-entry : goal.invariant-loop-entry
invariant-loop-entry l = (at : PagesAt) → ArePages l.spaces at → Taken (version_shown at) l.entries (store_of l.initial.versions.items) (store_of l.versions.items) l.entry-index
