use Rattle.std.proofs.Common.{◌≡◌, ◌<◌, ℕ, List, Some, slice_get}
use Rattle.mn_page.specs.declared.entry.CatEntry.{CatEntry}
use Rattle.mn_page.specs.Forest.{ChildRange, children_of}
use Rattle.mn_forest.specs.Rules.{IsChildAt}
use Rattle.mn_forest.specs.Trees.{AreVersions}
use Rattle.mn_forest.proofs.pages.are_children.Given as goal

-- the children so far are as the page says
abbrev pub invariant-loop-i : goal.invariant-loop-i
invariant-loop-i l = (entries : List CatEntry) → AreVersions l.versions entries → (j : ℕ) → j < l.i → (c : ChildRange) → slice_get (children_of l.page) j ≡ Some c → IsChildAt l.spaces entries l.page c
