use Rattle.std.proofs.Common.{◌≡◌, ◌++◌, take, drop}
use Rattle.mn_page.specs.declared.page.Page.{Page}
use Rattle.mn_page.specs.Overlay.{held_with}
use Rattle.mn_tree.specs.Walk.{helds}
use Rattle.mn_tree.proofs.held_pages.position.Given as goal

-- none so far stands there
abbrev pub invariant-loop-at : goal.invariant-loop-at
invariant-loop-at l = (page : Page) → helds (take l.at l.pages) ++ held_with (helds (drop l.at l.pages)) l.addr page ≡ held_with (helds l.pages) l.addr page
