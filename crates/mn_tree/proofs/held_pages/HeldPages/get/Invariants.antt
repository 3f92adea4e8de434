use Rattle.std.proofs.Common.{◌≡◌, drop}
use Rattle.mn_page.specs.Overlay.{held_at}
use Rattle.mn_tree.specs.Walk.{helds}
use Rattle.mn_tree.proofs.held_pages.HeldPages.get.Given as goal

-- none so far stands there
abbrev pub invariant-loop-held : goal.invariant-loop-held
invariant-loop-held l = held_at (helds (drop l.held-index l.self.items)) l.addr ≡ held_at (helds l.self.items) l.addr
