use Rattle.std.proofs.Common.{ap, ◌∙◌}
use Rattle.mn_page.specs.Overlay.{held_at, held_with}
use Rattle.mn_tree.specs.Walk.{helds}
use Rattle.mn_tree.proofs.Lists.{stands_behind}
use Rattle.mn_tree.proofs.held_pages.HeldPages.push.Goals as goal

pub returns : goal.returns
returns c =
    let held = c.args.held in
    ap helds c.push_reserved.ensures.items
    ∙ stands_behind c.self.inside.pages.items held (ap (λ l. held_at (helds l.items) held.addr) c.self.view_is ∙ c.requires.absent)
    ∙ ap (λ l. held_with (helds l.items) held.addr held.page) c.self.view_is
