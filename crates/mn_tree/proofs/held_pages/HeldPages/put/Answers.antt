use Rattle.std.proofs.Common.{◌<◌, ◌+◌, ◌++◌, ◌∷◌, ap, sym, ◌∙◌, length, take, drop, add-one, arith}
use Rattle.std.proofs.lemmas.List.{set_split, map-append}
use Rattle.mn_page.specs.Overlay.{held_with}
use Rattle.mn_tree.specs.Walk.{held_of, helds}
use Rattle.mn_tree.proofs.held_pages.HeldPages.put.Goals as goal

pub returns-then-at-len-clause-put : goal.returns-then-at-len-clause-put
returns-then-at-len-clause-put c =
    let pages = c.self.inside.pages.items in
    let at = c.position-at.result in
    let held = c.args.held in
    let all = ap length c.deref.ensures.value in
    let less : at < length pages = omega (arith, all, c.deref.ensures.len, c.len.ensures, c.if-at-len.true) in
    let place = rw c.deref.ensures.value at c.position-at.ensures.place in
    ap helds (set_split pages at held less)
    ∙ ap (λ n. helds (take at pages ++ held ∷ drop n pages)) (sym (add-one at))
    ∙ map-append held_of (take at pages) (held ∷ drop (at + 1) pages)
    ∙ sym (place held.page)
    ∙ ap (λ l. held_with (helds l.items) held.addr held.page) c.self.view_is
