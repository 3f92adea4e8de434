use Rattle.std.proofs.Common.{◌+◌, ◌++◌, ◌∷◌, [], List, take, drop, sym, ap, ◌∙◌, append_assoc}
use Rattle.mn_page.specs.Overlay.{Held, held_with}
use Rattle.mn_tree.specs.declared.held.HeldPage.{HeldPage}
use Rattle.mn_tree.specs.Walk.{held_of, helds}
use Rattle.mn_tree.proofs.Lists.{stands, passes, rest_from, front_to}
use Rattle.mn_tree.proofs.held_pages.position.Goals as goal

pub returns-then-is_same-clause-place : goal.returns-then-is_same-clause-place
returns-then-is_same-clause-place c = λ page.
    let pages = c.args.pages.now in
    let at = c.loop-at.at in
    let h = c.index-pages-at.result in
    let front = helds (take at pages) in
    let rest = rest_from pages at h c.loop-at-test.true c.index-pages-at.is in
    sym (c.loop-at.invariant page)
    ∙ ap (λ (l : List HeldPage). front ++ held_with (helds l) c.args.addr page) rest
    ∙ ap (λ (l : List Held). front ++ l) (stands h (helds (drop (at + 1) pages)) c.args.addr page (sym c.is_same.ensures ∙ c.if-is_same.true))

pub loop-at-preserved : goal.loop-at-preserved
loop-at-preserved c = λ page.
    let pages = c.args.pages.now in
    let at = c.loop-at.at in
    let h = c.index-pages-at.result in
    let front = helds (take at pages) in
    let later = helds (drop (at + 1) pages) in
    let rest = rest_from pages at h c.loop-at-test.true c.index-pages-at.is in
    ap (λ (l : List Held). l ++ held_with later c.args.addr page) (front_to pages at h c.loop-at-test.true c.index-pages-at.is)
    ∙ append_assoc front (held_of h ∷ []) (held_with later c.args.addr page)
    ∙ ap (λ (l : List Held). front ++ l) (sym (passes h later c.args.addr page (sym c.is_same.ensures ∙ c.if-is_same.false)))
    ∙ ap (λ (l : List HeldPage). front ++ held_with (helds l) c.args.addr page) (sym rest)
    ∙ c.loop-at.invariant page
