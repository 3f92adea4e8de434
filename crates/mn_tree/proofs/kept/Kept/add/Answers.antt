use Rattle.std.specs.Prelude.{IfSome}
use Rattle.std.proofs.Common.{◌≡◌, ◌∙◌, List, length, ap, subst, sym}
use Rattle.mn_base.specs.declared.ids.Addr.{Addr}
use Rattle.mn_page.specs.Overlay.{Held, held_at, held_with}
use Rattle.mn_tree.specs.Found.{IsMet}
use Rattle.mn_tree.specs.declared.held.HeldPage.{HeldPage}
use Rattle.mn_tree.specs.declared.draft.Draft.{Draft}
use Rattle.mn_tree.specs.Walk.{helds}
use Rattle.mn_tree.specs.State.{drafted, drafted_with}
use Rattle.mn_tree.proofs.Stays.{asked_at, kept_with}
use Rattle.mn_tree.proofs.kept.Kept.add.Goals as goal

pub returns-clause-kept : goal.returns-clause-kept
returns-clause-kept c = λ parents v root follows kept.
    let k = c.args.self.now in
    let page = c.args.page in
    let at = asked_at k.asks k.way c.args.addr c.requires.asked in
    let draft : Draft = record { pages = c.push.new.self; changed = k.draft.changed; read = k.draft.read; origins = k.draft.origins } in
    let added : drafted draft ≡ drafted_with (drafted k.draft) c.args.addr page =
    ap (λ (l : List Held). record { overlay = record { pages = l; changed = k.draft.changed.items; fresh = length k.draft.origins.items }; read = k.draft.read.items; origins = k.draft.origins.items })
    (c.push.ensures ∙ ap (λ (l : List HeldPage). held_with (helds l) c.args.addr page) c.reserve.ensures.same) in
    let met = λ (pages : List Held) (m : IfSome k.way.key (λ key. IsMet parents v pages key k.way (record { addr = k.way.next; page = page }))).
    subst (λ (a : Addr). IfSome k.way.key (λ key. IsMet parents v pages key k.way (record { addr = a; page = page }))) at m in
    kept_with parents v root k draft c.follow.new.self page (ap (held_at (helds k.draft.pages.items)) at ∙ c.requires.absent) (added ∙ ap (λ (a : Addr). drafted_with (drafted k.draft) a page) (sym at)) kept (λ pages come m. c.in_ok-follow.ensures.came parents v root pages come (met pages m)) follows
