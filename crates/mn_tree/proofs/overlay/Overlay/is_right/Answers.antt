use Rattle.std.proofs.Common.{◌≡◌, ◌&&◌, true, false, ℕ, List, Option, Some, refl, sym, ap, ◌∙◌}
use Rattle.std.specs.Option.{option_map_or}
use Rattle.mn_base.specs.Order.{covers_key}
use Rattle.mn_base.specs.Tree.{serves}
use Rattle.mn_page.specs.Grammar.{height_of}
use Rattle.mn_path.specs.Walk.{FrontState, front_of, is_live, is_on_path, may_stand}
use Rattle.mn_tree.specs.State.{TreeState, Wanted, fits, may_come_in}
use Rattle.mn_tree.specs.Kept.{state_of}
use Rattle.mn_tree.specs.declared.kept.Kept.{Kept}
use Rattle.mn_tree.specs.declared.way.Way.{Way}
use Rattle.mn_tree.proofs.Stays.{asked_is}
use Rattle.mn_tree.proofs.overlay.Overlay.is_right.Goals as goal

-- a page serves by its numbers
live_is : (parents : List (Option ℕ)) (v made copied : ℕ)
    → is_live parents v made copied ≡ serves parents made copied v
unfolding is_live
live_is parents v made copied = refl

pub returns : goal.returns
returns c =
    let inside = c.self.inside in
    let k = inside.kept.value in
    let way : c.deref-3.result.now.way ≡ k.way = ap (λ (k : Kept). k.way) c.deref-3.ensures in
    let key : k.way.key ≡ Some c.in-Some.key = ap (λ (k : Kept). k.way.key) (sym c.deref-2.ensures) ∙ c.in-Some.is in
    let asks : k.asks ≡ true = ap (λ (k : Kept). k.asks) (sym c.deref.ensures) ∙ c.if-not-deref.false in
    let wanted = asked_is k.asks k.way c.in-Some.key asks key in
    c.is_on_path.ensures
    ∙ ap (λ (f : FrontState). is_on_path inside.tree inside.version.0 c.as_slice.result.now c.deref-3.result.now.way.above f) c.of_page-front.ensures
    ∙ ap (λ (w : Way). is_on_path inside.tree inside.version.0 c.as_slice.result.now w.above (front_of c.args.page.now)) way
    ∙ ap (λ b. b && (covers_key c.args.page.now.low c.args.page.now.high c.as_slice.result.now && may_stand k.way.above (height_of c.args.page.now.body)))
    (live_is inside.tree inside.version.0 c.args.page.now.made.0 c.args.page.now.copied)
    ∙ ap (λ q. serves inside.tree c.args.page.now.made.0 c.args.page.now.copied inside.version.0 && (covers_key c.args.page.now.low c.args.page.now.high q && may_stand k.way.above (height_of c.args.page.now.body))) c.as_slice.ensures.bytes
    ∙ sym (ap (λ (s : TreeState). fits s c.args.page.now) (sym c.self.view_is)
    ∙ ap (λ (w : Option Wanted). option_map_or (may_come_in (state_of inside.tree inside.version inside.root k) c.args.page.now) w false) wanted)
