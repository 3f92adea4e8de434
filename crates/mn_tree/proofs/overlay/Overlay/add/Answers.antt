use Rattle.std.specs.Prelude.{IfSome}
use Rattle.std.proofs.Common.{◌≡◌, true, sym, subst}
use Rattle.mn_page.specs.Grammar.{height_of}
use Rattle.mn_page.specs.Holds.{page_covers}
use Rattle.mn_path.specs.Walk.{is_below}
use Rattle.mn_tree.specs.declared.kept.Kept.{Kept}
use Rattle.mn_tree.specs.Kept.{IsKept}
use Rattle.mn_tree.specs.Way.{may_follow}
use Rattle.mn_tree.proofs.Stays.{fits_here}
use Rattle.mn_tree.proofs.overlay.Overlay.add.Goals as goal

pub add-requires-clause-covers : goal.add-requires-clause-covers
add-requires-clause-covers c =
    let inside = c.self.inside in
    let tells = fits_here inside.tree inside.version inside.root inside.kept.value c.args.page c.get.result.now c.args.self.now c.self.view_is c.get.ensures c.if-not-is_right.ensures in
    subst (λ (k : Kept). IfSome k.way.key (λ key. page_covers key c.args.page ≡ true)) (sym c.deref_mut.ensures.value) tells.0

pub add-requires-clause-below : goal.add-requires-clause-below
add-requires-clause-below c =
    let inside = c.self.inside in
    let tells = fits_here inside.tree inside.version inside.root inside.kept.value c.args.page c.get.result.now c.args.self.now c.self.view_is c.get.ensures c.if-not-is_right.ensures in
    subst (λ (k : Kept). is_below k.way.above (height_of c.args.page.body) ≡ true) (sym c.deref_mut.ensures.value) tells.1

pub invariant_of-self : goal.invariant_of-self
invariant_of-self c =
    let inside = c.self.inside in
    let tells = fits_here inside.tree inside.version inside.root inside.kept.value c.args.page c.get.result.now c.args.self.now c.self.view_is c.get.ensures c.if-not-is_right.ensures in
    let kept = c.add.ensures.kept inside.tree inside.version.0 inside.root in
    let at = c.deref_mut.ensures.value in
    (c.self.invariant.0, kept (subst (λ (k : Kept). IfSome k.way.key (λ key. may_follow inside.tree inside.version.0 key k.way.above c.args.page ≡ true)) (sym at) tells.2) (subst (λ (k : Kept). IsKept inside.tree inside.version.0 inside.root k) (sym at) c.self.invariant.1))

pub invariant_of-self-2 : goal.invariant_of-self-2
invariant_of-self-2 c =
    let inside = c.self.inside in
    let tells = fits_here inside.tree inside.version inside.root inside.kept.value c.args.page c.get.result.now c.args.self.now c.self.view_is c.get.ensures c.if-not-is_right.ensures in
    let kept = c.add.ensures.kept inside.tree inside.version.0 inside.root in
    let at = c.deref_mut.ensures.value in
    (c.self.invariant.0, kept (subst (λ (k : Kept). IfSome k.way.key (λ key. may_follow inside.tree inside.version.0 key k.way.above c.args.page ≡ true)) (sym at) tells.2) (subst (λ (k : Kept). IsKept inside.tree inside.version.0 inside.root k) (sym at) c.self.invariant.1))
