use Rattle.std.proofs.Common.{ap, subst, sym, ◌∙◌, map, List}
use Rattle.mn_page.specs.declared.entry.CatEntry.{CatEntry}
use Rattle.mn_vtree.specs.Parents.{AreLess, RefusesParents, numbers_of}
use Rattle.std.proofs.lemmas.List.{take_all}
use Rattle.mn_hist.proofs.Loops.{map_more, not_less, parents_same}
use Rattle.mn_hist.proofs.shown.tree_of.Goals as goal

pub loop-entry-preserved : goal.loop-entry-preserved
loop-entry-preserved c =
    map_more (λ (e : CatEntry). e.parent) c.args.entries.now c.loop-entry.entry-index c.entry-item.result c.loop-entry-test.true c.entry-item.is c.loop-entry.parents.items c.push.new.self.items c.in_ok-push.ensures.items c.loop-entry.invariant

pub returns-in-Ok : goal.returns-in-Ok
returns-in-Ok c =
    let same = ap numbers_of (c.deref.ensures.value ∙ (c.loop-entry.invariant ∙ ap (λ (es : List CatEntry). map (λ (e : CatEntry). e.parent) es) (take_all c.loop-entry.entry-index c.args.entries.now c.loop-entry-test.false)))
    ∙ parents_same c.args.entries.now in
    (subst AreLess same c.in-Ok.ensures.less, c.in-Ok.ensures.ok ∙ same)

pub returns-in-Err-BadParent : goal.returns-in-Err-BadParent
returns-in-Err-BadParent c = λ less.
    let same = ap numbers_of (c.deref.ensures.value ∙ (c.loop-entry.invariant ∙ ap (λ (es : List CatEntry). map (λ (e : CatEntry). e.parent) es) (take_all c.loop-entry.entry-index c.args.entries.now c.loop-entry-test.false)))
    ∙ parents_same c.args.entries.now in
    not_less (numbers_of c.deref.result.now) c.in-Err-BadParent.field-0-0.0 (subst AreLess (sym same) less) (subst (RefusesParents (numbers_of c.deref.result.now)) c.in-Err-BadParent.field-0-is c.in-Err-BadParent.ensures.refused)
