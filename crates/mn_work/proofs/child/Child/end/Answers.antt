use Rattle.std.proofs.Common.{List, Option, subst, sym}
use Rattle.std.specs.Prelude.{MatchOption}
use Rattle.mn_page.specs.declared.entry.CatEntry.{CatEntry}
use Rattle.mn_page.specs.declared.page.Page.{Page}
use Rattle.mn_work.specs.Children.{IsUnderWay, IsWornFor, MayPlan, RefusesChild, WantsEnd}
use Rattle.mn_work.proofs.Children.{are_apart, may_plan, slot_fails, worn_ends}
use Rattle.mn_work.proofs.child.Child.end.Goals as goal

pub plan_for-requires : goal.plan_for-requires
plan_for-requires c =
    let way = subst (λ (o : Option (List CatEntry)). MatchOption o ⊥ (λ entries. IsUnderWay c.args.known.now.nodes entries c.args.op.now c.args.self.now)) c.in-Some-Some.is-0 c.requires.read.way in
    record {
      may = subst (λ (p : Page). MayPlan c.args.known.now.nodes c.catalog.result.now c.args.op.now p c.args.slot) (sym c.get.ensures)
          (subst (λ (es : List CatEntry). MayPlan c.args.known.now.nodes es c.args.op.now c.in-Some-Some.root c.args.slot) (sym c.catalog.ensures)
          (may_plan c.args.known.now.nodes c.in-Some-Some.kept c.args.self.now c.in-Some-Some.root c.args.slot c.in-Some-Some.is-1 c.requires.read.few c.requires.free.0 c.requires.free.1
          (are_apart c.args.slot c.args.self.now.root c.eq.result c.eq.ensures c.if-eq.false) c.args.op.now way));
    }

pub returns-then-eq : goal.returns-then-eq
returns-then-eq c =
    slot_fails c.args.known.now c.args.later c.args.op.now c.args.self.now c.in-Some-Some.kept c.args.slot c.eq.result c.in-Some-Some.is-0 c.requires.slot c.eq.ensures c.if-eq.true

pub returns-in-Err-Worn : goal.returns-in-Err-Worn
returns-in-Err-Worn c =
    let refused = subst (RefusesChild c.catalog.result.now c.args.op.now c.get.result.now) c.in-Err-Worn.field-0-is c.in-Err-Worn.ensures.refused in
    subst (WantsEnd c.args.known.now c.args.later c.args.op.now c.args.self.now) (sym (rw c.in-Err-Worn.start-is at (rw c.in-Err-Worn.node-is at c.worn.ensures)))
    (worn_ends c.args.known.now c.args.later c.args.op.now c.args.self.now c.in-Some-Some.kept c.in-Some-Some.root c.in-Err-Worn.node c.in-Err-Worn.start c.in-Some-Some.is-0 c.requires.read.all c.in-Some-Some.is-1
    (subst (λ (p : Page). IsWornFor c.in-Some-Some.kept c.args.op.now p c.in-Err-Worn.node c.in-Err-Worn.start) c.get.ensures
    (subst (λ (es : List CatEntry). IsWornFor es c.args.op.now c.get.result.now c.in-Err-Worn.node c.in-Err-Worn.start) c.catalog.ensures refused)))
