use Rattle.std.proofs.Common.{sym, ◌∙◌, subst, Ok}
use Rattle.mn_base.specs.Store.{Store}
use Rattle.mn_base.specs.Stores.{IsStore}
use Rattle.mn_base.specs.declared.op.Op.TheVariants.{Branch}
use Rattle.mn_base.specs.declared.reply.Reply.TheVariants.{Made}
use Rattle.mn_base.proofs.Booleans.{not_false}
use Rattle.mn_plain.specs.Kept.{AddsChild}
use Rattle.mn_plain.specs.Run.{Does}
use Rattle.mn_plain.proofs.ApplyLemmas.{branch_is, store_left}
use Rattle.mn_plain.proofs.store.Store.branch.Goals as goal

pub invariant_of-self-2 : goal.invariant_of-self-2
invariant_of-self-2 c =
    let place = c.in-Some.ensures in
    let old = c.args.self.now in
    let new = c.push_child.new.self in
    let added = subst (λ (s : Store). AddsChild s c.in-Some.place.at c.args.child.now new) c.self.view_is c.in_ok-push_child.ensures.added in
    let does : Does (Branch c.args.version.now c.args.child.now) old new (Ok Made) =
    branch_is old new c.args.version.now c.args.child.now c.in-Some.place.at place.0 place.1
    (sym place.2 ∙ not_false c.in-Some.place.frozen c.if-not-place.false) (sym c.in_default-child_refusal.ensures.refused) added in
    store_left (Branch c.args.version.now c.args.child.now) old new Made (subst IsStore c.self.view_is c.self.invariant) does
