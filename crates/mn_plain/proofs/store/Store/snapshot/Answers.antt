use Rattle.std.proofs.Common.{sym, ◌∙◌, subst, Ok}
use Rattle.mn_base.specs.Store.{Store}
use Rattle.mn_base.specs.Stores.{IsStore}
use Rattle.mn_base.specs.declared.op.Op.TheVariants.{Snapshot}
use Rattle.mn_base.specs.declared.reply.Reply.TheVariants.{Made}
use Rattle.mn_plain.specs.Kept.{AddsChild}
use Rattle.mn_plain.specs.Run.{Does}
use Rattle.mn_plain.proofs.ApplyLemmas.{room_after, snapshot_is, store_left}
use Rattle.mn_plain.proofs.store.Store.snapshot.Goals as goal

pub freeze-requires : goal.freeze-requires
freeze-requires c =
    let place = c.in-Some.ensures in
    let old = c.args.self.now in
    let made = c.push_child.new.self in
    let added = subst (λ (s : Store). AddsChild s c.in-Some.place.at c.args.child.now made) c.self.view_is c.in_ok-push_child.ensures.added in
    room_after old made c.args.version.now c.args.child.now c.in-Some.place.at place.0 place.1 added

pub returns : goal.returns
returns c =
    let place = c.in-Some.ensures in
    let old = c.args.self.now in
    let made = c.push_child.new.self in
    let added = subst (λ (s : Store). AddsChild s c.in-Some.place.at c.args.child.now made) c.self.view_is c.in_ok-push_child.ensures.added in
    snapshot_is old made (c.freeze.new.self) c.args.version.now c.args.child.now c.in-Some.place.at place.0 place.1
    (sym place.2 ∙ c.if-place.false) (sym c.in_default-child_refusal.ensures.refused) added c.freeze.ensures

pub invariant_of-self-2 : goal.invariant_of-self-2
invariant_of-self-2 c =
    let place = c.in-Some.ensures in
    let old = c.args.self.now in
    let made = c.push_child.new.self in
    let new = c.freeze.new.self in
    let added = subst (λ (s : Store). AddsChild s c.in-Some.place.at c.args.child.now made) c.self.view_is c.in_ok-push_child.ensures.added in
    let does : Does (Snapshot c.args.version.now c.args.child.now) old new (Ok Made) =
    snapshot_is old made new c.args.version.now c.args.child.now c.in-Some.place.at place.0 place.1
    (sym place.2 ∙ c.if-place.false) (sym c.in_default-child_refusal.ensures.refused) added c.freeze.ensures in
    store_left (Snapshot c.args.version.now c.args.child.now) old new Made (subst IsStore c.self.view_is c.self.invariant) does
