use Rattle.std.proofs.Common.{subst, sym, ◌∙◌}
use Rattle.mn_catalog.specs.Versions.{AreEntries}
use Rattle.mn_txn.proofs.ChildPlan.{snapshot_asks, snapshot_does, snapshot_makes, snapshot_refuses, snapshot_room}
use Rattle.mn_txn.proofs.child.snapshot_plan.Goals as goal

pub child_plan-requires-clause-fits : goal.child_plan-requires-clause-fits
child_plan-requires-clause-fits c =
    let es = c.args.catalog.now in
    let name = c.args.name.now in
    let child = c.args.child.now in
    snapshot_asks es c.args.nodes name child c.in-Some.version c.args.root.now c.args.slot c.requires.may (sym c.in-Some.ensures.number) c.entries-used.ensures.right
    (snapshot_room es name child c.requires.admitted) c.entries-used.result.now c.entries-used.ensures.entries c.as_slice.result.now
    (c.as_slice.ensures ∙ c.in_ok-entries-in-Some.ensures.entries) c.copies_are_pages.ensures c.as_slice-name.ensures.right
    (λ addr right. subst AreEntries (sym c.as_slice.ensures) (c.in_ok-entries-in-Some.ensures.sound addr right))

pub returns-clause-planned : goal.returns-clause-planned
returns-clause-planned c =
    let es = c.args.catalog.now in
    let name = c.args.name.now in
    let child = c.args.child.now in
    snapshot_does es c.args.nodes name child c.in-Some.version c.args.root.now c.args.slot c.requires.may (sym c.in-Some.ensures.number) c.entries-used.ensures.right
    (snapshot_room es name child c.requires.admitted) c.entries-used.result.now c.entries-used.ensures.entries c.as_slice.result.now
    (c.as_slice.ensures ∙ c.in_ok-entries-in-Some.ensures.entries) c.children_stand_in_order.ensures c.child_plan.result
    c.snapshot_is_planned.ensures c.as_slice-name.ensures.right c.requires.admitted c.child_plan.ensures.planned

pub returns-clause-made : goal.returns-clause-made
returns-clause-made c =
    let es = c.args.catalog.now in
    let name = c.args.name.now in
    let child = c.args.child.now in
    snapshot_makes es c.args.nodes name child c.in-Some.version c.args.root.now c.args.slot c.requires.may (sym c.in-Some.ensures.number) c.entries-used.ensures.right
    (snapshot_room es name child c.requires.admitted) c.entries-used.result.now c.entries-used.ensures.entries c.as_slice.result.now
    (c.as_slice.ensures ∙ c.in_ok-entries-in-Some.ensures.entries) c.children_stand_in_order.ensures c.child_plan.result c.child_plan.ensures.planned

pub returns-clause-refused : goal.returns-clause-refused
returns-clause-refused c =
    let es = c.args.catalog.now in
    let name = c.args.name.now in
    let child = c.args.child.now in
    snapshot_refuses es c.args.nodes name child c.in-Some.version c.args.root.now c.args.slot c.requires.may (sym c.in-Some.ensures.number) c.entries-used.ensures.right
    (snapshot_room es name child c.requires.admitted) c.entries-used.result.now c.entries-used.ensures.entries c.as_slice.result.now
    (c.as_slice.ensures ∙ c.in_ok-entries-in-Some.ensures.entries) c.children_stand_in_order.ensures c.child_plan.result c.child_plan.ensures.refused
