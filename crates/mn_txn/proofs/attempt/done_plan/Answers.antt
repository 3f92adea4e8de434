use Rattle.std.proofs.Common.{ap, false, ◌∙◌}
use Rattle.std.proofs.lemmas.Result.{IfOk-weaker, IfErr-weaker}
use Rattle.mn_txn.specs.declared.error.PlanError.{PlanError}
use Rattle.mn_txn.specs.declared.error.PlanError.TheVariants.{Worn, NoMemory}
use Rattle.mn_txn.specs.State.{State}
use Rattle.mn_txn.specs.Plan.{RefusesPlan, can_plan}
use Rattle.mn_txn.specs.ChildPlan.{IsPlanOf}
use Rattle.mn_txn.specs.AttemptPlan.{DonePlanned, IsDonePlan, RefusesDone, placing_state, tried_state}
use Rattle.mn_txn.proofs.AttemptPlan.{done_fits, done_made, done_planned, done_refused, done_writes_fit}
use Rattle.mn_txn.proofs.AttemptTxn.{plan_tells, refusal_tells}
use Rattle.mn_txn.proofs.attempt.done_plan.Goals as goal

pub write_all-requires : goal.write_all-requires
write_all-requires c =
    let may = c.requires.may in
    let known = c.tries_are_known.ensures in
    done_writes_fit may.0 c.args.tried c.args.placing may.1 may.2 known.read known.put c.attempts_stand_in_order.ensures known.few known.touch known.room

pub plan-requires : goal.plan-requires
plan-requires c =
    let may = c.requires.may in
    let known = c.tries_are_known.ensures in
    ap can_plan (c.in_ok-write_all.ensures ∙ ap (λ (t : State). placing_state t c.args.placing) c.in_ok-txn.ensures)
    ∙ done_fits may.0 c.args.tried c.args.placing may.1 may.2 known.read known.put c.attempts_stand_in_order.ensures c.done_may_be_planned.ensures

pub returns-clause-planned : goal.returns-clause-planned
returns-clause-planned c =
    let r = c.args.tried in
    let p = c.args.placing in
    let known = c.tries_are_known.ensures in
    let t = placing_state (tried_state false r p.slots.now) p in
    IfOk-weaker c.plan.result (λ mini. IsPlanOf t mini) (DonePlanned r p)
    (λ mini q kept a may. done_planned kept r p a may known.read known.put c.attempts_stand_in_order.ensures c.done_is_planned.ensures mini q)
    (plan_tells c.write_all.new.txn t c.plan.result (c.in_ok-write_all.ensures ∙ ap (λ (u : State). placing_state u p) c.in_ok-txn.ensures) c.plan.ensures.planned c.plan.ensures.unworn)

pub returns-clause-made : goal.returns-clause-made
returns-clause-made c =
    let r = c.args.tried in
    let p = c.args.placing in
    let known = c.tries_are_known.ensures in
    let t = placing_state (tried_state false r p.slots.now) p in
    IfOk-weaker c.plan.result (λ mini. IsPlanOf t mini) (IsDonePlan r p)
    (λ mini q kept a may. done_made kept r p a may known.read known.put c.attempts_stand_in_order.ensures mini q)
    (plan_tells c.write_all.new.txn t c.plan.result (c.in_ok-write_all.ensures ∙ ap (λ (u : State). placing_state u p) c.in_ok-txn.ensures) c.plan.ensures.planned c.plan.ensures.unworn)

pub returns-clause-refused : goal.returns-clause-refused
returns-clause-refused c =
    let r = c.args.tried in
    let p = c.args.placing in
    let t = placing_state (tried_state false r p.slots.now) p in
    IfErr-weaker c.plan.result (RefusesPlan t) (RefusesDone r p) why
    (refusal_tells c.write_all.new.txn t c.plan.result (c.in_ok-write_all.ensures ∙ ap (λ (u : State). placing_state u p) c.in_ok-txn.ensures) c.plan.ensures.refused)
  where
    why : (error : PlanError) → RefusesPlan (placing_state (tried_state false c.args.tried c.args.placing.slots.now) c.args.placing) error → RefusesDone c.args.tried c.args.placing error
    why NoMemory q = tt
    why (Worn node start) q = λ kept a may.
        let known = c.tries_are_known.ensures in
        done_refused kept c.args.tried c.args.placing a may known.read known.put c.attempts_stand_in_order.ensures c.worn_is_changed.ensures node start q
