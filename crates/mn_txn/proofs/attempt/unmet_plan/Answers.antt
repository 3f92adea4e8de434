use Rattle.std.proofs.Common.{ap, ◌∙◌}
use Rattle.mn_txn.specs.State.{State}
use Rattle.mn_txn.specs.Plan.{can_plan, plan_of}
use Rattle.mn_txn.proofs.AttemptPlan.{unmet_fits, unmet_made, unmet_planned}
use Rattle.mn_txn.proofs.AttemptTxn.{never_worn}
use Rattle.mn_txn.proofs.attempt.unmet_plan.Goals as goal

pub plan-requires : goal.plan-requires
plan-requires c =
    let may = c.requires.may in
    ap can_plan c.in_ok-txn.ensures
    ∙ unmet_fits may.0 c.args.tried may.1 may.2 c.tries_are_known.ensures.read c.attempts_stand_in_order.ensures c.unmet_may_be_planned.ensures

pub returns-in-Ok-clause-planned : goal.returns-in-Ok-clause-planned
returns-in-Ok-clause-planned c = λ kept a may.
    unmet_planned kept c.args.tried a may c.tries_are_known.ensures.read c.attempts_stand_in_order.ensures c.unmet_is_planned.ensures c.in-Ok.mini (c.in-Ok.ensures.planned ∙ ap plan_of c.in_ok-txn.ensures)

pub returns-in-Ok-clause-made : goal.returns-in-Ok-clause-made
returns-in-Ok-clause-made c = λ kept a may.
    unmet_made kept c.args.tried a may c.tries_are_known.ensures.read c.attempts_stand_in_order.ensures c.in-Ok.mini (c.in-Ok.ensures.planned ∙ ap plan_of c.in_ok-txn.ensures)

pub no_memory-requires : goal.no_memory-requires
no_memory-requires c =
    never_worn c.in_ok-txn.txn c.in-Err.error (ap (λ (t : State). t.writes) c.in_ok-txn.ensures) c.in-Err.ensures.refused
