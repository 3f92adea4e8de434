use Rattle.std.proofs.Common.{sym, subst}
use Rattle.std.specs.Prelude.{IsTrue}
use Rattle.mn_tree.proofs.Trees.Twins.{some_entry}
use Rattle.mn_txn.specs.State.{State}
use Rattle.mn_txn.specs.ChildPlan.{child_state}
use Rattle.mn_txn.specs.Plan.{can_plan}
use Rattle.mn_txn.proofs.ChildTxn.{plan_tells, refusal_tells}
use Rattle.mn_txn.proofs.child.child_plan.Goals as goal

pub plan-requires : goal.plan-requires
plan-requires c =
    let e = some_entry c.args.used.now c.args.version.0 c.requires.there in
    subst (λ (t : State). IsTrue (can_plan t)) (sym (c.in_ok-txn.ensures e.0 e.1)) (c.requires.fits e.0 e.1)

pub returns-clause-planned : goal.returns-clause-planned
returns-clause-planned c =
    plan_tells c.args.used.now c.args.version c.in_ok-txn.txn (λ e. child_state c.args.nodes c.args.used.now c.args.version e c.args.root.now c.args.slot c.args.entries.now) c.plan.result
    c.in_ok-txn.ensures c.plan.ensures.planned c.plan.ensures.unworn

pub returns-clause-refused : goal.returns-clause-refused
returns-clause-refused c =
    refusal_tells c.args.used.now c.args.version c.in_ok-txn.txn (λ e. child_state c.args.nodes c.args.used.now c.args.version e c.args.root.now c.args.slot c.args.entries.now) c.plan.result
    c.in_ok-txn.ensures c.plan.ensures.refused
