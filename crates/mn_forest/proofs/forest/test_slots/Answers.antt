use Rattle.std.proofs.Common.{sym, subst, arith, below_more}
use Rattle.std.proofs.lemmas.Result.{err_from_is_err_and}
use Rattle.mn_forest.specs.Progress.{HasSlot, SaysFailed}
use Rattle.mn_forest.proofs.forest.test_slots.Goals as goal

pub loop-slot-preserved : goal.loop-slot-preserved
loop-slot-preserved c = λ es versions names.
    below_more (λ slot. HasSlot c.args.spaces.now es c.args.node slot) c.loop-slot.slot (c.loop-slot.invariant es versions names) (c.in_ok-test_slot.ensures.passes es versions names)

pub returns-in_err-test_slot-clause-fails : goal.returns-in_err-test_slot-clause-fails
returns-in_err-test_slot-clause-fails c = λ es versions names front entries.
    let p = err_from_is_err_and c.from_residual.result c.from_residual.ensures.1 in
    rw p.1 (subst (SaysFailed c.args.spaces.now es c.args.node) (sym p.2) (c.in_err-test_slot.ensures.fails es versions names front entries (c.loop-slot.invariant es versions names)))

pub returns-clause-passes : goal.returns-clause-passes
returns-clause-passes c = λ es versions names slot less. c.loop-slot.invariant es versions names slot (omega arith)
