use Rattle.std.proofs.Common.{◌++◌, arith}
use Rattle.mn_node.proofs.Found.{one_front, whole_front}
use Rattle.mn_node.proofs.restart.first_difference.Goals as goal

pub loop-number-preserved : goal.loop-number-preserved
loop-number-preserved c =
    let records = c.args.first.now ++ c.args.rest.now in
    one_front c.loop-number.number c.args.log.now.bodies records c.record_in.result.now c.loop-number.invariant (omega (arith, c.if-number-count.false, c.count-count.ensures)) (omega (arith, c.loop-number-test.true, c.in_ok-total.ensures)) c.record_in.ensures
    (c.in_ok-spells.ensures.yes c.if-not-branch.false)

pub returns : goal.returns
returns c =
    let records = c.args.first.now ++ c.args.rest.now in
    whole_front c.loop-number.number c.args.log.now.bodies records c.loop-number.invariant (omega (arith, c.loop-number-test.false, c.in_ok-total.ensures)) (omega (arith, c.loop-number.auto.number-end, c.in_ok-total.ensures))
