use Rattle.std.proofs.Common.{◌++◌, ◌∷◌, [], arith}
use Rattle.mn_node.proofs.Replies.{one_read}
use Rattle.mn_top.proofs.damage.first_bad.Goals as goal

pub loop-number-preserved : goal.loop-number-preserved
loop-number-preserved c =
    let are = c.loop-number.invariant in
    let record_there = c.in-Ok._record in (
      are.0 ++ record_there ∷ [],
      one_read c.args.front.now.bodies c.loop-number.number are.0 record_there c.body.result.now are.1 (omega (arith, c.loop-number-test.true, c.count-number-end.ensures)) c.body.ensures c.in-Ok.ensures.read,
    )
