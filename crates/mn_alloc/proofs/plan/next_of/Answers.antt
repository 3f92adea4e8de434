use Rattle.std.proofs.Common.{arith}
use Rattle.mn_alloc.proofs.Fewest.{next_is}
use Rattle.mn_alloc.proofs.plan.next_of.Goals as goal

pub returns-clause-node : goal.returns-clause-node
returns-clause-node c =
    let i = c.loop-other.invariant in
    next_is c.args.counts.now c.loop-other.node i.there (λ j lt. i.least j (omega arith)) i.first
