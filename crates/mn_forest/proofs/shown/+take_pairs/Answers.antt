use Rattle.std.proofs.Common.{◌-◌, arith}
use Rattle.mn_page.specs.Reading.{addrs_in}
use Rattle.mn_forest.specs.Shown.{pairs_below}
use Rattle.mn_forest.proofs.Walks.{below_no_page, below_inner, below_next, below_over}
use Rattle.mn_forest.proofs.shown.+take_pairs.Goals as goal

pub returns-in-None : goal.returns-in-None
returns-in-None t c = λ at are. below_no_page c.args.spaces.now at c.args.addr c.args.height c.args.pairs.now.items are c.in-None.ensures

pub loop-i-preserved : goal.loop-i-preserved
loop-i-preserved t c = λ at are.
    below_next at (c.args.height - 1) (addrs_in c.in-Some.page.body) c.loop-i.i c.child.result c.args.pairs.now.items c.loop-i.pairs.items c.take_pairs.new.pairs.items c.child.ensures (c.loop-i.invariant at are) (c.in_ok-take_pairs.ensures at are)

pub returns : goal.returns
returns t c = λ at are.
    below_over at (c.args.height - 1) (addrs_in c.in-Some.page.body) c.loop-i.i c.args.pairs.now.items c.loop-i.pairs.items (pairs_below at c.args.height c.args.addr) (omega (arith, c.child_count-i-end.ensures.addrs)) (c.loop-i.invariant at are)
    (below_inner c.args.spaces.now at c.args.addr c.in-Some.page c.args.height are c.in-Some.ensures (omega (arith, c.if-height-eq0.false)))
