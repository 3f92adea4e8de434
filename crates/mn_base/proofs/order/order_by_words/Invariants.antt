use Rattle.std.proofs.Common.{◌-◌}
use Rattle.mn_base.proofs.Words.{AreAlike}
use Rattle.mn_base.proofs.order.order_by_words.Given as goal

abbrev pub invariant-loop-at : goal.invariant-loop-at
invariant-loop-at l = AreAlike l.at l.a l.b

abbrev pub decreases-loop-at : goal.decreases-loop-at
decreases-loop-at l = l.last - l.at
