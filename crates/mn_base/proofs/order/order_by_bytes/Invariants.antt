use Rattle.mn_base.proofs.Words.{AreAlike}
use Rattle.mn_base.proofs.order.order_by_bytes.Given as goal

abbrev pub invariant-loop-i : goal.invariant-loop-i
invariant-loop-i l = AreAlike l.i l.a l.b
