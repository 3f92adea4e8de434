use Rattle.mn_mini.proofs.Outside.{Decides}
use Rattle.mn_mini.proofs.minitransaction.first_outside.Given as goal

-- the items that are left decide
abbrev pub invariant-loop-at : goal.invariant-loop-at
invariant-loop-at l = Decides l.nodes l.items l.at
