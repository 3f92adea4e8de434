use Rattle.mn_work.specs.Bodies.{ChildSoFar}
use Rattle.mn_work.proofs.causes.child_in.Given as goal

abbrev pub invariant-loop-i : goal.invariant-loop-i
invariant-loop-i l = ChildSoFar l.page.body l.i l.found l.key
