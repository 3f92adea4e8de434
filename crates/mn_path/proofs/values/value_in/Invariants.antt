use Rattle.mn_path.specs.Values.{NoValueSoFar}
use Rattle.mn_path.proofs.values.value_in.Given as goal

abbrev pub invariant-loop-i : goal.invariant-loop-i
invariant-loop-i l = NoValueSoFar l.leaf.body l.i l.key
