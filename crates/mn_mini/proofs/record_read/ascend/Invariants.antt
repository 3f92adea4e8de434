use Rattle.std.proofs.Common.{◌≡◌, length}
use Rattle.mn_mini.specs.RecordGrammar.{are_ascending}
use Rattle.mn_mini.proofs.record_read.ascend.Given as goal

-- what is left ascends exactly where the whole does
abbrev pub invariant-loop-rest : goal.invariant-loop-rest
invariant-loop-rest l = are_ascending l.rest ≡ are_ascending l.numbers

abbrev pub decreases-loop-rest : goal.decreases-loop-rest
decreases-loop-rest l = length l.rest
