use Rattle.mn_padded.specs.Zeros.{IsFilled}
use Rattle.mn_padded.proofs.filled_in.Given as goal

abbrev pub invariant-loop-filled : goal.invariant-loop-filled
invariant-loop-filled l = IsFilled l.filled l.bytes

abbrev pub decreases-loop-filled : goal.decreases-loop-filled
decreases-loop-filled l = l.filled
