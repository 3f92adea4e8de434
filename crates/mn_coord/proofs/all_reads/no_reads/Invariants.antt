use Rattle.std.proofs.Common.{◌≡◌, [], replicate}
use Rattle.mn_coord.proofs.all_reads.no_reads.Given as goal

-- one for each participant so far
abbrev pub invariant-loop-at : goal.invariant-loop-at
invariant-loop-at l = l.reads.items ≡ replicate l._at []
