use Rattle.std.proofs.Common.{◌≡◌, ℕ, ◌+◌, ◌-◌, vec_len}
use Rattle.std.specs.Prelude.{get_or}
use Rattle.mn_hist.proofs.table.put.Given as goal

-- numbers at the end for which as much as nothing is kept
abbrev pub invariant-loop-none : goal.invariant-loop-none
invariant-loop-none g l = (n : ℕ) → get_or l.numbers.items n l.none ≡ get_or l.initial.numbers.items n l.none

abbrev pub decreases-loop-none : goal.decreases-loop-none
decreases-loop-none g l = l.number + 1 - vec_len l.numbers
