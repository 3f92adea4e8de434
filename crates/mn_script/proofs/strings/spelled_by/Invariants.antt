use Rattle.std.proofs.Common.{◌≡◌, ◌++◌, length}
use Rattle.std.specs.Prelude.{option_map}
use Rattle.mn_script.specs.Words.{unspelled}
use Rattle.mn_script.proofs.strings.spelled_by.Given as goal

-- the bytes so far, and those of the rest
abbrev pub invariant-loop-rest : goal.invariant-loop-rest
invariant-loop-rest l = option_map (λ bs. l.bytes.items ++ bs) (unspelled l.rest) ≡ unspelled l.fn.word

abbrev pub decreases-loop-rest : goal.decreases-loop-rest
decreases-loop-rest l = length l.rest
