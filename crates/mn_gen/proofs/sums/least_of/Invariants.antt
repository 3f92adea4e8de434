use Rattle.std.proofs.Common.{◌≡◌, drop, min}
use Rattle.std.specs.Prelude.{fold}
use Rattle.mn_gen.specs.Summary.{least_of}
use Rattle.mn_gen.proofs.sums.least_of.Given as goal

abbrev pub invariant-loop-number : goal.invariant-loop-number
invariant-loop-number l = fold min l.least (drop l.number-index l.rest) ≡ least_of l.numbers
