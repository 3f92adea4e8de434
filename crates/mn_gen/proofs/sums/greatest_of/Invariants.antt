use Rattle.std.proofs.Common.{◌≡◌, drop, max}
use Rattle.std.specs.Prelude.{fold}
use Rattle.mn_gen.specs.Summary.{greatest_of}
use Rattle.mn_gen.proofs.sums.greatest_of.Given as goal

abbrev pub invariant-loop-number : goal.invariant-loop-number
invariant-loop-number l = fold max l.greatest (drop l.number-index l.numbers) ≡ greatest_of l.numbers
