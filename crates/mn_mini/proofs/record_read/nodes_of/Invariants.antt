use Rattle.std.proofs.Common.{◌≡◌, ◌++◌, drop}
use Rattle.mn_mini.specs.RecordGrammar.{numbers_of}
use Rattle.mn_mini.proofs.record_read.nodes_of.Given as goal

abbrev pub invariant-loop-number : goal.invariant-loop-number
invariant-loop-number l = numbers_of l.nodes ++ drop l.number-index l.numbers ≡ l.numbers
