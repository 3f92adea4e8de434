use Rattle.std.proofs.Common.{◌≡◌, ◌<◌, ◌^◌, drop}
use Rattle.mn_gen.specs.Summary.{number_on}
use Rattle.mn_gen.proofs.sums.number_of.Given as goal

abbrev pub invariant-loop-byte : goal.invariant-loop-byte
invariant-loop-byte l = record {
  value : number_on l.number (drop l.byte-index l.value) ≡ number_on 0 l.value;
  small : l.number < 10 ^ l.byte-index;
}
