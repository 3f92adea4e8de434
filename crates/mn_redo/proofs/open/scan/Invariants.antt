use Rattle.std.proofs.Common.{[], length, ◌-◌, ◌<◌, ◌^◌}
use Rattle.mn_redo.specs.Grammar.{IsFront}
use Rattle.mn_redo.proofs.open.scan.Given as goal

-- open records stand in front of the place, and a gate at it
abbrev pub invariant-loop-at : goal.invariant-loop-at
invariant-loop-at l = record {
  front : IsFront [] l.bytes l.gates.items l.at;
  within : l.at < length l.bytes;
  count : length l.gates.items < 2 ^ 32;
}

abbrev pub decreases-loop-at : goal.decreases-loop-at
decreases-loop-at l = length l.bytes - l.at
