use Rattle.std.proofs.Common.{◌≡◌, ◌≤◌, ◌+◌, length}
use Rattle.std.specs.Prelude.{bytes_eq}
use Rattle.mn_mini.specs.Flat.{bytes_in}
use Rattle.mn_node.proofs.space.Space.stand.Given as goal

-- the bytes so far stand there, so the rest decides
abbrev pub invariant-loop-rest : goal.invariant-loop-rest
invariant-loop-rest l = record {
  within : l.from + length l.rest ≤ length l.self;
  decides : bytes_eq (bytes_in l.self l.start (length l.bytes)) l.bytes ≡ bytes_eq (bytes_in l.self l.from (length l.rest)) l.rest;
}

abbrev pub decreases-loop-rest : goal.decreases-loop-rest
decreases-loop-rest l = length l.rest
