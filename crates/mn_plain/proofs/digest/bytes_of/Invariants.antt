use Rattle.std.proofs.Common.{◌≡◌, ◌++◌, drop}
use Rattle.mn_plain.specs.Digest.{pair_bytes}
use Rattle.mn_plain.proofs.digest.bytes_of.Given as goal

-- the bytes so far, and those of the rest
abbrev pub invariant-loop-pair : goal.invariant-loop-pair
invariant-loop-pair l = l.bytes.items ++ pair_bytes (drop l.pair-index l.pairs) ≡ pair_bytes l.pairs
