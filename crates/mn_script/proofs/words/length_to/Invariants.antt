use Rattle.std.proofs.Common.{◌≡◌, ◌+◌, drop}
use Rattle.mn_script.specs.Words.{len_to}
use Rattle.mn_script.proofs.words.length_to.Given as goal

-- no such byte so far
abbrev pub invariant-loop-at : goal.invariant-loop-at
invariant-loop-at l = len_to l.stop (drop l.at l.bytes) + l.at ≡ len_to l.stop l.bytes
