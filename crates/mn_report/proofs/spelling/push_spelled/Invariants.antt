use Rattle.std.proofs.Common.{◌≡◌, ◌++◌, drop}
use Rattle.mn_report.specs.Spelling.{spelled}
use Rattle.mn_report.proofs.spelling.push_spelled.Given as goal

-- the bytes so far, and the rest
abbrev pub invariant-loop-byte : goal.invariant-loop-byte
invariant-loop-byte l = l.out.items ++ spelled (drop l.byte-index l.bytes) ≡ l.fn.out.items ++ spelled l.bytes
