use Rattle.std.proofs.Common.{◌≡◌, ◌++◌, drop}
use Rattle.mn_mini.specs.RecordGrammar.{numbers_of}
use Rattle.mn_mini.proofs.record_bytes.push_participants.Given as goal

-- the numbers so far, and those that are left
abbrev pub invariant-loop-node : goal.invariant-loop-node
invariant-loop-node l = l.out.items ++ numbers_of (drop l.node-index l.participants) ≡ l.initial.out.items ++ numbers_of l.participants
