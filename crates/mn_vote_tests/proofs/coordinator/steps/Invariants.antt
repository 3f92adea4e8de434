use Rattle.std.proofs.Common.{◌≡◌, false}
use Rattle.mn_vote_tests.proofs.coordinator.steps.Given as goal

-- no request is out
abbrev pub invariant-loop-letter : goal.invariant-loop-letter
invariant-loop-letter l = l.coordinator.asked ≡ false
