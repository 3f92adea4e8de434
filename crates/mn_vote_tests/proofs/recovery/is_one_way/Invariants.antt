use Rattle.std.proofs.Common.{◌≡◌, false}
use Rattle.mn_vote_tests.proofs.recovery.is_one_way.Given as goal

-- no request of the coordinator is out
abbrev pub invariant-loop-n : goal.invariant-loop-n
invariant-loop-n l = l.race.coordinator.asked ≡ false
