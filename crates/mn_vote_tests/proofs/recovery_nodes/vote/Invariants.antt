use Rattle.std.proofs.Common.{◌≡◌, false}
use Rattle.mn_vote_tests.proofs.recovery_nodes.vote.Given as goal

-- no request of the coordinator is out
abbrev pub invariant-loop : goal.invariant-loop
invariant-loop l = l.c.asked ≡ false
