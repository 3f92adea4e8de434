use Rattle.std.proofs.Common.{◌≡◌}
use Rattle.mn_node.specs.Part.{holds_by}
use Rattle.mn_node.proofs.Votes.{first_held_parts}
use Rattle.mn_node.proofs.replay.lock_held.Given as goal

-- the parts of the first so many votes are locked
abbrev pub invariant-loop-vote : goal.invariant-loop-vote
invariant-loop-vote l = l.locks.holds ≡ holds_by (first_held_parts l.records l.vote-index)
