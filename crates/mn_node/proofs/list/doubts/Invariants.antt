use Rattle.std.proofs.Common.{◌≡◌}
use Rattle.mn_mini.specs.Node.{doubts_of}
use Rattle.mn_node.proofs.Votes.{first_held_parts}
use Rattle.mn_node.proofs.list.doubts.Given as goal

-- the ids of the first so many votes
abbrev pub invariant-loop-vote : goal.invariant-loop-vote
invariant-loop-vote l = l.doubts.items ≡ doubts_of (first_held_parts l.records l.vote-index)
