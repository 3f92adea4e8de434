use Rattle.std.proofs.Common.{◌≡◌, length}
use Rattle.mn_base.specs.Ids.{tid_same}
use Rattle.mn_mini.specs.Mini.{space_size}
use Rattle.mn_mini.specs.Node.{with_held}
use Rattle.mn_node.proofs.Votes.{first_held_parts}
use Rattle.mn_node.proofs.memory.write_decided.Given as goal

-- the parts of the first so many votes are written, where they are for the id
abbrev pub invariant-loop-vote : goal.invariant-loop-vote
invariant-loop-vote l = record {
  size : length l.space ≡ space_size;
  written : l.space ≡ with_held (λ t. tid_same t l.tid) l.initial.space (first_held_parts l.records l.vote-index);
}
