use Rattle.std.proofs.Common.{◌≡◌, ◌≤◌, ◌<◌, ◌+◌, ◌*◌, ◌/◌, ◌-◌, ℕ, None, get_or}
use Rattle.mn_node.specs.Images.{block_size}
use Rattle.mn_node.proofs.images.Images.free_in.Given as goal

-- the blocks so far have no image
abbrev pub invariant-loop-block : goal.invariant-loop-block
invariant-loop-block l = record {
  from : l.start / block_size + 1 ≤ l.block;
  near : block_size * l.block ≤ l.start + l.length + block_size;
  free : (other : ℕ) → l.start / block_size ≤ other → other < l.block → get_or l.self other None ≡ None;
}

abbrev pub decreases-loop-block : goal.decreases-loop-block
decreases-loop-block l = l.start + l.length - block_size * l.block
