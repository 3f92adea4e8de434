use Rattle.std.proofs.Common.{◌≡◌, ◌≤◌, ◌<◌, ◌/◌, ℕ, None, get_or, length, vec_capacity}
use Rattle.mn_mini.specs.Mini.{space_size}
use Rattle.mn_page.specs.Grammar.{padded}
use Rattle.mn_node.specs.Images.{AreBlocks, block_size, with_images}
use Rattle.mn_node.proofs.images.Images.flatten.Given as goal

-- the blocks so far have no image
abbrev pub invariant-loop-block : goal.invariant-loop-block
invariant-loop-block l = record {
  same : with_images 0 l.self (padded space_size l.kept.items) ≡ with_images 0 l.initial.self (padded space_size l.initial.kept.items);
  gone : (other : ℕ) → l.start / block_size ≤ other → other < l.block → get_or l.self other None ≡ None;
  sized : AreBlocks l.self;
  short : length l.kept.items ≤ space_size;
  room : space_size ≤ vec_capacity l.kept;
}
