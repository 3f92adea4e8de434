use Rattle.std.proofs.Common.{◌≡◌, ◌≤◌, ◌-◌, ℕ, None, get_or, vec_len, vec_capacity}
use Rattle.mn_node.proofs.images.lengthen.Given as goal

-- no image more, and no room less
abbrev pub invariant-loop-images : goal.invariant-loop-images
invariant-loop-images l = record {
  same : (block : ℕ) → get_or l.images.items block None ≡ get_or l.initial.images.items block None;
  room : vec_capacity l.initial.images ≤ vec_capacity l.images;
}

abbrev pub decreases-loop-images : goal.decreases-loop-images
decreases-loop-images l = l.count - vec_len l.images
