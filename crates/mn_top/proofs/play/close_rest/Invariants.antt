use Rattle.std.proofs.Common.{◌≡◌, ◌≤◌, ◌+◌, ◌++◌, length, map, reverse, vec_capacity, vec_len}
use Rattle.mn_top.proofs.play.close_rest.Given as goal

abbrev pub invariant-loop-redo : goal.invariant-loop-redo
invariant-loop-redo g l =
    (l.disks.items ++ reverse (map (λ r. r.disk) l.left.items) ≡ l.initial.disks.items ++ reverse (map (λ r. r.disk) l.initial.left.items))
    × (length l.left.items + length l.disks.items ≤ vec_capacity l.disks)

abbrev pub decreases-loop-redo : goal.decreases-loop-redo
decreases-loop-redo g l = vec_len l.left
