use Rattle.std.proofs.Common.{◌≡◌, ◌≤◌, ◌+◌, ◌++◌, length, map, reverse, vec_capacity, vec_len}
use Rattle.mn_top.proofs.open.close_all.Given as goal

abbrev pub invariant-loop-redo : goal.invariant-loop-redo
invariant-loop-redo g l = (map (λ r. r.disk) l.left.items ++ reverse l.disks.items ≡ map (λ r. r.disk) l.initial.left.items ++ reverse l.initial.disks.items)
    × (length l.left.items + length l.disks.items ≤ vec_capacity l.disks)

abbrev pub decreases-loop-redo : goal.decreases-loop-redo
decreases-loop-redo g l = vec_len l.left
