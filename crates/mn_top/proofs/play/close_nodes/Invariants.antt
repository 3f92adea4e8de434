use Rattle.std.proofs.Common.{◌≡◌, ◌≤◌, ◌+◌, ◌++◌, List, length, map, reverse, vec_capacity, vec_len}
use Rattle.mn_node.specs.State.{NodeState}
use Rattle.mn_top.specs.Logs.{AllCloseSo}
use Rattle.mn_top.proofs.play.close_nodes.Given as goal

-- the first nodes are closed, and the others are left, the next one last
abbrev pub invariant-loop-node : goal.invariant-loop-node
invariant-loop-node g l =
    ((done : List (NodeState _)) × (l.fn.nodes.items ≡ done ++ reverse l.left.items)
    × (l.disks.items ≡ l.initial.disks.items ++ map (λ n. n.disk) done)
    × AllCloseSo g.D.Disk.state done)
    × (vec_capacity l.disks ≡ vec_capacity l.initial.disks)
    × (length l.left.items + length l.disks.items ≤ vec_capacity l.disks)

abbrev pub decreases-loop-node : goal.decreases-loop-node
decreases-loop-node g l = vec_len l.left
