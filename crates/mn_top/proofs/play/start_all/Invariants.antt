use Rattle.std.proofs.Common.{◌≡◌, ◌≤◌, length, drop, reverse, vec_capacity, vec_len}
use Rattle.mn_top.specs.Logs.{AreStarted}
use Rattle.mn_top.proofs.play.start_all.Given as goal

-- the nodes of the first logs are started, and the other logs are left, the next one last
abbrev pub invariant-loop-redo : goal.invariant-loop-redo
invariant-loop-redo g l =
    AreStarted g.D.Disk.state g.D.Disk.faults l.fn.redos.items l.nodes.items
    × (l.left.items ≡ reverse (drop (length l.nodes.items) l.fn.redos.items))
    × (length l.fn.redos.items ≤ vec_capacity l.nodes)

abbrev pub decreases-loop-redo : goal.decreases-loop-redo
decreases-loop-redo g l = vec_len l.left
