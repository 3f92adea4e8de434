use Rattle.std.proofs.Common.{◌≡◌, ◌≤◌, length, drop, reverse, vec_capacity, vec_len}
use Rattle.mn_top.specs.Logs.{AreRead}
use Rattle.mn_top.proofs.open.open_all.Given as goal

-- the logs of the first disks are read, and the others are left, the next one last
abbrev pub invariant-loop-disk : goal.invariant-loop-disk
invariant-loop-disk g l =
    AreRead g.D.Disk.state g.D.Disk.faults l.fn.disks.items l.redos.items l.records.items
    × (l.rest.items ≡ reverse (drop (length l.redos.items) l.fn.disks.items))
    × (l.nodes ≡ length l.fn.disks.items)
    × (length l.fn.disks.items ≤ vec_capacity l.rest)
    × (length l.fn.disks.items ≤ vec_capacity l.redos)
    × (length l.fn.disks.items ≤ vec_capacity l.records)

abbrev pub decreases-loop-disk : goal.decreases-loop-disk
decreases-loop-disk g l = vec_len l.rest
