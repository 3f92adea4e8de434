use Rattle.std.proofs.Common.{◌≡◌, ◌+◌, ◌≤◌, ◌++◌, drop, length}
use Rattle.std.specs.List.{flat_map}
use Rattle.mn_mini.specs.Mini.{read_at}
use Rattle.mn_mini.proofs.minitransaction.push_reads.Given as goal

-- what is left is still to come, and has room
abbrev pub invariant-loop-item : goal.invariant-loop-item
invariant-loop-item l =
    (l.initial.part.items ++ flat_map (read_at l.at) l.items ≡ l.part.items ++ flat_map (read_at l.at) (drop l.item-index l.items))
    × (l.part.capacity ≡ l.initial.part.capacity)
    × (length l.part.items + length (flat_map (read_at l.at) (drop l.item-index l.items)) ≤ l.part.capacity)
