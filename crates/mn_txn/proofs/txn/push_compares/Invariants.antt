use Rattle.std.proofs.Common.{◌≡◌, ◌+◌, ◌≤◌, ◌++◌, length, map}
use Rattle.std.specs.Vec.Iter.{into_iter_items}
use Rattle.mn_txn.specs.Plan.{compare_of}
use Rattle.mn_txn.proofs.txn.push_compares.Given as goal

-- what is left is still to come, and has room
abbrev pub invariant-loop-image : goal.invariant-loop-image
invariant-loop-image l =
    (l.items.items ++ map compare_of (into_iter_items l.image-iterator) ≡ l.fn.items.items ++ map compare_of l.fn.images.items)
    × (l.items.capacity ≡ l.fn.items.capacity)
    × (length l.items.items + length (into_iter_items l.image-iterator) ≤ l.items.capacity)
