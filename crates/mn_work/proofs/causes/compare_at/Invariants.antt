use Rattle.std.proofs.Common.{◌≡◌, drop, slice_get}
use Rattle.mn_work.specs.Refusals.{compares_at}
use Rattle.mn_work.proofs.causes.compare_at.Given as goal

-- so many compares are left to pass over in the rest
abbrev pub invariant-loop-item : goal.invariant-loop-item
invariant-loop-item l =
    slice_get (compares_at l.at (drop l.item-index l.item-items)) l.left ≡ slice_get (compares_at l.fn.at l.fn.mini.items) l.fn.number
