use Rattle.std.proofs.Common.{◌≡◌, drop}
use Rattle.mn_mini.specs.Mini.{has_write}
use Rattle.mn_mini.proofs.part.Part.writes.Given as goal

abbrev pub invariant-loop-item : goal.invariant-loop-item
invariant-loop-item l = has_write (drop l.item-index l.items) ≡ has_write l.items
