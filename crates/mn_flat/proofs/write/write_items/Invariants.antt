use Rattle.std.proofs.Common.{◌≡◌, drop}
use Rattle.mn_mini.specs.Flat.{space_after_part}
use Rattle.mn_flat.proofs.write.write_items.Given as goal

-- what is left is still to be written
abbrev pub invariant-loop-item : goal.invariant-loop-item
invariant-loop-item l = space_after_part l.space (drop l.item-index l.items) ≡ space_after_part l.initial.space l.items
