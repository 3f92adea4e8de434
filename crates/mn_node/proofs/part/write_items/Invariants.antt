use Rattle.std.proofs.Common.{◌≡◌, drop, length}
use Rattle.mn_mini.specs.Flat.{space_after_part}
use Rattle.mn_mini.specs.Mini.{space_size}
use Rattle.mn_node.specs.Part.{AreInside}
use Rattle.mn_node.proofs.part.write_items.Given as goal

-- what is left is still to be written
abbrev pub invariant-loop-item : goal.invariant-loop-item
invariant-loop-item l = record {
  rest : space_after_part l.space (drop l.item-index l.items) ≡ space_after_part l.initial.space l.items;
  inside : AreInside (drop l.item-index l.items);
  size : length l.space ≡ space_size;
}
