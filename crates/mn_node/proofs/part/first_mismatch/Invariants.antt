use Rattle.std.proofs.Common.{◌≡◌, ◌≤◌, drop}
use Rattle.mn_mini.specs.Flat.{part_mismatch_from}
use Rattle.mn_node.specs.Part.{AreInside}
use Rattle.mn_node.proofs.part.first_mismatch.Given as goal

-- none differs so far
abbrev pub invariant-loop-compare : goal.invariant-loop-compare
invariant-loop-compare l = record {
  rest : part_mismatch_from l.space l.item (drop l.compare-index l.items) ≡ part_mismatch_from l.space 0 l.items;
  inside : AreInside (drop l.compare-index l.items);
  count : l.item ≤ l.compare-index;
}
