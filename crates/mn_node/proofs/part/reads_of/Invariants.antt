use Rattle.std.proofs.Common.{◌≡◌, ◌++◌, drop}
use Rattle.mn_mini.specs.Flat.{part_reads}
use Rattle.mn_node.specs.Part.{AreInside}
use Rattle.mn_node.proofs.part.reads_of.Given as goal

-- what was read so far, and the rest
abbrev pub invariant-loop-item : goal.invariant-loop-item
invariant-loop-item l = record {
  rest : l.reads ++ part_reads l.space (drop l.item-index l.items) ≡ part_reads l.space l.items;
  inside : AreInside (drop l.item-index l.items);
}
