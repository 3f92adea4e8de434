use Rattle.std.proofs.Common.{◌≡◌, ◌++◌, drop}
use Rattle.mn_node.specs.Part.{AreInside, shared_of, alone_of}
use Rattle.mn_node.proofs.part.ranges_of.Given as goal

-- the ranges so far, and the rest
abbrev pub invariant-loop-item : goal.invariant-loop-item
invariant-loop-item l = record {
  shared : l.shared.items ++ shared_of (drop l.item-index l.items) ≡ shared_of l.items;
  alone : l.alone.items ++ alone_of (drop l.item-index l.items) ≡ alone_of l.items;
  inside : AreInside (drop l.item-index l.items);
}
