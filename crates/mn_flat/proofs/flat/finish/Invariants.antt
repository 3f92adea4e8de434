use Rattle.std.proofs.Common.{◌≡◌, reverse, take}
use Rattle.mn_mini.specs.Node.{held_parts, space_of}
use Rattle.mn_flat.specs.Known.{parts_seen}
use Rattle.mn_flat.proofs.flat.finish.Given as goal

-- what the records so far hold and write
abbrev pub invariant-loop-record : goal.invariant-loop-record
invariant-loop-record l = record {
  held : parts_seen l.held.items ≡ held_parts (reverse (take l.record-index l.list));
  space : l.space ≡ space_of l.fn.space (reverse (take l.record-index l.list));
}
