use Rattle.std.proofs.Common.{◌≡◌, take}
use Rattle.std.specs.Option.{option_map}
use Rattle.mn_mini.specs.Node.{held_part_of}
use Rattle.mn_flat.specs.Known.{held_seen, parts_seen}
use Rattle.mn_flat.proofs.held.held_of.Given as goal

-- the part of the id among those so far
abbrev pub invariant-loop-h : goal.invariant-loop-h
invariant-loop-h l = option_map held_seen l.found ≡ held_part_of l.tid (parts_seen (take l.h-index l.held))
