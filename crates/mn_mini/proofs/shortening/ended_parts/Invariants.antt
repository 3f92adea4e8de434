use Rattle.std.proofs.Common.{◌≡◌, map, reverse, take}
use Rattle.mn_mini.specs.Shorten.{HeldTells, ended_lists, parts_of}
use Rattle.mn_mini.proofs.shortening.ended_parts.Given as goal

-- it is so of the records so far
abbrev pub invariant-loop-record : goal.invariant-loop-record
invariant-loop-record l = record {
  held : HeldTells l.held (reverse (take l.record-index l.records));
  ended : map parts_of l.ended.items ≡ ended_lists (reverse (take l.record-index l.records));
}
