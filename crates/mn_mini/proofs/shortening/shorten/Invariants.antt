use Rattle.std.proofs.Common.{◌≡◌, ◌≤◌, length, map, reverse, take}
use Rattle.mn_mini.specs.Shorten.{Goes, ended_lists, parts_of}
use Rattle.mn_mini.proofs.shortening.shorten.Given as goal

-- the records before here are still to come
abbrev pub invariant-loop-left : goal.invariant-loop-left
invariant-loop-left l = record {
  within : l.left ≤ length l.records;
  goes : Goes l.newer l.kept.items (reverse (take l.left l.records)) (reverse l.records);
  ended : map parts_of l.ended.items ≡ ended_lists (reverse (take l.left l.records));
}

abbrev pub decreases-loop-left : goal.decreases-loop-left
decreases-loop-left l = l.left
