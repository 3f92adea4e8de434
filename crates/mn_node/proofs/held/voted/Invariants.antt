use Rattle.std.proofs.Common.{◌≡◌, ◌≤◌, length, reverse, take}
use Rattle.mn_mini.specs.Node.{has_voted}
use Rattle.mn_node.proofs.held.voted.Given as goal

abbrev pub invariant-loop-left : goal.invariant-loop-left
invariant-loop-left l = record {
  within : l.left ≤ length l.records;
  same : has_voted (reverse (take l.left l.records)) l.tid ≡ has_voted (reverse l.records) l.tid;
}

abbrev pub decreases-loop-left : goal.decreases-loop-left
decreases-loop-left l = l.left
