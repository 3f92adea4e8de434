use Rattle.std.proofs.Common.{◌≡◌, ◌≤◌, ◌-◌, ◌++◌, take, drop, vec_len}
use Rattle.mn_mini.specs.Node.{with_doubt}
use Rattle.mn_node.proofs.list.place.Given as goal

-- it stands before none of the first
abbrev pub invariant-loop-at : goal.invariant-loop-at
invariant-loop-at l = record {
  within : l.at ≤ vec_len l.doubts;
  past : with_doubt l.doubt l.doubts.items ≡ take l.at l.doubts.items ++ with_doubt l.doubt (drop l.at l.doubts.items);
}

abbrev pub decreases-loop-at : goal.decreases-loop-at
decreases-loop-at l = vec_len l.doubts - l.at
