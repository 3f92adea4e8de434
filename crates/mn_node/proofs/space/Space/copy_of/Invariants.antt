use Rattle.std.proofs.Common.{◌≡◌, ◌≤◌, ◌-◌}
use Rattle.mn_mini.specs.Flat.{bytes_in}
use Rattle.mn_node.proofs.space.Space.copy_of.Given as goal

-- the bytes so far are copied
abbrev pub invariant-loop-at : goal.invariant-loop-at
invariant-loop-at l = record {
  within : l.at ≤ l.length;
  copied : l.copy.items ≡ bytes_in l.self l.start l.at;
}

abbrev pub decreases-loop-at : goal.decreases-loop-at
decreases-loop-at l = l.length - l.at
