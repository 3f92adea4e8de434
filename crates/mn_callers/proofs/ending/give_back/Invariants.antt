use Rattle.std.proofs.Common.{◌≡◌, ◌≤◌, ◌+◌, ◌++◌, map, reverse, vec_capacity, vec_len}
use Rattle.mn_actors.specs.Sight.{board_of, view_of}
use Rattle.mn_callers.specs.Ended.{AreMadeFromLast, OwnsNodes, SameCallers}
use Rattle.mn_callers.proofs.ending.give_back.Given as goal

abbrev pub invariant-loop-station : goal.invariant-loop-station
invariant-loop-station g l = record {
  board : board_of l.all ≡ g.N.Named.board;
  nodes : l.nodes.items ++ reverse (map (λ s. s.node) l.left.items) ≡ l.fn.nodes.items ++ reverse (map (λ s. s.node) l.fn.stations.items);
  count : vec_len l.nodes + vec_len l.left ≡ vec_len l.fn.nodes + vec_len l.fn.stations;
  room : vec_len l.nodes + vec_len l.left ≤ vec_capacity l.nodes;
  numbers : AreMadeFromLast (vec_len l.fn.nodes + vec_len l.fn.stations) l.left.items;
  owns : OwnsNodes (vec_len l.nodes) (view_of l.all);
  callers : SameCallers (view_of l.fn.all) (view_of l.all);
}

abbrev pub decreases-loop-station : goal.decreases-loop-station
decreases-loop-station g l = vec_len l.left
