use Rattle.std.proofs.Common.{◌≡◌, ◌++◌, length, map, reverse, vec_capacity, vec_len}
use Rattle.mn_actors.specs.Sight.{board_of, view_of}
use Rattle.mn_callers.specs.Begins.{AreBare, HoldsEmpty}
use Rattle.mn_callers.specs.Ended.{AreMadeFromLast, SameCallers}
use Rattle.mn_callers.proofs.staging.stations_of.Given as goal

abbrev pub invariant-loop-node : goal.invariant-loop-node
invariant-loop-node g l = record {
  board : board_of l.all ≡ g.N.Named.board;
  nodes : l.nodes.items ++ reverse (map (λ s. s.node) l.stations.items) ≡ l.fn.nodes.items;
  room : vec_capacity l.nodes ≡ vec_capacity l.fn.nodes;
  stations_room : vec_capacity l.stations ≡ vec_len l.fn.nodes;
  numbers : AreMadeFromLast (length g.N.Named.records) l.stations.items;
  bare : AreBare l.stations.items;
  holds : HoldsEmpty (vec_len l.nodes) (view_of l.all);
  callers : SameCallers (view_of l.fn.all) (view_of l.all);
}

abbrev pub decreases-loop-node : goal.decreases-loop-node
decreases-loop-node g l = vec_len l.nodes
