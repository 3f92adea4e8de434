use Rattle.std.proofs.Common.{◌≡◌, ℕ, List, vec_capacity, vec_len}
use Rattle.mn_actors.specs.Sight.{board_of, view_of}
use Rattle.mn_runs.specs.declared.entry.Entry.{Entry}
use Rattle.mn_runs.specs.Protocol.{start_of}
use Rattle.mn_callers.specs.Ended.{HoldsNodes, SameCallers}
use Rattle.mn_callers.proofs.Apart.{IsTaking}
use Rattle.mn_callers.proofs.ending.take_apart.Given as goal

abbrev pub invariant-loop-station : goal.invariant-loop-station
invariant-loop-station g l = record {
  board : board_of l.all ≡ g.N.Named.board;
  taking : (lists : List (List (ℕ × Entry))) × IsTaking g.D.Disk.state g.D.Disk.faults (start_of g.N.Named.records) g.N.Named.faults g.N.Named.honest l.fn.stations.items l.left.items l.nodes.items lists × HoldsNodes (view_of l.all) lists;
  room : vec_capacity l.nodes ≡ vec_capacity l.fn.nodes;
  callers : SameCallers (view_of l.fn.all) (view_of l.all);
}

abbrev pub decreases-loop-station : goal.decreases-loop-station
decreases-loop-station g l = vec_len l.left
