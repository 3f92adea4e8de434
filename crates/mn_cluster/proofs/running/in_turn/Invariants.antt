use Rattle.std.specs.List.{range_with_len}
use Rattle.mn_runs.specs.Protocol.{start_of}
use Rattle.mn_callers.specs.Plays.{AreReady, IsPlay}
use Rattle.mn_callers.specs.Stages.{GoesAs, state_of}
use Rattle.mn_cluster.specs.Follows.{TakeTurns}
use Rattle.mn_cluster.specs.Runs.{on_past}
use Rattle.mn_cluster.proofs.running.in_turn.Given as goal

abbrev pub invariant-loop-at : goal.invariant-loop-at
invariant-loop-at g l = record {
  play : IsPlay g.N.Named.board (start_of g.N.Named.records) l.script (state_of l.stage);
  ready : AreReady (start_of g.N.Named.records) l.script l.stage.callers;
  does : GoesAs (on_past (TakeTurns l.script l.mark (range_with_len 0 l.at))) (state_of l.fn.stage) (state_of l.stage);
}
