use Rattle.std.proofs.Common.{map}
use Rattle.std.specs.List.{range_with_len}
use Rattle.mn_runs.specs.Protocol.{start_of}
use Rattle.mn_callers.specs.Stages.{GoesAs, state_of}
use Rattle.mn_callers.specs.Plays.{AreReady, IsPlay}
use Rattle.mn_replay.specs.Schedule.{DoesActs, all_of}
use Rattle.mn_replay.proofs.play.finish.Given as goal

abbrev pub invariant-loop-at : goal.invariant-loop-at
invariant-loop-at g l = record {
  play : IsPlay g.N.Named.board (start_of g.N.Named.records) l.script (state_of l.stage);
  ready : AreReady (start_of g.N.Named.records) l.script l.stage.callers;
  does : GoesAs (DoesActs l.script (map all_of (range_with_len 0 l.at))) (state_of l.fn.stage)
      (state_of l.stage);
}
