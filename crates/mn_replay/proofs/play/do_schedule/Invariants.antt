use Rattle.std.proofs.Common.{take}
use Rattle.mn_runs.specs.Protocol.{start_of}
use Rattle.mn_callers.specs.Stages.{GoesAs, state_of}
use Rattle.mn_callers.specs.Plays.{AreReady, IsPlay}
use Rattle.mn_replay.specs.Schedule.{DoesActs}
use Rattle.mn_replay.proofs.play.do_schedule.Given as goal

abbrev pub invariant-loop-act : goal.invariant-loop-act
invariant-loop-act g l = record {
  play : IsPlay g.N.Named.board (start_of g.N.Named.records) l.script (state_of l.stage);
  ready : AreReady (start_of g.N.Named.records) l.script l.stage.callers;
  does : GoesAs (DoesActs l.script (take l.act-index l.act-items)) (state_of l.fn.stage)
      (state_of l.stage);
}
