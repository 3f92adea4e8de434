use Rattle.mn_callers.proofs.Hands.{moves_further, moves_nowhere}
use Rattle.mn_callers.proofs.Sweeping.{desk_restarts, recovers_more, recovers_not, restart_recovers}
use Rattle.mn_callers.proofs.desk.Desk.restart_all.Goals as goal

pub loop-number-init : goal.loop-number-init
loop-number-init g c = record {
  turn = c.requires.turn;
  goes_on = moves_nowhere g.X.Transport.went g.met.X.Transport.stays _ _;
  desk = c.requires.desk;
  idle = c.requires.idle;
  recovers = recovers_not _;
}

pub loop-number-preserved : goal.loop-number-preserved
loop-number-preserved g c = record {
  turn = c.start_again-done.ensures.turn;
  goes_on = moves_further g.X.Transport.went g.met.X.Transport.goes_on _ _ _ _ _ _ c.loop-number.invariant.goes_on c.start_again-done.ensures.goes_on;
  desk = desk_restarts g.X.Transport.start _ c.loop-number.self c.start_again-done.new.list c.start_again-done.ensures.restarts c.loop-number.invariant.idle c.loop-number.invariant.desk;
  idle = c.loop-number.invariant.idle;
  recovers = recovers_more _ _ _ c.loop-number.invariant.recovers (restart_recovers _ c.loop-number.self.list c.start_again-done.new.list c.start_again-done.ensures.restarts);
}
