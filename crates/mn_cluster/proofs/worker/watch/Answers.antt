use Rattle.mn_callers.proofs.Hands.{moves_further, moves_nowhere}
use Rattle.mn_callers.proofs.Sweeping.{recovers_more, recovers_not}
use Rattle.mn_cluster.proofs.worker.watch.Goals as goal

pub loop-init : goal.loop-init
loop-init g c = record {
  turn = c.requires.turn;
  goes_on = moves_nowhere g.X.Transport.went g.met.X.Transport.stays _ _;
  desk = c.requires.desk;
  recovers = recovers_not _;
}

pub loop-preserved : goal.loop-preserved
loop-preserved g c = record {
  turn = c.sweep-done.ensures.turn;
  goes_on = moves_further g.X.Transport.went g.met.X.Transport.goes_on _ _ _ _ _ _ c.loop.invariant.goes_on c.sweep-done.ensures.goes_on;
  desk = c.sweep-done.ensures.desk;
  recovers = recovers_more _ _ _ c.loop.invariant.recovers c.sweep-done.ensures.recovers;
}

pub returns-then-heard-clause-goes_on : goal.returns-then-heard-clause-goes_on
returns-then-heard-clause-goes_on g c = moves_further g.X.Transport.went g.met.X.Transport.goes_on _ _ _ _ _ _ c.loop.invariant.goes_on c.sweep-done.ensures.goes_on

pub returns-then-heard-clause-recovers : goal.returns-then-heard-clause-recovers
returns-then-heard-clause-recovers g c = recovers_more _ _ _ c.loop.invariant.recovers c.sweep-done.ensures.recovers
