use Rattle.std.proofs.Common.{arith}
use Rattle.mn_runs.specs.Protocol.{entries_of}
use Rattle.mn_cell.specs.Calls.{numbered}
use Rattle.mn_callers.proofs.ClientSteps.{on_error}
use Rattle.mn_callers.proofs.Closing.{all_are_up, all_up, closes_further, closes_kept, closes_nowhere, up_more, up_not_down}
use Rattle.mn_callers.proofs.Turns.{goes_further, goes_nowhere}
use Rattle.mn_callers.proofs.settle.Closer.restart_all.Goals as goal

pub loop-number-init : goal.loop-number-init
loop-number-init g c = record {
  closing = c.requires.closing;
  goes_on = goes_nowhere _ _;
  closes = closes_nowhere (entries_of c.args.self.now.list.entries);
  still = λ up. up;
  up = λ k low. absurd (omega arith);
}

pub returns-in_err-restart-clause-goes_on : goal.returns-in_err-restart-clause-goes_on
returns-in_err-restart-clause-goes_on g c = goes_further _ _ _ _ _ _ c.loop-number.invariant.goes_on c.restart.ensures.goes_on

pub loop-number-preserved : goal.loop-number-preserved
loop-number-preserved g c = record {
  closing = c.restart.ensures.closing;
  goes_on = goes_further _ _ _ _ _ _ c.loop-number.invariant.goes_on c.restart.ensures.goes_on;
  closes = closes_further _ _ _ c.loop-number.invariant.closes c.in_ok-restart.ensures.closes;
  still = λ up. all_up c.loop-number.table.stations.items c.restart.new.table.stations.items (numbered c.loop-number.number) (c.loop-number.invariant.still up) c.restart.ensures.others c.in_ok-restart.ensures.up;
  up = up_more c.loop-number.table.stations.items c.restart.new.table.stations.items c.loop-number.number c.loop-number.invariant.up c.restart.ensures.others c.in_ok-restart.ensures.up;
}

pub returns-clause-up : goal.returns-clause-up
returns-clause-up g c = all_are_up _ c.loop-number.table.stations.items c.loop-number.number c.loop-number.invariant.closing.turn.ready.stations (omega arith) c.loop-number.invariant.up

pub returns-in_err-restart-clause-closes_failed : goal.returns-in_err-restart-clause-closes_failed
returns-in_err-restart-clause-closes_failed g c =
    on_error c.from_residual.result _ (closes_kept _ c.loop-number.self.list c.restart.new.self.list c.in_err-restart.ensures.none c.loop-number.invariant.closes)

pub returns-in_err-restart-clause-some_down : goal.returns-in_err-restart-clause-some_down
returns-in_err-restart-clause-some_down g c =
    on_error c.from_residual.result _ (λ up.
    up_not_down _ c.loop-number.table.stations.items (numbered c.loop-number.number) c.loop-number.invariant.closing.turn.ready.stations (omega arith) (c.loop-number.invariant.still up) c.in_err-restart.ensures.was_down)
