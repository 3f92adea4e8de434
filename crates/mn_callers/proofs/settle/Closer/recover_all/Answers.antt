use Rattle.std.proofs.Common.{arith}
use Rattle.mn_runs.specs.Protocol.{entries_of}
use Rattle.mn_callers.specs.Settled.{records_at}
use Rattle.mn_callers.proofs.Advancing.{all_done, done_next}
use Rattle.mn_callers.proofs.Closing.{closes_further, closes_nowhere}
use Rattle.mn_callers.proofs.Held.{extends_none, extends_twice}
use Rattle.mn_callers.proofs.Turns.{goes_further, goes_nowhere, got_there}
use Rattle.mn_callers.proofs.settle.Closer.recover_all.Goals as goal

pub loop-tid-init : goal.loop-tid-init
loop-tid-init g c = record {
  closing = c.requires.closing;
  goes_on = goes_nowhere _ _;
  closes = closes_nowhere (entries_of c.args.self.now.list.entries);
  up = c.requires.up;
  extends = λ n. extends_none (records_at c.args.table.now.stations.items n);
  done = λ k t low. absurd (omega arith);
}

pub returns-in_err-recover-clause-goes_on : goal.returns-in_err-recover-clause-goes_on
returns-in_err-recover-clause-goes_on g c = goes_further _ _ _ _ _ _ c.loop-tid.invariant.goes_on c.recover.ensures.goes_on

pub loop-tid-preserved : goal.loop-tid-preserved
loop-tid-preserved g c =
    let r = c.in_ok-recover.ensures in
    let first = c.args.table.now.stations.items in
    let old = c.loop-tid.table.stations.items in
    let new = c.recover.new.table.stations.items in
    record {
      closing = c.recover.ensures.closing;
      goes_on = goes_further _ _ _ _ _ _ c.loop-tid.invariant.goes_on c.recover.ensures.goes_on;
      closes = closes_further _ _ _ c.loop-tid.invariant.closes r.closes;
      up = r.up;
      extends = λ n. extends_twice (records_at first n) (records_at old n) (records_at new n) (c.loop-tid.invariant.extends n) (r.extends n);
      done = done_next _ c.args.tids.now c.loop-tid.tid-index _ (records_at old) (records_at new) r.extends (got_there c.args.tids.now c.loop-tid.tid-index _ (omega arith)) c.loop-tid.invariant.done r.done;
    }

pub returns-clause-done : goal.returns-clause-done
returns-clause-done g c = all_done _ c.args.tids.now c.loop-tid.tid-index (records_at c.loop-tid.table.stations.items) (omega arith) c.loop-tid.invariant.done
