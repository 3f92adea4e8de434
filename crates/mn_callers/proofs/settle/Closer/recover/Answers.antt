use Rattle.std.proofs.Common.{◌∙◌}
use Rattle.mn_runs.specs.Protocol.{start_of, entries_of}
use Rattle.mn_callers.specs.Settled.{records_at}
use Rattle.mn_callers.proofs.Advancing.{begins, over_done}
use Rattle.mn_callers.proofs.Closing.{closes_further, closes_nowhere}
use Rattle.mn_callers.proofs.Held.{extends_none, extends_twice}
use Rattle.mn_callers.proofs.Turns.{goes_further, goes_nowhere}
use Rattle.mn_callers.proofs.settle.Closer.recover.Goals as goal

pub returns-in_default-clause-goes_on : goal.returns-in_default-clause-goes_on
returns-in_default-clause-goes_on g c = goes_nowhere _ _

pub loop-node-init : goal.loop-node-init
loop-node-init g c =
    let start = start_of g.N.Named.records in
    let tid = c.args.tid in
    let old = c.args.self.now.list in
    let table = c.args.table.now.stations.items in
    let first = begins start old tid c.nodes.result c.in-Ok.work (records_at table) c.nodes.ensures.count (c.requires.closing.list.free tid) c.in-Ok.ensures in
    record {
      closing = c.requires.closing;
      goes_on = goes_nowhere _ _;
      closes = closes_nowhere (entries_of old.entries);
      up = c.requires.up;
      extends = λ n. extends_none (records_at table n);
      tid = first.0;
      work = first.1;
      done = first.2;
    }

pub loop-node-preserved : goal.loop-node-preserved
loop-node-preserved g c =
    let r = c.in_ok-advance.ensures in
    let first = c.args.table.now.stations.items in
    let old = c.loop-node.table.stations.items in
    let new = c.advance.new.table.stations.items in
    record {
      closing = c.advance.ensures.closing;
      goes_on = goes_further _ _ _ _ _ _ c.loop-node.invariant.goes_on c.advance.ensures.goes_on;
      closes = closes_further _ _ _ c.loop-node.invariant.closes r.closes;
      up = r.up;
      extends = λ n. extends_twice (records_at first n) (records_at old n) (records_at new n) (c.loop-node.invariant.extends n) (r.extends n);
      tid = c.advance.ensures.tid ∙ c.loop-node.invariant.tid;
      work = r.work;
      done = r.done;
    }

pub returns-in_err-advance-clause-goes_on : goal.returns-in_err-advance-clause-goes_on
returns-in_err-advance-clause-goes_on g c = goes_further _ _ _ _ _ _ c.loop-node.invariant.goes_on c.advance.ensures.goes_on

pub returns-clause-done : goal.returns-clause-done
returns-clause-done g c =
    let r = c.loop-node.work in
    over_done _ r c.args.tid (records_at c.loop-node.table.stations.items) c.in_default-next.field-0 c.loop-node.invariant.work.1 c.loop-node.invariant.tid c.in_default-next.ensures.step c.loop-node.invariant.done
