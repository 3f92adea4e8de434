use Rattle.std.proofs.Common.{List, Err, ap, sym, subst}
use Rattle.mn_mini.specs.declared.record.Record.{Record}
use Rattle.mn_node.specs.State.{AreRecords}
use Rattle.mn_top.proofs.Damages.{unread}
use Rattle.mn_top.proofs.open.open_one.Goals as goal

pub returns-in-Err-clause-bad : goal.returns-in-Err-clause-bad
returns-in-Err-clause-bad g c = c.refused.ensures c.args.disk (record {
  unwritten = record { honest = c.in-Err.ensures.honest_err; writes_nothing = c.in-Err.ensures.unwritten_err; none_new = c.in-Err.ensures.images_err };
  later = c.in-Err.ensures.later_err;
  fault = c.in-Err.ensures.fault;
  damaged = λ h at. c.in-Err.ensures.damaged h at;
  content = λ h at. c.in-Err.ensures.content_damaged h at;
})

pub returns-in-Err-records_of-clause-bad : goal.returns-in-Err-records_of-clause-bad
returns-in-Err-records_of-clause-bad g c =
    let told = unread g.D.Disk.state g.D.Disk.faults c.args.nodes c.args.node.0 c.args.disk c.in-Ok.redo c.in-Err-records_of.cause
    (record { honest = c.in-Ok.ensures.honest_ok; writes_nothing = c.in-Ok.ensures.unwritten_ok; none_new = c.in-Ok.ensures.images_ok })
    c.in-Ok.ensures.going c.in-Ok.ensures.read c.in-Ok.ensures.fresh c.in-Ok.ensures.used c.one_list.ensures (λ at is. c.in-Err-records_of.ensures.damaged at (ap Err is)) (λ is. c.in-Err-records_of.ensures.no_fault (ap Err is)) in
    rw (c.close.ensures.disk, c.due_of_start.ensures) told

pub returns-in-Ok-records_of-clause-read : goal.returns-in-Ok-records_of-clause-read
returns-in-Ok-records_of-clause-read g c =
    let read = c.in-Ok.ensures in record {
      going = read.going;
      node = read.node;
      nodes_are = read.nodes;
      records = subst (λ (l : List Record). AreRecords c.in-Ok.redo.bodies l) (sym c.from_vec.ensures) c.in-Ok-records_of.ensures.records;
      read = read.read;
      stands = λ h. read.stands (read.no_better_ok h);
      unwritten = record { honest = read.honest_ok; writes_nothing = read.unwritten_ok; none_new = read.images_ok };
      later = read.later_ok;
    }
