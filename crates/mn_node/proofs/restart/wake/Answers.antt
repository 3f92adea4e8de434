use Rattle.std.proofs.Common.{arith}
use Rattle.mn_redo.specs.Grammar.{Stands}
use Rattle.mn_node.specs.Node.{bodies_of, on_disk}
use Rattle.mn_node.proofs.Fronts.{front_same}
use Rattle.mn_node.proofs.Moments.{only_same}
use Rattle.mn_node.proofs.Restarts.{up_made}
use Rattle.mn_node.proofs.Steps.{same_on_disk}
use Rattle.mn_node.proofs.restart.wake.Goals as goal

pub returns-in_err-rebuild-clause-moments : goal.returns-in_err-rebuild-clause-moments
returns-in_err-rebuild-clause-moments g c honest =
    let old = c.args.redo.now in
    only_same (g.D.Disk.state old.disk) (λ l. Stands old.node old.nodes l (bodies_of (on_disk c.args.memory.now))) (g.D.Disk.is_disk old.disk honest) (c.requires.stands honest)

pub returns-in-Ok-clause-up : goal.returns-in-Ok-clause-up
returns-in-Ok-clause-up g c =
    let old = c.args.redo.now in
    let was = c.args.memory.now in
    let m = c.rebuild.new.self in
    let kept = c.rebuild.ensures in
    let made = c.in_ok-rebuild.ensures in
    let started = c.in-Ok.ensures in
    let going = c.start_log.ensures.continues in
    up_made g.D.Disk.state c.start_log.new.redo m old.node old.nodes (on_disk was) going.node going.nodes (same_on_disk was m kept.records kept.cut)
    (front_same was m c.requires.front kept.records kept.cut kept.front) made.memory made.room
    started.started (started.log _ c.requires.log) (started.stands _ c.requires.log) (omega (arith, started.spare_bodies, c.len.ensures)) (omega (arith, started.spare_bytes, c.len.ensures))

pub returns-in-Ok-clause-moments : goal.returns-in-Ok-clause-moments
returns-in-Ok-clause-moments g c honest = c.start_log.ensures.moments _ c.requires.log honest (c.requires.stands honest)

pub returns-in-Err-Fault-clause-moments : goal.returns-in-Err-Fault-clause-moments
returns-in-Err-Fault-clause-moments g c honest = c.start_log.ensures.moments _ c.requires.log honest (c.requires.stands honest)

pub returns-in-Err : goal.returns-in-Err
returns-in-Err g c = record {
  up = tt;
  records = c.rebuild.ensures.records;
  cut = c.rebuild.ensures.cut;
  front = c.rebuild.ensures.front;
  stands = c.start_log.ensures.keeps _ c.requires.log c.requires.stands;
  moments = λ honest. c.start_log.ensures.moments _ c.requires.log honest (c.requires.stands honest);
  rests = c.start_log.ensures.rests;
  continues = c.start_log.ensures.continues;
  same = (c.rebuild.ensures.node, c.rebuild.ensures.nodes);
  cause = tt;
}
