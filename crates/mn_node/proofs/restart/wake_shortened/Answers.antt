use Rattle.std.proofs.Common.{◌≡◌, ◌∙◌, ℕ, List, length, ap, sym, subst, arith}
use Rattle.mn_redo.specs.Grammar.{Stands}
use Rattle.mn_mini.specs.Short.{short}
use Rattle.mn_mini.specs.declared.record.Record.{Record}
use Rattle.mn_node.specs.declared.held.Vote.{Vote}
use Rattle.mn_node.specs.Held.{AreHeldVotes}
use Rattle.mn_node.specs.Node.{bodies_of, listed}
use Rattle.mn_node.proofs.Fronts.{front_all}
use Rattle.mn_node.proofs.Listed.{listed_all}
use Rattle.mn_node.proofs.Moments.{only_same}
use Rattle.mn_node.proofs.Restarts.{up_made}
use Rattle.mn_node.proofs.restart.wake_shortened.Goals as goal

pub returns-in_err-rebuild-clause-moments : goal.returns-in_err-rebuild-clause-moments
returns-in_err-rebuild-clause-moments g c honest =
    let old = c.args.redo.now in
    only_same (g.D.Disk.state old.disk) (λ l. Stands old.node old.nodes l (bodies_of (short c.args.memory.now.records.items))) (g.D.Disk.is_disk old.disk honest) (c.requires.stands honest)

pub returns-in_err-held-clause-moments : goal.returns-in_err-held-clause-moments
returns-in_err-held-clause-moments g c honest =
    let old = c.args.redo.now in
    only_same (g.D.Disk.state old.disk) (λ l. Stands old.node old.nodes l (bodies_of (short c.args.memory.now.records.items))) (g.D.Disk.is_disk old.disk honest) (c.requires.stands honest)

pub returns-in-Ok-clause-up : goal.returns-in-Ok-clause-up
returns-in-Ok-clause-up g c =
    let old = c.args.redo.now in
    let m = c.rebuild.new.self in
    let kept = c.rebuild.ensures in
    let made = c.in_ok-rebuild.ensures in
    let started = c.in-Ok.ensures in
    let going = c.start_log.ensures.continues in
    let all : c.len-memory.result ≡ length m.records.items = c.len-memory.ensures ∙ omega (arith, m.records.ok.0) in
    let list = ap (λ (n : ℕ). listed n m.records.items) all ∙ listed_all m.records.items ∙ ap short kept.records in
    let held = subst (λ (l : List Vote). AreHeldVotes m.records.items l) (sym (c.in_ok-held.ensures ∙ c.deref.ensures.value)) made.memory.held_are in
    let front = front_all m.records.items c.len-memory.result _ all (c.requires.list ∙ ap short (sym kept.records)) held in
    up_made g.D.Disk.state c.start_log.new.redo _ old.node old.nodes (short c.args.memory.now.records.items) going.node going.nodes list front made.memory made.room
    started.started (started.log _ c.requires.log) (started.stands _ c.requires.log) (omega (arith, started.spare_bodies, c.len.ensures)) (omega (arith, started.spare_bytes, c.len.ensures))

pub returns-in-Ok-clause-cut : goal.returns-in-Ok-clause-cut
returns-in-Ok-clause-cut g c =
    let m = c.rebuild.new.self in
    c.len-memory.ensures ∙ omega (arith, m.records.ok.0) ∙ ap (λ (l : List Record). length l) c.rebuild.ensures.records

pub returns-in-Ok-clause-moments : goal.returns-in-Ok-clause-moments
returns-in-Ok-clause-moments g c honest = c.start_log.ensures.moments _ c.requires.log honest (c.requires.stands honest)

pub returns-in-Err-Fault-clause-moments : goal.returns-in-Err-Fault-clause-moments
returns-in-Err-Fault-clause-moments g c honest = c.start_log.ensures.moments _ c.requires.log honest (c.requires.stands honest)

pub returns : goal.returns
returns g c = record {
  up = tt;
  records = c.rebuild.ensures.records;
  cut = tt;
  before = c.rebuild.ensures.cut;
  front = c.rebuild.ensures.front;
  stands = c.start_log.ensures.keeps _ c.requires.log c.requires.stands;
  moments = λ honest. c.start_log.ensures.moments _ c.requires.log honest (c.requires.stands honest);
  rests = c.start_log.ensures.rests;
  continues = c.start_log.ensures.continues;
  same = (c.rebuild.ensures.node, c.rebuild.ensures.nodes);
  cause = tt;
}
