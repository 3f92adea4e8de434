use Rattle.std.proofs.Common.{ℕ, ◌∙◌, ap, arith}
use Rattle.mn_redo.specs.Grammar.{Stands}
use Rattle.mn_node.specs.Node.{bodies_of, listed}
use Rattle.mn_node.proofs.Moments.{only_same}
use Rattle.mn_node.proofs.Restarts.{up_made}
use Rattle.mn_node.proofs.start.ready.Goals as goal

pub returns-in_err-memory-clause-moments : goal.returns-in_err-memory-clause-moments
returns-in_err-memory-clause-moments g c honest =
    let old = c.args.redo.now in
    only_same (g.D.Disk.state old.disk) (λ l. Stands old.node old.nodes l (bodies_of c.args.records.items)) (g.D.Disk.is_disk old.disk honest) (c.requires.stands honest)

pub returns-in_err-start_log-clause-stands : goal.returns-in_err-start_log-clause-stands
returns-in_err-start_log-clause-stands g c = c.start_log.ensures.keeps _ c.requires.log c.requires.stands

pub returns-in_err-start_log-clause-moments : goal.returns-in_err-start_log-clause-moments
returns-in_err-start_log-clause-moments g c = λ h. c.start_log.ensures.moments _ c.requires.log h (c.requires.stands h)

pub returns-clause-stands : goal.returns-clause-stands
returns-clause-stands g c = c.start_log.ensures.keeps _ c.requires.log c.requires.stands

pub returns-clause-moments : goal.returns-clause-moments
returns-clause-moments g c = λ h. c.start_log.ensures.moments _ c.requires.log h (c.requires.stands h)

pub returns-clause-up : goal.returns-clause-up
returns-clause-up g c =
    let old = c.args.redo.now in
    let new = c.start_log.new.redo in
    let m = c.in_ok-memory.memory in
    let made = c.in_ok-memory.ensures in
    let started = c.in_ok-start_log.ensures in
    let going = c.start_log.ensures.continues in
    up_made g.D.Disk.state new m old.node old.nodes c.args.records.items going.node going.nodes (ap (λ (n : ℕ). listed n m.records.items) made.cut ∙ made.records) made.front made.memory made.room
    started.started (started.log _ c.requires.log) (started.stands _ c.requires.log) (omega (arith, started.spare_bodies, c.len.ensures)) (omega (arith, started.spare_bytes, c.len.ensures))
