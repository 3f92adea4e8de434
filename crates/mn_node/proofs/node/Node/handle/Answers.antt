use Rattle.std.proofs.Common.{reverse}
use Rattle.mn_page.specs.Base.{base_of}
use Rattle.mn_node.proofs.Apart.{node_replied, node_stopped}
use Rattle.mn_node.proofs.Fitting.{no_peek, reply_fits}
use Rattle.mn_node.proofs.Moments.{request_moments}
use Rattle.mn_node.proofs.Replies.{replied}
use Rattle.mn_node.proofs.node.Node.handle.Goals as goal

pub returns-in-Replied-clause-answers : goal.returns-in-Replied-clause-answers
returns-in-Replied-clause-answers g c =
    let n = c.self.inside in
    rw (← c.self.view_is) (replied g.D.Disk.state g.D.Disk.faults n.redo.value c.answer.new.redo n.memory c.answer.new.memory n.is_down n.pending n.cutting c.args.request.now c.args.stop c.in-Replied.reply c.if-self.false c.self.invariant.node c.self.invariant.nodes c.in-Replied.ensures.handled)

pub invariant_of-self : goal.invariant_of-self
invariant_of-self g c =
    let n = c.self.inside in
    let continues = rw c.deref_mut.ensures.value at c.in-Replied.ensures.continues in
    node_replied g.D.Disk.state g.D.Disk.faults n.redo.value c.answer.new.redo n.memory c.answer.new.memory n.is_down n.pending n.cutting c.args.request.now c.args.stop c.in-Replied.reply c.held_parts_apart.ensures c.self.invariant c.if-self.false continues c.in-Replied.ensures.same c.in-Replied.ensures.handled

pub invariant_of-self-in-Stopped : goal.invariant_of-self-in-Stopped
invariant_of-self-in-Stopped g c =
    let n = c.self.inside in
    let continues = rw c.deref_mut.ensures.value at c.in-Stopped.ensures.continues in
    let handled = rw c.deref_mut.ensures.value at c.in-Stopped.ensures.handled in
    node_stopped g.D.Disk.state g.D.Disk.faults n.redo.value c.answer.new.redo n.memory c.answer.new.memory n.is_down n.pending n.cutting c.in-Stopped.cutting c.args.request.now c.args.stop c.in-Stopped.left c.held_parts_apart.ensures c.requires.sound c.self.invariant continues c.in-Stopped.ensures.same handled

pub returns-in-Replied-clause-moments : goal.returns-in-Replied-clause-moments
returns-in-Replied-clause-moments g c =
    let n = c.self.inside in
    let moments = rw c.deref_mut.ensures.value at c.answer.ensures.moments in
    rw (← c.self.view_is) (λ _. request_moments g.D.Disk.state n.redo.value c.answer.new.redo n.memory n.is_down n.pending n.cutting c.args.request.now (c.self.invariant.up c.if-self.false) c.self.invariant.node c.self.invariant.nodes (g.D.Disk.is_disk n.redo.value.disk) moments)

pub returns-in-Stopped-clause-moments : goal.returns-in-Stopped-clause-moments
returns-in-Stopped-clause-moments g c =
    let n = c.self.inside in
    let moments = rw c.deref_mut.ensures.value at c.answer.ensures.moments in
    rw (← c.self.view_is) (λ _. request_moments g.D.Disk.state n.redo.value c.answer.new.redo n.memory n.is_down n.pending n.cutting c.args.request.now (c.self.invariant.up c.if-self.false) c.self.invariant.node c.self.invariant.nodes (g.D.Disk.is_disk n.redo.value.disk) moments)

pub returns-in-Replied-clause-fits : goal.returns-in-Replied-clause-fits
returns-in-Replied-clause-fits g c =
    let m = c.self.inside.memory in
    reply_fits g.D.Disk.state m c.answer.new.memory c.args.request.now c.args.stop c.in-Replied.reply c.answer.new.redo c.answers_fit.ensures.fits c.answers_fit.ensures.size (c.self.invariant.up c.if-self.false).memory c.requires.sound c.in-Replied.ensures.handled

pub returns-in-Stopped-clause-fits : goal.returns-in-Stopped-clause-fits
returns-in-Stopped-clause-fits g c =
    let m = c.self.inside.memory in
    no_peek (base_of m.nodes m.node) (reverse m.records.items) c.args.request.now c.in-Stopped.left c.in-Stopped.ensures.handled.1
