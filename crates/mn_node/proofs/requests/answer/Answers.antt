use Rattle.std.proofs.Common.{sym, subst}
use Rattle.mn_mini.specs.declared.request.Request.{Request}
use Rattle.mn_node.specs.Node.{CrashLeavesOnly, IsUpToWithOrWithout, node_answer}
use Rattle.mn_node.proofs.requests.answer.Goals as goal

pub returns-in-Prepare-clause-moments : goal.returns-in-Prepare-clause-moments
returns-in-Prepare-clause-moments g c =
    let m = c.args.memory.now in
    let old = c.args.redo.now in
    subst (λ (r : Request). CrashLeavesOnly g.D.Disk.state old.disk c.prepare.new.redo.disk (IsUpToWithOrWithout old.node old.nodes m.records.items (node_answer m r).added)) (sym c.in-Prepare.is) c.prepare.ensures.moments

pub returns-in-Exec-clause-moments : goal.returns-in-Exec-clause-moments
returns-in-Exec-clause-moments g c =
    let m = c.args.memory.now in
    let old = c.args.redo.now in
    subst (λ (r : Request). CrashLeavesOnly g.D.Disk.state old.disk c.exec.new.redo.disk (IsUpToWithOrWithout old.node old.nodes m.records.items (node_answer m r).added)) (sym c.in-Exec.is) c.exec.ensures.moments

pub returns-in-Decide-clause-moments : goal.returns-in-Decide-clause-moments
returns-in-Decide-clause-moments g c =
    let m = c.args.memory.now in
    let old = c.args.redo.now in
    subst (λ (r : Request). CrashLeavesOnly g.D.Disk.state old.disk c.decide.new.redo.disk (IsUpToWithOrWithout old.node old.nodes m.records.items (node_answer m r).added)) (sym c.in-Decide.is) c.decide.ensures.moments

pub returns-in-Force-clause-moments : goal.returns-in-Force-clause-moments
returns-in-Force-clause-moments g c =
    let m = c.args.memory.now in
    let old = c.args.redo.now in
    subst (λ (r : Request). CrashLeavesOnly g.D.Disk.state old.disk c.force.new.redo.disk (IsUpToWithOrWithout old.node old.nodes m.records.items (node_answer m r).added)) (sym c.in-Force.is) c.force.ensures.moments
