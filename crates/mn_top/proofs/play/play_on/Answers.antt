use Rattle.std.proofs.Common.{◌++◌, ◌∙◌, map, ap}
use Rattle.mn_callers.specs.Trace.{start_on}
use Rattle.mn_top.proofs.Playing.{failed, played}
use Rattle.mn_top.proofs.play.play_on.Goals as goal

pub returns-in-Ok-clause-comes_to : goal.returns-in-Ok-clause-comes_to
returns-in-Ok-clause-comes_to g c = λ given records shown ready.
    let nodes = c.args.started.nodes.items in
    let trace = c.in-Ok.ensures.trace in
    played g.D.Disk.state g.D.Disk.faults given records nodes ready shown c.in-Ok.field-0.nodes.items c.close_nodes.result.items c.args.command c.args.script.now trace.count c.close_nodes.ensures.closed
    (c.close_nodes.ensures.disks ∙ ap (λ l. l ++ map (λ n. n.disk) c.in-Ok.field-0.nodes.items) c.requires.empty) c.args.judged.now.store c.args.judged.now.run c.requires.start (record { follow = c.runs_follow_protocol.ensures; leave = c.stops_leave_opened.ensures; one = c.runs_are_one_history.ensures })
    c.undisturbed_is_answered.ensures c.in-Ok.field-0.log c.due_of_trace.result trace c.in-Ok.ensures.follows
    (c.due_of_trace.ensures (start_on nodes) (record { opened = c.requires.start.opened; run = trace.run.run }) (trace.quiet c.requires.start.opened.sound).1)

pub returns-in-Err-clause-comes_to : goal.returns-in-Err-clause-comes_to
returns-in-Err-clause-comes_to g c = λ given records shown ready.
    let nodes = c.args.started.nodes.items in
    let fails = c.in-Err.ensures.failed in
    rw c.due_of_cause.ensures
    (failed g.D.Disk.state g.D.Disk.faults given records nodes ready shown c.in-Err.field-0.nodes.items c.close_nodes-in-Err.result.items c.args.command c.args.script.now fails.count c.close_nodes-in-Err.ensures.closed
    (c.close_nodes-in-Err.ensures.disks ∙ ap (λ l. l ++ map (λ n. n.disk) c.in-Err.field-0.nodes.items) c.requires.empty) c.args.judged.now.store c.args.judged.now.run c.requires.start (record { follow = c.runs_follow_protocol.ensures; leave = c.stops_leave_opened.ensures; one = c.runs_are_one_history.ensures })
    c.in-Err.field-0.log c.in-Err.field-0.cause fails c.in-Err.ensures.damaged)
