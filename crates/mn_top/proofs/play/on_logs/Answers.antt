use Rattle.std.proofs.Common.{List, ◌++◌, ◌∙◌, map, reverse, ap, sym, subst, append-nil}
use Rattle.mn_mini.specs.declared.record.Record.{Record}
use Rattle.mn_top.specs.Logs.{AreJudged, MakeStart}
use Rattle.mn_top.specs.declared.due.Due.{Due}
use Rattle.mn_top.proofs.OnLogs.{may_begin, may_start, misfit, not_started, ready, shown}
use Rattle.mn_top.proofs.Playing.{records_same}
use Rattle.mn_top.proofs.ReadLogs.{closed_unwritten}
use Rattle.mn_top.proofs.play.on_logs.Goals as goal

pub returns-in-Err-clause-comes_to : goal.returns-in-Err-clause-comes_to
returns-in-Err-clause-comes_to g c = λ given all.
    let state = g.D.Disk.state in
    let faults = g.D.Disk.faults in
    let redos = c.args.logs.redos.items in
    let records = c.args.logs.records.items in
    let left = c.without_log.result.disks.items in
    let closed = c.without_log.ensures.disks ∙ c.close_all.ensures ∙ ap (λ l. map (λ r. r.disk) redos ++ reverse l) c.requires.empty ∙ append-nil (map (λ r. r.disk) redos) in
    misfit state faults given redos records all c.args.command c.args.script.now left c.without_log.result.log c.without_log.result.due (closed_unwritten state faults g.D.Disk.is_disk given redos records all.are left closed) c.without_log.ensures.log
    (subst (λ (d : Due). AreJudged records d) (sym c.without_log.ensures.due) (subst (λ (l : List (List Record)). AreJudged l c.in-Err.due) c.deref.ensures.value c.in-Err.ensures.refused))

pub start_all-requires-clause-may : goal.start_all-requires-clause-may
start_all-requires-clause-may g c =
    let made = subst (λ (l : List (List Record)). MakeStart l c.in-Ok.judged.store c.in-Ok.judged.run) c.deref.ensures.value c.in-Ok.ensures.start in
    may_start g.D.Disk.state g.D.Disk.faults c.requires.read.0 c.args.logs.redos.items c.args.logs.records.items c.requires.read.1 c.requires.some made.opened.sound

pub play_on-requires-clause-nodes : goal.play_on-requires-clause-nodes
play_on-requires-clause-nodes g c = λ _ _.
    may_begin g.D.Disk.state g.D.Disk.faults c.requires.read.0 c.args.logs.redos.items c.args.logs.records.items c.requires.read.1 c.in-Ok-start_all.started.nodes.items c.in-Ok-start_all.ensures.started c.in-Ok-start_all.ensures.all
    c.args.script.now.nodes c.requires.nodes

pub play_on-requires-clause-start : goal.play_on-requires-clause-start
play_on-requires-clause-start g c = λ _ _.
    let state = g.D.Disk.state in
    let faults = g.D.Disk.faults in
    let given = c.requires.read.0 in
    let records = c.args.logs.records.items in
    let nodes = c.in-Ok-start_all.started.nodes.items in
    let made = subst (λ (l : List (List Record)). MakeStart l c.in-Ok.judged.store c.in-Ok.judged.run) c.deref.ensures.value c.in-Ok.ensures.start in
    let are = ready state faults given c.args.logs.redos.items records c.requires.read.1 nodes c.in-Ok-start_all.ensures.started c.in-Ok-start_all.ensures.all in
    subst (λ (l : List (List Record)). MakeStart l c.in-Ok.judged.store c.in-Ok.judged.run) (sym (records_same state faults given records nodes are)) made

pub returns-in-Ok-start_all-clause-comes_to : goal.returns-in-Ok-start_all-clause-comes_to
returns-in-Ok-start_all-clause-comes_to g c = λ given all.
    let state = g.D.Disk.state in
    let faults = g.D.Disk.faults in
    let redos = c.args.logs.redos.items in
    let records = c.args.logs.records.items in
    c.play_on.ensures.comes_to given records (shown state faults given redos records all)
    (ready state faults given redos records all c.in-Ok-start_all.started.nodes.items c.in-Ok-start_all.ensures.started c.in-Ok-start_all.ensures.all)

pub returns-clause-comes_to : goal.returns-clause-comes_to
returns-clause-comes_to g c = λ given all.
    let made = subst (λ (l : List (List Record)). MakeStart l c.in-Ok.judged.store c.in-Ok.judged.run) c.deref.ensures.value c.in-Ok.ensures.start in
    let failed = c.in-Err-start_all.field-0 in
    rw (c.without_log-in-Err-start_all.ensures.due, c.without_log-in-Err-start_all.ensures.disks, c.without_log-in-Err-start_all.ensures.log)
    (not_started g.D.Disk.state g.D.Disk.faults given c.args.logs.redos.items c.args.logs.records.items all (record { follow = c.runs_follow_protocol.ensures; leave = c.stops_leave_opened.ensures; one = c.runs_are_one_history.ensures })
    c.args.command c.args.script.now failed.disks.items failed.due c.in-Err-start_all.ensures.failed c.in-Ok.judged.store c.in-Ok.judged.run made)
