use Rattle.std.proofs.Common.{List, ◌++◌, ◌∙◌, map, reverse, ap, sym, subst, append-nil}
use Rattle.mn_mini.specs.declared.record.Record.{Record}
use Rattle.mn_top.specs.Logs.{AreTold}
use Rattle.mn_top.specs.declared.due.Due.{Due}
use Rattle.mn_top.proofs.Checking.{opening_checks, records_check}
use Rattle.mn_top.proofs.ReadLogs.{closed_unwritten}
use Rattle.mn_top.proofs.check.check_disks.Goals as goal

pub returns-in-Ok-clause-unwritten : goal.returns-in-Ok-clause-unwritten
returns-in-Ok-clause-unwritten g c =
    let redos = c.in-Ok.logs.redos.items in
    let closed = c.without_log.ensures.disks ∙ c.close_all.ensures ∙ ap (λ l. map (λ r. r.disk) redos ++ reverse l) c.in-Ok.ensures.room.0 ∙ append-nil (map (λ r. r.disk) redos) in
    closed_unwritten g.D.Disk.state g.D.Disk.faults g.D.Disk.is_disk c.args.disks.items redos c.in-Ok.logs.records.items c.in-Ok.ensures.read.are c.without_log.result.disks.items closed

pub returns-in-Ok-clause-due : goal.returns-in-Ok-clause-due
returns-in-Ok-clause-due g c =
    records_check g.D.Disk.state g.D.Disk.faults c.args.disks.items c.without_log.result.disks.items c.in-Ok.logs.redos.items c.in-Ok.logs.records.items c.in-Ok.ensures.read c.without_log.result.due
    (subst (λ (d : Due). AreTold c.in-Ok.logs.records.items d) (sym c.without_log.ensures.due) (subst (λ (l : List (List Record)). AreTold l c.due_of_records-due.result) c.deref.ensures.value c.due_of_records-due.ensures))

pub returns-in-Err-clause-due : goal.returns-in-Err-clause-due
returns-in-Err-clause-due g c = rw (c.without_log-in-Err.ensures.due, c.without_log-in-Err.ensures.disks)
    (opening_checks g.D.Disk.state g.D.Disk.faults c.args.disks.items c.in-Err.field-0.disks.items c.in-Err.field-0.due c.in-Err.ensures.failed.due_is)
