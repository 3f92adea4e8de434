use Rattle.mn_top.proofs.Checking.{opening_plays}
use Rattle.mn_top.proofs.play.play.Goals as goal

pub returns-in-Err-clause-comes_to : goal.returns-in-Err-clause-comes_to
returns-in-Err-clause-comes_to g c = rw (c.without_log.ensures.due, c.without_log.ensures.disks, c.without_log.ensures.log)
    (opening_plays g.D.Disk.state g.D.Disk.faults c.args.disks.items c.in-Err.field-0.disks.items c.args.command c.args.script.now c.in-Err.field-0.due c.in-Err.ensures.failed.unwritten c.in-Err.ensures.failed.due_is)
