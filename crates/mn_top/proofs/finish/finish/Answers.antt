use Rattle.std.proofs.Common.{inr}
use Rattle.mn_top.proofs.Calls.{is_line}
use Rattle.mn_top.proofs.finish.finish.Goals as goal

pub returns-in-Err : goal.returns-in-Err
returns-in-Err g c = inr (is_line c.args.due.now c.in_default.not-Report, c.tell_no_memory.ensures)
