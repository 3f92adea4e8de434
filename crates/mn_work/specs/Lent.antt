-- What a task ends as, once the operation that it lends is back.
use Rattle.std.specs.Borrow.{Fml, Lends, MutBor}
use Rattle.mn_work.specs.contracts.task.Task.{the_row as task_row}
use Rattle.mn_work.specs.contracts.work.Work.{the_row as work_row}
use Rattle.mn_work.specs.declared.work.Work.{Work}

abbrev pub LendsWork : MutBor Work → MutBor Work → Fml
LendsWork task work = Lends task_row work_row task work (λ w. w)
