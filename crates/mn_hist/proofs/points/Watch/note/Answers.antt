use Rattle.mn_hist.proofs.Putting.{on_ok}
use Rattle.mn_hist.proofs.Watched.{watched_none}
use Rattle.mn_hist.proofs.points.Watch.note.Goals as goal

pub returns-in-Some-clause-watches : goal.returns-in-Some-clause-watches
returns-in-Some-clause-watches c = on_ok c.note_own.result c.note_own.ensures.watches (λ more past watches. more past c.in-Some.is watches)

pub returns-in-None-clause-watches : goal.returns-in-None-clause-watches
returns-in-None-clause-watches c = λ past watches. watched_none c.args.self.now c.args.points.now past c.args.entry.now c.in-None.is watches
