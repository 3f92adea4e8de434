-- What a reader of a log tells, with one more entry.
use Rattle.std.proofs.Common.{List, ◌∷◌}
use Rattle.mn_runs.specs.declared.entry.Entry.{Entry}
use Rattle.mn_runs.specs.Commits.{committed_by}
use Rattle.mn_serial.specs.History.{Placed}
use Rattle.mn_hist.specs.declared.history.HistoryReader.{HistoryReader}
use Rattle.mn_hist.specs.History.{AreCallerStates, KnowsPlanners, EntryIsInHistory}
use Rattle.mn_hist.specs.Told.{ReaderHasRead, ReaderHasTold}

pub told_more : (old new : HistoryReader) (past : List Entry) (placed : List Placed) (e : Entry) → ReaderHasTold old past placed
    → ReaderHasRead new (e ∷ past) → AreCallerStates new.callers.items (e ∷ past) → KnowsPlanners new.plans (e ∷ past)
    → EntryIsInHistory past e (committed_by past e) placed new.standing new.acts.items
    → (next : List Placed) × ReaderHasTold new (e ∷ past) next
told_more old new past placed e told reading callers plans t = (t.next, record { reading = reading; callers = callers; plans = plans; stands = t.stands; acts = t.are; history = (placed, told.history, t.puts) })
