-- What a reader of a log has read, and the history that it tells.
use Rattle.std.specs.Prelude.{◌≡◌, List, length}
use Rattle.mn_runs.specs.declared.entry.Entry.{Entry}
use Rattle.mn_commits.specs.CommitReader.{HasRead}
use Rattle.mn_serial.specs.History.{Placed, IsHistory}
use Rattle.mn_hist.specs.declared.history.HistoryReader.{HistoryReader}
use Rattle.mn_hist.specs.History.{AreCallerStates, KnowsPlanners, StandsInSet, AreActsOf}
use Rattle.mn_hist.specs.Saying.{TellsAnswers}

-- these entries are what the reader has read
pub record ReaderHasRead (reader : HistoryReader) (past : List Entry) : Type 0 where
  pub commits : HasRead reader.commits past
  pub long : length reader.callers.items ≡ 256
  pub said : TellsAnswers reader.said past

-- and this is their history
pub record ReaderHasTold (reader : HistoryReader) (past : List Entry) (placed : List Placed)
    : Type 0 where
  pub reading : ReaderHasRead reader past
  pub callers : AreCallerStates reader.callers.items past
  pub plans : KnowsPlanners reader.plans past
  pub stands : StandsInSet reader.standing placed
  pub acts : AreActsOf reader.acts.items placed
  pub history : IsHistory past placed
