use Rattle.std.proofs.Common.{◌≡◌, List, length, take}
use Rattle.mn_base.specs.Store.{Store}
use Rattle.mn_serial.specs.History.{Placed}
use Rattle.mn_runs.specs.Protocol.{Start, entries_of}
use Rattle.mn_serial.specs.Meaning.{HistoryIsOne, OpenedRun}
use Rattle.mn_serial.specs.OneHistory.{RunsAreOneHistory, RunsHaveHistory}
use Rattle.mn_hist.specs.Told.{ReaderHasRead, ReaderHasTold}
use Rattle.mn_hist.proofs.history.read_log.Given as goal

-- the entries so far are read, and their history is told
abbrev pub invariant-loop-place : goal.invariant-loop-place
invariant-loop-place l = record {
  reads : ReaderHasRead l.reader (entries_of (take l.place l.log));
  laws : RunsHaveHistory × HistoryIsOne;
  one : RunsAreOneHistory;
  long : length (entries_of (take l.place l.log)) ≡ l.place;
  tells : (start : Start) (store : Store) → OpenedRun start store (entries_of (take l.place l.log)) → (placed : List Placed) × ReaderHasTold l.reader (entries_of (take l.place l.log)) placed;
}
