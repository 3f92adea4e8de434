use Rattle.std.proofs.Common.{take}
use Rattle.mn_runs.specs.Protocol.{entries_of}
use Rattle.mn_hist.specs.Watching.{IsWatchOf, TellsPointsMet}
use Rattle.mn_hist.proofs.points.points_met.Given as goal

-- the points that the entries so far met are told
abbrev pub invariant-loop-place : goal.invariant-loop-place
invariant-loop-place l = record {
  is : IsWatchOf l.watch l.points;
  watches : TellsPointsMet l.watch l.points (entries_of (take l.place l.log));
}
