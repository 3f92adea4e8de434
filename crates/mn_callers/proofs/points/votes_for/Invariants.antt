use Rattle.std.proofs.Common.{◌≡◌, ◌≤◌, take}
use Rattle.mn_hist.specs.Points.{votes_for}
use Rattle.mn_runs.specs.Protocol.{entries_of}
use Rattle.mn_callers.proofs.points.votes_for.Given as goal

-- the votes so far are counted
abbrev pub invariant-loop-entry : goal.invariant-loop-entry
invariant-loop-entry l = record {
  count : l.votes ≡ votes_for l.tid (entries_of (take l.entry-index l.before));
  few : l.votes ≤ l.entry-index;
}
