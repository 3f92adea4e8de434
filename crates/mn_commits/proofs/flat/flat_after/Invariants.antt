use Rattle.std.proofs.Common.{◌≡◌, take, length}
use Rattle.mn_runs.specs.Commits.{flat_after}
use Rattle.mn_runs.specs.Protocol.{entries_of}
use Rattle.mn_commits.specs.Standing.{StandingTells}
use Rattle.mn_commits.proofs.flat.flat_after.Given as goal

-- the memory and what is told are those of the entries so far
abbrev pub invariant-loop-place : goal.invariant-loop-place
invariant-loop-place l = record {
  long : length l.standing.stopped.items ≡ 256;
  tells : StandingTells l.standing (entries_of (take l.place l.log));
  memory : l.memory.items ≡ flat_after l.start (entries_of (take l.place l.log));
}
