use Rattle.std.proofs.Common.{◌≡◌, drop}
use Rattle.mn_runs.specs.Calls.{lists_doubt}
use Rattle.mn_recov.proofs.recoverer.place_of.Given as goal

-- the id isn't among the doubts so far
abbrev pub invariant-loop-at : goal.invariant-loop-at
invariant-loop-at l = lists_doubt l.tid (drop l.at l.doubts) ≡ lists_doubt l.tid l.doubts
