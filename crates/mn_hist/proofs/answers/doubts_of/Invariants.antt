use Rattle.std.proofs.Common.{◌≡◌, ◌++◌, drop}
use Rattle.mn_hist.specs.Audit.{doubts_from}
use Rattle.mn_hist.specs.History.{stands}
use Rattle.mn_hist.specs.Saying.{said_kept}
use Rattle.mn_hist.proofs.answers.doubts_of.Given as goal

-- the lines of the clients so far, and those of the rest
abbrev pub invariant-loop-at : goal.invariant-loop-at
invariant-loop-at l = l.lines.items ++ doubts_from (said_kept l.said) (stands l.committed) l.at (drop l.at l.clients) ≡ doubts_from (said_kept l.said) (stands l.committed) 0 l.clients
