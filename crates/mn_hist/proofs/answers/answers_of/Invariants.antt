use Rattle.std.proofs.Common.{◌≡◌, ◌++◌, drop}
use Rattle.mn_hist.specs.Audit.{answers_from}
use Rattle.mn_hist.specs.Saying.{said_kept}
use Rattle.mn_hist.proofs.answers.answers_of.Given as goal

-- the lines of the clients so far, and those of the rest
abbrev pub invariant-loop-at : goal.invariant-loop-at
invariant-loop-at l = l.lines.items ++ answers_from (said_kept l.said) l.at (drop l.at l.clients) ≡ answers_from (said_kept l.said) 0 l.clients
