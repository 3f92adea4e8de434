use Rattle.std.proofs.Common.{◌≡◌, ◌+◌, drop}
use Rattle.mn_report.specs.Answers.{same_before}
use Rattle.mn_report.proofs.answers.count_same.Given as goal

-- the bytes so far are the same
abbrev pub invariant-loop-at : goal.invariant-loop-at
invariant-loop-at l = same_before l.expected l.found ≡ same_before (drop l.at l.expected) (drop l.at l.found) + l.at
