use Rattle.std.proofs.Common.{◌≡◌, ◌+◌, ◌++◌, drop}
use Rattle.mn_report.specs.Report.{rank_lines}
use Rattle.mn_report.proofs.parts.push_ranks.Given as goal

-- the lines so far, and those of the rest
abbrev pub invariant-loop-at : goal.invariant-loop-at
invariant-loop-at l = l.out.items ++ rank_lines (l.at + 1) (drop l.at l.ranks) ≡ l.fn.out.items ++ rank_lines 1 l.ranks
