use Rattle.std.proofs.Common.{◌≡◌, ◌+◌, ◌++◌, drop}
use Rattle.mn_report.specs.Report.{point_lines}
use Rattle.mn_report.proofs.parts.push_points.Given as goal

-- the lines so far, and those of the rest
abbrev pub invariant-loop-at : goal.invariant-loop-at
invariant-loop-at l = l.out.items ++ point_lines (l.at + 1) (drop l.at l.points) ≡ l.fn.out.items ++ point_lines 1 l.points
