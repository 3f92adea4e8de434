use Rattle.std.proofs.Common.{◌≡◌, ◌++◌, drop}
use Rattle.std.specs.Prelude.{flat_map}
use Rattle.mn_report.specs.Report.{doubt_line}
use Rattle.mn_report.proofs.parts.push_doubts.Given as goal

-- the text so far, and that of the rest
abbrev pub invariant-loop-line : goal.invariant-loop-line
invariant-loop-line l = l.out.items ++ flat_map doubt_line (drop l.line-index l.lines) ≡ l.fn.out.items ++ flat_map doubt_line l.lines
