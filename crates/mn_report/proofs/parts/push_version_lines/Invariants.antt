use Rattle.std.proofs.Common.{◌≡◌, ◌++◌, drop}
use Rattle.std.specs.Prelude.{flat_map}
use Rattle.mn_report.specs.Report.{version_line}
use Rattle.mn_report.proofs.parts.push_version_lines.Given as goal

-- the text so far, and that of the rest
abbrev pub invariant-loop-line : goal.invariant-loop-line
invariant-loop-line l = l.out.items ++ flat_map version_line (drop l.line-index l.lines) ≡ l.fn.out.items ++ flat_map version_line l.lines
