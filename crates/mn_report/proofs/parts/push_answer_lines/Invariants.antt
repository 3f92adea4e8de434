use Rattle.std.proofs.Common.{◌≡◌, ◌++◌, drop}
use Rattle.std.specs.Prelude.{flat_map}
use Rattle.std.specs.List.{AllByRecursion}
use Rattle.mn_report.specs.Answers.{CanTellLine}
use Rattle.mn_report.specs.Report.{answer_line}
use Rattle.mn_report.proofs.parts.push_answer_lines.Given as goal

-- the text so far, and that of the rest, which can be told
abbrev pub invariant-loop-line : goal.invariant-loop-line
invariant-loop-line l = record {
  text : l.out.items ++ flat_map answer_line (drop l.line-index l.lines) ≡ l.fn.out.items ++ flat_map answer_line l.lines;
  told : AllByRecursion (λ a. CanTellLine a.answer) (drop l.line-index l.lines);
}
