use Rattle.std.proofs.Common.{◌≡◌, ◌+◌, ◌≤◌, length}
use Rattle.mn_script.specs.Reading.{read_from, lines_of, empty_draft, IsDraft}
use Rattle.mn_script.proofs.read.read_script.Given as goal

-- the lines so far, and the rest of the text
abbrev pub invariant-loop-rest : goal.invariant-loop-rest
invariant-loop-rest l = record {
  said : read_from l.draft l.lines (lines_of l.rest) ≡ read_from empty_draft 0 (lines_of l.fn.text);
  right : IsDraft l.draft;
  short : l.lines + length l.rest ≤ 4194304;
}

abbrev pub decreases-loop-rest : goal.decreases-loop-rest
decreases-loop-rest l = length l.rest
