use Rattle.std.proofs.Common.{◌≡◌, ◌+◌, ◌-◌, ◌≤◌, length}
use Rattle.mn_script.specs.Lines.{steps_at, joined}
use Rattle.mn_script.proofs.steps.steps.Given as goal

-- the steps so far, and the rest of the line
abbrev pub invariant-loop-count : goal.invariant-loop-count
invariant-loop-count l = record {
  said : joined l.steps.items (steps_at (length l.line - l.count) l.line l.at) ≡ steps_at (length l.line) l.line l.fn.at;
  within : l.at ≤ length l.line + 1;
}
