use Rattle.std.proofs.Common.{◌≡◌, ◌++◌, drop}
use Rattle.std.specs.Prelude.{flat_map}
use Rattle.mn_report.specs.Spelling.{spaced}
use Rattle.mn_report.specs.Answers.{found_text}
use Rattle.mn_report.proofs.answers.push_all_found.Given as goal

-- what was found so far, and the rest
abbrev pub invariant-loop-value : goal.invariant-loop-value
invariant-loop-value l = l.out.items ++ flat_map (λ f. spaced (found_text f)) (drop l.value-index l.found) ≡ l.fn.out.items ++ flat_map (λ f. spaced (found_text f)) l.found
