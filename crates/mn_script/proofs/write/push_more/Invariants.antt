use Rattle.std.proofs.Common.{◌≡◌, ◌++◌, drop}
use Rattle.mn_script.specs.Grammar.{more_text}
use Rattle.mn_script.proofs.write.push_more.Given as goal

-- the text so far, and that of the rest
abbrev pub invariant-loop-step : goal.invariant-loop-step
invariant-loop-step l = l.out.items ++ more_text (drop l.step-index l.steps) ≡ l.fn.out.items ++ more_text l.steps
