use Rattle.std.proofs.Common.{drop}
use Rattle.std.specs.List.{AllByRecursion}
use Rattle.mn_tree.specs.MoveLaws.{IsStep}
use Rattle.mn_work.proofs.grammar.are_steps.Given as goal

-- if the rest are such, all are
abbrev pub invariant-loop-step : goal.invariant-loop-step
invariant-loop-step l =
    AllByRecursion IsStep (drop l.step-index l.steps) → AllByRecursion IsStep l.steps
