use Rattle.std.proofs.Common.{sym, ap, ◌∙◌, ◌≡◌, List, [], drop, option_map}
use Rattle.std.proofs.Math.ListN.{drop_of_length-le}
use Rattle.mn_base.specs.declared.op.Step.{Step}
use Rattle.mn_plain.specs.Run.{left_by_all}
use Rattle.mn_plain.specs.Table.{shown}
use Rattle.mn_plain.proofs.StepLemmas.{value_at-steps}
use Rattle.mn_plain.proofs.steps.value_after.Goals as goal

pub returns : goal.returns
returns c =
    let done : drop c.loop-step.step-index c.args.steps.now ≡ [] = drop_of_length-le c.args.steps.now c.loop-step-test.false in
    ap (λ (l : List Step). left_by_all (option_map (λ v. v.now) c.loop-step.found) l c.args.key.now) (sym done) ∙ c.loop-step.invariant ∙ sym (value_at-steps (shown c.args.table.now.entries) c.args.steps.now c.args.key.now)
