use Rattle.std.proofs.Common.{◌-◌, ◌+◌, ◌≡◌, ◌∙◌, ap, sym, Bool, true, false, List, length, Ok, Global}
use Rattle.mn_base.specs.declared.op.Step.{Step}
use Rattle.mn_script.specs.Lines.{entry_at, steps_at, joined}
use Rattle.mn_script.proofs.StepLemmas.{last_step, more_steps, wrong_step}
use Rattle.mn_script.proofs.steps.steps.Goals as goal

pub returns-then-not-more : goal.returns-then-not-more
returns-then-not-more c =
    let line = c.args.line.now in
    let at = c.loop-count.at in
    let next = c.entry.new.at in
    let step = c.in-Ok.step in
    let said : entry_at line at ≡ Ok ((step, false), next) = c.in-Ok.ensures.said ∙ ap (λ (b : Bool). Ok ((step, b), next)) c.if-not-more.true in
    sym c.loop-count.invariant.said ∙ last_step c.loop-count.steps.items (length line) c.loop-count.count line at next step c.loop-count-test.true said
    ∙ ap (λ (l : List Step). Ok l) (sym c.in_ok-push-in-Ok.ensures.items)

pub returns-in-Err : goal.returns-in-Err
returns-in-Err c =
    wrong_step Global c.loop-count.steps.items (length c.args.line.now) c.loop-count.count c.args.line.now c.loop-count.at c.entry.new.at c.in-Err.error (steps_at (length c.args.line.now) c.args.line.now c.args.at)
    c.loop-count-test.true c.in-Err.ensures.said c.loop-count.invariant.said

pub loop-count-preserved : goal.loop-count-preserved
loop-count-preserved c =
    let line = c.args.line.now in
    let at = c.loop-count.at in
    let next = c.entry.new.at in
    let step = c.in-Ok.step in
    let said : entry_at line at ≡ Ok ((step, true), next) = c.in-Ok.ensures.said ∙ ap (λ (b : Bool). Ok ((step, b), next)) c.if-not-more.false in
    record {
      said = ap (λ (l : List Step). joined l (steps_at (length line - (c.loop-count.count + 1)) line next)) c.in_ok-push-in-Ok.ensures.items
          ∙ more_steps c.loop-count.steps.items (length line) c.loop-count.count line at next step c.loop-count-test.true said ∙ c.loop-count.invariant.said;
      within = c.in-Ok.ensures.within;
    }
