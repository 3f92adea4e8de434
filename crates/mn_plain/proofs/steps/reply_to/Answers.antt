use Rattle.std.proofs.Common.{rules, ◌≡◌, ◌∙◌, ◌++◌, ◌∷◌, [], suc, drop, take, drop-cons, ap, sym, subst, Option, ℕ, List}
use Rattle.std.proofs.lemmas.List.{take_more}
use Rattle.mn_base.specs.declared.op.Step.{Step}
use Rattle.mn_plain.specs.Run.{pairs_after, StepTells}
use Rattle.mn_plain.specs.Table.{shown}
use Rattle.mn_plain.proofs.StepLemmas.{ran_on}
use Rattle.mn_plain.proofs.steps.reply_to.Goals as goal

pub loop-at-preserved : goal.loop-at-preserved
loop-at-preserved c =
    let ps = shown c.args.table.now.entries in
    let steps = c.args.steps.now in
    let at = c.loop-at.at in
    let step = c.index-steps-at.result in
    let split : drop at steps ≡ step ∷ drop (suc at) steps = drop-cons steps at step (search rules) ∙ ap (λ (q : Step). q ∷ drop (suc at) steps) (sym c.index-steps-at.is) in
    let more = take_more steps at step (search rules) ∙ ap (λ (q : Step). take at steps ++ q ∷ []) (sym c.index-steps-at.is) in
    let tells = subst (λ (o : Option (Option (List ℕ))). StepTells (pairs_after ps (take at steps)) step c.loop-at.values.items c.note.new.values.items o) c.in_default.is c.in_ok-found.ensures in
    ran_on ps steps at c.loop-at.values.items c.note.new.values.items step split more tells ∙ c.loop-at.invariant
