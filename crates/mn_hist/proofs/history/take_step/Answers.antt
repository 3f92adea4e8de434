use Rattle.std.proofs.Common.{◌≡◌, Some, None, sym, ◌∙◌}
use Rattle.mn_hist.proofs.Joining.{answer_has, quiet_puts, takes_answer, takes_none}
use Rattle.mn_hist.proofs.Putting.{on_ok}
use Rattle.mn_hist.proofs.history.take_step.Goals as goal

pub returns-in_default : goal.returns-in_default
returns-in_default c = λ past placed are st up acts has.
    takes_none past c.args.entry.now placed c.args.standing.now c.args.acts.now.items (quiet_puts past c.args.entry.now.client c.args.entry.now.what placed (λ d number answer by is. c.in_default.not-Answered-1 number answer is)) st acts

pub returns-in_default-2 : goal.returns-in_default-2
returns-in_default-2 c = λ past placed are st up acts has.
    takes_none past c.args.entry.now placed c.args.standing.now c.args.acts.now.items (quiet_puts past c.args.entry.now.client c.args.entry.now.what placed (λ d number answer by is. none d (sym c.in_default.is-0 ∙ by))) st acts
  where
    none : (d : Rattle.mn_base.specs.declared.ids.ClientNo.ClientNo) → None ≡ Some d → ⊥
    none d e = cc

pub returns : goal.returns
returns c = on_ok c.take_answer.result c.take_answer.ensures (λ puts past placed are st up acts has.
    takes_answer past c.args.entry.now c.in-Some-Answered.client c.in-Some-Answered.number-1 c.in-Some-Answered.answer placed c.take_answer.new.standing c.take_answer.new.acts.items c.in-Some-Answered.is-0 c.in-Some-Answered.is-1
    (puts past placed are st up acts
    (answer_has past c.args.entry.now c.in-Some-Answered.client c.in-Some-Answered.number-1 c.in-Some-Answered.answer placed c.in-Some-Answered.is-0 c.in-Some-Answered.is-1 has)))
