use Rattle.std.proofs.Common.{◌≡◌, ◌<◌, ℕ, List, Option, reverse, ap, subst, sym, ◌∙◌, arith}
use Rattle.std.specs.Option.{MatchOption, option_map}
use Rattle.mn_base.specs.declared.answer.Answer.{Answer}
use Rattle.mn_base.specs.declared.op.Op.{Op}
use Rattle.mn_runs.specs.Calls.{Begun}
use Rattle.mn_hist.specs.History.{CallerState, Note, Noting, HasNoPlace, IsNotedPlace, AnswerHasPlace, AnswerIsInHistory, caller_state, notes_in}
use Rattle.mn_hist.specs.Plans.{begun_of}
use Rattle.mn_hist.proofs.Putting.{on_ok, at_index, puts_none, idle_puts, stands_already, puts_read, some_read}
use Rattle.mn_hist.proofs.history.take_answer.Goals as goal

pub returns-in_default-begun : goal.returns-in_default-begun
returns-in_default-begun c = λ past placed are st up acts has.
    let few : c.args.client.0 < 256 = omega arith in
    let there = are c.args.client few in
    let same = at_index c.args.callers.now c.args.client.0 c.index-callers-from.result (caller_state c.args.client past) (subst (λ i. c.index-callers-from.result ≡ Rattle.std.specs.Prelude.slice_index_or c.args.callers.now i c.index-callers-from.result) c.from.ensures c.index-callers-from.is) there in
    puts_none past c.args.client c.args.answer.now placed c.args.standing.now c.args.acts.now.items
    (idle_puts past c.args.client c.args.answer.now placed (sym (ap (λ (s : CallerState). s.begun) (c.caller.view_is ∙ same)) ∙ ap (option_map begun_of) c.in_default-begun.is)) st acts

pub returns-then-is_standing : goal.returns-then-is_standing
returns-then-is_standing c = λ past placed are st up acts has.
    let few : c.args.client.0 < 256 = omega arith in
    let there = are c.args.client few in
    let same = at_index c.args.callers.now c.args.client.0 c.index-callers-from.result (caller_state c.args.client past) (subst (λ i. c.index-callers-from.result ≡ Rattle.std.specs.Prelude.slice_index_or c.args.callers.now i c.index-callers-from.result) c.from.ensures c.index-callers-from.is) there in
    let begun : Begun = record { number = c.in-Some.begun.number; op = c.in-Some.begun.op.now } in
    subst (λ (a : Answer). AnswerIsInHistory past c.args.client a placed c.args.standing.now c.args.acts.now.items) (sym c.in-Replied.is)
    (puts_none past c.args.client (Rattle.mn_base.specs.declared.answer.Answer.TheVariants.Replied c.in-Replied.reply) placed c.args.standing.now c.args.acts.now.items
    (stands_already past c.args.client (record { number = c.in-Some.begun.number; op = c.in-Some.begun.op.now }) c.in-Replied.reply placed
    (sym (ap (λ (s : CallerState). s.begun) (c.caller.view_is ∙ same)) ∙ ap (option_map begun_of) c.in-Some.is)
    (sym (st c.args.client c.in-Some.begun.number) ∙ (sym c.is_standing.ensures ∙ c.if-is_standing.true))) st acts)

pub returns-in_default-2 : goal.returns-in_default-2
returns-in_default-2 c = λ past placed are st up acts has.
    let few : c.args.client.0 < 256 = omega arith in
    let there = are c.args.client few in
    let same = at_index c.args.callers.now c.args.client.0 c.index-callers-from.result (caller_state c.args.client past) (subst (λ i. c.index-callers-from.result ≡ Rattle.std.specs.Prelude.slice_index_or c.args.callers.now i c.index-callers-from.result) c.from.ensures c.index-callers-from.is) there in
    let none : HasNoPlace (notes_in (reverse c.deref.result.now)) c.get.result.now c.in-Replied.reply = subst (λ (o : Option ℕ). MatchOption o (HasNoPlace (notes_in (reverse c.deref.result.now)) c.get.result.now c.in-Replied.reply) (IsNotedPlace (notes_in (reverse c.deref.result.now)) c.get.result.now c.in-Replied.reply)) c.in_default-2.is c.in_ok-place.ensures in
    absurd
    (some_read past c.args.client (record { number = c.in-Some.begun.number; op = c.in-Some.begun.op.now }) c.in-Replied.reply placed
    (sym (ap (λ (s : CallerState). s.begun) (c.caller.view_is ∙ same)) ∙ ap (option_map begun_of) c.in-Some.is)
    (sym (st c.args.client c.in-Some.begun.number) ∙ (sym c.is_standing.ensures ∙ c.if-is_standing.false))
    (subst (λ (a : Answer). AnswerHasPlace past c.args.client a placed) c.in-Replied.is has)
    (subst (λ (ns : List Note). HasNoPlace ns c.in-Some.begun.op.now c.in-Replied.reply) (ap (λ (l : List Noting). notes_in (reverse l)) c.deref.ensures.value ∙ ap (λ (s : CallerState). s.notes) (c.caller.view_is ∙ same))
    (subst (λ (o : Op). HasNoPlace (notes_in (reverse c.deref.result.now)) o c.in-Replied.reply) c.get.ensures none)))

pub returns : goal.returns
returns c = on_ok c.note_standing.result c.note_standing.ensures (λ more past placed are st up acts has.
    let few : c.args.client.0 < 256 = omega arith in
    let there = are c.args.client few in
    let same = at_index c.args.callers.now c.args.client.0 c.index-callers-from.result (caller_state c.args.client past) (subst (λ i. c.index-callers-from.result ≡ Rattle.std.specs.Prelude.slice_index_or c.args.callers.now i c.index-callers-from.result) c.from.ensures c.index-callers-from.is) there in
    subst (λ (a : Answer). AnswerIsInHistory past c.args.client a placed c.note_standing.new.standing c.put.new.acts.items) (sym c.in-Replied.is)
    (puts_read past c.args.client (record { number = c.in-Some.begun.number; op = c.in-Some.begun.op.now }) c.in-Replied.reply placed c.args.standing.now c.note_standing.new.standing c.args.acts.now.items c.put.new.acts.items c.in-Some-2.place
    (sym (ap (λ (s : CallerState). s.begun) (c.caller.view_is ∙ same)) ∙ ap (option_map begun_of) c.in-Some.is)
    (sym (st c.args.client c.in-Some.begun.number) ∙ (sym c.is_standing.ensures ∙ c.if-is_standing.false))
    (subst (λ (ns : List Note). IsNotedPlace ns c.in-Some.begun.op.now c.in-Replied.reply c.in-Some-2.place) (ap (λ (l : List Noting). notes_in (reverse l)) c.deref.ensures.value ∙ ap (λ (s : CallerState). s.notes) (c.caller.view_is ∙ same))
    (subst (λ (o : Op). IsNotedPlace (notes_in (reverse c.deref.result.now)) o c.in-Replied.reply c.in-Some-2.place) c.get.ensures (subst (λ (o : Option ℕ). MatchOption o (HasNoPlace (notes_in (reverse c.deref.result.now)) c.get.result.now c.in-Replied.reply) (IsNotedPlace (notes_in (reverse c.deref.result.now)) c.get.result.now c.in-Replied.reply)) c.in-Some-2.is c.in_ok-place.ensures)))
    (subst (λ (a : Answer). AnswerHasPlace past c.args.client a placed) c.in-Replied.is has)
    st acts (λ free. c.in_ok-put.ensures placed up acts free)
    more))
