-- What was read goes on, is a leaf, shows the reply, or failed the try.
use Rattle.mn_proxy.proofs.Ended.{ends_when}
use Rattle.mn_proxy.specs.declared.step.ProxyStep.TheVariants as steps
use Rattle.mn_proxy.specs.Turn.{turn_of, turned}
use Rattle.std.proofs.Common.{◌≡◌, ◌∙◌, inl, inr, ap, subst, sym, refl, lit<}
use Rattle.mn_proxy.specs.State.{ProxyState}
use Rattle.mn_proxy.specs.Turns.{IsSoundTurn, TurnAgrees, WaitsFor, with_known}
use Rattle.mn_proxy.specs.Agrees.{IsOwnLast}
use Rattle.mn_work.specs.declared.next.Taken.{Taken}
use Rattle.mn_proxy.specs.contracts.proxy.Proxy.{the_view}
use Rattle.mn_proxy.proofs.Taking.{TakenTells, few_as, job_as, kept_as, none_left, none_made, none_turned, own_left_as, replies_as, sound_left, startable_as, tells_as}
use Rattle.mn_proxy.specs.Measure.{GoesBelow, left_after}
use Rattle.mn_proxy.proofs.Measure.{same_goes}
use Rattle.std.proofs.Common.{Some, Ok, Result}
use Rattle.mn_base.specs.declared.answer.Answer.TheVariants as answers
use Rattle.mn_base.specs.declared.error.NoMemory.{NoMemory}
use Rattle.mn_base.specs.declared.reply.Reply.{Reply}
use Rattle.mn_proxy.specs.Turn.{Turn}
use Rattle.mn_proxy.specs.Turn as turns
use Rattle.mn_work.specs.Descents.{values_at}
use Rattle.mn_proxy.specs.Kept.{CatalogTurns}
use Rattle.mn_proxy.specs.LeafReads.{shown_by}
use Rattle.mn_work.specs.Walks.{is_later}
use Rattle.mn_work.specs.Works.{IsJobOf}
use Rattle.mn_work.specs.declared.work.Work.{Work}
use Rattle.mn_proxy.proofs.LeafReads.{leaf_next}
use Rattle.std.proofs.lemmas.Result.{IfOk-weaker}
use Rattle.mn_proxy.specs.Firsts.{FailsAsKept, FailsAsRead, IsSecond}
use Rattle.mn_proxy.proofs.Firsts.{ok_any, read_fails}
use Rattle.mn_proxy.proofs.Kept.{cache_last, cache_left, cache_then, came_op, catalog_next, catalog_stays, left_next, never_later}
use Rattle.mn_proxy.proofs.proxy.Proxy.take.Goals as goal

pub taken_for-requires-clause-pages : goal.taken_for-requires-clause-pages
taken_for-requires-clause-pages c = c.self.invariant.pages

pub taken_for-requires-clause-waits : goal.taken_for-requires-clause-waits
taken_for-requires-clause-waits c =
    subst (λ (p : ProxyState). WaitsFor p.known c.args.work c.args.purpose) (sym c.self.view_is) c.requires.waits

pub invariant_of-self : goal.invariant_of-self
invariant_of-self c =
    sound_left c.self.inside c.taken_for.new.known c.args.purpose c.args.bytes c.self.invariant
    (ap (λ (p : ProxyState). p.work) c.self.view_is ∙ c.requires.idle) c.taken_for.ensures.leaves c.taken_for.ensures.pages

pub returns-in_err-taken_for-clause-sound : goal.returns-in_err-taken_for-clause-sound
returns-in_err-taken_for-clause-sound c =
    none_made _ c.from_residual.result (IsSoundTurn c.taken_for.new.known) c.from_residual.ensures.0

pub returns-in_err-taken_for-clause-turns : goal.returns-in_err-taken_for-clause-turns
returns-in_err-taken_for-clause-turns c = λ es own read closed over.
    none_made _ c.from_residual.result (TurnAgrees es (with_known (the_view c.self.inside) c.taken_for.new.known)) c.from_residual.ensures.0

pub returns-in_err-taken_for-clause-left : goal.returns-in_err-taken_for-clause-left
returns-in_err-taken_for-clause-left c = λ es own read.
    none_left c.from_residual.result (IsOwnLast es (with_known (the_view c.self.inside) c.taken_for.new.known))
    (own_left_as es (the_view c.self.inside) c.args.self.now c.self.view_is c.taken_for.new.known c.args.work c.args.purpose c.args.bytes own read c.taken_for.result c.taken_for.ensures.leaves c.taken_for.ensures.cache)

pub returns-in_err-taken_for-clause-kept : goal.returns-in_err-taken_for-clause-kept
returns-in_err-taken_for-clause-kept c =
    kept_as (the_view c.self.inside) c.args.self.now (with_known (the_view c.self.inside) c.taken_for.new.known) c.taken_for.new.known c.args.purpose c.args.bytes c.self.view_is c.taken_for.ensures.leaves
    ((refl, refl, refl), none_left c.from_residual.result _ (ap (λ (p : ProxyState). p.work) c.self.view_is ∙ c.requires.idle))

pub invariant_of-self-in-GoesOn : goal.invariant_of-self-in-GoesOn
invariant_of-self-in-GoesOn c =
    sound_left c.self.inside c.taken_for.new.known c.args.purpose c.args.bytes c.self.invariant
    (ap (λ (p : ProxyState). p.work) c.self.view_is ∙ c.requires.idle) c.taken_for.ensures.leaves c.taken_for.ensures.pages

pub advance-requires-clause-idle : goal.advance-requires-clause-idle
advance-requires-clause-idle c = ap (λ (p : ProxyState). p.work) c.self.view_is ∙ c.requires.idle

pub advance-requires-clause-few : goal.advance-requires-clause-few
advance-requires-clause-few c =
    few_as (the_view c.self.inside) c.args.self.now c.self.view_is c.taken_for.new.known c.args.work c.taken_for.new.work c.args.purpose c.args.bytes c.in_ok-taken_for.field-0 c.requires.waits c.in_ok-taken_for.ensures.came c.requires.few

pub advance-requires-clause-job : goal.advance-requires-clause-job
advance-requires-clause-job c =
    job_as (the_view c.self.inside) c.args.self.now c.self.view_is c.taken_for.new.known c.args.work c.taken_for.new.work c.args.purpose c.args.bytes c.in_ok-taken_for.field-0 c.requires.waits c.in_ok-taken_for.ensures.came (inl c.in-GoesOn.is)

pub invariant_of-self-in-Leaf : goal.invariant_of-self-in-Leaf
invariant_of-self-in-Leaf c =
    sound_left c.self.inside c.taken_for.new.known c.args.purpose c.args.bytes c.self.invariant
    (ap (λ (p : ProxyState). p.work) c.self.view_is ∙ c.requires.idle) c.taken_for.ensures.leaves c.taken_for.ensures.pages

pub advance-requires-in-Leaf-clause-idle : goal.advance-requires-in-Leaf-clause-idle
advance-requires-in-Leaf-clause-idle c = ap (λ (p : ProxyState). p.work) c.self.view_is ∙ c.requires.idle

pub advance-requires-in-Leaf-clause-few : goal.advance-requires-in-Leaf-clause-few
advance-requires-in-Leaf-clause-few c = lit< tt

pub advance-requires-in-Leaf-clause-job : goal.advance-requires-in-Leaf-clause-job
advance-requires-in-Leaf-clause-job c =
    subst (λ (w : Work). IsJobOf c.taken_for.new.known (record w { failed = 0 })) (sym c.get_mut.ensures.same)
    (job_as (the_view c.self.inside) c.args.self.now c.self.view_is c.taken_for.new.known c.args.work c.taken_for.new.work c.args.purpose c.args.bytes c.in_ok-taken_for.field-0 c.requires.waits c.in_ok-taken_for.ensures.came (inr c.in-Leaf.is))

pub invariant_of-self-in-Replies-1 : goal.invariant_of-self-in-Replies-1
invariant_of-self-in-Replies-1 c =
    sound_left c.self.inside c.taken_for.new.known c.args.purpose c.args.bytes c.self.invariant
    (ap (λ (p : ProxyState). p.work) c.self.view_is ∙ c.requires.idle) c.taken_for.ensures.leaves c.taken_for.ensures.pages

pub invariant_of-self-in-Fails : goal.invariant_of-self-in-Fails
invariant_of-self-in-Fails c =
    sound_left c.self.inside c.taken_for.new.known c.args.purpose c.args.bytes c.self.invariant
    (ap (λ (p : ProxyState). p.work) c.self.view_is ∙ c.requires.idle) c.taken_for.ensures.leaves c.taken_for.ensures.pages

pub fail-requires-clause-idle : goal.fail-requires-clause-idle
fail-requires-clause-idle c = ap (λ (p : ProxyState). p.work) c.self.view_is ∙ c.requires.idle

pub fail-requires-clause-few : goal.fail-requires-clause-few
fail-requires-clause-few c =
    few_as (the_view c.self.inside) c.args.self.now c.self.view_is c.taken_for.new.known c.args.work c.taken_for.new.work c.args.purpose c.args.bytes c.in_ok-taken_for.field-0 c.requires.waits c.in_ok-taken_for.ensures.came c.requires.few

pub fail-requires-clause-startable : goal.fail-requires-clause-startable
fail-requires-clause-startable c =
    startable_as (the_view c.self.inside) c.args.self.now c.self.view_is c.taken_for.new.known c.args.work c.taken_for.new.work c.args.purpose c.args.bytes c.in_ok-taken_for.field-0 c.requires.waits c.in_ok-taken_for.ensures.came c.in-Fails.cause c.in-Fails.is

pub returns-in-GoesOn-clause-sound : goal.returns-in-GoesOn-clause-sound
returns-in-GoesOn-clause-sound c = c.advance.ensures.sound

pub returns-in-GoesOn-clause-turns : goal.returns-in-GoesOn-clause-turns
returns-in-GoesOn-clause-turns c = λ es own read closed over.
    c.advance.ensures.turns es
    (own_left_as es (the_view c.self.inside) c.args.self.now c.self.view_is c.taken_for.new.known c.args.work c.args.purpose c.args.bytes own read (Ok c.in_ok-taken_for.field-0) c.taken_for.ensures.leaves c.in_ok-taken_for.ensures.cache).0
    (tells_as es (the_view c.self.inside) c.args.self.now c.self.view_is c.taken_for.new.known c.args.work c.args.purpose c.args.bytes own read c.taken_for.new.work c.in_ok-taken_for.field-0 Taken.GoesOn c.in-GoesOn.is c.requires.waits closed over c.in_ok-taken_for.ensures.came
    (own_left_as es (the_view c.self.inside) c.args.self.now c.self.view_is c.taken_for.new.known c.args.work c.args.purpose c.args.bytes own read (Ok c.in_ok-taken_for.field-0) c.taken_for.ensures.leaves c.in_ok-taken_for.ensures.cache).1)

pub returns-in-GoesOn-clause-left : goal.returns-in-GoesOn-clause-left
returns-in-GoesOn-clause-left c = λ es own read.
    c.advance.ensures.left es
    (own_left_as es (the_view c.self.inside) c.args.self.now c.self.view_is c.taken_for.new.known c.args.work c.args.purpose c.args.bytes own read (Ok c.in_ok-taken_for.field-0) c.taken_for.ensures.leaves c.in_ok-taken_for.ensures.cache)

pub returns-in-GoesOn-clause-kept : goal.returns-in-GoesOn-clause-kept
returns-in-GoesOn-clause-kept c =
    kept_as (the_view c.self.inside) c.args.self.now c.advance.new.self c.taken_for.new.known c.args.purpose c.args.bytes c.self.view_is c.taken_for.ensures.leaves c.advance.ensures.kept

pub returns-in-Leaf-clause-sound : goal.returns-in-Leaf-clause-sound
returns-in-Leaf-clause-sound c = c.advance-in-Leaf.ensures.sound

pub returns-in-Leaf-clause-turns : goal.returns-in-Leaf-clause-turns
returns-in-Leaf-clause-turns c = λ es own read closed over.
    c.advance-in-Leaf.ensures.turns es
    (own_left_as es (the_view c.self.inside) c.args.self.now c.self.view_is c.taken_for.new.known c.args.work c.args.purpose c.args.bytes own read (Ok c.in_ok-taken_for.field-0) c.taken_for.ensures.leaves c.in_ok-taken_for.ensures.cache).0
    (subst (λ (w : Work). TakenTells es c.taken_for.new.known w Taken.Leaf) (sym c.get_mut.ensures.same)
    (tells_as es (the_view c.self.inside) c.args.self.now c.self.view_is c.taken_for.new.known c.args.work c.args.purpose c.args.bytes own read c.taken_for.new.work c.in_ok-taken_for.field-0 Taken.Leaf c.in-Leaf.is c.requires.waits closed over c.in_ok-taken_for.ensures.came
    (own_left_as es (the_view c.self.inside) c.args.self.now c.self.view_is c.taken_for.new.known c.args.work c.args.purpose c.args.bytes own read (Ok c.in_ok-taken_for.field-0) c.taken_for.ensures.leaves c.in_ok-taken_for.ensures.cache).1))

pub returns-in-Leaf-clause-left : goal.returns-in-Leaf-clause-left
returns-in-Leaf-clause-left c = λ es own read.
    c.advance-in-Leaf.ensures.left es
    (own_left_as es (the_view c.self.inside) c.args.self.now c.self.view_is c.taken_for.new.known c.args.work c.args.purpose c.args.bytes own read (Ok c.in_ok-taken_for.field-0) c.taken_for.ensures.leaves c.in_ok-taken_for.ensures.cache)

pub returns-in-Leaf-clause-kept : goal.returns-in-Leaf-clause-kept
returns-in-Leaf-clause-kept c =
    kept_as (the_view c.self.inside) c.args.self.now c.advance-in-Leaf.new.self c.taken_for.new.known c.args.purpose c.args.bytes c.self.view_is c.taken_for.ensures.leaves c.advance-in-Leaf.ensures.kept

pub returns-in-Replies-clause-sound : goal.returns-in-Replies-clause-sound
returns-in-Replies-clause-sound c = subst (IsSoundTurn c.taken_for.new.known) (ends_when (the_view c.self.inside).work (answers.Replied c.in-Replies.reply) (ap (λ (p : ProxyState). p.work) c.self.view_is ∙ c.requires.idle)) tt

pub returns-in-Replies-clause-turns : goal.returns-in-Replies-clause-turns
returns-in-Replies-clause-turns c = λ es own read closed over.
    replies_as es (the_view c.self.inside) c.args.self.now c.self.view_is c.taken_for.new.known c.args.work c.args.purpose c.args.bytes own read c.taken_for.new.work c.in_ok-taken_for.field-0 c.in-Replies.reply (turn_of (the_view c.self.inside).work (steps.Done (answers.Replied c.in-Replies.reply))) (with_known (the_view c.self.inside) c.taken_for.new.known) refl (sym (ends_when (the_view c.self.inside).work (answers.Replied c.in-Replies.reply) (ap (λ (p : ProxyState). p.work) c.self.view_is ∙ c.requires.idle))) c.in-Replies.is c.requires.waits closed over c.in_ok-taken_for.ensures.came
    (own_left_as es (the_view c.self.inside) c.args.self.now c.self.view_is c.taken_for.new.known c.args.work c.args.purpose c.args.bytes own read (Ok c.in_ok-taken_for.field-0) c.taken_for.ensures.leaves c.in_ok-taken_for.ensures.cache)

pub returns-in-Replies-clause-kept : goal.returns-in-Replies-clause-kept
returns-in-Replies-clause-kept c =
    kept_as (the_view c.self.inside) c.args.self.now (with_known (the_view c.self.inside) c.taken_for.new.known) c.taken_for.new.known c.args.purpose c.args.bytes c.self.view_is c.taken_for.ensures.leaves (
      (refl, refl, refl),
      tt,
    )

pub returns-in-Fails-clause-sound : goal.returns-in-Fails-clause-sound
returns-in-Fails-clause-sound c = c.fail.ensures.sound

pub returns-in-Fails-clause-turns : goal.returns-in-Fails-clause-turns
returns-in-Fails-clause-turns c = λ es own read closed over.
    c.fail.ensures.turns es
    (own_left_as es (the_view c.self.inside) c.args.self.now c.self.view_is c.taken_for.new.known c.args.work c.args.purpose c.args.bytes own read (Ok c.in_ok-taken_for.field-0) c.taken_for.ensures.leaves c.in_ok-taken_for.ensures.cache)
    (tells_as es (the_view c.self.inside) c.args.self.now c.self.view_is c.taken_for.new.known c.args.work c.args.purpose c.args.bytes own read c.taken_for.new.work c.in_ok-taken_for.field-0 (Taken.Fails c.in-Fails.cause) c.in-Fails.is c.requires.waits closed over c.in_ok-taken_for.ensures.came
    (own_left_as es (the_view c.self.inside) c.args.self.now c.self.view_is c.taken_for.new.known c.args.work c.args.purpose c.args.bytes own read (Ok c.in_ok-taken_for.field-0) c.taken_for.ensures.leaves c.in_ok-taken_for.ensures.cache).1)

pub returns-in-Fails-clause-left : goal.returns-in-Fails-clause-left
returns-in-Fails-clause-left c = λ es own read.
    c.fail.ensures.left es
    (own_left_as es (the_view c.self.inside) c.args.self.now c.self.view_is c.taken_for.new.known c.args.work c.args.purpose c.args.bytes own read (Ok c.in_ok-taken_for.field-0) c.taken_for.ensures.leaves c.in_ok-taken_for.ensures.cache)

pub returns-in-Fails-clause-kept : goal.returns-in-Fails-clause-kept
returns-in-Fails-clause-kept c =
    kept_as (the_view c.self.inside) c.args.self.now c.fail.new.self c.taken_for.new.known c.args.purpose c.args.bytes c.self.view_is c.taken_for.ensures.leaves c.fail.ensures.kept

pub returns-in_err-taken_for-clause-falls : goal.returns-in_err-taken_for-clause-falls
returns-in_err-taken_for-clause-falls c =
    none_made _ c.from_residual.result (GoesBelow (left_after c.args.self.now) (with_known (the_view c.self.inside) c.taken_for.new.known)) c.from_residual.ensures.0

pub returns-in-GoesOn-clause-falls : goal.returns-in-GoesOn-clause-falls
returns-in-GoesOn-clause-falls c =
    same_goes c.args.self.now (the_view c.self.inside) c.advance.new.self (turned c.advance.new.self.work c.advance.result) c.self.view_is c.advance.ensures.falls

pub returns-in-Leaf-clause-falls : goal.returns-in-Leaf-clause-falls
returns-in-Leaf-clause-falls c =
    same_goes c.args.self.now (the_view c.self.inside) c.advance-in-Leaf.new.self (turned c.advance-in-Leaf.new.self.work c.advance-in-Leaf.result) c.self.view_is c.advance-in-Leaf.ensures.falls

pub returns-in-Fails-clause-falls : goal.returns-in-Fails-clause-falls
returns-in-Fails-clause-falls c =
    same_goes c.args.self.now (the_view c.self.inside) c.fail.new.self (turned c.fail.new.self.work c.fail.result) c.self.view_is c.fail.ensures.falls

pub returns-in-Replies-clause-falls : goal.returns-in-Replies-clause-falls
returns-in-Replies-clause-falls c = subst (GoesBelow (left_after c.args.self.now) (with_known (the_view c.self.inside) c.taken_for.new.known)) (ends_when (the_view c.self.inside).work (answers.Replied c.in-Replies.reply) (ap (λ (p : ProxyState). p.work) c.self.view_is ∙ c.requires.idle)) tt

-- What is kept

pub returns-in_err-taken_for-clause-cache : goal.returns-in_err-taken_for-clause-cache
returns-in_err-taken_for-clause-cache c =
    cache_left (the_view c.self.inside) c.args.self.now c.self.view_is (Some (c.args.purpose, c.args.bytes)) (is_later c.args.work.failed) c.taken_for.new.known.cache c.taken_for.result (turned (the_view c.self.inside).work c.from_residual.result)
    (none_turned (the_view c.self.inside).work c.from_residual.result c.from_residual.ensures.0) c.taken_for.ensures.cache

pub returns-in_err-taken_for-clause-catalog : goal.returns-in_err-taken_for-clause-catalog
returns-in_err-taken_for-clause-catalog c =
    none_made _ c.from_residual.result (CatalogTurns (Some (c.args.purpose, c.args.bytes)) c.args.self.now.known.catalog c.taken_for.new.known.catalog) c.from_residual.ensures.0

pub returns-in_err-taken_for-clause-leaf : goal.returns-in_err-taken_for-clause-leaf
returns-in_err-taken_for-clause-leaf c = λ leaf.
    none_made _ c.from_residual.result (λ t. t ≡ turns.Ends (shown_by c.args.self.now.known c.args.work (Some (c.args.purpose, c.args.bytes)) leaf)) c.from_residual.ensures.0

pub returns-in-GoesOn-clause-cache : goal.returns-in-GoesOn-clause-cache
returns-in-GoesOn-clause-cache c =
    cache_then (the_view c.self.inside) c.args.self.now c.self.view_is (Some (c.args.purpose, c.args.bytes)) (is_later c.args.work.failed) (is_later c.taken_for.new.work.failed) c.taken_for.new.known.cache c.advance.new.self.known.cache
    c.in_ok-taken_for.field-0 (turned c.advance.new.self.work c.advance.result) c.in_ok-taken_for.ensures.cache (λ late. sym (ap is_later (came_op (the_view c.self.inside).known c.taken_for.new.known c.args.work c.taken_for.new.work c.args.purpose c.args.bytes c.in_ok-taken_for.field-0 c.in_ok-taken_for.ensures.came)) ∙ late) c.advance.ensures.cache

pub returns-in-Leaf-clause-cache : goal.returns-in-Leaf-clause-cache
returns-in-Leaf-clause-cache c =
    cache_then (the_view c.self.inside) c.args.self.now c.self.view_is (Some (c.args.purpose, c.args.bytes)) (is_later c.args.work.failed) (is_later 0) c.taken_for.new.known.cache c.advance-in-Leaf.new.self.known.cache
    c.in_ok-taken_for.field-0 (turned c.advance-in-Leaf.new.self.work c.advance-in-Leaf.result) c.in_ok-taken_for.ensures.cache (λ late. absurd (never_later late)) c.advance-in-Leaf.ensures.cache

pub returns-in-GoesOn-clause-catalog : goal.returns-in-GoesOn-clause-catalog
returns-in-GoesOn-clause-catalog c =
    catalog_next (the_view c.self.inside) c.args.self.now c.self.view_is c.args.work c.taken_for.new.work c.args.purpose c.args.bytes c.in_ok-taken_for.field-0 c.taken_for.new.known
    c.advance.new.self.known.catalog (turned c.advance.new.self.work c.advance.result) c.in_ok-taken_for.ensures.came c.advance.ensures.catalog

pub returns-in-GoesOn-clause-leaf : goal.returns-in-GoesOn-clause-leaf
returns-in-GoesOn-clause-leaf c = λ leaf.
    let replies = leaf_next (the_view c.self.inside) c.args.self.now c.self.view_is c.args.work c.taken_for.new.work c.args.purpose c.args.bytes c.in_ok-taken_for.field-0 c.taken_for.new.known c.in_ok-taken_for.ensures.came leaf in
    let both = sym c.in-GoesOn.is ∙ replies in
    absurd cc

pub returns-in-Leaf-clause-catalog : goal.returns-in-Leaf-clause-catalog
returns-in-Leaf-clause-catalog c =
    catalog_next (the_view c.self.inside) c.args.self.now c.self.view_is c.args.work c.taken_for.new.work c.args.purpose c.args.bytes c.in_ok-taken_for.field-0 c.taken_for.new.known
    c.advance-in-Leaf.new.self.known.catalog (turned c.advance-in-Leaf.new.self.work c.advance-in-Leaf.result) c.in_ok-taken_for.ensures.came c.advance-in-Leaf.ensures.catalog

pub returns-in-Leaf-clause-leaf : goal.returns-in-Leaf-clause-leaf
returns-in-Leaf-clause-leaf c = λ leaf.
    let replies = leaf_next (the_view c.self.inside) c.args.self.now c.self.view_is c.args.work c.taken_for.new.work c.args.purpose c.args.bytes c.in_ok-taken_for.field-0 c.taken_for.new.known c.in_ok-taken_for.ensures.came leaf in
    let both = sym c.in-Leaf.is ∙ replies in
    absurd cc

pub returns-in-Fails-clause-catalog : goal.returns-in-Fails-clause-catalog
returns-in-Fails-clause-catalog c =
    catalog_next (the_view c.self.inside) c.args.self.now c.self.view_is c.args.work c.taken_for.new.work c.args.purpose c.args.bytes c.in_ok-taken_for.field-0 c.taken_for.new.known
    c.fail.new.self.known.catalog (turned c.fail.new.self.work c.fail.result) c.in_ok-taken_for.ensures.came c.fail.ensures.catalog

pub returns-in-Fails-clause-leaf : goal.returns-in-Fails-clause-leaf
returns-in-Fails-clause-leaf c = λ leaf.
    let replies = leaf_next (the_view c.self.inside) c.args.self.now c.self.view_is c.args.work c.taken_for.new.work c.args.purpose c.args.bytes c.in_ok-taken_for.field-0 c.taken_for.new.known c.in_ok-taken_for.ensures.came leaf in
    let both = sym c.in-Fails.is ∙ replies in
    absurd cc

pub returns-in-Fails-clause-cache : goal.returns-in-Fails-clause-cache
returns-in-Fails-clause-cache c =
    cache_last (the_view c.self.inside) c.args.self.now c.self.view_is (Some (c.args.purpose, c.args.bytes)) (is_later c.args.work.failed) c.taken_for.new.known.cache c.fail.new.self.known.cache
    c.in_ok-taken_for.field-0 (turned c.fail.new.self.work c.fail.result) c.in_ok-taken_for.ensures.cache c.fail.ensures.cache

pub returns-in-Replies-clause-cache : goal.returns-in-Replies-clause-cache
returns-in-Replies-clause-cache c =
    cache_last (the_view c.self.inside) c.args.self.now c.self.view_is (Some (c.args.purpose, c.args.bytes)) (is_later c.args.work.failed) c.taken_for.new.known.cache c.taken_for.new.known.cache
    c.in_ok-taken_for.field-0 (Ok (turn_of (the_view c.self.inside).work (steps.Done (answers.Replied c.in-Replies.reply)))) c.in_ok-taken_for.ensures.cache refl

pub returns-in-Replies-clause-catalog : goal.returns-in-Replies-clause-catalog
returns-in-Replies-clause-catalog c =
    let result : Result Turn NoMemory = Ok (turn_of (the_view c.self.inside).work (steps.Done (answers.Replied c.in-Replies.reply))) in
    catalog_next (the_view c.self.inside) c.args.self.now c.self.view_is c.args.work c.taken_for.new.work c.args.purpose c.args.bytes c.in_ok-taken_for.field-0 c.taken_for.new.known
    c.taken_for.new.known.catalog result c.in_ok-taken_for.ensures.came
    (catalog_stays c.taken_for.new.known.catalog c.taken_for.new.known.catalog result refl)

pub returns-in-Replies-clause-leaf : goal.returns-in-Replies-clause-leaf
returns-in-Replies-clause-leaf c = λ leaf.
    let replies = leaf_next (the_view c.self.inside) c.args.self.now c.self.view_is c.args.work c.taken_for.new.work c.args.purpose c.args.bytes c.in_ok-taken_for.field-0 c.taken_for.new.known c.in_ok-taken_for.ensures.came leaf in
    let both : Taken.Replies c.in-Replies.reply ≡ Taken.Replies (values_at leaf.page leaf.key) = sym c.in-Replies.is ∙ replies in
    let same : c.in-Replies.reply ≡ values_at leaf.page leaf.key = cc in
    sym (ends_when (the_view c.self.inside).work (answers.Replied c.in-Replies.reply) (ap (λ (p : ProxyState). p.work) c.self.view_is ∙ c.requires.idle)) ∙ ap (λ (r : Reply). turns.Ends (answers.Replied r)) same

-- Want of memory

pub returns-in_err-taken_for-clause-left_catalog : goal.returns-in_err-taken_for-clause-left_catalog
returns-in_err-taken_for-clause-left_catalog c =
    left_next (the_view c.self.inside) c.args.self.now c.self.view_is c.from_residual.result c.taken_for.new.known c.args.purpose c.args.bytes c.taken_for.new.known.catalog c.taken_for.ensures.leaves
    (none_left c.from_residual.result _ refl)

pub returns-in-GoesOn-clause-left_catalog : goal.returns-in-GoesOn-clause-left_catalog
returns-in-GoesOn-clause-left_catalog c =
    left_next (the_view c.self.inside) c.args.self.now c.self.view_is c.advance.result c.taken_for.new.known c.args.purpose c.args.bytes c.advance.new.self.known.catalog c.taken_for.ensures.leaves c.advance.ensures.left_catalog

pub returns-in-Leaf-clause-left_catalog : goal.returns-in-Leaf-clause-left_catalog
returns-in-Leaf-clause-left_catalog c =
    left_next (the_view c.self.inside) c.args.self.now c.self.view_is c.advance-in-Leaf.result c.taken_for.new.known c.args.purpose c.args.bytes c.advance-in-Leaf.new.self.known.catalog c.taken_for.ensures.leaves c.advance-in-Leaf.ensures.left_catalog

pub returns-in-Fails-clause-left_catalog : goal.returns-in-Fails-clause-left_catalog
returns-in-Fails-clause-left_catalog c =
    left_next (the_view c.self.inside) c.args.self.now c.self.view_is c.fail.result c.taken_for.new.known c.args.purpose c.args.bytes c.fail.new.self.known.catalog c.taken_for.ensures.leaves c.fail.ensures.left_catalog

-- A first try that failed

pub returns-in_err-taken_for-clause-first : goal.returns-in_err-taken_for-clause-first
returns-in_err-taken_for-clause-first c = λ zero.
    none_made _ c.from_residual.result (λ turn. IsSecond turn → FailsAsRead c.args.self.now.known c.args.work (c.args.purpose, c.args.bytes)) c.from_residual.ensures.0

pub returns-in-GoesOn-clause-first : goal.returns-in-GoesOn-clause-first
returns-in-GoesOn-clause-first c = λ zero.
    IfOk-weaker (turned c.advance.new.self.work c.advance.result) _ _
    (λ turn failing second. read_fails (the_view c.self.inside) c.args.self.now c.self.view_is c.taken_for.new.known c.args.work c.taken_for.new.work c.args.purpose c.args.bytes c.in_ok-taken_for.field-0 Taken.GoesOn c.in-GoesOn.is c.in_ok-taken_for.ensures.came (failing second))
    (c.advance.ensures.first
    (came_op (the_view c.self.inside).known c.taken_for.new.known c.args.work c.taken_for.new.work c.args.purpose c.args.bytes c.in_ok-taken_for.field-0 c.in_ok-taken_for.ensures.came ∙ zero))

pub returns-in-Leaf-clause-first : goal.returns-in-Leaf-clause-first
returns-in-Leaf-clause-first c = λ zero.
    IfOk-weaker (turned c.advance-in-Leaf.new.self.work c.advance-in-Leaf.result) _ _
    (λ turn failing second. read_fails (the_view c.self.inside) c.args.self.now c.self.view_is c.taken_for.new.known c.args.work c.taken_for.new.work c.args.purpose c.args.bytes c.in_ok-taken_for.field-0 Taken.Leaf c.in-Leaf.is c.in_ok-taken_for.ensures.came
    (subst (λ (w : Work). FailsAsKept c.taken_for.new.known (record w { failed = 0 })) c.get_mut.ensures.same (failing second)))
    (c.advance-in-Leaf.ensures.first refl)

pub returns-in-Replies-clause-first : goal.returns-in-Replies-clause-first
returns-in-Replies-clause-first c = λ zero.
    subst (λ (t : Turn). IsSecond t → FailsAsRead c.args.self.now.known c.args.work (c.args.purpose, c.args.bytes))
    (ends_when (the_view c.self.inside).work (answers.Replied c.in-Replies.reply) (ap (λ (p : ProxyState). p.work) c.self.view_is ∙ c.requires.idle))
    (λ second. absurd second)

pub returns-in-Fails-clause-first : goal.returns-in-Fails-clause-first
returns-in-Fails-clause-first c = λ zero.
    ok_any (turned c.fail.new.self.work c.fail.result) _ (λ turn second.
    read_fails (the_view c.self.inside) c.args.self.now c.self.view_is c.taken_for.new.known c.args.work c.taken_for.new.work c.args.purpose c.args.bytes c.in_ok-taken_for.field-0 (Taken.Fails c.in-Fails.cause) c.in-Fails.is c.in_ok-taken_for.ensures.came tt)
