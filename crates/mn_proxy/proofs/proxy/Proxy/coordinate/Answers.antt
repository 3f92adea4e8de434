use Rattle.mn_proxy.proofs.Ended.{ends_when}
use Rattle.mn_proxy.specs.declared.step.ProxyStep.TheVariants as steps
use Rattle.mn_base.specs.declared.answer.Answer.TheVariants as answers
use Rattle.mn_proxy.specs.Turn.{turn_of, turned}
use Rattle.std.proofs.Common.{◌≡◌, ◌+◌, ℕ, List, Option, refl, subst, sym, ap, ◌∙◌}
use Rattle.mn_coord.specs.Coordination.{Coordination, after_step}
use Rattle.mn_mini.specs.Mini.{Mini}
use Rattle.mn_mini.specs.declared.reply.NodeReply.{NodeReply}
use Rattle.mn_proxy.specs.Agrees.{MayWant}
use Rattle.mn_proxy.specs.Turns.{IsCommitted, IsRefused, IsSoundTurn, TurnAgrees}
use Rattle.mn_proxy.proofs.Answered.{may_want}
use Rattle.mn_proxy.proofs.Coordinating.{fails_kept, fails_over, mini_commits, mini_doubts, mini_fails, on_err, waits_startable}
use Rattle.mn_proxy.specs.Measure.{GoesBelow, left_after, left_of}
use Rattle.mn_proxy.proofs.Measure.{mini_goes}
use Rattle.std.proofs.Common.{Ok, Result}
use Rattle.mn_base.specs.declared.error.NoMemory.{NoMemory}
use Rattle.mn_coord.specs.Coordination.{step_of}
use Rattle.mn_coord.specs.declared.step.CoordStep.{CoordStep}
use Rattle.mn_coord.specs.declared.step.CoordStep.TheVariants.{Committed, Doubt, Failed}
use Rattle.mn_proxy.specs.declared.errand.Purpose.{Purpose}
use Rattle.mn_proxy.specs.Turn.{Turn}
use Rattle.mn_proxy.specs.Kept.{read_for, read_when}
use Rattle.mn_work.specs.Walks.{is_later}
use Rattle.mn_proxy.proofs.Kept.{cache_as, catalog_as, catalog_stays, err_then, leaf_as, left_as, left_unread, unread_cache, unread_catalog, unread_leaf}
use Rattle.mn_proxy.proofs.Lacking.{commits_none, doubts_none, failed_refused}
use Rattle.std.proofs.lemmas.Result.{IfOk-weaker}
use Rattle.std.specs.Prelude.{IfOk, MatchOption}
use Rattle.mn_proxy.specs.Firsts.{FailsAsRead, IsRefusal, IsSecond}
use Rattle.mn_proxy.proofs.Firsts.{some_of}
use Rattle.mn_proxy.proofs.proxy.Proxy.coordinate.Goals as goal

pub next-requires : goal.next-requires
next-requires c = record { idle = c.requires.quiet }

pub commit-requires-clause-idle : goal.commit-requires-clause-idle
commit-requires-clause-idle c = c.requires.idle

pub commit-requires-clause-few : goal.commit-requires-clause-few
commit-requires-clause-few c = c.requires.few

pub commit-requires-clause-waits : goal.commit-requires-clause-waits
commit-requires-clause-waits c = c.requires.waits

pub returns-in-Committed-clause-sound : goal.returns-in-Committed-clause-sound
returns-in-Committed-clause-sound c = c.commit.ensures.sound

pub returns-in-Committed-clause-turns : goal.returns-in-Committed-clause-turns
returns-in-Committed-clause-turns c = λ es own m.
    let p = c.args.self.now in
    c.commit.ensures.turns es own
    (subst (λ (r : List (List (List ℕ))). IsCommitted es p.known c.args.work r c.args.purpose)
    (sym (c.reads.ensures ∙ ap (λ (x : Coordination). x.reads) (c.next.ensures.after ∙ ap (after_step c.args.coordinator) c.in-Committed.is)))
    (mini_commits es p c.args.work c.args.tid c.args.coordinator c.args.purpose own m (sym c.next.ensures.step ∙ c.in-Committed.is)))

pub returns-in-Committed-clause-want : goal.returns-in-Committed-clause-want
returns-in-Committed-clause-want c = λ es own m.
    let p = c.args.self.now in
    c.commit.ensures.want es own
    (subst (λ (r : List (List (List ℕ))). IsCommitted es p.known c.args.work r c.args.purpose)
    (sym (c.reads.ensures ∙ ap (λ (x : Coordination). x.reads) (c.next.ensures.after ∙ ap (after_step c.args.coordinator) c.in-Committed.is)))
    (mini_commits es p c.args.work c.args.tid c.args.coordinator c.args.purpose own m (sym c.next.ensures.step ∙ c.in-Committed.is)))

pub returns-in-Committed-clause-left : goal.returns-in-Committed-clause-left
returns-in-Committed-clause-left c = λ es own m.
    let p = c.args.self.now in
    c.commit.ensures.left es own
    (subst (λ (r : List (List (List ℕ))). IsCommitted es p.known c.args.work r c.args.purpose)
    (sym (c.reads.ensures ∙ ap (λ (x : Coordination). x.reads) (c.next.ensures.after ∙ ap (after_step c.args.coordinator) c.in-Committed.is)))
    (mini_commits es p c.args.work c.args.tid c.args.coordinator c.args.purpose own m (sym c.next.ensures.step ∙ c.in-Committed.is)))

pub returns-in-Committed-clause-kept : goal.returns-in-Committed-clause-kept
returns-in-Committed-clause-kept c = c.commit.ensures.kept

pub refuse-requires-clause-idle : goal.refuse-requires-clause-idle
refuse-requires-clause-idle c = c.requires.idle

pub refuse-requires-clause-few : goal.refuse-requires-clause-few
refuse-requires-clause-few c = c.requires.few

pub refuse-requires-clause-startable : goal.refuse-requires-clause-startable
refuse-requires-clause-startable c = waits_startable c.args.self.now.known c.args.work c.args.purpose c.requires.waits

pub returns-in-Failed-clause-sound : goal.returns-in-Failed-clause-sound
returns-in-Failed-clause-sound c = c.refuse.ensures.sound

pub returns-in-Failed-clause-turns : goal.returns-in-Failed-clause-turns
returns-in-Failed-clause-turns c = λ es own m.
    let p = c.args.self.now in
    let same = c.next.ensures.after ∙ ap (after_step c.args.coordinator) c.in-Failed.is in
    c.refuse.ensures.turns es
    (own, fails_kept es p.known c.args.work c.args.tid c.args.coordinator c.args.purpose c.in-Failed.node m (sym c.next.ensures.step ∙ c.in-Failed.is))
    (subst (λ (r : Option NodeReply). IsRefused es p.known c.args.work c.args.tid c.into_outcome.result.mini c.in-Failed.node r)
    (sym (c.into_outcome.ensures.reply ∙ ap (λ (x : Coordination). x.refused) same))
    (subst (λ (x : Mini). IsRefused es p.known c.args.work c.args.tid x c.in-Failed.node c.args.coordinator.refused)
    (sym (c.into_outcome.ensures.mini ∙ ap (λ (x : Coordination). x.mini) same))
    (mini_fails es p c.args.work c.args.tid c.args.coordinator c.args.purpose c.in-Failed.node own m c.requires.waits (sym c.next.ensures.step ∙ c.in-Failed.is))))

pub returns-in-Failed-clause-want : goal.returns-in-Failed-clause-want
returns-in-Failed-clause-want c = λ es own m.
    on_err c.refuse.result (MayWant es) (may_want es c.args.work.op
    (fails_over es c.args.self.now c.args.work c.args.tid c.args.coordinator c.args.purpose c.in-Failed.node own m (sym c.next.ensures.step ∙ c.in-Failed.is)))

pub returns-in-Failed-clause-left : goal.returns-in-Failed-clause-left
returns-in-Failed-clause-left c = λ es own m.
    c.refuse.ensures.left es
    (own, fails_kept es c.args.self.now.known c.args.work c.args.tid c.args.coordinator c.args.purpose c.in-Failed.node m (sym c.next.ensures.step ∙ c.in-Failed.is))

pub returns-in-Failed-clause-kept : goal.returns-in-Failed-clause-kept
returns-in-Failed-clause-kept c = c.refuse.ensures.kept

pub returns-in-Doubt-clause-sound : goal.returns-in-Doubt-clause-sound
returns-in-Doubt-clause-sound c = subst (IsSoundTurn c.args.self.now.known) (ends_when c.args.self.now.work (answers.InDoubt c.args.tid c.in-Doubt.node) c.requires.idle) tt

pub returns-in-Doubt-clause-turns : goal.returns-in-Doubt-clause-turns
returns-in-Doubt-clause-turns c = λ es own m.
    subst (TurnAgrees es c.args.self.now) (ends_when c.args.self.now.work (answers.InDoubt c.args.tid c.in-Doubt.node) c.requires.idle)
    (mini_doubts es c.args.self.now c.args.work c.args.tid c.args.coordinator c.args.purpose c.in-Doubt.node own m (sym c.next.ensures.step ∙ c.in-Doubt.is))

pub returns-in-Doubt-clause-kept : goal.returns-in-Doubt-clause-kept
returns-in-Doubt-clause-kept c = ((refl, refl, refl), tt)

pub returns-in-Committed-clause-falls : goal.returns-in-Committed-clause-falls
returns-in-Committed-clause-falls c =
    mini_goes c.args.self.now c.commit.new.self c.args.coordinator (turned c.commit.new.self.work c.commit.result) c.commit.ensures.falls

pub returns-in-Failed-clause-falls : goal.returns-in-Failed-clause-falls
returns-in-Failed-clause-falls c =
    mini_goes c.args.self.now c.refuse.new.self c.args.coordinator (turned c.refuse.new.self.work c.refuse.result) c.refuse.ensures.falls

pub returns-in-Doubt-clause-falls : goal.returns-in-Doubt-clause-falls
returns-in-Doubt-clause-falls c =
    subst (GoesBelow (left_after c.args.self.now + left_of c.args.coordinator) c.args.self.now) (ends_when c.args.self.now.work (answers.InDoubt c.args.tid c.in-Doubt.node) c.requires.idle) tt

-- What is kept

-- what is read of a minitransaction, by what it wants next
read_as : (c : Coordination) (purpose : Purpose) (step : CoordStep) → step_of c ≡ step
    → read_when (step_of c) c.reads purpose ≡ read_when step c.reads purpose
read_as c purpose step is = ap (λ (s : CoordStep). read_when s c.reads purpose) is

pub returns-in-Committed-clause-cache : goal.returns-in-Committed-clause-cache
returns-in-Committed-clause-cache c =
    cache_as (read_when (step_of c.args.coordinator) c.args.coordinator.reads c.args.purpose) (read_for c.args.purpose c.reads.result.now) (is_later c.args.work.failed) c.args.self.now.known.cache c.commit.new.self.known.cache (turned c.commit.new.self.work c.commit.result)
    (read_as c.args.coordinator c.args.purpose Committed (sym c.next.ensures.step ∙ c.in-Committed.is)
    ∙ ap (read_for c.args.purpose) (sym (c.reads.ensures ∙ ap (λ (x : Coordination). x.reads) (c.next.ensures.after ∙ ap (after_step c.args.coordinator) c.in-Committed.is))))
    c.commit.ensures.cache

pub returns-in-Committed-clause-catalog : goal.returns-in-Committed-clause-catalog
returns-in-Committed-clause-catalog c =
    catalog_as (read_when (step_of c.args.coordinator) c.args.coordinator.reads c.args.purpose) (read_for c.args.purpose c.reads.result.now) c.args.self.now.known.catalog c.commit.new.self.known.catalog (turned c.commit.new.self.work c.commit.result)
    (read_as c.args.coordinator c.args.purpose Committed (sym c.next.ensures.step ∙ c.in-Committed.is)
    ∙ ap (read_for c.args.purpose) (sym (c.reads.ensures ∙ ap (λ (x : Coordination). x.reads) (c.next.ensures.after ∙ ap (after_step c.args.coordinator) c.in-Committed.is))))
    c.commit.ensures.catalog

pub returns-in-Committed-clause-leaf : goal.returns-in-Committed-clause-leaf
returns-in-Committed-clause-leaf c =
    leaf_as c.args.self.now.known c.args.work (read_when (step_of c.args.coordinator) c.args.coordinator.reads c.args.purpose) (read_for c.args.purpose c.reads.result.now) (turned c.commit.new.self.work c.commit.result)
    (read_as c.args.coordinator c.args.purpose Committed (sym c.next.ensures.step ∙ c.in-Committed.is)
    ∙ ap (read_for c.args.purpose) (sym (c.reads.ensures ∙ ap (λ (x : Coordination). x.reads) (c.next.ensures.after ∙ ap (after_step c.args.coordinator) c.in-Committed.is))))
    c.commit.ensures.leaf

pub returns-in-Failed-clause-cache : goal.returns-in-Failed-clause-cache
returns-in-Failed-clause-cache c =
    unread_cache (read_when (step_of c.args.coordinator) c.args.coordinator.reads c.args.purpose) (is_later c.args.work.failed) c.args.self.now.known.cache c.refuse.new.self.known.cache (turned c.refuse.new.self.work c.refuse.result)
    (read_as c.args.coordinator c.args.purpose (Failed c.in-Failed.node) (sym c.next.ensures.step ∙ c.in-Failed.is)) c.refuse.ensures.cache

pub returns-in-Failed-clause-catalog : goal.returns-in-Failed-clause-catalog
returns-in-Failed-clause-catalog c =
    unread_catalog (read_when (step_of c.args.coordinator) c.args.coordinator.reads c.args.purpose) c.args.self.now.known.catalog c.refuse.new.self.known.catalog (turned c.refuse.new.self.work c.refuse.result)
    (read_as c.args.coordinator c.args.purpose (Failed c.in-Failed.node) (sym c.next.ensures.step ∙ c.in-Failed.is)) c.refuse.ensures.catalog

pub returns-in-Failed-clause-leaf : goal.returns-in-Failed-clause-leaf
returns-in-Failed-clause-leaf c = λ leaf.
    absurd (unread_leaf c.args.self.now.known c.args.work (read_when (step_of c.args.coordinator) c.args.coordinator.reads c.args.purpose)
    (read_as c.args.coordinator c.args.purpose (Failed c.in-Failed.node) (sym c.next.ensures.step ∙ c.in-Failed.is)) leaf)

pub returns-in-Doubt-clause-cache : goal.returns-in-Doubt-clause-cache
returns-in-Doubt-clause-cache c =
    unread_cache (read_when (step_of c.args.coordinator) c.args.coordinator.reads c.args.purpose) (is_later c.args.work.failed) c.args.self.now.known.cache c.args.self.now.known.cache (Ok (turn_of c.args.self.now.work (steps.Done (answers.InDoubt c.args.tid c.in-Doubt.node))))
    (read_as c.args.coordinator c.args.purpose (Doubt c.in-Doubt.node) (sym c.next.ensures.step ∙ c.in-Doubt.is)) refl

pub returns-in-Doubt-clause-catalog : goal.returns-in-Doubt-clause-catalog
returns-in-Doubt-clause-catalog c =
    let result : Result Turn NoMemory = Ok (turn_of c.args.self.now.work (steps.Done (answers.InDoubt c.args.tid c.in-Doubt.node))) in
    unread_catalog (read_when (step_of c.args.coordinator) c.args.coordinator.reads c.args.purpose) c.args.self.now.known.catalog c.args.self.now.known.catalog result
    (read_as c.args.coordinator c.args.purpose (Doubt c.in-Doubt.node) (sym c.next.ensures.step ∙ c.in-Doubt.is))
    (catalog_stays c.args.self.now.known.catalog c.args.self.now.known.catalog result refl)

pub returns-in-Doubt-clause-leaf : goal.returns-in-Doubt-clause-leaf
returns-in-Doubt-clause-leaf c = λ leaf.
    absurd (unread_leaf c.args.self.now.known c.args.work (read_when (step_of c.args.coordinator) c.args.coordinator.reads c.args.purpose)
    (read_as c.args.coordinator c.args.purpose (Doubt c.in-Doubt.node) (sym c.next.ensures.step ∙ c.in-Doubt.is)) leaf)

-- Want of memory

pub refuse-requires-clause-failed : goal.refuse-requires-clause-failed
refuse-requires-clause-failed c = λ none.
    failed_refused c.args.coordinator c.in-Failed.node (sym c.next.ensures.step ∙ c.in-Failed.is)
    (sym (c.into_outcome.ensures.reply ∙ ap (λ (x : Coordination). x.refused) (c.next.ensures.after ∙ ap (after_step c.args.coordinator) c.in-Failed.is)) ∙ none)

pub returns-in-Committed-clause-left_catalog : goal.returns-in-Committed-clause-left_catalog
returns-in-Committed-clause-left_catalog c =
    left_as c.commit.result (read_when (step_of c.args.coordinator) c.args.coordinator.reads c.args.purpose) (read_for c.args.purpose c.reads.result.now) c.args.self.now.known.catalog c.commit.new.self.known.catalog
    (read_as c.args.coordinator c.args.purpose Committed (sym c.next.ensures.step ∙ c.in-Committed.is)
    ∙ ap (read_for c.args.purpose) (sym (c.reads.ensures ∙ ap (λ (x : Coordination). x.reads) (c.next.ensures.after ∙ ap (after_step c.args.coordinator) c.in-Committed.is))))
    c.commit.ensures.left_catalog

pub returns-in-Failed-clause-left_catalog : goal.returns-in-Failed-clause-left_catalog
returns-in-Failed-clause-left_catalog c =
    err_then c.refuse.result _ _
    (left_unread (read_when (step_of c.args.coordinator) c.args.coordinator.reads c.args.purpose) c.args.self.now.known.catalog c.refuse.new.self.known.catalog
    (read_as c.args.coordinator c.args.purpose (Failed c.in-Failed.node) (sym c.next.ensures.step ∙ c.in-Failed.is))) c.refuse.ensures.left_catalog

pub returns-in-Committed-clause-lacks : goal.returns-in-Committed-clause-lacks
returns-in-Committed-clause-lacks c = λ none.
    absurd (commits_none c.args.coordinator none (sym c.next.ensures.step ∙ c.in-Committed.is))

pub returns-in-Failed-clause-lacks : goal.returns-in-Failed-clause-lacks
returns-in-Failed-clause-lacks c = λ none.
    c.refuse.ensures.lacks
    (c.into_outcome.ensures.reply ∙ ap (λ (x : Coordination). x.refused) (c.next.ensures.after ∙ ap (after_step c.args.coordinator) c.in-Failed.is) ∙ none)

pub returns-in-Doubt-clause-lacks : goal.returns-in-Doubt-clause-lacks
returns-in-Doubt-clause-lacks c = λ none.
    absurd (doubts_none c.args.coordinator c.in-Doubt.node none (sym c.next.ensures.step ∙ c.in-Doubt.is))

-- A first try that failed

pub returns-in-Committed-clause-first : goal.returns-in-Committed-clause-first
returns-in-Committed-clause-first c = λ es own m zero.
    subst (λ (read : Option (Purpose × List ℕ)). IfOk (turned c.commit.new.self.work c.commit.result) (λ turn. IsSecond turn → MatchOption read (IsRefusal c.args.coordinator.refused) (FailsAsRead c.args.self.now.known c.args.work)))
    (sym (read_as c.args.coordinator c.args.purpose Committed (sym c.next.ensures.step ∙ c.in-Committed.is)
    ∙ ap (read_for c.args.purpose) (sym (c.reads.ensures ∙ ap (λ (x : Coordination). x.reads) (c.next.ensures.after ∙ ap (after_step c.args.coordinator) c.in-Committed.is)))))
    (IfOk-weaker (turned c.commit.new.self.work c.commit.result) _ _
    (λ turn failing second. some_of (read_for c.args.purpose c.reads.result.now) (IsRefusal c.args.coordinator.refused) (FailsAsRead c.args.self.now.known c.args.work) (failing second)) (c.commit.ensures.first zero))

pub returns-in-Failed-clause-first : goal.returns-in-Failed-clause-first
returns-in-Failed-clause-first c = λ es own m zero.
    let p = c.args.self.now in
    let same = c.next.ensures.after ∙ ap (after_step c.args.coordinator) c.in-Failed.is in
    subst (λ (read : Option (Purpose × List ℕ)). IfOk (turned c.refuse.new.self.work c.refuse.result) (λ turn. IsSecond turn → MatchOption read (IsRefusal c.args.coordinator.refused) (FailsAsRead c.args.self.now.known c.args.work)))
    (sym (read_as c.args.coordinator c.args.purpose (Failed c.in-Failed.node) (sym c.next.ensures.step ∙ c.in-Failed.is)))
    (IfOk-weaker (turned c.refuse.new.self.work c.refuse.result) _ _
    (λ turn failing second. subst IsRefusal (c.into_outcome.ensures.reply ∙ ap (λ (x : Coordination). x.refused) same) (failing second))
    (c.refuse.ensures.first es
    (subst (λ (r : Option NodeReply). IsRefused es p.known c.args.work c.args.tid c.into_outcome.result.mini c.in-Failed.node r)
    (sym (c.into_outcome.ensures.reply ∙ ap (λ (x : Coordination). x.refused) same))
    (subst (λ (x : Mini). IsRefused es p.known c.args.work c.args.tid x c.in-Failed.node c.args.coordinator.refused)
    (sym (c.into_outcome.ensures.mini ∙ ap (λ (x : Coordination). x.mini) same))
    (mini_fails es p c.args.work c.args.tid c.args.coordinator c.args.purpose c.in-Failed.node own m c.requires.waits (sym c.next.ensures.step ∙ c.in-Failed.is))))))

pub returns-in-Doubt-clause-first : goal.returns-in-Doubt-clause-first
returns-in-Doubt-clause-first c = λ es own m zero.
    subst (λ (t : Turn). IsSecond t → MatchOption (read_when (step_of c.args.coordinator) c.args.coordinator.reads c.args.purpose) (IsRefusal c.args.coordinator.refused) (FailsAsRead c.args.self.now.known c.args.work))
    (ends_when c.args.self.now.work (answers.InDoubt c.args.tid c.in-Doubt.node) c.requires.idle)
    (λ second. absurd second)
