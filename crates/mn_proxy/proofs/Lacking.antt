-- After a reply that there is no memory no call follows.
use Rattle.std.proofs.Common.{◌≡◌, ◌⊎◌, inl, inr, ℕ, Bool, true, false, not, List, length, Option, Some, None, Result, Ok, Err, refl, sym, ap, subst, ◌∙◌}
use Rattle.std.specs.Prelude.{if◌then◌else◌, nat_eq, nat_lt, IsErr, OnOk}
use Rattle.mn_base.specs.declared.ids.NodeNo.{NodeNo}
use Rattle.mn_base.specs.declared.ids.Tid.{Tid}
use Rattle.mn_coord.specs.Coordination.{Coordination, fed, fed_at, is_stopped_at_last, stage_in, stage_of, step_at, step_of}
use Rattle.mn_coord.specs.declared.stage.Stage.{Stage}
use Rattle.mn_coord.specs.declared.stage.Stage.TheVariants as At
use Rattle.mn_coord.specs.declared.step.CoordStep.TheVariants.{Send, Committed, Doubt, Failed}
use Rattle.mn_coord.proofs.Endings.{committed_at, failed_at}
use Rattle.mn_mini.specs.Mini.{Mini, participants_of}
use Rattle.mn_mini.specs.declared.reply.NodeReply.{NodeReply}
use Rattle.mn_mini.specs.declared.reply.NodeReply.TheVariants as Say
use Rattle.mn_mini.specs.declared.request.Request.{Request}
use Rattle.mn_runs.specs.declared.entry.Entry.{Entry}
use Rattle.mn_proxy.specs.declared.errand.Errand.{Errand}
use Rattle.mn_proxy.specs.declared.errand.Errand.TheVariants as out
use Rattle.mn_proxy.specs.declared.proxy.retrying.Failure.{Failure}
use Rattle.mn_proxy.specs.declared.proxy.retrying.Failure.TheVariants as fails
use Rattle.mn_proxy.specs.declared.step.ProxyStep.{ProxyStep}
use Rattle.mn_proxy.specs.declared.step.ProxyStep.TheVariants as steps
use Rattle.mn_work.specs.declared.known.Known.{Known}
use Rattle.mn_work.specs.declared.work.Work.{Work}
use Rattle.mn_proxy.specs.Agrees.{Agrees, ErrandAgrees, WorksBy}
use Rattle.mn_proxy.specs.State.{ProxyState}
use Rattle.mn_proxy.specs.Turns.{AnswersPeek, FailsSo, GivesUp, IsFed, IsSent, LacksIn, OwesNoDecide, OwesNone, OwesNoneIn}
use Rattle.mn_proxy.proofs.Coordinating.{commits_unrefused, doubted_at, fails_refused, lacks_stage}

-- A minitransaction

asks_unrefused : (n done : ℕ) (refused : Option NodeReply) (told : Bool) (decided : ℕ)
    → stage_of n done refused told decided ≡ At.Ask → refused ≡ None
asks_unrefused n done None told decided e = refl
asks_unrefused n done (Some reply) told decided e =
    absurd (all (is_stopped_at_last n done reply) (nat_eq n 1) (not told) (nat_lt decided done) e)
  where
    all : (a b c d : Bool) → (if a then At.Doubt else (if b then At.Failed else (if c then At.Abandon else (if d then At.Cancel else At.Failed)))) ≡ At.Ask → ⊥
    all true b c d f = absurd cc
    all false true c d f = absurd cc
    all false false true d f = absurd cc
    all false false false true f = absurd cc
    all false false false false f = absurd cc

-- it has failed, or is given up
stage_lacks : (c : Coordination) → c.refused ≡ Some Say.NoMemory → c.told ≡ false
    → (stage_in c ≡ At.Failed) ⊎ (stage_in c ≡ At.Abandon)
stage_lacks c refused told =
    subst (λ (t : Bool). (stage_of (length (participants_of c.mini)) c.done c.refused t c.decided ≡ At.Failed) ⊎ (stage_of (length (participants_of c.mini)) c.done c.refused t c.decided ≡ At.Abandon)) (sym told)
    (subst (λ (o : Option NodeReply). (stage_of (length (participants_of c.mini)) c.done o false c.decided ≡ At.Failed) ⊎ (stage_of (length (participants_of c.mini)) c.done o false c.decided ≡ At.Abandon)) (sym refused)
    (lacks_stage (length (participants_of c.mini)) c.done c.decided))

sends_none : (c : Coordination) (node : NodeNo) (request : Request) → c.refused ≡ Some Say.NoMemory
    → c.told ≡ false → step_of c ≡ Send node request → ⊥
sends_none c node request refused told step = by (stage_lacks c refused told)
  where
    by : (stage_in c ≡ At.Failed) ⊎ (stage_in c ≡ At.Abandon) → ⊥
    by (inl is) = let e = subst (λ (s : Stage). step_at c s ≡ Send node request) is step in cc
    by (inr is) = let e = subst (λ (s : Stage). step_at c s ≡ Send node request) is step in cc

-- it is neither committed nor in doubt
pub commits_none : (c : Coordination) → c.refused ≡ Some Say.NoMemory → step_of c ≡ Committed → ⊥
commits_none c refused step =
    let none = (commits_unrefused (length (participants_of c.mini)) c.done c.refused c.told c.decided (committed_at c step)).0 in
    let both = sym refused ∙ none in cc

pub doubts_none : (c : Coordination) (node : NodeNo) → c.refused ≡ Some Say.NoMemory → step_of c ≡ Doubt node → ⊥
doubts_none c node refused step =
    all (nat_eq (length (participants_of c.mini)) 1) (not c.told) (nat_lt c.decided c.done)
    (subst (λ (o : Option NodeReply). stage_of (length (participants_of c.mini)) c.done o c.told c.decided ≡ At.Doubt) refused (doubted_at c node step))
  where
    all : (b d e : Bool) → (if b then At.Failed else (if d then At.Abandon else (if e then At.Cancel else At.Failed))) ≡ At.Doubt → ⊥
    all true d e f = cc
    all false true e f = cc
    all false false true f = cc
    all false false false f = cc

-- one that failed was refused
pub failed_refused : (c : Coordination) (node : NodeNo) → step_of c ≡ Failed node → c.refused ≡ None → ⊥
failed_refused c node step none =
    fails_refused (length (participants_of c.mini)) c.done c.told c.decided
    (subst (λ (o : Option NodeReply). stage_of (length (participants_of c.mini)) c.done o c.told c.decided ≡ At.Failed) none (failed_at c node step).0)

-- so no try is said to have failed
pub fails_otherwise : (tid : Tid) (mini : Mini) (node : NodeNo) (reply : Option NodeReply) (failure : Failure)
    → reply ≡ Some Say.NoMemory → FailsSo tid mini node reply failure → ⊥
fails_otherwise tid mini node reply fails.Down none (inl is) = let both = sym none ∙ is in cc
fails_otherwise tid mini node reply fails.Down none (inr is) = let both = sym none ∙ is in cc
fails_otherwise tid mini node reply (fails.Refused cause) none (refusing, is, other, down, stopped, cause_is) =
    let both = sym none ∙ is in other cc

pub err_none : {T E : Type 0} (r : Result T E) (P : Type 0) → IsErr r → OnOk r P
err_none (Ok x) P is = absurd cc
err_none (Err e) P is = tt

-- a Peek is answered in no other way
pub answers_peek : (reply : NodeReply) → AnswersPeek reply → ((bytes : List ℕ) → reply ≡ Say.Peeked bytes → ⊥)
    → (reply ≡ Say.Down → ⊥) → (reply ≡ Say.NoMemory → ⊥) → ⊥
answers_peek (Say.Done reads) answers peeked down memory = answers
answers_peek (Say.BadLock s k h) answers peeked down memory = answers
answers_peek (Say.BadCompare i found) answers peeked down memory = answers
answers_peek Say.BadForced answers peeked down memory = answers
answers_peek (Say.Vote v) answers peeked down memory = answers
answers_peek Say.Decided answers peeked down memory = answers
answers_peek (Say.Listed l) answers peeked down memory = answers
answers_peek (Say.Peeked bytes) answers peeked down memory = peeked bytes refl
answers_peek Say.Down answers peeked down memory = down refl
answers_peek Say.Stopped answers peeked down memory = answers
answers_peek Say.NoMemory answers peeked down memory = memory refl

-- What is on its way

-- no request is handed out for it
pub sent_gives_up : (w : Work) (errand after : Errand) (step : ProxyStep) → IsSent errand after step
    → LacksIn (Some (w, errand)) → GivesUp step
sent_gives_up w (out.Mini tid c purpose) after (steps.Call node request) (d, is, makes) (refused, told) =
    absurd (sends_none c node request refused told (sym makes.step_is))
sent_gives_up w (out.Mini tid c purpose) after (steps.Abandon id) sent lacks = tt
sent_gives_up w (out.Mini tid c purpose) after (steps.Issue id mini) sent lacks = absurd sent
sent_gives_up w (out.Mini tid c purpose) after (steps.Done answer) sent lacks = absurd sent
sent_gives_up w out.Nothing after step sent lacks = absurd sent
sent_gives_up w (out.Peek place purpose) after step sent lacks = absurd sent
sent_gives_up w (out.Peeked place reply purpose) after step sent lacks = absurd sent

-- it was fed so
fed_lacks : (es : List Entry) (known : Known) (w : Work) (errand after : Errand) (reply : NodeReply)
    → ErrandAgrees es known w errand → reply ≡ Say.NoMemory → OwesNone errand → IsFed errand reply after
    → LacksIn (Some (w, after))
fed_lacks es known w out.Nothing after reply agrees none owes fed = absurd fed
fed_lacks es known w (out.Peeked place said purpose) after reply agrees none owes fed = absurd fed
fed_lacks es known w (out.Peek place purpose) after reply agrees none owes fed =
    subst (λ (e : Errand). LacksIn (Some (w, e))) (sym fed) none
fed_lacks es known w (out.Mini tid c purpose) after reply m none owes (d, is, takes) =
    subst (λ (e : Errand). LacksIn (Some (w, e))) (sym is)
    (subst (λ (x : Coordination). (x.refused ≡ Some Say.NoMemory) × (x.told ≡ false))
    (sym (takes.fed_is ∙ (ap (fed c) none ∙ ap (λ (s : Stage). fed_at c s Say.NoMemory) owes)))
    (refl, m.coordinates.untold (asks_unrefused (length (participants_of c.mini)) c.done c.refused c.told c.decided owes)))

pub feed_lacks : (p : ProxyState) (w : Work) (errand after : Errand) (reply : NodeReply)
    → p.work ≡ Some (w, errand) → IsFed errand reply after → (es : List Entry) → Agrees es p
    → reply ≡ Say.NoMemory → OwesNoDecide p → LacksIn (Some (w, after))
feed_lacks p w errand after reply is fed es agrees none owes =
    fed_lacks es p.known w errand after reply (subst (WorksBy es p) is agrees.1) none (subst OwesNoneIn is owes) fed
