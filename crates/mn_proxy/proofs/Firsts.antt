-- Why a first try failed, from the clauses of what its turn calls.
use Rattle.std.proofs.Common.{◌≡◌, ◌∙◌, ℕ, Bool, true, false, List, Option, Some, None, Result, Ok, Err, refl, sym, subst}
use Rattle.std.specs.Prelude.{IfOk, MatchOption}
use Rattle.mn_base.specs.declared.answer.Busy.{Busy}
use Rattle.mn_base.specs.declared.error.NoMemory.{NoMemory}
use Rattle.mn_base.specs.declared.ids.NodeNo.{NodeNo}
use Rattle.mn_base.specs.declared.ids.Tid.{Tid}
use Rattle.mn_law.specs.Answers.{is_refusal}
use Rattle.mn_mini.specs.Mini.{Mini}
use Rattle.mn_mini.specs.declared.reply.NodeReply.{NodeReply}
use Rattle.mn_mini.specs.declared.reply.NodeReply.TheVariants as Say
use Rattle.mn_runs.specs.declared.entry.Entry.{Entry}
use Rattle.mn_proxy.specs.declared.errand.Errand.{Errand}
use Rattle.mn_proxy.specs.declared.errand.Purpose.{Purpose}
use Rattle.mn_proxy.specs.declared.proxy.retrying.Failure.{Failure}
use Rattle.mn_proxy.specs.declared.proxy.retrying.Failure.TheVariants as fails
use Rattle.mn_proxy.specs.declared.step.ProxyStep.{ProxyStep}
use Rattle.mn_work.specs.declared.known.Known.{Known}
use Rattle.mn_work.specs.declared.next.Taken.{Taken}
use Rattle.mn_work.specs.declared.work.Work.{Work}
use Rattle.mn_proxy.specs.Firsts.{FailsAfter, FailsAsRead, FailsBy, FailsFirst, IsRefusal, IsSecond}
use Rattle.mn_proxy.specs.Kept.{Issues, Reads}
use Rattle.mn_proxy.specs.State.{ProxyState}
use Rattle.mn_proxy.specs.Turn.{Turn, turned}
use Rattle.mn_proxy.specs.Turn as turns
use Rattle.mn_proxy.specs.Turns.{CameOf, FailsSo, IsRefused, IsRefusedBy}

-- Turns

not_second : (n : ℕ) → n ≡ 0 → n ≡ 1 → ⊥
not_second n zero one = let both = sym zero ∙ one in cc

-- whatever came of it
pub ok_any : {T E : Type 0} (r : Result T E) (P : T → Type 0) → ((x : T) → P x) → IfOk r P
ok_any (Ok x) P all = all x
ok_any (Err e) P all = tt

-- a try that issues goes on
pub issues_first : (w : Work) (purpose : Purpose) (mini : Mini) (r : Result Turn NoMemory) (A : Type 0)
    → w.failed ≡ 0 → IfOk r (Issues w purpose mini) → IfOk r (λ turn. IsSecond turn → A)
issues_first w purpose mini (Err none) A zero issues = tt
issues_first w purpose mini (Ok turn) A zero (tid, is) = λ second.
    absurd (not_second w.failed zero (subst IsSecond is second))

-- so does one that reads
pub reads_first : (peek : Bool) (w : Work) (purpose : Purpose) (mini : Mini) (r : Result Turn NoMemory) (A : Type 0)
    → w.failed ≡ 0 → IfOk r (Reads peek w purpose mini) → IfOk r (λ turn. IsSecond turn → A)
reads_first false w purpose mini r A zero reads = issues_first w purpose mini r A zero reads
reads_first true w purpose mini (Err none) A zero reads = tt
reads_first true w purpose mini (Ok (turns.Goes step after errand)) A zero reads = λ second.
    absurd (not_second w.failed zero (subst (λ (v : Work). v.failed ≡ 1) reads second))
reads_first true w purpose mini (Ok (turns.Ends answer)) A zero reads = λ second. absurd second
reads_first true w purpose mini (Ok turns.Stops) A zero reads = λ second. absurd second

-- What was read

pub read_fails : (q p : ProxyState) → q ≡ p → (new : Known) (before after : Work) (purpose : Purpose) (bytes : List ℕ)
    (taken as_is : Taken) → taken ≡ as_is → CameOf q.known new before after purpose bytes taken
    → FailsAfter new after as_is → FailsAsRead p.known before (purpose, bytes)
read_fails q p same new before after purpose bytes taken as_is is came failing = (
  new,
  after,
  as_is,
  subst (λ (x : ProxyState). CameOf x.known new before after purpose bytes as_is) same
      (subst (λ (t : Taken). CameOf q.known new before after purpose bytes t) is came),
  failing,
)

-- where something was, whatever else there might be
pub some_of : {X : Type 0} (o : Option X) (A : Type 0) (F : X → Type 0) → MatchOption o ⊥ F → MatchOption o A F
some_of None A F told = absurd told
some_of (Some x) A F told = told

-- Refusals

refusal_by : (es : List Entry) (known : Known) (w : Work) (tid : Tid) (mini : Mini) (node : NodeNo) (reply : NodeReply)
    → (reply ≡ Say.NoMemory → ⊥) → (reply ≡ Say.Down → ⊥) → (reply ≡ Say.Stopped → ⊥)
    → IsRefusedBy es known w tid mini node reply → is_refusal reply ≡ true
refusal_by es known w tid mini node (Say.Done reads) memory down stopped refused = refused.0
refusal_by es known w tid mini node (Say.BadLock s k h) memory down stopped refused = refl
refusal_by es known w tid mini node (Say.BadCompare i found) memory down stopped refused = refl
refusal_by es known w tid mini node Say.BadForced memory down stopped refused = refl
refusal_by es known w tid mini node (Say.Vote v) memory down stopped refused = refused.0
refusal_by es known w tid mini node Say.Decided memory down stopped refused = refused.0
refusal_by es known w tid mini node (Say.Listed l) memory down stopped refused = refused.0
refusal_by es known w tid mini node (Say.Peeked b) memory down stopped refused = refused.0
refusal_by es known w tid mini node Say.Down memory down stopped refused = absurd (down refl)
refusal_by es known w tid mini node Say.Stopped memory down stopped refused = absurd (stopped refl)
refusal_by es known w tid mini node Say.NoMemory memory down stopped refused = absurd (memory refl)

pub refused_so_refusal : (es : List Entry) (known : Known) (w : Work) (tid : Tid) (mini : Mini) (node : NodeNo)
    (reply : Option NodeReply) (failure : Failure) (cause : Option Busy) → failure ≡ fails.Refused cause
    → FailsSo tid mini node reply failure → IsRefused es known w tid mini node reply → IsRefusal reply
refused_so_refusal es known w tid mini node reply failure cause is so refused =
    by (subst (FailsSo tid mini node reply) is so)
  where
    by : FailsSo tid mini node reply (fails.Refused cause) → IsRefusal reply
    by (refusing, at, memory, down, stopped, rest) =
        subst IsRefusal (sym at)
        (refusal_by es known w tid mini node refusing memory down stopped
        (subst (IsRefused es known w tid mini node) at refused))

-- Steps

module _ (p q : ProxyState) (w : Work) (errand : Errand) (under : p.work ≡ Some (w, errand)) where
  pub turned_first : (work : Option (Work × Errand)) (r : Result ProxyStep NoMemory) → q.work ≡ work
      → (w.failed ≡ 0 → IfOk (turned work r) (λ turn. IsSecond turn → FailsBy p.known w errand))
      → IfOk r (λ step. FailsFirst p q)
  turned_first (Some (v, now)) (Ok step) is failing = λ zero one.
      subst (λ (o : Option (Work × Errand)). MatchOption o ⊥ (λ u. FailsBy p.known u.0 u.1)) (sym under)
      (failing (subst (λ (o : Option (Work × Errand)). MatchOption o ⊥ (λ u. u.0.failed ≡ 0)) under zero)
      (subst (λ (o : Option (Work × Errand)). MatchOption o ⊥ (λ u. u.0.failed ≡ 1)) is one))
  turned_first None (Ok step) is failing = λ zero one.
      absurd (subst (λ (o : Option (Work × Errand)). MatchOption o ⊥ (λ u. u.0.failed ≡ 1)) is one)
  turned_first work (Err none) is failing = tt

  -- a request is handed out in the same try
  pub sent_first : (now : Errand) → q.work ≡ Some (w, now) → FailsFirst p q
  sent_first now is = λ zero one.
      absurd (not_second w.failed
      (subst (λ (o : Option (Work × Errand)). MatchOption o ⊥ (λ u. u.0.failed ≡ 0)) under zero)
      (subst (λ (o : Option (Work × Errand)). MatchOption o ⊥ (λ u. u.0.failed ≡ 1)) is one))
