-- What a proxy hands out next, by what the turn of its operation left.
use Rattle.std.proofs.Common.{◌≡◌, ℕ, List, Option, Some, None, Result, Ok, Err, subst, sym}
use Rattle.std.specs.Prelude.{OnErr}
use Rattle.mn_base.specs.declared.answer.Answer.TheVariants as answers
use Rattle.mn_base.specs.declared.ids.ClientNo.{ClientNo}
use Rattle.mn_runs.specs.declared.entry.Entry.{Entry}
use Rattle.mn_runs.specs.declared.entry.What.TheVariants.{Abandoned, Answered, Issue}
use Rattle.mn_runs.specs.Calls.{begun_of}
use Rattle.mn_runs.specs.Clients.{ClientAllows, last_number}
use Rattle.mn_proxy.specs.declared.errand.Errand.{Errand}
use Rattle.mn_proxy.specs.Turn.{Turn}
use Rattle.mn_proxy.specs.Turn as turns
use Rattle.mn_proxy.specs.declared.step.ProxyStep.{ProxyStep}
use Rattle.mn_proxy.specs.declared.step.ProxyStep.TheVariants as steps
use Rattle.mn_work.specs.declared.work.Work.{Work}
use Rattle.mn_work.specs.declared.known.Known.{Known}
use Rattle.mn_proxy.specs.Agrees.{Agrees, Enters, EntersWant, ErrandAgrees, HasOutIn, IsOwn, IsOwnEntry, IsOwnLast, IsSoundStep, MayStep, Wants, WorksBy}
use Rattle.mn_proxy.specs.State.{IsOutIn, ProxyState}
use Rattle.mn_proxy.specs.Turns.{IsOutAs, IsSoundTurn, TurnAgrees, with_work}
use Rattle.mn_proxy.proofs.Answered.{answered_idle, answered_own}
use Rattle.mn_proxy.proofs.Issuing.{own_with}

-- Before it

-- what is kept, while its operation has its turn
pub turn_own : (es : List Entry) (p q : ProxyState) (work : Option (Work × Errand)) → p ≡ q
    → Agrees es q → IsOwn es (record p { work = work })
turn_own es p q work same agrees = own_with es p work (subst (IsOwn es) (sym same) agrees.0)

-- what is on its way
pub turn_errand : (es : List Entry) (p q : ProxyState) (w : Work) (errand : Errand) → p ≡ q
    → p.work ≡ Some (w, errand) → Agrees es q → ErrandAgrees es p.known w errand
turn_errand es p q w errand same is agrees =
    let by : Agrees es p = subst (Agrees es) (sym same) agrees in subst (WorksBy es p) is by.1

-- Another state of the same client

pub step_of_same : (es : List Entry) (p q : ProxyState) (step : ProxyStep) → q.client ≡ p.client
    → MayStep es q step → MayStep es p step
step_of_same es p q (steps.Issue tid mini) same may =
    (subst (λ (k : ClientNo). ClientAllows k es None (Issue tid mini)) same may.0, may.1)
step_of_same es p q (steps.Abandon tid) same may = may
step_of_same es p q (steps.Call node request) same may = may
step_of_same es p q (steps.Done answer) same may = may

pub enters_of_same : (es new : List Entry) (p q : ProxyState) (step : ProxyStep) → p.client ≡ q.client
    → Enters es p step new → Enters es q step new
enters_of_same es new p q (steps.Issue tid mini) same (e, own, is) =
    (e, subst (λ (k : ClientNo). IsOwnEntry k (Issue tid mini) e) same own, is)
enters_of_same es new p q (steps.Abandon tid) same (e, own, is) =
    (e, subst (λ (k : ClientNo). IsOwnEntry k (Abandoned tid) e) same own, is)
enters_of_same es new p q (steps.Call node request) same enters = enters
enters_of_same es new p q (steps.Done answer) same (e, own, is) =
    (e, subst (λ (k : ClientNo). IsOwnEntry k (Answered (last_number (begun_of es)) answer) e) same own, is)

-- After it

-- the client may make the step
pub goes_legal : (es : List Entry) (p q : ProxyState) (turn : Turn) (step : ProxyStep) (w : Work)
    (errand : Errand) → turn ≡ turns.Goes step w errand → q.client ≡ p.client
    → TurnAgrees es q turn → MayStep es p step
goes_legal es p q turn step w errand is same agrees =
    let by : TurnAgrees es q (turns.Goes step w errand) = subst (TurnAgrees es q) is agrees in
    step_of_same es p q step same by.0

-- with it its list agrees
pub goes_agree : (es new : List Entry) (p q : ProxyState) (turn : Turn) (step : ProxyStep) (w : Work)
    (errand : Errand) → turn ≡ turns.Goes step w errand → q.client ≡ p.client
    → TurnAgrees es q turn → Enters es p step new → Agrees new (with_work q w errand)
goes_agree es new p q turn step w errand is same agrees enters =
    let by : TurnAgrees es q (turns.Goes step w errand) = subst (TurnAgrees es q) is agrees in
    by.1 new (enters_of_same es new p q step (sym same) enters)

-- it is sound
pub goes_sound : (known : Known) (nodes : ℕ) (turn : Turn) (step : ProxyStep) (w : Work)
    (errand : Errand) → turn ≡ turns.Goes step w errand → known.nodes ≡ nodes
    → IsSoundTurn known turn → IsSoundStep nodes step
goes_sound known nodes turn step w errand is same sound =
    let by : IsSoundTurn known (turns.Goes step w errand) = subst (IsSoundTurn known) is sound in
    subst (λ (n : ℕ). IsSoundStep n step) same by.1

out_wants : (p : ProxyState) (step : ProxyStep) (w : Work) (errand : Errand)
    → p.work ≡ Some (w, errand) → IsOutAs step w errand → Wants step p
out_wants p (steps.Call node request) w errand is out =
    subst (λ (o : Option (Work × Errand)). HasOutIn o node request) (sym is) out
out_wants p (steps.Done answer) w errand is out = absurd out
out_wants p (steps.Issue tid mini) w errand is out =
    (λ none. absurd cc, λ o. out (subst IsOutIn is o))
out_wants p (steps.Abandon tid) w errand is out = (λ none. absurd cc, λ o. out (subst IsOutIn is o))

-- it is what the proxy waits for
pub goes_wants : (known : Known) (p : ProxyState) (turn : Turn) (step : ProxyStep) (w : Work)
    (errand : Errand) → turn ≡ turns.Goes step w errand → p.work ≡ Some (w, errand)
    → IsSoundTurn known turn → Wants step p
goes_wants known p turn step w errand is work sound =
    let by : IsSoundTurn known (turns.Goes step w errand) = subst (IsSoundTurn known) is sound in
    out_wants p step w errand work by.2

-- for want of memory its operation is answered so
pub left_agrees : (es new : List Entry) (p q : ProxyState) → q.client ≡ p.client → q.work ≡ None
    → IsOwnLast es q → EntersWant es p new → Agrees new q
left_agrees es new p q same idle own enters =
    let now = answered_own es new q answers.NoMemory own
    (enters_of_same es new p q (steps.Done answers.NoMemory) (sym same) enters) in
    (now.0, subst (WorksBy new q) (sym idle) (answered_idle es new p answers.NoMemory enters, now.1))

pub on_error : {T : Type 0} {E : Type 0} (r : Result T E) (told : Type 0) → told → OnErr r told
on_error (Ok x) told is = tt
on_error (Err e) told is = is
