-- How an operation goes on in the hands of its proxy: what is so of it whatever its client's list
-- holds, and what its turn leaves.
use Rattle.std.specs.Prelude.{ℕ, ◌≡◌, ◌+◌, ◌<◌, ◌≤◌, ◌⊎◌, ◌≢◌, true, false, IsTrue, List, [], ◌∷◌}
use Rattle.std.specs.Prelude.{length, Option, Some, None, ⊤, MatchOption}
use Rattle.std.specs.List.{list_any}
use Rattle.mn_base.specs.declared.answer.Busy.{Busy}
use Rattle.mn_base.specs.declared.ids.NodeNo.{NodeNo}
use Rattle.mn_base.specs.declared.ids.Tid.{Tid}
use Rattle.mn_base.specs.declared.op.Op.{Op}
use Rattle.mn_coord.specs.Coordination.{Coordination, IsSoundStep as IsSoundCoordStep, after_step}
use Rattle.mn_coord.specs.Coordination.{fed, new_coordination, step_of}
use Rattle.mn_coord.specs.Legal.{Agrees as CoordAgrees, IsAnswered, IsAsking, MayMake}
use Rattle.mn_coord.specs.declared.step.CoordStep.{CoordStep}
use Rattle.mn_coord.specs.declared.step.CoordStep.TheVariants.{Abandon, Send}
use Rattle.mn_mini.specs.declared.item.Item.TheVariants.{Read}
use Rattle.mn_mini.specs.declared.reply.NodeReply.{NodeReply}
use Rattle.mn_mini.specs.declared.reply.NodeReply.TheVariants as Say
use Rattle.mn_mini.specs.declared.request.Request.{Request}
use Rattle.mn_mini.specs.Mini.{Mini}
use Rattle.mn_runs.specs.declared.entry.Entry.{Entry}
use Rattle.mn_runs.specs.declared.entry.What.TheVariants.{Abandoned}
use Rattle.mn_law.specs.Answers.{IsKeyOf, LastPlanReplies, MeetsFault, are_given_up, are_settled}
use Rattle.mn_law.specs.Answers.{is_down_cause, is_refusal}
use Rattle.mn_runs.specs.Calls.{calls_of, since_begin}
use Rattle.mn_runs.specs.Seen.{Place, Seen, seen_in}
use Rattle.mn_proxy.specs.declared.errand.Errand.{Errand}
use Rattle.mn_proxy.specs.declared.errand.Errand.TheVariants as out
use Rattle.mn_proxy.specs.declared.errand.Purpose.{Purpose}
use Rattle.mn_proxy.specs.declared.errand.Purpose.TheVariants as by
use Rattle.mn_work.specs.declared.known.Known.{Known}
use Rattle.mn_work.specs.declared.next.Taken.{Taken}
use Rattle.mn_proxy.specs.declared.proxy.retrying.Failure.{Failure}
use Rattle.mn_proxy.specs.declared.proxy.retrying.Failure.TheVariants as fails
use Rattle.mn_proxy.specs.declared.proxy.Proxy.TheInside.{Inside}
use Rattle.mn_proxy.specs.Turn.{Turn}
use Rattle.mn_proxy.specs.Turn as turns
use Rattle.mn_proxy.specs.declared.step.ProxyStep.{ProxyStep}
use Rattle.mn_proxy.specs.declared.step.ProxyStep.TheVariants as steps
use Rattle.mn_work.specs.declared.work.Work.{Work}
use Rattle.mn_proxy.specs.Agrees.{AreComparesShown, AreOverNodes, Agrees, Enters, HasOutIn, HasRead}
use Rattle.mn_proxy.specs.Agrees.{IsAtRest, IsMadeFor, IsOwnLast, IsSoundStep, IsUnderWay}
use Rattle.mn_proxy.specs.Agrees.{KeptIsLast, MayStep}
use Rattle.mn_proxy.specs.Issues.{AreClosed}
use Rattle.mn_proxy.specs.Jobs.{BeganFrom, ScanShown}
use Rattle.mn_work.specs.Knows.{ArePages, KeepsKnown, LearnsOrForgets}
use Rattle.mn_work.specs.Refusals.{refusal_of}
use Rattle.mn_proxy.specs.State.{IsOutIn, ProxyState}
use Rattle.mn_proxy.specs.Tries.{HasAsked, HasNoLeaf, HasSentNone, IsTrying, Origin, WasRefused}
use Rattle.mn_proxy.specs.Tries.{max_tries}
use Rattle.mn_work.specs.Walks.{IfLater}
use Rattle.mn_work.specs.Works.{AsksCount, AsksPage, IsJobOf, IsReadIfOn, IsStartable, IsToAsk}
use Rattle.mn_work.specs.Works.{KeepsOp, MakesPlan, TakesCatalog}
use Rattle.mn_work.specs.Works.{TakesCountBytes, TakesPageBytes, counts_of, retried_job}

-- What is so of an operation

-- its job asked for what is read for this purpose: for the catalog one that hasn't begun, or has
-- none
abbrev pub AsksFor : Known → Work → Purpose → Type 0
AsksFor known w by.Catalog =
    IsStartable w.op w.job × IsToAsk known.catalog w.job
AsksFor known w (by.Page addr) = AsksPage known w addr × (addr.node.0 < known.nodes)
AsksFor known w by.Count = AsksCount w × (length (counts_of w.job) < known.nodes)
AsksFor known w (by.Plan reply) = ⊤

-- a job that waits for a read goes by what is kept; one that made its plan, by a kept catalog, is
-- to begin anew
abbrev pub WaitsFor : Known → Work → Purpose → Type 0
WaitsFor known w (by.Plan reply) =
    IsStartable w.op (retried_job w.job) × (known.catalog ≢ None)
WaitsFor known w purpose = IsJobOf known w × AsksFor known w purpose

-- what is read for it is no plan
abbrev pub IsReadFor : Purpose → Type 0
IsReadFor (by.Plan reply) = ⊥
IsReadFor purpose = ⊤

-- so a Peek may be answered
abbrev pub AnswersPeek : NodeReply → Type 0
AnswersPeek (Say.Peeked bytes) = ⊤
AnswersPeek Say.Down = ⊤
AnswersPeek Say.NoMemory = ⊤
AnswersPeek reply = ⊥

-- a minitransaction is over so many nodes, and a Peek is of no plan
abbrev pub IsSoundErrand : Known → Work → Errand → Type 0
IsSoundErrand known w out.Nothing = IsJobOf known w
IsSoundErrand known w (out.Peek place purpose) = WaitsFor known w purpose × IsReadFor purpose
IsSoundErrand known w (out.Peeked place reply purpose) =
    WaitsFor known w purpose × IsReadFor purpose × AnswersPeek reply
IsSoundErrand known w (out.Mini tid c purpose) =
    (c.mini.nodes ≡ known.nodes) × WaitsFor known w purpose

-- fewer tries failed than there may be
pub record IsSoundWork (known : Known) (w : Work) (errand : Errand) : Type 0 where
  pub few : w.failed < max_tries
  pub errand_is : IsSoundErrand known w errand

abbrev pub IsSoundUnderWay : Known → Option (Work × Errand) → Type 0
IsSoundUnderWay known None = ⊤
IsSoundUnderWay known (Some (work, errand)) = IsSoundWork known work errand

-- a number of a client, a run and a number of nodes such as there may be, inner pages alone are
-- cached, and the operation under way is sound
pub record IsSoundInside (p : Inside) : Type 0 where
  pub client : p.client.0 ≤ 15
  pub run : 1 ≤ p.run
  pub nodes : (1 ≤ p.known.nodes) × (p.known.nodes ≤ 8)
  pub pages : ArePages p.known.cache
  pub work : IsSoundUnderWay p.known p.work

-- Turns

-- the client, the run and the number of nodes stay
abbrev pub KeepsSelf : ProxyState → ProxyState → Type 0
KeepsSelf before after =
    (after.client ≡ before.client) × (after.run ≡ before.run)
    × (after.known.nodes ≡ before.known.nodes)

-- this is kept now
abbrev pub with_known : ProxyState → Known → ProxyState
with_known p known = record {
  client = p.client;
  run = p.run;
  issued = p.issued;
  peeks = p.peeks;
  known = known;
  work = p.work;
}

-- the operation goes on so
abbrev pub with_work : ProxyState → Work → Errand → ProxyState
with_work p work errand = record {
  client = p.client;
  run = p.run;
  issued = p.issued;
  peeks = p.peeks;
  known = p.known;
  work = Some (work, errand);
}

-- a call is out for it; else none is; an answer ends it
abbrev pub IsOutAs : ProxyStep → Work → Errand → Type 0
IsOutAs (steps.Call node request) work errand = HasOutIn (Some (work, errand)) node request
IsOutAs (steps.Done answer) work errand = ⊥
IsOutAs step work errand = IsOutIn (Some (work, errand)) → ⊥

-- a plan is just what its job asks for, by the kept catalog
abbrev pub IsAsAsked : Known → Work → Purpose → Mini → Type 0
IsAsAsked known w (by.Plan reply) mini = MakesPlan known w reply mini
IsAsAsked known w purpose mini = ⊤

-- what is issued is on its way from now on, as its purpose asks for it
abbrev pub IssuesAsAsked : Known → ProxyStep → Work → Errand → Type 0
IssuesAsAsked known (steps.Issue tid mini) w (out.Mini id c purpose) =
    (c ≡ new_coordination tid mini) × IsAsAsked known w purpose mini
IssuesAsAsked known (steps.Issue tid mini) w errand = ⊥
IssuesAsAsked known step w errand = ⊤

abbrev pub StepIsAsAsked : ProxyState → ProxyStep → Type 0
StepIsAsAsked p step =
    MatchOption p.work ⊤ (λ under. IssuesAsAsked p.known step under.0 under.1)

abbrev pub IsSoundTurn : Known → Turn → Type 0
IsSoundTurn known (turns.Goes step work errand) =
    IsSoundWork known work errand × IsSoundStep known.nodes step × IsOutAs step work errand
    × IssuesAsAsked known step work errand
IsSoundTurn known (turns.Ends answer) = ⊤
IsSoundTurn known turns.Stops = ⊥

-- the client may make the step, and its list with that agrees with what the turn leaves
abbrev pub TurnAgrees : List Entry → ProxyState → Turn → Type 0
TurnAgrees es p (turns.Goes step work errand) =
    MayStep es p step
    × ((new : List Entry) → Enters es p step new → Agrees new (with_work p work errand))
TurnAgrees es p (turns.Ends answer) =
    MayStep es p (steps.Done answer)
    × ((new : List Entry) → Enters es p (steps.Done answer) new → IsOwnLast new p)
TurnAgrees es p turns.Stops = ⊥

-- Tries that failed

-- a try failed so: it was refused, or met a fault
abbrev pub FailedNow : ℕ → ℕ → Op → Origin → List Entry → Busy → Type 0
FailedNow nodes failed op from now busy =
    WasRefused nodes op from failed now busy
    ⊎ ((try : List Entry) × IsTrying nodes op from failed now try × HasAsked failed op from try
    × IfLater failed (MeetsFault nodes (seen_in try) op (IsKeyOf op from.taken) busy))

-- the try of the operation under way failed, a later one by this cause; of a first one none need be
-- shown
pub record HasFailed (es : List Entry) (known : Known) (w : Work) (cause : Option Busy)
    : Type 0 where
  pub of : IsUnderWay es w.op
  pub closed : AreClosed (since_begin es)
  pub over : AreOverNodes known.nodes w.failed (since_begin es)
  pub began : BeganFrom es w.op (retried_job w.job)
  pub failed_by : (busy : Busy) → IfLater w.failed (cause ≡ Some busy)
      → FailedNow known.nodes w.failed w.op began.from (since_begin es) busy
  pub scan : ScanShown (since_begin es) w.spoiled w.op (retried_job w.job)

-- it may be tried again: so the next try stands
pub record MayRetry (es : List Entry) (known : Known) (w : Work) : Type 0 where
  pub of : IsUnderWay es w.op
  pub closed : AreClosed (since_begin es)
  pub began : BeganFrom es w.op (retried_job w.job)
  pub try : List Entry
  pub trying : IsTrying known.nodes w.op began.from (w.failed + 1) (since_begin es) try
  pub leafless : HasNoLeaf w.op try
  pub sent : HasSentNone try
  pub scan : ScanShown (since_begin es) w.spoiled w.op (retried_job w.job)

-- Reads

-- what is kept once the bytes were read for this purpose
abbrev pub Leaves : Known → Known → Purpose → List ℕ → Type 0
Leaves old new by.Catalog bytes =
    (new.nodes ≡ old.nodes) × LearnsOrForgets bytes new.catalog
Leaves old new purpose bytes = (new.nodes ≡ old.nodes) × (new.catalog ≡ old.catalog)

-- what they made of the operation
abbrev pub CameOf : Known → Known → Work → Work → Purpose → List ℕ → Taken → Type 0
CameOf old new before after by.Catalog bytes taken =
    (new.nodes ≡ old.nodes) × KeepsOp before after × TakesCatalog bytes before new after taken
    × (taken ≡ Taken.GoesOn → IsJobOf new after)
CameOf old new before after (by.Page addr) bytes taken =
    KeepsKnown old new × KeepsOp before after × TakesPageBytes old addr bytes before after taken
    × IsReadIfOn addr bytes after.job taken
CameOf old new before after by.Count bytes taken =
    (new ≡ old) × KeepsOp before after × TakesCountBytes bytes before after taken
CameOf old new before after (by.Plan reply) bytes taken = ⊥

-- Issues

-- the minitransaction that reads a place
abbrev pub read_mini : ℕ → Place → Mini
read_mini nodes place = record {
  nodes = nodes;
  items = Read place.node place.start place.length ∷ [];
}

-- the compares of a plan are shown
abbrev pub ComparesFor : ℕ → List Seen → Purpose → Mini → Type 0
ComparesFor failed seens (by.Plan reply) mini = IfLater failed (AreComparesShown seens mini)
ComparesFor failed seens purpose mini = ⊤

-- nothing is on its way, and the minitransaction is made for this purpose
pub record MayIssue (es : List Entry) (known : Known) (w : Work) (purpose : Purpose) (mini : Mini)
    : Type 0 where
  pub rest : IsAtRest es known w
  pub made : IsMadeFor es w.op w.job purpose mini
  pub shown : ComparesFor w.failed (seen_in rest.0.try) purpose mini

-- Minitransactions that ended

-- what the one read item of the one participant brought
abbrev pub read_alone : List (List (List ℕ)) → Option (List ℕ)
read_alone ((bytes ∷ []) ∷ []) = Some bytes
read_alone reads = None

-- the operation may be answered: each of its plans is over
pub record IsOver (es : List Entry) (op : Op) : Type 0 where
  pub of : IsUnderWay es op
  pub given_up : IsTrue (are_given_up (since_begin es))
  pub settled : IsTrue (are_settled (since_begin es))

-- a read brought its bytes
pub record IsReadDone (es : List Entry) (known : Known) (w : Work) (reads : List (List (List ℕ)))
    (purpose : Purpose) : Type 0 where
  pub bytes : List ℕ
  pub reads_are : reads ≡ (bytes ∷ []) ∷ []
  pub read : HasRead es known w purpose bytes
  pub closed : AreClosed (since_begin es)
  pub over : AreOverNodes known.nodes w.failed (since_begin es)

-- a minitransaction was done by all its participants, and each was told
abbrev pub IsCommitted : List Entry → Known → Work → List (List (List ℕ)) → Purpose → Type 0
IsCommitted es known w reads (by.Plan reply) =
    IsUnderWay es w.op × IsTrue (are_settled (since_begin es))
    × LastPlanReplies es (since_begin es) w.op reply × KeptIsLast es known
IsCommitted es known w reads purpose = IsReadDone es known w reads purpose

-- that node was down, or stopped
abbrev pub IsDown : List Entry → Op → NodeNo → Type 0
IsDown es op node =
    IsOver es op × IsTrue (list_any (is_down_cause node) (calls_of (since_begin es)))

-- it failed by this reply
abbrev pub IsRefusedBy : List Entry → Known → Work → Tid → Mini → NodeNo → NodeReply → Type 0
IsRefusedBy es known w tid mini node Say.Down = IsDown es w.op node
IsRefusedBy es known w tid mini node Say.Stopped = IsDown es w.op node
IsRefusedBy es known w tid mini node Say.NoMemory = ⊤
IsRefusedBy es known w tid mini node reply =
    (is_refusal reply ≡ true) × HasFailed es known w (refusal_of tid mini node reply)

abbrev pub IsRefused : List Entry → Known → Work → Tid → Mini → NodeNo → Option NodeReply → Type 0
IsRefused es known w tid mini node reply =
    MatchOption reply ⊤ (IsRefusedBy es known w tid mini node)

-- so it failed by this reply
abbrev pub FailsSo : Tid → Mini → NodeNo → Option NodeReply → Failure → Type 0
FailsSo tid mini node reply fails.Down = (reply ≡ Some Say.Down) ⊎ (reply ≡ Some Say.Stopped)
FailsSo tid mini node reply (fails.Refused cause) =
    (refusing : NodeReply) × (reply ≡ Some refusing) × (refusing ≢ Say.NoMemory)
    × (refusing ≢ Say.Down) × (refusing ≢ Say.Stopped)
    × (cause ≡ refusal_of tid mini node refusing)

-- Requests

-- the coordinator made its step
pub record MakesStep (c : Coordination) (step : CoordStep) (after : Coordination) : Type 0 where
  pub step_is : step ≡ step_of c
  pub after_is : after ≡ after_step c step
  pub sound : IsSoundCoordStep c.mini.nodes step
  pub legal : (es : List Entry) → CoordAgrees es c → MayMake es c.tid step
  pub agrees : (es : List Entry) → CoordAgrees es c → step_of c ≢ Abandon → CoordAgrees es after
  pub abandoned : (es : List Entry) (e : Entry) → CoordAgrees es c → step_of c ≡ Abandon
      → e.node ≡ None → e.what ≡ Abandoned c.tid → CoordAgrees (e ∷ es) after

-- what is on its way, with its next request handed out, or given up
abbrev pub IsSent : Errand → Errand → ProxyStep → Type 0
IsSent (out.Mini tid c purpose) after (steps.Call node request) =
    (d : Coordination) × (after ≡ out.Mini tid d purpose) × MakesStep c (Send node request) d
IsSent (out.Mini tid c purpose) after (steps.Abandon id) =
    (d : Coordination) × (after ≡ out.Mini tid d purpose) × (id ≡ tid) × MakesStep c Abandon d
IsSent errand after step = ⊥

-- the minitransaction has ended
abbrev pub IsEnd : CoordStep → Type 0
IsEnd (Send node request) = ⊥
IsEnd Abandon = ⊥
IsEnd step = ⊤

-- nothing more is to be sent for it
abbrev pub IsSentWhole : Errand → Type 0
IsSentWhole (out.Mini tid c purpose) = IsEnd (step_of c)
IsSentWhole errand = ⊤

abbrev pub IsSentWholeIn : Option (Work × Errand) → Type 0
IsSentWholeIn None = ⊤
IsSentWholeIn (Some (work, errand)) = IsSentWhole errand

-- Replies

-- a request is out for it
abbrev pub IsOutFor : Errand → Type 0
IsOutFor (out.Peek place purpose) = ⊤
IsOutFor (out.Mini tid c purpose) = c.asked ≡ true
IsOutFor errand = ⊥

-- the request that is out is no Decide
abbrev pub OwesNone : Errand → Type 0
OwesNone (out.Mini tid c purpose) = IsAsking c
OwesNone errand = ⊤

abbrev pub OwesNoneIn : Option (Work × Errand) → Type 0
OwesNoneIn None = ⊤
OwesNoneIn (Some (work, errand)) = OwesNone errand

abbrev pub OwesNoDecide : ProxyState → Type 0
OwesNoDecide p = OwesNoneIn p.work

-- the last reply, to a request that was no Decide, was that there is no memory
abbrev pub LacksIn : Option (Work × Errand) → Type 0
LacksIn (Some (work, out.Peeked place reply purpose)) = reply ≡ Say.NoMemory
LacksIn (Some (work, out.Mini tid c purpose)) = (c.refused ≡ Some Say.NoMemory) × (c.told ≡ false)
LacksIn under = ⊥

abbrev pub LacksMemory : ProxyState → Type 0
LacksMemory p = LacksIn p.work

-- it gives a minitransaction up
abbrev pub GivesUp : ProxyStep → Type 0
GivesUp (steps.Abandon tid) = ⊤
GivesUp step = ⊥

-- the coordinator took the reply
pub record TakesReply (c : Coordination) (reply : NodeReply) (after : Coordination) : Type 0 where
  pub fed_is : after ≡ fed c reply
  pub quiet : after.asked ≡ false
  pub agrees : (es : List Entry) (e : Entry) (node : NodeNo) (request : Request)
      → CoordAgrees es c → step_of c ≡ Send node request → IsAnswered e node request reply
      → CoordAgrees (e ∷ es) after
  pub no_entry : reply ≡ Say.NoMemory → IsAsking c → (es : List Entry) → CoordAgrees es c
      → CoordAgrees es after

-- what is on its way, with the reply
abbrev pub IsFed : Errand → NodeReply → Errand → Type 0
IsFed (out.Peek place purpose) reply after = after ≡ out.Peeked place reply purpose
IsFed (out.Mini tid c purpose) reply after =
    (d : Coordination) × (after ≡ out.Mini tid d purpose) × TakesReply c reply d
IsFed errand reply after = ⊥

-- The whole

-- the proxy hands out the next request of what is on its way, or gives it up, and all else stays
pub record Sends (before after : ProxyState) (step : ProxyStep) : Type 0 where
  pub work : Work
  pub errand : Errand
  pub under : before.work ≡ Some (work, errand)
  pub sound : IsSoundWork before.known work errand
  pub quiet : IsOutFor errand → ⊥
  pub sent_now : Errand
  pub sent : IsSent errand sent_now step
  pub after_is : after ≡ with_work before work sent_now
