-- A coordinator makes only entries that the commit protocol allows its client.
use Rattle.std.specs.Prelude.{◌≡◌, ◌≢◌, ℕ, ◌<◌, ◌≤◌, Bool, Contains, slice_index_or, true}
use Rattle.std.specs.Prelude.{false, ◌&&◌, ◌⊎◌, nat_lt, nat_eq, List, [], ◌∷◌, length, Option}
use Rattle.std.specs.Prelude.{Some, None, MatchOption, ⊤}
use Rattle.std.specs.List.{list_any}
use Rattle.mn_base.specs.declared.ids.NodeNo.{NodeNo}
use Rattle.mn_base.specs.declared.ids.Tid.{Tid}
use Rattle.mn_mini.specs.declared.request.Request.{Request}
use Rattle.mn_mini.specs.declared.reply.NodeReply.{NodeReply}
use Rattle.mn_mini.specs.declared.reply.NodeReply.TheVariants as Say
use Rattle.mn_mini.specs.Mini.{Mini, participants_of}
use Rattle.mn_runs.specs.declared.entry.Entry.{Entry}
use Rattle.mn_runs.specs.declared.entry.What.TheVariants.{Issue, Abandoned}
use Rattle.mn_runs.specs.Calls.{Call, call_in, calls_of, is_prepare, is_done, is_stopped, was_told}
use Rattle.mn_runs.specs.Calls.{was_sent, was_done, was_stopped, was_abandoned, is_in_doubt}
use Rattle.mn_runs.specs.Calls.{was_decided, issues_of, issue_named, since_begin, is_try}
use Rattle.mn_runs.specs.Clients.{Sends, AllowsAbandoned}
use Rattle.mn_coord.specs.declared.step.CoordStep.{CoordStep}
use Rattle.mn_coord.specs.declared.step.CoordStep.TheVariants.{Send, Abandon}
use Rattle.mn_coord.specs.declared.stage.Stage.TheVariants as At
use Rattle.mn_coord.specs.Coordination.{Coordination, is_stopped_at_last, participant, try_request}
use Rattle.mn_coord.specs.Coordination.{stage_in, step_of, after_step, fed}

abbrev pub has_stopped : Option NodeReply → Bool
has_stopped None = false
has_stopped (Some reply) = is_stopped reply

-- whether it is committed isn't known
abbrev pub is_doubtful : ℕ → ℕ → Option NodeReply → Bool
is_doubtful participants done None = false
is_doubtful participants done (Some reply) = is_stopped_at_last participants done reply

-- the participant of this number
abbrev pub node_of : Mini → ℕ → NodeNo
node_of mini i = slice_index_or (participants_of mini) i (record { 0 = 0 })

-- its Prepare or Exec with this reply
abbrev pub answer_of : Tid → Mini → ℕ → NodeReply → Call
answer_of tid mini i reply = record {
  node = node_of mini i;
  request = try_request tid mini (node_of mini i);
  reply = reply;
}

-- the entries since Begin hold Done of each of the first participants, with what it read, and the
-- reply by which the next one failed, if it failed; want of memory may be no entry
pub record HasAnswers (now : List Entry) (tid : Tid) (mini : Mini) (done : ℕ)
    (reads : List (List (List ℕ))) (refused : Option NodeReply) : Type 0 where
  pub long : length reads ≡ length (participants_of mini)
  pub read : (i : ℕ) → i < done
      → Contains (calls_of now) (answer_of tid mini i (Say.Done (slice_index_or reads i [])))
  pub failed : MatchOption refused ⊤
      (λ reply. reply ≢ Say.NoMemory → Contains (calls_of now) (answer_of tid mini done reply))

-- it is the answer of one of the participants that answered Done, or the one that refused
pub record IsAnswerOf (tid : Tid) (mini : Mini) (done : ℕ) (refused : Option NodeReply)
    (call : Call) : Type 0 where
  pub number : ℕ
  pub is : call ≡ answer_of tid mini number call.reply
  pub said : ((number < done) × (is_done call.reply ≡ true))
      ⊎ ((refused ≡ Some call.reply) × (is_done call.reply ≡ false))

-- the list holds no other Prepare and no other Exec of the id
abbrev pub TriesAre : List Entry → Tid → Mini → ℕ → Option NodeReply → Type 0
TriesAre es tid mini done refused =
    (call : Call) → Contains (calls_of es) call → is_try tid call.request ≡ true
    → IsAnswerOf tid mini done refused call

-- the client's list, newest first, holds the issue of the operation under way, and what the
-- coordinator was answered, has told and has decided
pub record Agrees (es : List Entry) (c : Coordination) : Type 0 where
  pub now : issue_named c.tid (issues_of (since_begin es)) ≡ Some c.mini
  pub ever : issue_named c.tid (issues_of es) ≡ Some c.mini
  pub some : 1 ≤ length (participants_of c.mini)
  pub within : MatchOption c.refused (c.done ≤ length (participants_of c.mini))
      (λ reply. c.done < length (participants_of c.mini))
  pub untold : c.refused ≡ None → c.told ≡ false
  pub told : was_abandoned c.tid es ≡ c.told
  pub done : (i : ℕ) → i < length (participants_of c.mini)
      → was_done c.tid (participant c i) es ≡ nat_lt i c.done
  pub votes : 2 ≤ length (participants_of c.mini) → (i : ℕ) → i < length (participants_of c.mini)
      → i < c.done → was_told (is_prepare c.tid) is_done (participant c i) es ≡ true
  pub sent : c.refused ≡ None → (i : ℕ) → i < length (participants_of c.mini)
      → was_sent c.tid (participant c i) es ≡ nat_lt i c.done
  pub stopped : (i : ℕ) → i < length (participants_of c.mini)
      → was_stopped c.tid (participant c i) es ≡ (nat_eq i c.done && has_stopped c.refused)
  pub doubt : is_in_doubt c.tid es ≡ is_doubtful (length (participants_of c.mini)) c.done c.refused
  pub answers : HasAnswers (since_begin es) c.tid c.mini c.done c.reads c.refused
  pub tries : TriesAre es c.tid c.mini c.done c.refused
  pub given_up : was_abandoned c.tid (since_begin es) ≡ c.told
  pub decided : (i : ℕ) → i < length (participants_of c.mini) → i < c.decided
      → was_decided c.tid (participant c i) (since_begin es) ≡ true

-- the client may make this step
abbrev pub MayMake : List Entry → Tid → CoordStep → Type 0
MayMake es tid (Send node request) = Sends es (Some node) request
MayMake es tid Abandon = AllowsAbandoned es tid
MayMake es tid step = ⊤

-- the entry is this request with its reply
abbrev pub IsAnswered : Entry → NodeNo → Request → NodeReply → Type 0
IsAnswered e node request reply =
    call_in e.node e.what ≡ record { node = node; request = request; reply = reply } ∷ []

-- what it wants next is allowed
abbrev pub StepsAreAllowed : Type 0
StepsAreAllowed = (es : List Entry) (c : Coordination) → Agrees es c → MayMake es c.tid (step_of c)

-- with the answer in the list it still agrees
abbrev pub AnswersAgree : Type 0
AnswersAgree =
    (es : List Entry) (e : Entry) (c : Coordination) (node : NodeNo) (request : Request)
    (reply : NodeReply) → Agrees es c → step_of c ≡ Send node request
    → IsAnswered e node request reply
    → Agrees (e ∷ es) (fed c reply)

-- a participant is asked: no Decide is out
abbrev pub IsAsking : Coordination → Type 0
IsAsking c = stage_in c ≡ At.Ask

-- to a Prepare or an Exec a reply that is no entry refuses, and leaves the list as it was
abbrev pub NoAnswerAgrees : Type 0
NoAnswerAgrees =
    (es : List Entry) (c : Coordination) → IsAsking c → Agrees es c
    → Agrees es (fed c Say.NoMemory)

-- so does Abandoned, once it is told
abbrev pub AbandonedAgrees : Type 0
AbandonedAgrees =
    (es : List Entry) (e : Entry) (c : Coordination) → Agrees es c → step_of c ≡ Abandon
    → e.node ≡ None → e.what ≡ Abandoned c.tid → Agrees (e ∷ es) (after_step c Abandon)

-- no call and no Abandoned of the list is of this id
abbrev pub names_tid : Tid → Call → Bool
names_tid tid call = is_try tid call.request

abbrev pub IsFresh : Tid → List Entry → Type 0
IsFresh tid es = (list_any (names_tid tid) (calls_of es) ≡ false) × (was_abandoned tid es ≡ false)

-- after its issue a new coordinator agrees
abbrev pub IssuesAgree : Type 0
IssuesAgree =
    (es : List Entry) (e : Entry) (c : Coordination) → IsFresh c.tid es
    → 1 ≤ length (participants_of c.mini)
    → length c.reads ≡ length (participants_of c.mini) → c.done ≡ 0 → c.refused ≡ None
    → c.told ≡ false → c.decided ≡ 0
    → e.node ≡ None → e.what ≡ Issue c.tid c.mini → Agrees (e ∷ es) c
