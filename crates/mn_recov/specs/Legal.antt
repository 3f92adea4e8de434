-- A recovery makes only entries that the commit protocol allows its client.
use Rattle.std.specs.Prelude.{◌≡◌, ℕ, ◌<◌, Bool, true, false, List, [], ◌∷◌, Some, ⊤}
use Rattle.mn_base.specs.declared.ids.NodeNo.{NodeNo}
use Rattle.mn_base.specs.declared.ids.Tid.{Tid}
use Rattle.mn_mini.specs.declared.request.Request.{Request}
use Rattle.mn_mini.specs.declared.reply.NodeReply.{NodeReply}
use Rattle.mn_mini.specs.declared.reply.NodeReply.TheVariants as Say
use Rattle.mn_runs.specs.declared.entry.Entry.{Entry}
use Rattle.mn_runs.specs.Calls.{call_in, has_yes, has_no, is_in_doubt, WasListed}
use Rattle.mn_runs.specs.Clients.{Sends}
use Rattle.mn_recov.specs.declared.stage.RecovStage.{RecovStage}
use Rattle.mn_recov.specs.declared.stage.RecovStage.TheVariants.{Looking, Found}
use Rattle.mn_recov.specs.declared.step.RecovStep.{RecovStep}
use Rattle.mn_recov.specs.declared.step.RecovStep.TheVariants.{Send, Ended}
use Rattle.mn_recov.specs.Recovery.{Recovery, participant, step_of, fed}

-- the list shows the votes: a yes of each that has voted, or a no
abbrev pub ShowsVotes : List Entry → Tid → List NodeNo → ℕ → Bool → Type 0
ShowsVotes es tid participants voted true =
    (i : ℕ) → i < voted → has_yes tid (participant participants i) es ≡ true
ShowsVotes es tid participants voted false = has_no tid es ≡ true

abbrev pub ShowsStage : List Entry → Tid → RecovStage → Type 0
ShowsStage es tid (Looking node) = ⊤
ShowsStage es tid (Found participants voted verdict decided) =
    WasListed tid participants es × ShowsVotes es tid participants voted verdict

-- the client's list, newest first, holds what the recovery was answered; the client has no such
-- plan of its own in doubt
pub record Agrees (es : List Entry) (r : Recovery) : Type 0 where
  pub free : is_in_doubt r.tid es ≡ false
  pub shown : ShowsStage es r.tid r.stage

-- the client may make this step
abbrev pub MayMake : List Entry → RecovStep → Type 0
MayMake es (Send node request) = Sends es (Some node) request
MayMake es (Ended verdict) = ⊤

-- the entry is this request with its reply
abbrev pub IsAnswered : Entry → NodeNo → Request → NodeReply → Type 0
IsAnswered e node request reply =
    call_in e.node e.what ≡ record { node = node; request = request; reply = reply } ∷ []

-- what it wants next is allowed
abbrev pub StepsAreAllowed : Type 0
StepsAreAllowed = (es : List Entry) (r : Recovery) → Agrees es r → MayMake es (step_of r)

-- with the answer in the list it still agrees; a reply that is no entry changes nothing
abbrev pub AnswersAgree : Type 0
AnswersAgree =
    (es : List Entry) (e : Entry) (r : Recovery) (node : NodeNo) (request : Request)
    (reply : NodeReply) → Agrees es r → step_of r ≡ Send node request
    → IsAnswered e node request reply
    → Agrees (e ∷ es) (fed r reply)

abbrev pub NoAnswerAgrees : Type 0
NoAnswerAgrees = (es : List Entry) (r : Recovery) → Agrees es r → Agrees es (fed r Say.NoMemory)
