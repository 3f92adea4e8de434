-- How a coordinator goes on, by what it was answered so far.
use Rattle.std.specs.Prelude.{ℕ, ◌+◌, ◌<◌, ◌≤◌, Bool, true, false, not, ◌&&◌, nat_lt, nat_eq, List}
use Rattle.std.specs.Prelude.{length, Option, Some, None, if◌then◌else◌, slice_index_or, slice_set}
use Rattle.std.specs.Prelude.{[], replicate, ⊤}
use Rattle.mn_base.specs.declared.ids.NodeNo.{NodeNo}
use Rattle.mn_base.specs.declared.ids.Tid.{Tid}
use Rattle.mn_mini.specs.declared.request.Request.{Request}
use Rattle.mn_mini.specs.declared.request.Request.TheVariants as Ask
use Rattle.mn_mini.specs.declared.reply.NodeReply.{NodeReply}
use Rattle.mn_mini.specs.declared.reply.NodeReply.TheVariants as Say
use Rattle.mn_mini.specs.Mini.{Mini, IsSound, participants_of, part_of}
use Rattle.mn_mini.specs.RecordGrammar.{IsTid}
use Rattle.mn_mini.specs.Sound.{IsSoundRequest}
use Rattle.mn_coord.specs.declared.stage.Stage.{Stage}
use Rattle.mn_coord.specs.declared.stage.Stage.TheVariants as At
use Rattle.mn_coord.specs.declared.step.CoordStep.{CoordStep}
use Rattle.mn_coord.specs.declared.step.CoordStep.TheVariants.{Send, Abandon, Committed, Failed}
use Rattle.mn_coord.specs.declared.step.CoordStep.TheVariants.{Doubt}

-- a minitransaction on its way
pub record Coordination : Type 0 where
  pub tid : Tid
  pub mini : Mini
  -- how many participants answered Done, in order
  pub done : ℕ
  -- what each participant read, by participant; nothing of those that did not answer Done
  pub reads : List (List (List ℕ))
  -- the reply of the next one, if it was another
  pub refused : Option NodeReply
  -- whether Abandon was told
  pub told : Bool
  -- how many Decides were answered
  pub decided : ℕ
  -- whether a request is out
  pub asked : Bool

-- a coordinator that has just begun
abbrev pub new_coordination : Tid → Mini → Coordination
new_coordination tid mini = record {
  tid = tid;
  mini = mini;
  done = 0;
  reads = replicate (length (participants_of mini)) [];
  refused = None;
  told = false;
  decided = 0;
  asked = false;
}

-- its id and its minitransaction are sound, and no more have answered than take part
pub record IsSoundCoordination (c : Coordination) : Type 0 where
  pub id : IsTid c.tid
  pub mini : IsSound c.mini
  pub done : c.done ≤ length (participants_of c.mini)

-- its last participant stopped
abbrev pub is_stopped_at_last : ℕ → ℕ → NodeReply → Bool
is_stopped_at_last participants done Say.Stopped = nat_eq (done + 1) participants
is_stopped_at_last participants done reply = false

-- after a refusal: in doubt where the last participant stopped; else given up, which several
-- participants are told, those that voted yes
abbrev pub stage_refused : ℕ → ℕ → NodeReply → Bool → ℕ → Stage
stage_refused participants done reply told decided =
    if is_stopped_at_last participants done reply then At.Doubt
    else (if nat_eq participants 1 then At.Failed
    else (if not told then At.Abandon else (if nat_lt decided done then At.Cancel else At.Failed)))

-- each participant is asked, in order; where all answer Done it is committed, and several are told
abbrev pub stage_of : ℕ → ℕ → Option NodeReply → Bool → ℕ → Stage
stage_of participants done None told decided =
    if nat_lt done participants then At.Ask
    else (if nat_lt 1 participants && nat_lt decided participants then At.Commit else At.Committed)
stage_of participants done (Some reply) told decided =
    stage_refused participants done reply told decided

abbrev pub stage_in : Coordination → Stage
stage_in c = stage_of (length (participants_of c.mini)) c.done c.refused c.told c.decided

-- the participant of this number
abbrev pub participant : Coordination → ℕ → NodeNo
participant c i = slice_index_or (participants_of c.mini) i (record { 0 = 0 })

-- a lone participant runs it, several vote
abbrev pub try_request : Tid → Mini → NodeNo → Request
try_request tid mini n =
    if nat_eq (length (participants_of mini)) 1 then Ask.Exec tid (part_of mini n)
    else Ask.Prepare tid (participants_of mini) (part_of mini n)

abbrev pub step_at : Coordination → Stage → CoordStep
step_at c At.Ask = Send (participant c c.done) (try_request c.tid c.mini (participant c c.done))
step_at c At.Commit = Send (participant c c.decided) (Ask.Decide c.tid true)
step_at c At.Abandon = Abandon
step_at c At.Cancel = Send (participant c c.decided) (Ask.Decide c.tid false)
step_at c At.Committed = Committed
step_at c At.Failed = Failed (participant c c.done)
step_at c At.Doubt = Doubt (participant c c.done)

-- what it wants next
abbrev pub step_of : Coordination → CoordStep
step_of c = step_at c (stage_in c)

-- a request that it hands out is sound, and goes to one of so many nodes
abbrev pub IsSoundStep : ℕ → CoordStep → Type 0
IsSoundStep nodes (Send node request) = (node.0 < nodes) × IsSoundRequest request
IsSoundStep nodes step = ⊤

-- a step is told once, and a request handed out once
abbrev pub after_step : Coordination → CoordStep → Coordination
after_step c (Send node request) = record c { asked = true }
after_step c Abandon = record c { told = true }
after_step c step = c

-- a reply to a Prepare or an Exec
abbrev pub after_reply : Coordination → NodeReply → Coordination
after_reply c (Say.Done reads) =
    record c { done = c.done + 1; reads = slice_set c.reads c.done reads; asked = false }
after_reply c reply = record c { refused = Some reply; asked = false }

-- a reply; those to Decides are passed over
abbrev pub fed_at : Coordination → Stage → NodeReply → Coordination
fed_at c At.Ask reply = after_reply c reply
fed_at c At.Commit reply = record c { decided = c.decided + 1; asked = false }
fed_at c At.Cancel reply = record c { decided = c.decided + 1; asked = false }
fed_at c stage reply = record c { asked = false }

abbrev pub fed : Coordination → NodeReply → Coordination
fed c reply = fed_at c (stage_in c) reply
