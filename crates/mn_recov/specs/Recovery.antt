-- How a recovery goes on, by what it was answered so far.
use Rattle.std.specs.Prelude.{ℕ, ◌+◌, ◌<◌, Bool, true, ◌&&◌, nat_lt, List, length, Option, Some}
use Rattle.std.specs.Prelude.{None, if◌then◌else◌, slice_index_or, ⊤}
use Rattle.std.specs.List.{list_all, AllByRecursion}
use Rattle.mn_base.specs.declared.ids.NodeNo.{NodeNo}
use Rattle.mn_base.specs.declared.ids.Tid.{Tid}
use Rattle.mn_mini.specs.declared.request.Request.TheVariants as Ask
use Rattle.mn_mini.specs.declared.reply.NodeReply.{NodeReply}
use Rattle.mn_mini.specs.declared.reply.NodeReply.TheVariants as Say
use Rattle.mn_mini.specs.RecordGrammar.{IsTid}
use Rattle.mn_mini.specs.Sound.{IsSoundRequest}
use Rattle.mn_runs.specs.Calls.{lists_doubt}
use Rattle.mn_recov.specs.declared.stage.RecovStage.{RecovStage}
use Rattle.mn_recov.specs.declared.stage.RecovStage.TheVariants.{Looking, Found}
use Rattle.mn_recov.specs.declared.step.RecovStep.{RecovStep}
use Rattle.mn_recov.specs.declared.step.RecovStep.TheVariants.{Send, Ended}

-- the recovery of an id among so many nodes
pub record Recovery : Type 0 where
  pub tid : Tid
  pub nodes : ℕ
  pub stage : RecovStage

-- the participants that were found are among so many nodes
abbrev pub NodesAreBelow : ℕ → RecovStage → Type 0
NodesAreBelow nodes (Looking node) = ⊤
NodesAreBelow nodes (Found participants voted verdict decided) =
    AllByRecursion (λ n. n.0 < nodes) participants

-- its id is sound, and so are the participants
pub record IsSoundRecovery (r : Recovery) : Type 0 where
  pub id : IsTid r.tid
  pub found : NodesAreBelow r.nodes r.stage

abbrev pub participant : List NodeNo → ℕ → NodeNo
participant ps i = slice_index_or ps i (record { 0 = 0 })

-- each node is asked for its list until one lists the id; then each participant is forced, and then
-- each is sent the decision
abbrev pub step_at : Tid → ℕ → RecovStage → RecovStep
step_at tid nodes (Looking node) =
    if nat_lt node nodes then Send (record { 0 = node }) Ask.List else Ended None
step_at tid nodes (Found participants voted verdict decided) =
    if nat_lt voted (length participants) then Send (participant participants voted) (Ask.Force tid)
    else (if nat_lt decided (length participants)
    then Send (participant participants decided) (Ask.Decide tid verdict) else Ended (Some verdict))

abbrev pub step_of : Recovery → RecovStep
step_of r = step_at r.tid r.nodes r.stage

-- a request that it gives is sound, and goes to one of so many nodes
abbrev pub IsSoundStep : ℕ → RecovStep → Type 0
IsSoundStep nodes (Send node request) = (node.0 < nodes) × IsSoundRequest request
IsSoundStep nodes (Ended verdict) = ⊤

-- a list that gives the id with participants of the space
abbrev pub found_or : ℕ → RecovStage → Option (List NodeNo) → RecovStage
found_or nodes next None = next
found_or nodes next (Some participants) =
    if list_all (λ n. nat_lt n.0 nodes) participants then Found participants 0 true 0 else next

abbrev pub after_list : Tid → ℕ → ℕ → NodeReply → RecovStage
after_list tid nodes node (Say.Listed doubts) =
    found_or nodes (Looking (node + 1)) (lists_doubt tid doubts)
after_list tid nodes node reply = Looking (node + 1)

-- a node that does not vote is asked again
abbrev pub after_force : List NodeNo → ℕ → Bool → ℕ → NodeReply → RecovStage
after_force participants voted verdict decided (Say.Vote vote) =
    Found participants (voted + 1) (verdict && vote) decided
after_force participants voted verdict decided reply = Found participants voted verdict decided

-- replies to Decides are passed over
abbrev pub stage_after : Tid → ℕ → RecovStage → NodeReply → RecovStage
stage_after tid nodes (Looking node) reply = after_list tid nodes node reply
stage_after tid nodes (Found participants voted verdict decided) reply =
    if nat_lt voted (length participants) then after_force participants voted verdict decided reply
    else Found participants voted verdict (decided + 1)

abbrev pub fed : Recovery → NodeReply → Recovery
fed r reply =
    record { tid = r.tid; nodes = r.nodes; stage = stage_after r.tid r.nodes r.stage reply }

-- a request is out
abbrev pub IsSend : RecovStep → Type 0
IsSend (Send node request) = Unit {0}
IsSend (Ended verdict) = ⊥
