-- What a recovery coordinator of the script does at an act. Lists of entries stand newest first.
use Rattle.std.specs.Prelude.{ℕ, ◌≡◌, Bool, true, false, not, ◌&&◌, List, ◌∷◌}
use Rattle.std.specs.Prelude.{Option, Some, None, is_some}
use Rattle.std.specs.Option.{option_map}
use Rattle.mn_base.specs.declared.ids.NodeNo.{NodeNo}
use Rattle.mn_base.specs.declared.ids.ClientNo.{ClientNo}
use Rattle.mn_mini.specs.declared.request.Request.{Request}
use Rattle.mn_mini.specs.declared.request.Request.TheVariants as Ask
use Rattle.mn_mini.specs.declared.reply.NodeReply.{NodeReply}
use Rattle.mn_mini.specs.declared.reply.NodeReply.TheVariants as Say
use Rattle.mn_callers.specs.declared.desk.Desk.{Desk}
use Rattle.mn_callers.specs.Clients.{last_shared}
use Rattle.mn_runs.specs.declared.entry.Entry.{Entry}
use Rattle.mn_runs.specs.Protocol.{entries_of}
use Rattle.mn_runs.specs.Calls.{issues_of}
use Rattle.mn_cell.specs.Calls.{entry_at, what_said}
use Rattle.mn_recov.specs.declared.stage.RecovStage.TheVariants.{Looking}
use Rattle.mn_recov.specs.declared.step.RecovStep.{RecovStep}
use Rattle.mn_recov.specs.declared.step.RecovStep.TheVariants.{Send, Ended}
use Rattle.mn_recov.specs.Recovery.{Recovery, step_of, fed}

-- Work

-- what it has, or else the recovery of the last id of a client that has several participants, by
-- the client's own list
abbrev pub work_of : ℕ → Option Recovery → List Entry → Option Recovery
work_of nodes (Some r) es = Some r
work_of nodes None es =
    option_map (λ tid. record { tid = tid; nodes = nodes; stage = Looking 0 })
    (last_shared (issues_of es))

-- one that ended has no work
abbrev pub left_after : Recovery → RecovStep → Option Recovery
left_after r (Send node request) = Some r
left_after r (Ended verdict) = None

-- One call

-- a call with this reply ends the coordinator's list; one that found no memory has no entry
abbrev pub IsEntered : NodeNo → ClientNo → Request → NodeReply → List Entry → List Entry → Type 0
IsEntered n actor request Say.NoMemory es new = new ≡ es
IsEntered n actor request reply es new =
    new ≡ entry_at n actor (what_said request None reply) ∷ es

abbrev pub is_force : Request → Bool
is_force (Ask.Force tid) = true
is_force request = false

abbrev pub is_vote : NodeReply → Bool
is_vote (Say.Vote vote) = true
is_vote reply = false

-- a Force that wasn't voted on is asked again
abbrev pub has_to_wait : Request → NodeReply → Bool
has_to_wait request reply = is_force request && not (is_vote reply)

-- the coordinator's own list, and its work
pub record Bench : Type 0 where
  pub list : List Entry
  pub work : Option Recovery

abbrev pub bench_of : Desk → Bench
bench_of d = record { list = entries_of d.list.entries; work = d.work }

-- the call that the recovery wants is answered so; `on` says whether another may follow in the same
-- act
pub record AsksNode (actor : ClientNo) (r : Recovery) (node : NodeNo) (request : Request)
    (old new : Bench) (on : Bool) : Type 0 where
  pub reply : NodeReply
  pub entered : IsEntered node actor request reply old.list new.list
  pub work : new.work ≡ left_after (fed r reply) (step_of (fed r reply))
  pub goes_on : on ≡ (is_some new.work && not (has_to_wait request reply))

-- the call that the recovery wants next, if it wants one
abbrev pub AsksNext : ClientNo → Recovery → RecovStep → Bench → Bench → Bool → Type 0
AsksNext actor r (Send node request) old new on = AsksNode actor r node request old new on
AsksNext actor r (Ended verdict) old new on =
    (new ≡ record { list = old.list; work = None }) × (on ≡ false)

-- one call, if there is work
abbrev pub AsksIf : ClientNo → Option Recovery → Bench → Bench → Bool → Type 0
AsksIf actor None old new on = (new ≡ old) × (on ≡ false)
AsksIf actor (Some r) old new on = AsksNext actor r (step_of r) old new on

-- `rstep`: one call; `es` is the client's own list
abbrev pub DoesRstep : ℕ → ClientNo → List Entry → Bench → Bench → Type 0
DoesRstep nodes actor es old new =
    (on : Bool) × AsksIf actor (work_of nodes old.work es) old new on

-- `recover`: calls until it ends, or has to wait at a Force
pub data DoesRecover (nodes : ℕ) (actor : ClientNo) (es : List Entry) (old : Bench)
    : Bench → Bool → Type 0 where
  first : (new : Bench) (on : Bool) → AsksIf actor (work_of nodes old.work es) old new on
      → DoesRecover nodes actor es old new on
  one_more : (now new : Bench) (on : Bool) → DoesRecover nodes actor es old now true
      → AsksIf actor now.work now new on → DoesRecover nodes actor es old new on
