-- What the acts of a schedule make of a log. Lists of entries stand newest first.
use Rattle.std.specs.Prelude.{ℕ, ◌-◌, ◌≡◌, ◌⊎◌, Bool, List, [], ◌∷◌, ◌++◌, length, map}
use Rattle.std.specs.Prelude.{Option, None, slice_index_or, slice_set, MatchBool}
use Rattle.std.specs.Prelude.{replicate, true, false}
use Rattle.std.specs.List.{range_with_len}
use Rattle.mn_base.specs.declared.ids.NodeNo.{NodeNo}
use Rattle.mn_base.specs.declared.ids.ClientNo.{ClientNo}
use Rattle.mn_script.specs.declared.elements.Act.{Act}
use Rattle.mn_script.specs.declared.elements.Act.TheVariants as acts
use Rattle.mn_script.specs.Script.{Script}
use Rattle.mn_runs.specs.declared.entry.Entry.{Entry}
use Rattle.mn_runs.specs.declared.entry.What.TheVariants.{Stopped, Restarted}
use Rattle.mn_runs.specs.Calls.{node_entries, client_entries}
use Rattle.mn_runs.specs.Nodes.{is_down}
use Rattle.mn_cell.specs.Calls.{entry_at}
use Rattle.mn_recov.specs.Recovery.{Recovery}
use Rattle.mn_callers.specs.Acts.{DoesStep, DoesPlan, DoesGo, DoesAll, role_of}
use Rattle.mn_callers.specs.Desks.{recoverer}
use Rattle.mn_callers.specs.Failed.{closer}
use Rattle.mn_callers.specs.Recoveries.{Bench, DoesRstep, DoesRecover}
use Rattle.mn_callers.specs.Stages.{GoesOnBy, IsOfClient, Played}

-- by entries of a recovery coordinator, which make of its list and its work what the relation says
pub record IsOfRecoverer (number : ℕ) (does : Bench → Bench → Type 0) (old new : Played)
    : Type 0 where
  pub past : GoesOnBy (recoverer number) old.past new.past
  pub work : Option Recovery
  pub so : does (record {
    list = client_entries (recoverer number) old.past;
    work = slice_index_or old.works (number - 1) None;
  })
      (record { list = client_entries (recoverer number) new.past; work = work })
  pub works : new.works ≡ slice_set old.works (number - 1) work

abbrev pub DoesWork : Bool → ℕ → ClientNo → List Entry → Bench → Bench → Type 0
DoesWork true nodes actor es old new = DoesRecover nodes actor es old new false
DoesWork false nodes actor es old new = DoesRstep nodes actor es old new

-- it works on what it has or else for the client, one call or as far as it comes
abbrev pub RecoversFor : ℕ → ℕ → ClientNo → Bool → Played → Played → Type 0
RecoversFor nodes number c to_the_end old new =
    IsOfRecoverer number
    (DoesWork to_the_end nodes (recoverer number) (client_entries c old.past)) old new

abbrev pub with_entry : Entry → Played → Played
with_entry e p = record { past = e ∷ p.past; works = p.works }

-- a node that is up is stopped between two calls
abbrev pub HaltsNode : NodeNo → Played → Played → Type 0
HaltsNode n old new =
    MatchBool (is_down (node_entries n old.past)) (new ≡ old)
    (new ≡ with_entry (entry_at n closer (Stopped None None)) old)

-- a node that is down is restarted, or its restart failed and has no entry
abbrev pub RestartsNode : NodeNo → Played → Played → Type 0
RestartsNode n old new =
    MatchBool (is_down (node_entries n old.past))
    ((new ≡ old)
    ⊎ ((kept : Bool) × (new ≡ with_entry (entry_at n closer (Restarted kept)) old))) (new ≡ old)

-- what an act makes of the log
abbrev pub DoesAct : Script → Act → Played → Played → Type 0
DoesAct script (acts.Step c) old new = IsOfClient c (DoesStep (role_of script c)) old new
DoesAct script (acts.Plan c) old new = IsOfClient c (DoesPlan (role_of script c)) old new
DoesAct script (acts.Go c) old new = IsOfClient c (DoesGo (role_of script c)) old new
DoesAct script (acts.All c) old new = IsOfClient c (DoesAll (role_of script c)) old new
DoesAct script (acts.Halt n) old new = HaltsNode n old new
DoesAct script (acts.Restart n) old new = RestartsNode n old new
DoesAct script (acts.Rstep r c) old new = RecoversFor script.nodes r c false old new
DoesAct script (acts.Recover r c) old new = RecoversFor script.nodes r c true old new

-- one act after another
abbrev pub DoesActs : Script → List Act → Played → Played → Type 0
DoesActs script [] old new = new ≡ old
DoesActs script (act ∷ rest) old new =
    (now : Played) × DoesAct script act old now × DoesActs script rest now new

abbrev pub all_of : ℕ → Act
all_of k = acts.All (record { 0 = k })

-- an `all` of each client in order
abbrev pub last_acts : Script → List Act
last_acts script = map all_of (range_with_len 0 (length script.clients))

-- the acts of the schedule, and after them those
abbrev pub acts_of : Script → List Act
acts_of script = script.schedule ++ last_acts script

-- the log with which the acts begin: no recovery coordinator, of which there may be four, has work
abbrev pub played_from : List Entry → Played
played_from past = record { past = past; works = replicate 4 None }
