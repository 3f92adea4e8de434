-- That a recovery coordinator's list goes on by steps of recovery alone.
use Rattle.std.proofs.Common.{◌≡◌, ◌≢◌, ℕ, List, [], ◌∷◌, ◌++◌, refl, sym, ap, ◌∙◌, Option, None, subst, ⊎_elim}
use Rattle.std.proofs.lemmas.List.{append_assoc}
use Rattle.mn_base.specs.declared.ids.NodeNo.{NodeNo}
use Rattle.mn_base.proofs.Lists.{all_append}
use Rattle.mn_cell.specs.Calls.{entry_at, what_said}
use Rattle.mn_cell.proofs.Owed.{newest_entry}
use Rattle.mn_mini.specs.declared.reply.NodeReply.{NodeReply}
use Rattle.mn_mini.specs.declared.reply.NodeReply.TheVariants as Say
use Rattle.mn_mini.specs.declared.request.Request.{Request}
use Rattle.mn_runs.specs.declared.entry.Entry.{Entry}
use Rattle.mn_runs.specs.Lists.{ClientState}
use Rattle.mn_runs.specs.Protocol.{entries_of, Start}
use Rattle.std.specs.Prelude.{⊤, MatchOption}
use Rattle.mn_recov.specs.Recovery.{Recovery}
use Rattle.mn_callers.specs.declared.desk.Desk.{Desk}
use Rattle.mn_callers.specs.Desks.{IsDesk, IsOfRecovery, IsRecoveryStep, IsWork, RecoversOn}
use Rattle.mn_callers.proofs.Recovering.{recovery_keeps, recovery_restarts}
use Rattle.mn_runs.specs.declared.entry.What.TheVariants.{Restarted}
use Rattle.mn_callers.specs.Steps.{Adds, MayRestart}
use Rattle.mn_callers.proofs.Turns.{if_none}

pub recovers_not : (es : List Entry) → RecoversOn es es
recovers_not es = record { own = []; new_is = refl; steps = tt }

pub recovers_more : (a b c : List Entry) → RecoversOn a b → RecoversOn b c → RecoversOn a c
recovers_more a b c one two = record {
  own = two.own ++ one.own;
  new_is = two.new_is ∙ (ap (λ (es : List Entry). two.own ++ es) one.new_is ∙ sym (append_assoc two.own one.own a));
  steps = all_append (λ (e : Entry). IsRecoveryStep e.what) two.own one.own two.steps one.steps;
}

-- what a call says is such a step, whatever the reply
pub call_is_step : (request : Request) (reply : NodeReply) → IsRecoveryStep (what_said request None reply)
call_is_step request Say.Stopped = tt
call_is_step request reply = tt

pub recovers_one : (e : Entry) (es new : List Entry) → new ≡ e ∷ es → IsRecoveryStep e.what → RecoversOn es new
recovers_one e es new is step = record { own = e ∷ []; new_is = is; steps = (step, tt) }

pub recovers_same : (old new : List (ℕ × Entry)) → new ≡ old → RecoversOn (entries_of old) (entries_of new)
recovers_same old new is = subst (λ (l : List (ℕ × Entry)). RecoversOn (entries_of old) (entries_of l)) (sym is) (recovers_not (entries_of old))

-- a call that was sent adds such a step, or found no memory
pub sent_recovers : (n : NodeNo) (request : Request) (reply : NodeReply) (old new : ClientState) → (reply ≢ Say.NoMemory → Adds (entry_at n old.client (what_said request None reply)) old new)
    → (reply ≡ Say.NoMemory → new.entries ≡ old.entries) → RecoversOn (entries_of old.entries) (entries_of new.entries)
sent_recovers n request reply old new said none =
    if_none reply (λ is. recovers_same old.entries new.entries (none is))
    (λ other. let adds = said other in let e = entry_at n old.client (what_said request None reply) in
    recovers_one e (entries_of old.entries) (entries_of new.entries) (ap (λ (l : List (ℕ × Entry)). entries_of l) adds.ends ∙ newest_entry old.entries adds.place e) (call_is_step request reply))

-- so does a restart, if there was one
pub restart_recovers : (n : NodeNo) (old new : ClientState) → MayRestart n old new → RecoversOn (entries_of old.entries) (entries_of new.entries)
restart_recovers n old new may = ⊎_elim (λ keeps. recovers_same old.entries new.entries keeps.entries)
    (λ restarts. let adds = restarts.1 in let e = entry_at n old.client (Restarted restarts.0) in
    recovers_one e (entries_of old.entries) (entries_of new.entries) (ap (λ (l : List (ℕ × Entry)). entries_of l) adds.ends ∙ newest_entry old.entries adds.place e) tt)
    may

-- A coordinator without work

pub desk_idle : (start : Start) (d : Desk) → d.work ≡ None → IsOfRecovery start d.list → IsDesk start d
desk_idle start d idle list = record {
  list = list;
  work = subst (λ (o : Option Recovery). MatchOption o ⊤ (IsWork start d.list)) (sym idle) tt;
}

pub desk_restarts : (start : Start) (n : NodeNo) (d : Desk) (list : ClientState) → MayRestart n d.list list → d.work ≡ None → IsDesk start d → IsDesk start (record d { list = list })
desk_restarts start n d list may idle is = desk_idle start (record d { list = list }) idle
    (⊎_elim (λ keeps. recovery_keeps start d.list list is.list keeps) (λ restarts. recovery_restarts start d.list list is.list n restarts.0 restarts.1) may)

pub desk_leaves : (start : Start) (old new : Desk) → new ≡ record old { work = None } → IsDesk start old → IsDesk start new
desk_leaves start old new left is = subst (IsDesk start) (sym left) (desk_idle start (record old { work = None }) refl is.list)
