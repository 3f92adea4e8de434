-- The list of an actor that recovers, and what it may send.
use Rattle.std.proofs.Common.{◌≡◌, ◌≢◌, ℕ, ◌≤◌, Bool, true, false, ◌&&◌, ◌||◌, List, [], ◌∷◌, ◌++◌, Some, None, refl, sym, ap, ◌∙◌, subst, if◌then◌else◌}
use Rattle.std.specs.Prelude.{nat_lt, length}
use Rattle.std.specs.List.{AllByRecursion, list_any}
use Rattle.mn_base.specs.declared.ids.ClientNo.{ClientNo}
use Rattle.mn_base.specs.declared.ids.NodeNo.{NodeNo}
use Rattle.mn_base.specs.declared.ids.Tid.{Tid}
use Rattle.mn_cell.specs.Calls.{MaySend, entry_at, what_said}
use Rattle.mn_cell.specs.Runs.{IsIssueOf}
use Rattle.mn_cell.proofs.Owed.{newest_entry}
use Rattle.mn_mini.specs.declared.request.Request.{Request}
use Rattle.mn_mini.specs.declared.request.Request.TheVariants as Ask
use Rattle.mn_mini.specs.declared.reply.NodeReply.{NodeReply}
use Rattle.mn_mini.specs.declared.reply.NodeReply.TheVariants as Say
use Rattle.mn_recov.specs.declared.stage.RecovStage.{RecovStage}
use Rattle.mn_recov.specs.declared.stage.RecovStage.TheVariants.{Looking, Found}
use Rattle.mn_recov.specs.declared.step.RecovStep.{RecovStep}
use Rattle.mn_recov.specs.declared.step.RecovStep.TheVariants.{Send, Ended}
use Rattle.mn_recov.specs.Legal.{Agrees, IsAnswered}
use Rattle.mn_recov.specs.Recovery.{Recovery, fed, step_at, step_of}
use Rattle.mn_runs.specs.declared.entry.Entry.{Entry}
use Rattle.mn_runs.specs.declared.entry.What.TheVariants.{Restarted}
use Rattle.mn_runs.specs.Calls.{Begun, Call, begun_in, begun_of, call_in, calls_of, is_exec, is_in_doubt, is_last_of, is_prepare, is_stopped}
use Rattle.mn_runs.specs.Clients.{Sends}
use Rattle.mn_runs.specs.Lists.{ClientState}
use Rattle.mn_runs.specs.Protocol.{IsOfRun, Start, entries_of}
use Rattle.mn_law.specs.Run.{IsLegalBy}
use Rattle.mn_callers.specs.Desks.{DoubtsNothing, IsOfRecovery, IsRecoveryCall, IsWork}
use Rattle.mn_callers.specs.Steps.{Adds, KeepsList}
use Rattle.mn_callers.proofs.Turns.{if_none}

-- What a recovery sends

abbrev pub IsRecoveryStep : RecovStep → Type 0
IsRecoveryStep (Send node request) = IsRecoveryCall request
IsRecoveryStep (Ended verdict) = Unit {0}

either : (b : Bool) (s t : RecovStep) → IsRecoveryStep s → IsRecoveryStep t → IsRecoveryStep (if b then s else t)
either true s t one two = one
either false s t one two = two

step_recovers : (tid : Tid) (nodes : ℕ) (stage : RecovStage) → IsRecoveryStep (step_at tid nodes stage)
step_recovers tid nodes (Looking node) = either (nat_lt node nodes) _ _ tt tt
step_recovers tid nodes (Found ps voted verdict decided) = either (nat_lt voted (length ps)) _ _ tt (either (nat_lt decided (length ps)) _ _ tt tt)

pub sends_recovery : (tid : Tid) (nodes : ℕ) (stage : RecovStage) (node : NodeNo) (request : Request) → Send node request ≡ step_at tid nodes stage → IsRecoveryCall request
sends_recovery tid nodes stage node request is = subst IsRecoveryStep (sym is) (step_recovers tid nodes stage)

-- What was said

legal_as : (c : ClientNo) (es : List Entry) (n : NodeNo) (request : Request) (reply : NodeReply) → c.0 ≤ 20 → Sends es (Some n) request → IsLegalBy es (entry_at n c (what_said request None reply))
legal_as c es n request Say.Stopped known sends = record { actor = known; node = tt; step = (sends, tt) }
legal_as c es n request reply known sends = record { actor = known; node = tt; step = (sends, tt) }

-- whatever the reply is, it is allowed
pub may_send : (c : ClientNo) (list : List (ℕ × Entry)) (n : NodeNo) (request : Request) → c.0 ≤ 20 → Sends (entries_of list) (Some n) request → MaySend n c list request None
may_send c list n request known sends reply = legal_as c (entries_of list) n request reply known sends

-- the entry is the call
pub call_said : (n : NodeNo) (request : Request) (reply : NodeReply) → call_in (Some n) (what_said request None reply) ≡ record { node = n; request = request; reply = reply } ∷ []
call_said n request Say.Stopped = refl
call_said n request reply = refl

of_run_said : (start : Start) (request : Request) (reply : NodeReply) → IsOfRun start (what_said request None reply)
of_run_said start request Say.Stopped = tt
of_run_said start request reply = tt

begins_none_said : (request : Request) (reply : NodeReply) → begun_in (what_said request None reply) ≡ []
begins_none_said request Say.Stopped = refl
begins_none_said request reply = refl

no_doubt : (tid : Tid) (request : Request) (n : NodeNo) → IsRecoveryCall request → (is_exec tid request || (is_prepare tid request && is_last_of n request)) ≡ false
no_doubt tid (Ask.Prepare t ps part) n is = absurd is
no_doubt tid (Ask.Exec t part) n is = absurd is
no_doubt tid (Ask.Decide t verdict) n is = refl
no_doubt tid (Ask.Force t) n is = refl
no_doubt tid Ask.List n is = refl
no_doubt tid (Ask.Peek from size) n is = absurd is

neither : (a b c : Bool) → b ≡ false → c ≡ false → ((a && b) || c) ≡ false
neither true b c one two = ap (λ x. x || c) one ∙ two
neither false b c one two = two

-- a list that has no entry
pub none_recovered : (start : Start) (l : ClientState) → l.entries ≡ [] → IsOfRecovery start l
none_recovered start l none = record {
  own = subst (λ (es : List (ℕ × Entry)). AllByRecursion (λ e. e.client ≡ Some l.client) (entries_of es)) (sym none) tt;
  of_run = subst (λ (es : List (ℕ × Entry)). AllByRecursion (IsIssueOf start) (entries_of es)) (sym none) tt;
  begins_none = ap (λ (es : List (ℕ × Entry)). begun_of (entries_of es)) none;
  free = subst (λ (es : List (ℕ × Entry)). DoubtsNothing (entries_of es)) (sym none) (λ tid. refl);
}

module _ (start : Start) (old new : ClientState) (is : IsOfRecovery start old) where
  pub recovery_keeps : KeepsList old new → IsOfRecovery start new
  recovery_keeps keeps = record {
    own = subst (λ (l : List (ℕ × Entry)). AllByRecursion (λ e. e.client ≡ Some new.client) (entries_of l)) (sym keeps.entries) (subst (λ (c : ClientNo). AllByRecursion (λ e. e.client ≡ Some c) (entries_of old.entries)) (sym keeps.client) is.own);
    of_run = subst (λ (l : List (ℕ × Entry)). AllByRecursion (IsIssueOf start) (entries_of l)) (sym keeps.entries) is.of_run;
    begins_none = ap (λ (l : List (ℕ × Entry)). begun_of (entries_of l)) keeps.entries ∙ is.begins_none;
    free = subst (λ (l : List (ℕ × Entry)). DoubtsNothing (entries_of l)) (sym keeps.entries) is.free;
  }

  -- with the entry of a call
  pub recovery_adds : (n : NodeNo) (request : Request) (reply : NodeReply) → IsRecoveryCall request → Adds (entry_at n old.client (what_said request None reply)) old new → IsOfRecovery start new
  recovery_adds n request reply kind adds =
      let e = entry_at n old.client (what_said request None reply) in
      let es = entries_of old.entries in
      let entries : entries_of new.entries ≡ e ∷ es = ap (λ (l : List (ℕ × Entry)). entries_of l) adds.ends ∙ newest_entry old.entries adds.place e in
      record {
        own = subst (λ (l : List Entry). AllByRecursion (λ e. e.client ≡ Some new.client) l) (sym entries) (subst (λ (c : ClientNo). AllByRecursion (λ e. e.client ≡ Some c) (e ∷ es)) (sym adds.client) (refl, is.own));
        of_run = subst (λ (l : List Entry). AllByRecursion (IsIssueOf start) l) (sym entries) (of_run_said start request reply, is.of_run);
        begins_none = ap begun_of entries ∙ (ap (λ (bs : List Begun). bs ++ begun_of es) (begins_none_said request reply) ∙ is.begins_none);
        free = subst DoubtsNothing (sym entries) (λ tid.
            ap (λ (l : List Call). list_any (λ c. is_stopped c.reply && (is_exec tid c.request || (is_prepare tid c.request && is_last_of c.node c.request))) (l ++ calls_of es)) (call_said n request reply)
            ∙ neither (is_stopped reply) _ (is_in_doubt tid es) (no_doubt tid request n kind) (is.free tid));
      }

  -- with the entry of a restart
  pub recovery_restarts : (n : NodeNo) (kept : Bool) → Adds (entry_at n old.client (Restarted kept)) old new → IsOfRecovery start new
  recovery_restarts n kept adds =
      let e = entry_at n old.client (Restarted kept) in
      let es = entries_of old.entries in
      let entries : entries_of new.entries ≡ e ∷ es = ap (λ (l : List (ℕ × Entry)). entries_of l) adds.ends ∙ newest_entry old.entries adds.place e in
      record {
        own = subst (λ (l : List Entry). AllByRecursion (λ e. e.client ≡ Some new.client) l) (sym entries) (subst (λ (c : ClientNo). AllByRecursion (λ e. e.client ≡ Some c) (e ∷ es)) (sym adds.client) (refl, is.own));
        of_run = subst (λ (l : List Entry). AllByRecursion (IsIssueOf start) l) (sym entries) (tt, is.of_run);
        begins_none = ap begun_of entries ∙ is.begins_none;
        free = subst DoubtsNothing (sym entries) (λ tid. is.free tid);
      }

-- the list shows how far the recovery has come once it was fed the reply
pub work_goes_on : (start : Start) (old new : ClientState) (r r' : Recovery) (node : NodeNo) (request : Request) (reply : NodeReply) → IsWork start old r → step_of r ≡ Send node request
    → (reply ≢ Say.NoMemory → Adds (entry_at node old.client (what_said request None reply)) old new) → (reply ≡ Say.NoMemory → KeepsList old new)
    → r' ≡ fed r reply → ((es : List Entry) (e : Entry) (n : NodeNo) (q : Request) → Agrees es r → step_of r ≡ Send n q → IsAnswered e n q reply → Agrees (e ∷ es) r')
    → (reply ≡ Say.NoMemory → (es : List Entry) → Agrees es r → Agrees es r') → IsWork start new r'
work_goes_on start old new r r' node request reply work step said none fed_is agrees no_entry = (
  if_none reply
      (λ is. subst (λ (l : List (ℕ × Entry)). Agrees (entries_of l) r') (sym (none is).entries) (no_entry is (entries_of old.entries) work.0))
      (λ other. let e = entry_at node old.client (what_said request None reply) in
      let adds = said other in
      let entries : entries_of new.entries ≡ e ∷ entries_of old.entries = ap (λ (l : List (ℕ × Entry)). entries_of l) adds.ends ∙ newest_entry old.entries adds.place e in
      subst (λ (l : List Entry). Agrees l r') (sym entries) (agrees (entries_of old.entries) e node request work.0 step (call_said node request reply))),
  ap (λ (x : Recovery). x.nodes) fed_is ∙ work.1,
)

-- only the entries of the list count
pub work_same : (start : Start) (old new : ClientState) (r : Recovery) → new.entries ≡ old.entries → IsWork start old r → IsWork start new r
work_same start old new r same work = (subst (λ (l : List (ℕ × Entry)). Agrees (entries_of l) r) (sym same) work.0, work.1)
