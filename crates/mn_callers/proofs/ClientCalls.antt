-- What the calls of a client, and the operations that it begins, make of its list and its proxy.
use Rattle.std.proofs.Common.{length, replicate, take, ◌≡◌, ◌≢◌, ℕ, ◌+◌, ◌-◌, ◌≤◌, Bool, true, false, not, ◌&&◌, List, [], ◌∷◌, ◌++◌, Option, Some, None, refl, sym, ap, ◌∙◌, subst, inl, inr, arith}
use Rattle.std.specs.Prelude.{◌⊎◌, IsTrue, MatchOption, ⊤, if◌then◌else◌, nat_eq, option_and_then}
use Rattle.std.specs.Option.{option_map}
use Rattle.std.specs.List.{AllByRecursion, list_all}
use Rattle.mn_base.specs.declared.gate.StopAt.{StopAt}
use Rattle.mn_base.specs.declared.ids.ClientNo.{ClientNo}
use Rattle.mn_base.specs.declared.ids.NodeNo.{NodeNo}
use Rattle.mn_base.specs.declared.ids.Tid.{Tid}
use Rattle.mn_base.specs.declared.op.Op.{Op}
use Rattle.mn_base.proofs.Booleans.{clash}
use Rattle.mn_cell.specs.Calls.{ObeysStop, MaySend, entry_at, what_said}
use Rattle.mn_cell.specs.Runs.{IsIssueOf}
use Rattle.mn_coord.specs.Coordination.{Coordination, participant, step_at, stage_in, try_request}
use Rattle.mn_coord.specs.Legal.{IsAnswered}
use Rattle.mn_coord.specs.declared.stage.Stage.{Stage}
use Rattle.mn_coord.specs.declared.stage.Stage.TheVariants as At
use Rattle.mn_coord.specs.declared.step.CoordStep.TheVariants.{Send}
use Rattle.mn_mini.specs.Mini.{part_of, participants_of}
use Rattle.mn_mini.specs.RecordGrammar.{IsTid}
use Rattle.mn_mini.specs.Sound.{Fits, IsDecide}
use Rattle.mn_mini.specs.declared.reply.NodeReply.{NodeReply}
use Rattle.mn_mini.specs.declared.reply.NodeReply.TheVariants as Say
use Rattle.mn_mini.specs.declared.request.Request.{Request}
use Rattle.mn_mini.specs.declared.request.Request.TheVariants as Ask
use Rattle.mn_script.specs.declared.elements.Point.{Point}
use Rattle.mn_runs.specs.declared.entry.Entry.{Entry}
use Rattle.mn_runs.specs.declared.entry.What.{What}
use Rattle.mn_runs.specs.declared.entry.What.TheVariants.{Begin, Called, Stopped}
use Rattle.mn_runs.specs.Calls.{Begun, Call as Asked, begun_in, begun_of, calls_of, issue_in, under_way}
use Rattle.mn_runs.specs.Clients.{is_recovery, recovers_nothing, last_number}
use Rattle.mn_runs.specs.Lists.{ClientState}
use Rattle.mn_runs.specs.Protocol.{Start, run_number, start_nodes, entries_of}
use Rattle.mn_law.specs.Run.{IsCallersStep}
use Rattle.mn_hist.specs.Points.{may_stop, points_met}
use Rattle.mn_hist.specs.Watching.{number_of}
use Rattle.mn_hist.proofs.Flags.{none_met}
use Rattle.mn_proxy.specs.declared.errand.Errand.{Errand}
use Rattle.mn_proxy.specs.declared.errand.Errand.TheVariants as out
use Rattle.mn_work.specs.declared.work.Work.{Work}
use Rattle.mn_proxy.specs.Agrees.{Agrees, BeginsNext, HasOut, HasOutIn, WorksBy}
use Rattle.mn_proxy.specs.State.{IsIdle, IsOutIn, IsReady, ProxyState, new_proxy}
use Rattle.mn_proxy.specs.State.{begun as begun_with}
use Rattle.mn_proxy.specs.Turns.{KeepsSelf, OwesNoneIn}
use Rattle.mn_callers.specs.declared.client.Call.{Call}
use Rattle.mn_callers.specs.declared.client.Client.{Client}
use Rattle.mn_callers.specs.Clients.{HasProxy, IsAlive, IsAtSteps, IsClient, MayCallNext, IsListOfRun, IsOfRun, KeepsIssues, is_dead, past_of}
use Rattle.mn_callers.specs.Going.{HasAnswer, IsSameBut, IsSameButRoom, IsUnnoted, MayAdd}
use Rattle.mn_callers.specs.Points.{AsksAs, has_died, is_kill_of, is_some_met, is_stop_at, stop_among, stop_due}
use Rattle.mn_callers.specs.Steps.{Adds, KeepsList, own_entry}
use Rattle.mn_callers.proofs.ClientSteps.{as_same, last_number_of, longer, out_works, ready_last, same_issues, same_list, with_entry}
use Rattle.mn_callers.proofs.MetPoints.{last_entry, own_meets_none}

-- Replies

-- there is an entry, or none
pub entry_or_none : (reply : NodeReply) → (reply ≡ Say.NoMemory) ⊎ (reply ≢ Say.NoMemory)
entry_or_none Say.NoMemory = inl refl
entry_or_none Say.Stopped = inr (λ e. cc)
entry_or_none (Say.Done reads) = inr (λ e. cc)
entry_or_none (Say.BadLock from long holder) = inr (λ e. cc)
entry_or_none (Say.BadCompare item found) = inr (λ e. cc)
entry_or_none Say.BadForced = inr (λ e. cc)
entry_or_none (Say.Vote vote) = inr (λ e. cc)
entry_or_none Say.Decided = inr (λ e. cc)
entry_or_none (Say.Listed doubts) = inr (λ e. cc)
entry_or_none (Say.Peeked bytes) = inr (λ e. cc)
entry_or_none Say.Down = inr (λ e. cc)

-- what is so of a stop and of any call is so of the step
of_said : (P : What → NodeReply → Type 0) (request : Request) (stop : Option StopAt) → P (Stopped (Some request) stop) Say.Stopped → ((reply : NodeReply) → P (Called request reply) reply)
    → (reply : NodeReply) → P (what_said request stop reply) reply
of_said P request stop stopped called Say.NoMemory = called Say.NoMemory
of_said P request stop stopped called Say.Stopped = stopped
of_said P request stop stopped called (Say.Done reads) = called (Say.Done reads)
of_said P request stop stopped called (Say.BadLock from long holder) = called (Say.BadLock from long holder)
of_said P request stop stopped called (Say.BadCompare item found) = called (Say.BadCompare item found)
of_said P request stop stopped called Say.BadForced = called Say.BadForced
of_said P request stop stopped called (Say.Vote vote) = called (Say.Vote vote)
of_said P request stop stopped called Say.Decided = called Say.Decided
of_said P request stop stopped called (Say.Listed doubts) = called (Say.Listed doubts)
of_said P request stop stopped called (Say.Peeked bytes) = called (Say.Peeked bytes)
of_said P request stop stopped called Say.Down = called Say.Down

-- The call

-- the client's list allows it, whatever the reply is
pub may_send : (start : Start) (c : Client) (node : NodeNo) (request : Request) (stop : Option StopAt) → c.list.client.0 ≤ 20 → MayCallNext start c (record { node = node; request = request }) → MaySend node c.list.client c.list.entries request stop
may_send start c node request stop known due reply = record {
  actor = known;
  node = tt;
  step = of_said (λ what said. IsCallersStep (past_of c) (Some c.list.client) (Some node) what) request stop (due.allowed, tt) (λ said. (due.allowed, tt)) reply;
}

answered : (node : NodeNo) (client : ClientNo) (request : Request) (stop : Option StopAt) (reply : NodeReply) → IsAnswered (entry_at node client (what_said request stop reply)) node request reply
answered node client request stop reply =
    of_said (λ what said. IsAnswered (entry_at node client what) node request said) request stop refl (λ said. refl) reply

asks_so : (due : Option StopAt) (request : Request) (reply : NodeReply) → ObeysStop due request reply → AsksAs due (what_said request due reply)
asks_so due request reply keeps =
    of_said (λ what said. ObeysStop due request said → AsksAs due what) request due (λ k. refl) (λ said k. k) reply keeps

begins_none : (request : Request) (stop : Option StopAt) (reply : NodeReply) → begun_in (what_said request stop reply) ≡ []
begins_none request stop reply = of_said (λ what said. begun_in what ≡ []) request stop refl (λ said. refl) reply

no_issue : (request : Request) (stop : Option StopAt) (reply : NodeReply) → issue_in (what_said request stop reply) ≡ []
no_issue request stop reply = of_said (λ what said. issue_in what ≡ []) request stop refl (λ said. refl) reply

issues_none : (start : Start) (node : NodeNo) (client : ClientNo) (request : Request) (stop : Option StopAt) (reply : NodeReply) → IsIssueOf start (entry_at node client (what_said request stop reply))
issues_none start node client request stop reply = of_said (λ what said. IsIssueOf start (entry_at node client what)) request stop tt (λ said. tt) reply

-- the operation under way has the number of the last one that was begun
pub at_work_number : (start : Start) (points : List Point) (c : Client) (node : NodeNo) (request : Request) → IsOfRun start points c → HasProxy start c → HasOut c.proxy node request → number_of (past_of c) ≡ Some c.begun
at_work_number start points c node request run proxy out =
    last_number_of (past_of c) (ready_last (past_of c) c.proxy (out_works c.proxy.work node request out) proxy.agrees) ∙ ap Some run.begun

-- where the stop is due
of_number : (F : ℕ → Option StopAt) (o : Option Begun) (n : ℕ) → option_map (λ (b : Begun). b.number) o ≡ Some n → option_and_then (λ (b : Begun). F b.number) o ≡ F n
of_number F None n is = absurd cc
of_number F (Some b) n is = let same : b.number ≡ n = cc in ap F same

pub stop_is : (points : List Point) (c : Client) (node : NodeNo) (request : Request) → number_of (past_of c) ≡ Some c.begun → c.met.items ≡ points_met points (past_of c)
    → (if may_stop request then stop_among (is_stop_at node c.list.client c.begun) points c.met.items else None) ≡ stop_due points c.list.client node request (past_of c)
stop_is points c node request number met =
    ap (λ (flags : List Bool). if may_stop request then stop_among (is_stop_at node c.list.client c.begun) points flags else None) met
    ∙ ap (λ (o : Option StopAt). if may_stop request then o else None) (sym (of_number (λ n. stop_among (is_stop_at node c.list.client n) points (points_met points (past_of c))) (under_way (past_of c)) c.begun number))

pub stop_asked : (points : List Point) (c : Client) (node : NodeNo) (request : Request) (stop : Option StopAt) (client : ClientNo) (flags : List Bool) → client ≡ c.list.client → flags ≡ c.met.items
    → stop ≡ (if may_stop request then stop_among (is_stop_at node client c.begun) points flags else None) → number_of (past_of c) ≡ Some c.begun → c.met.items ≡ points_met points (past_of c) → stop ≡ stop_due points c.list.client node request (past_of c)
stop_asked points c node request stop client flags who same is number met =
    is ∙ (ap (λ (d : ClientNo). if may_stop request then stop_among (is_stop_at node d c.begun) points flags else None) who
    ∙ (ap (λ (f : List Bool). if may_stop request then stop_among (is_stop_at node c.list.client c.begun) points f else None) same ∙ stop_is points c node request number met))

module _ (start : Start) (points : List Point) (c : Client) (node : NodeNo) (request : Request) (stop : Option StopAt) (reply : NodeReply) (l : ClientState)
    (run : IsOfRun start points c) (adds : Adds (entry_at node c.list.client (what_said request stop reply)) c.list l) where
  abbrev e : Entry
  e = entry_at node c.list.client (what_said request stop reply)

  own_after : AllByRecursion (λ x. x.client ≡ Some l.client) (entries_of l.entries)
  own_after = with_entry (λ d es. AllByRecursion (λ x. x.client ≡ Some d) es) e c.list l adds (refl, run.own)

  pub said_unnoted : number_of (past_of c) ≡ Some c.begun → IsUnnoted points (record c { list = l })
  said_unnoted number = record { last = e; before = past_of c; split = longer e c.list l adds; own = own_after; number = number; met = run.met }

  pub said_run : is_recovery request ≡ false → (flags : List Bool) → flags ≡ points_met points (entries_of l.entries) → IsListOfRun start points l flags c.begun c.shared c.is_plan
  said_run plain flags met = record {
    own = own_after;
    of_run = with_entry (λ d es. AllByRecursion (IsIssueOf start) es) e c.list l adds (issues_none start node c.list.client request stop reply, run.of_run);
    met = met;
    plain = with_entry (λ d es. IsTrue (recovers_nothing es)) e c.list l adds
        (ap (λ (calls : List Asked). list_all (λ call. not (is_recovery call.request)) (calls ++ calls_of (past_of c))) (answered node c.list.client request stop reply)
        ∙ (ap (λ (b : Bool). not b && recovers_nothing (past_of c)) plain ∙ run.plain));
    begun = with_entry (λ d es. last_number (begun_of es) ≡ c.begun) e c.list l adds (ap (λ (bs : List Begun). last_number (bs ++ begun_of (past_of c))) (begins_none request stop reply) ∙ run.begun);
    counted = with_entry (λ d es. length (begun_of es) ≡ c.begun) e c.list l adds (ap (λ (bs : List Begun). length (bs ++ begun_of (past_of c))) (begins_none request stop reply) ∙ run.counted);
    shared = run.shared;
    issues = with_entry (λ d es. KeepsIssues es c.shared c.is_plan) e c.list l adds (same_issues e (past_of c) c.shared c.is_plan (no_issue request stop reply) run.issues);
  }

  pub said_answer : (after : Client) → after.list ≡ l → stop ≡ stop_due points c.list.client node request (past_of c) → ObeysStop stop request reply → HasAnswer points node request reply c after
  said_answer after list due keeps = record {
    entry = e;
    longer = ap (λ (k : ClientState). entries_of k.entries) list ∙ longer e c.list l adds;
    answers = answered node c.list.client request stop reply;
    stops = subst (λ (d : Option StopAt). AsksAs d e.what) due (asks_so stop request reply keeps);
  }

-- what is so of the entries before the last one
pub own_before : (c d : ClientNo) (list list' : List (ℕ × Entry)) (e : ℕ × Entry) → 1 ≤ length list' → list' ≡ list → d ≡ c → AllByRecursion (λ x. x.client ≡ Some c) (entries_of list)
    → AllByRecursion (λ x. x.client ≡ Some d) (entries_of (take (length list' - 1) list'))
own_before c d list list' e some same client own =
    let whole = subst (λ (k : ClientNo). AllByRecursion (λ x. x.client ≡ Some k) (entries_of list')) (sym client) (subst (λ (l : List (ℕ × Entry)). AllByRecursion (λ x. x.client ≡ Some c) (entries_of l)) (sym same) own) in
    (subst (λ (es : List Entry). AllByRecursion (λ x. x.client ≡ Some d) es) (last_entry list' e some) whole).1

-- Nothing more in the list

pub same_run : (start : Start) (points : List Point) (old new : ClientState) (flags flags' : List Bool) (begun : ℕ) (id : Option Tid) (plan : Bool) → KeepsList old new → flags' ≡ points_met points (entries_of new.entries)
    → IsListOfRun start points old flags begun id plan → IsListOfRun start points new flags' begun id plan
same_run start points old new flags flags' begun id plan keeps met run = record {
  own = same_list (λ d es. AllByRecursion (λ x. x.client ≡ Some d) es) old new keeps.client keeps.entries run.own;
  of_run = same_list (λ d es. AllByRecursion (IsIssueOf start) es) old new keeps.client keeps.entries run.of_run;
  met = met;
  plain = same_list (λ d es. IsTrue (recovers_nothing es)) old new keeps.client keeps.entries run.plain;
  begun = same_list (λ d es. last_number (begun_of es) ≡ begun) old new keeps.client keeps.entries run.begun;
  counted = same_list (λ d es. length (begun_of es) ≡ begun) old new keeps.client keeps.entries run.counted;
  shared = run.shared;
  issues = same_list (λ d es. KeepsIssues es id plan) old new keeps.client keeps.entries run.issues;
}

pub kept_run : (start : Start) (points : List Point) (old new : ClientState) (flags : List Bool) (begun : ℕ) (id : Option Tid) (plan : Bool) → KeepsList old new → IsListOfRun start points old flags begun id plan → IsListOfRun start points new flags begun id plan
kept_run start points old new flags begun id plan keeps run =
    same_run start points old new flags flags begun id plan keeps (run.met ∙ sym (ap (λ (l : List (ℕ × Entry)). points_met points (entries_of l)) keeps.entries)) run

-- the list has other room

pub room_keeps : (old new : Client) → IsSameButRoom old new → KeepsList old.list new.list
room_keeps old new same = record { client = ap (λ (k : Client). k.list.client) same; entries = ap (λ (k : Client). k.list.entries) same }

pub room_run : (start : Start) (points : List Point) (old new : Client) → IsSameButRoom old new → IsOfRun start points old → IsOfRun start points new
room_run start points old new same run =
    let l : ClientState = record old.list { room = new.list.room } in
    as_same (IsOfRun start points) (record old { list = l }) new same (kept_run start points old.list l old.met.items old.begun old.shared old.is_plan (record { client = refl; entries = refl }) run)

pub room_proxy : (start : Start) (old new : Client) → IsSameButRoom old new → HasProxy start old → HasProxy start new
room_proxy start old new same has =
    as_same (HasProxy start) (record old { list = record old.list { room = new.list.room } }) new same (record { agrees = has.agrees; client = has.client; run = has.run; nodes = has.nodes })

pub room_due : (start : Start) (old new : Client) (call : Call) → IsSameButRoom old new → MayCallNext start old call → MayCallNext start new call
room_due start old new call same due =
    as_same (λ (k : Client). MayCallNext start k call) (record old { list = record old.list { room = new.list.room } }) new same (record { out = due.out; allowed = due.allowed; among = due.among; sound = due.sound })

pub room_past : (old new : Client) → IsSameButRoom old new → past_of new ≡ past_of old
room_past old new same = ap (λ (k : Client). past_of k) same

-- an answer after room was made
pub room_answer : (points : List Point) (node : NodeNo) (request : Request) (reply : NodeReply) (old mid new : Client) → IsSameButRoom old mid → HasAnswer points node request reply mid new → HasAnswer points node request reply old new
room_answer points node request reply old mid new same a = record {
  entry = a.entry;
  longer = a.longer ∙ ap (λ (es : List Entry). a.entry ∷ es) (room_past old mid same);
  answers = a.answers;
  stops = subst (λ (d : Option StopAt). AsksAs d a.entry.what) (ap (λ (k : Client). stop_due points k.list.client node request (past_of k)) same) a.stops;
}

-- A call that was answered, and noted

module _ (start : Start) (points : List Point) (c : Client) (node : NodeNo) (request : Request) (stop : Option StopAt) (reply : NodeReply) (l : ClientState) (run : IsOfRun start points c)
    (client : l.client ≡ c.list.client) (said : reply ≢ Say.NoMemory → Adds (entry_at node c.list.client (what_said request stop reply)) c.list l) (none : reply ≡ Say.NoMemory → l.entries ≡ c.list.entries) where
  pub asked_unnoted : number_of (past_of c) ≡ Some c.begun → reply ≢ Say.NoMemory → IsUnnoted points (record c { list = l })
  asked_unnoted number is = said_unnoted start points c node request stop reply l run (said is) number

  pub asked_noted : reply ≡ Say.NoMemory → c.met.items ≡ points_met points (entries_of l.entries)
  asked_noted is = run.met ∙ sym (ap (λ (k : List (ℕ × Entry)). points_met points (entries_of k)) (none is))

  module _ (m : Client) (same : m ≡ record c { list = l; met = m.met }) where
    pub asked_run : is_recovery request ≡ false → m.met.items ≡ points_met points (entries_of l.entries) → IsOfRun start points m
    asked_run plain met = as_same (IsOfRun start points) (record c { list = l; met = m.met }) m same (elim (entry_or_none reply) [
      | inl is ↦ same_run start points c.list l c.met.items m.met.items c.begun c.shared c.is_plan (record { client = client; entries = none is }) met run
      | inr is ↦ said_run start points c node request stop reply l run (said is) plain m.met.items met
    ])

    pub asked_answer : stop ≡ stop_due points c.list.client node request (past_of c) → ObeysStop stop request reply → reply ≢ Say.NoMemory → HasAnswer points node request reply c m
    asked_answer due keeps is = said_answer start points c node request stop reply l run (said is) m (ap (λ (k : Client). k.list) same) due keeps

    pub asked_none : reply ≡ Say.NoMemory → past_of m ≡ past_of c
    asked_none is = ap (λ (k : Client). past_of k) same ∙ ap (λ (k : List (ℕ × Entry)). entries_of k) (none is)

    pub asked_list : m.list ≡ l
    asked_list = ap (λ (k : Client). k.list) same

    pub asked_client : m.list.client ≡ c.list.client
    asked_client = ap (λ (k : Client). k.list.client) same ∙ client

    pub asked_stays : (m.proxy ≡ c.proxy) × (m.due ≡ c.due) × (m.begun ≡ c.begun)
    asked_stays = (ap (λ (k : Client). k.proxy) same, ap (λ (k : Client). k.due) same, ap (λ (k : Client). k.begun) same)

-- The reply is fed

asks : (c : Coordination) (stage : Stage) (node : NodeNo) (request : Request) → step_at c stage ≡ Send node request → (IsDecide request → ⊥) → stage ≡ At.Ask
asks c At.Ask node request is other = refl
asks c At.Commit node request is other = let same : Ask.Decide c.tid true ≡ request = cc in absurd (other (subst (λ (r : Request). IsDecide r) same tt))
asks c At.Abandon node request is other = absurd cc
asks c At.Cancel node request is other = let same : Ask.Decide c.tid false ≡ request = cc in absurd (other (subst (λ (r : Request). IsDecide r) same tt))
asks c At.Committed node request is other = absurd cc
asks c At.Failed node request is other = absurd cc
asks c At.Doubt node request is other = absurd cc

-- a request that is out is none of a recovery
plain_try : (alone : Bool) (exec prepare request : Request) → is_recovery exec ≡ false → is_recovery prepare ≡ false → (if alone then exec else prepare) ≡ request → is_recovery request ≡ false
plain_try true exec prepare request one two is = subst (λ (r : Request). is_recovery r ≡ false) is one
plain_try false exec prepare request one two is = subst (λ (r : Request). is_recovery r ≡ false) is two

plain_at : (c : Coordination) (stage : Stage) (node : NodeNo) (request : Request) → step_at c stage ≡ Send node request → is_recovery request ≡ false
plain_at c At.Ask node request is =
    let same : try_request c.tid c.mini (participant c c.done) ≡ request = cc in
    plain_try (nat_eq (length (participants_of c.mini)) 1) (Ask.Exec c.tid (part_of c.mini (participant c c.done))) (Ask.Prepare c.tid (participants_of c.mini) (part_of c.mini (participant c c.done))) request refl refl same
plain_at c At.Commit node request is = let same : Ask.Decide c.tid true ≡ request = cc in subst (λ (r : Request). is_recovery r ≡ false) same refl
plain_at c At.Abandon node request is = absurd cc
plain_at c At.Cancel node request is = let same : Ask.Decide c.tid false ≡ request = cc in subst (λ (r : Request). is_recovery r ≡ false) same refl
plain_at c At.Committed node request is = absurd cc
plain_at c At.Failed node request is = absurd cc
plain_at c At.Doubt node request is = absurd cc

pub plain_out : (work : Option (Work × Errand)) (node : NodeNo) (request : Request) → HasOutIn work node request → is_recovery request ≡ false
plain_out None node request has = absurd has
plain_out (Some (work, out.Nothing)) node request has = absurd has
plain_out (Some (work, out.Peek place purpose)) node request has = subst (λ (r : Request). is_recovery r ≡ false) (sym has.1) refl
plain_out (Some (work, out.Peeked place reply purpose)) node request has = absurd has
plain_out (Some (work, out.Mini tid c purpose)) node request has = plain_at c (stage_in c) node request has.1

-- one request is out
same_out : (work : Option (Work × Errand)) (node other : NodeNo) (request asked : Request) → HasOutIn work node request → HasOutIn work other asked → request ≡ asked
same_out None node other request asked has also = absurd has
same_out (Some (work, out.Nothing)) node other request asked has also = absurd has
same_out (Some (work, out.Peek place purpose)) node other request asked has also = has.1 ∙ sym also.1
same_out (Some (work, out.Peeked place reply purpose)) node other request asked has also = absurd has
same_out (Some (work, out.Mini tid c purpose)) node other request asked has also = let both = sym has.1 ∙ also.1 in cc

-- so the reply fits it, by whatever name
pub fits_out : (work : Option (Work × Errand)) (node : NodeNo) (request : Request) (reply : NodeReply) → HasOutIn work node request → Fits request reply → (other : NodeNo) (asked : Request) → HasOutIn work other asked → Fits asked reply
fits_out work node request reply has fits other asked also = subst (λ (r : Request). Fits r reply) (same_out work node other request asked has also) fits

-- where the request that is out is other decision
pub owes_none : (work : Option (Work × Errand)) (node : NodeNo) (request : Request) → HasOutIn work node request → (IsDecide request → ⊥) → OwesNoneIn work
owes_none None node request has other = tt
owes_none (Some (work, out.Nothing)) node request has other = tt
owes_none (Some (work, out.Peek place purpose)) node request has other = tt
owes_none (Some (work, out.Peeked place reply purpose)) node request has other = tt
owes_none (Some (work, out.Mini tid c purpose)) node request has other = asks c (stage_in c) node request has.1 other

-- what a proxy says of a reply that it is fed
pub record Feeds (old : ProxyState) (reply : NodeReply) (new : ProxyState) : Type 0 where
  pub ready : IsReady new
  pub agrees : (es : List Entry) (e : Entry) (node : NodeNo) (request : Request) → Agrees es old → HasOut old node request → Fits request reply → IsAnswered e node request reply → Agrees (e ∷ es) new
  pub no_entry : (es : List Entry) → Agrees es old → reply ≡ Say.NoMemory → OwesNoneIn old.work → Agrees es new
  pub kept : KeepsSelf old new

module _ (start : Start) (points : List Point) (c after : Client) (p : ProxyState) (node : NodeNo) (request : Request) (reply : NodeReply) (proxy : HasProxy start c)
    (due : MayCallNext start c (record { node = node; request = request })) (same : after.proxy ≡ c.proxy) (client : after.list.client ≡ c.list.client) (fits : Fits request reply)
    (said : reply ≢ Say.NoMemory → HasAnswer points node request reply c after) (none : reply ≡ Say.NoMemory → past_of after ≡ past_of c) (sent : reply ≡ Say.NoMemory → IsDecide request → ⊥)
    (feeds : Feeds after.proxy reply p) where
  feeds' : Feeds c.proxy reply p
  feeds' = subst (λ (q : ProxyState). Feeds q reply p) same feeds

  pub fed_agrees : Agrees (past_of after) p
  fed_agrees = elim (entry_or_none reply) [
    | inl is ↦ subst (λ (es : List Entry). Agrees es p) (sym (none is)) (feeds'.no_entry (past_of c) proxy.agrees is (owes_none c.proxy.work node request due.out (sent is)))
    | inr is ↦ let answer = said is in
        subst (λ (es : List Entry). Agrees es p) (sym answer.longer) (feeds'.agrees (past_of c) answer.entry node request proxy.agrees due.out fits answer.answers)
  ]

  pub fed_steps : after.due ≡ None → IsOfRun start points after → (is_dead points after → ⊥) → IsAtSteps start points (record after { proxy = p })
  fed_steps none_due run lives = record {
    run = run;
    lives = lives;
    proxy = record {
      agrees = fed_agrees;
      client = feeds'.kept.0 ∙ (proxy.client ∙ sym client);
      run = feeds'.kept.1 ∙ proxy.run;
      nodes = feeds'.kept.2 ∙ proxy.nodes;
    };
    ready = feeds.ready;
    none_due = none_due;
  }

-- What is so of a client

-- a call is due: it lives, and may make the call
pub due_alive : (start : Start) (points : List Point) (c : Client) (call : Call) → IsClient start points c → c.due ≡ Some call → (is_dead points c → ⊥) × HasProxy start c × MayCallNext start c call
due_alive start points c call is due =
    let lives : is_dead points c → ⊥ = λ dead. none_due (is.dead dead) in
    let alive = is.alive lives in
    (lives, alive.proxy, at c.due due alive.due)
  where
    none_due : c.due ≡ None → ⊥
    none_due none = cc

    at : (o : Option Call) → o ≡ Some call → MatchOption o (IsIdle c.proxy) (MayCallNext start c) → MayCallNext start c call
    at None e m = absurd cc
    at (Some other) e m = let same : other ≡ call = cc in subst (MayCallNext start c) same m

-- none is due, and it lives: no operation is under way
pub idle_alive : (start : Start) (points : List Point) (c : Client) → IsClient start points c → c.due ≡ None → (is_dead points c → ⊥) → HasProxy start c × IsIdle c.proxy
idle_alive start points c is due lives = let alive = is.alive lives in (alive.proxy, at c.due due alive.due)
  where
    at : (o : Option Call) → o ≡ None → MatchOption o (IsIdle c.proxy) (MayCallNext start c) → IsIdle c.proxy
    at None e m = m
    at (Some other) e m = absurd cc

-- where none was due, none is taken
pub none_taken : (start : Start) (points : List Point) (c : Client) (left : Option Call) → IsClient start points c → c.due ≡ None → left ≡ None → IsClient start points (record c { due = left })
none_taken start points c left is none none' = record {
  run = is.run;
  dead = λ dead. none';
  alive = λ lives. let alive = is.alive lives in record {
    proxy = alive.proxy;
    due = subst (λ (o : Option Call). MatchOption o (IsIdle c.proxy) (MayCallNext start c)) (none ∙ sym none') alive.due;
  };
}

-- the proxy waits for the reply
pub waits : (work : Option (Work × Errand)) (node : NodeNo) (request : Request) → HasOutIn work node request → IsOutIn work
waits None node request has = has
waits (Some (work, out.Nothing)) node request has = has
waits (Some (work, out.Peek place purpose)) node request has = tt
waits (Some (work, out.Peeked place reply purpose)) node request has = has
waits (Some (work, out.Mini tid c purpose)) node request has = has.0

-- it has died by its last call
pub dead_client : (start : Start) (points : List Point) (c : Client) → IsOfRun start points c → c.due ≡ None → is_dead points c → IsClient start points c
dead_client start points c run none dead = record { run = run; dead = λ d. none; alive = λ lives. absurd (lives dead) }

pub living_client : (start : Start) (points : List Point) (c : Client) → IsOfRun start points c → (is_dead points c → ⊥) → IsAlive start c → IsClient start points c
living_client start points c run lives alive = record { run = run; dead = λ dead. absurd (lives dead); alive = λ l. alive }

-- An operation is begun

pub works_none : (es : List Entry) (p : ProxyState) (work : Option (Work × Errand)) → work ≡ None → WorksBy es p work → under_way es ≡ None
works_none es p None is a = a.0
works_none es p (Some w) is a = absurd cc

pub begin_may : (start : Start) (points : List Point) (c : Client) (op : Op) → IsOfRun start points c → HasProxy start c → IsIdle c.proxy → MayAdd c.list.client (past_of c) (Begin (c.begun + 1) op)
begin_may start points c op run proxy idle =
    (tt, (works_none (past_of c) c.proxy c.proxy.work idle proxy.agrees.1, ap (λ (n : ℕ). n + 1) (sym run.begun)), tt)

-- what a proxy says of an operation that it begins
pub record Begins (old : ProxyState) (op : Op) (new : ProxyState) : Type 0 where
  pub is : new ≡ begun_with old op
  pub ready : IsReady new
  pub agrees : (es : List Entry) (e : Entry) → Agrees es old → BeginsNext es old.client op e → Agrees (e ∷ es) new

pub begin_steps : (start : Start) (points : List Point) (c : Client) (op : Op) (l : ClientState) (p : ProxyState) → IsOfRun start points c → (is_dead points c → ⊥) → c.due ≡ None → HasProxy start c → IsIdle c.proxy
    → Adds (own_entry c.list.client (Begin (c.begun + 1) op)) c.list l → Begins c.proxy op p → IsAtSteps start points (record c { list = l; begun = c.begun + 1; proxy = p })
begin_steps start points c op l p run lives none proxy idle adds begins = record {
  run = record {
    own = with_entry (λ d es. AllByRecursion (λ x. x.client ≡ Some d) es) e c.list l adds (refl, run.own);
    of_run = with_entry (λ d es. AllByRecursion (IsIssueOf start) es) e c.list l adds (tt, run.of_run);
    met = run.met ∙ sym met;
    plain = with_entry (λ d es. IsTrue (recovers_nothing es)) e c.list l adds run.plain;
    begun = with_entry (λ d es. last_number (begun_of es) ≡ c.begun + 1) e c.list l adds refl;
    counted = with_entry (λ d es. length (begun_of es) ≡ c.begun + 1) e c.list l adds (let count = run.counted in omega arith);
    shared = run.shared;
    issues = with_entry (λ d es. KeepsIssues es c.shared c.is_plan) e c.list l adds (same_issues e (past_of c) c.shared c.is_plan refl run.issues);
  };
  lives = λ dead. lives (sym (ap (λ (d : ClientNo). is_some_met (is_kill_of d) points (points_met points (entries_of l.entries))) adds.client
      ∙ ap (λ (flags : List Bool). is_some_met (is_kill_of c.list.client) points flags) met) ∙ dead);
  proxy = record {
    agrees = with_entry (λ d es. Agrees es p) e c.list l adds (begins.agrees (past_of c) e proxy.agrees (record {
      idle = works_none (past_of c) c.proxy c.proxy.work idle proxy.agrees.1;
      own = record { node = refl; by = ap Some (sym proxy.client); what_is = ap (λ (n : ℕ). Begin (n + 1) op) (sym run.begun) };
    }));
    client = ap (λ (q : ProxyState). q.client) begins.is ∙ (proxy.client ∙ sym adds.client);
    run = ap (λ (q : ProxyState). q.run) begins.is ∙ proxy.run;
    nodes = ap (λ (q : ProxyState). q.known.nodes) begins.is ∙ proxy.nodes;
  };
  ready = begins.ready;
  none_due = none;
}
  where
    e : Entry
    e = own_entry c.list.client (Begin (c.begun + 1) op)

    met : points_met points (entries_of l.entries) ≡ points_met points (past_of c)
    met = with_entry (λ d es. points_met points es ≡ points_met points (past_of c)) e c.list l adds (own_meets_none points (past_of c) e tt)

pub lives_by : (points : List Point) (c : Client) → has_died points c.list.client (past_of c) ≡ false → is_dead points c → ⊥
lives_by points c not dead = clash (has_died points c.list.client (past_of c)) dead not

pub begin_allowed : (start : Start) (points : List Point) (c : Client) (op : Op) → IsClient start points c → c.due ≡ None → has_died points c.list.client (past_of c) ≡ false → MayAdd c.list.client (past_of c) (Begin (c.begun + 1) op)
begin_allowed start points c op is none lives =
    let alive = idle_alive start points c is none (lives_by points c lives) in begin_may start points c op is.run alive.0 alive.1

pub begun_steps : (start : Start) (points : List Point) (old mid : Client) (op copy : Op) (p : ProxyState) → IsClient start points old → old.due ≡ None → has_died points old.list.client (past_of old) ≡ false → IsSameBut old mid
    → copy ≡ op → Adds (own_entry old.list.client (Begin (old.begun + 1) copy)) old.list mid.list → Begins mid.proxy op p → IsAtSteps start points (record mid { begun = old.begun + 1; proxy = p })
begun_steps start points old mid op copy p is none lives same equal adds begins =
    let not_dead = lives_by points old lives in
    let alive = idle_alive start points old is none not_dead in
    let adds' = subst (λ (o : Op). Adds (own_entry old.list.client (Begin (old.begun + 1) o)) old.list mid.list) equal adds in
    as_same (λ (k : Client). IsAtSteps start points (record k { begun = old.begun + 1; proxy = p })) (record old { list = mid.list }) mid same
    (begin_steps start points old op mid.list p is.run not_dead none alive.0 alive.1 adds' (subst (λ (q : ProxyState). Begins q op p) (ap (λ (k : Client). k.proxy) same) begins))

-- it failed to begin one
pub unbegun_run : (start : Start) (points : List Point) (old new : Client) → IsSameBut old new → KeepsList old.list new.list → IsOfRun start points old → IsOfRun start points new
unbegun_run start points old new same keeps run =
    as_same (IsOfRun start points) (record old { list = new.list }) new same (kept_run start points old.list new.list old.met.items old.begun old.shared old.is_plan keeps run)

-- The start

pub first_run : (start : Start) (points : List Point) (c : Client) → c.list.entries ≡ [] → c.begun ≡ 0 → c.shared ≡ None → c.is_plan ≡ false → c.met.items ≡ replicate (length points) false → IsOfRun start points c
first_run start points c empty begun shared plan met = record {
  own = none (λ es. AllByRecursion (λ x. x.client ≡ Some c.list.client) es) tt;
  of_run = none (λ es. AllByRecursion (IsIssueOf start) es) tt;
  met = none_met points c.met.items met ∙ sym (ap (λ (l : List (ℕ × Entry)). points_met points (entries_of l)) empty);
  plain = none (λ es. IsTrue (recovers_nothing es)) refl;
  begun = none (λ es. last_number (begun_of es) ≡ c.begun) (sym begun);
  counted = none (λ es. length (begun_of es) ≡ c.begun) (sym begun);
  shared = subst (λ (o : Option Tid). MatchOption o ⊤ IsTid) (sym shared) tt;
  issues = none (λ es. KeepsIssues es c.shared c.is_plan) (record { id_is = shared; plan_is = plan });
}
  where
    none : (P : List Entry → Type 0) → P [] → P (past_of c)
    none P so = subst (λ (l : List (ℕ × Entry)). P (entries_of l)) (sym empty) so

no_death : (points : List Point) (test : Point → Bool) → is_some_met test points (points_met points []) ≡ false
no_death [] test = refl
no_death (p ∷ ps) test = no_death ps test

pub first_lives : (points : List Point) (c : Client) → c.list.entries ≡ [] → is_dead points c → ⊥
first_lives points c empty dead =
    clash (is_some_met (is_kill_of c.list.client) points (points_met points [])) (ap (λ (l : List (ℕ × Entry)). is_some_met (is_kill_of c.list.client) points (points_met points (entries_of l))) (sym empty) ∙ dead) (no_death points (is_kill_of c.list.client))

pub first_client : (start : Start) (points : List Point) (c : Client) (client : ClientNo) → c.list.client ≡ client → c.list.entries ≡ [] → c.begun ≡ 0 → c.due ≡ None → c.shared ≡ None → c.is_plan ≡ false → c.met.items ≡ replicate (length points) false
    → c.proxy ≡ new_proxy client (run_number start) (start_nodes start) → Agrees [] c.proxy → IsClient start points c
first_client start points c client own empty begun due shared plan met proxy agrees = record {
  run = first_run start points c empty begun shared plan met;
  dead = λ dead. due;
  alive = λ lives. record {
    proxy = record {
      agrees = subst (λ (l : List (ℕ × Entry)). Agrees (entries_of l) c.proxy) (sym empty) agrees;
      client = ap (λ (p : ProxyState). p.client) proxy ∙ sym own;
      run = ap (λ (p : ProxyState). p.run) proxy;
      nodes = ap (λ (p : ProxyState). p.known.nodes) proxy;
    };
    due = subst (λ (o : Option Call). MatchOption o (IsIdle c.proxy) (MayCallNext start c)) (sym due) (ap (λ (p : ProxyState). p.work) proxy);
  };
}
