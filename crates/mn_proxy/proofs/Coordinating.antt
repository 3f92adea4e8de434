-- How the minitransaction that is on its way goes on, and ends, in the client's own list.
use Rattle.std.proofs.Common.{◌≡◌, ◌⊎◌, inl, inr, ℕ, ◌<◌, ◌≤◌, Bool, true, false, not, ◌&&◌, List, [], ◌∷◌, length, Option, Some, None, refl, sym, ap, subst, ◌∙◌, arith, Err, IfOk, Ok, OnErr, Result}
use Rattle.std.specs.Prelude.{MatchOption, if◌then◌else◌, nat_eq, nat_lt, ⊤}
use Rattle.std.specs.Result.{IsErr}
use Rattle.std.specs.List.{flat_map, list_all, list_any}
use Rattle.std.proofs.lemmas.Bool.{ltb-false}
use Rattle.mn_base.specs.declared.answer.Answer.TheVariants as answers
use Rattle.mn_base.specs.declared.answer.Busy.{Busy}
use Rattle.mn_base.specs.declared.ids.NodeNo.{NodeNo}
use Rattle.mn_base.specs.declared.ids.Tid.{Tid}
use Rattle.mn_base.specs.declared.op.Op.{Op}
use Rattle.mn_base.specs.declared.op.Op.TheVariants.{Tx, Snapshot, Branch, Scan, Versions}
use Rattle.mn_base.specs.declared.reply.Reply.{Reply}
use Rattle.mn_base.proofs.Booleans.{falsely}
use Rattle.mn_mini.specs.declared.part.PartItem.TheVariants as Bare
use Rattle.mn_mini.specs.declared.reply.NodeReply.{NodeReply}
use Rattle.mn_mini.specs.declared.reply.NodeReply.TheVariants as Say
use Rattle.mn_mini.specs.declared.request.Request.{Request}
use Rattle.mn_mini.specs.declared.request.Request.TheVariants as Ask
use Rattle.mn_mini.specs.Mini.{Mini, part_of, participants_of, is_read}
use Rattle.mn_mini.specs.Sound.{Fits}
use Rattle.mn_runs.specs.declared.entry.Entry.{Entry}
use Rattle.mn_runs.specs.declared.entry.What.TheVariants.{Abandoned}
use Rattle.mn_law.specs.Answers.{all_done, is_any_decide, is_doubt_cause}
use Rattle.mn_runs.specs.Clients.{is_given_up, is_over}
use Rattle.mn_law.specs.Answers.{is_refusal, is_settled, nodes_of}
use Rattle.mn_runs.specs.Calls.{Call, Issued, calls_of, is_done, issues_of, since_begin}
use Rattle.mn_runs.specs.Seen.{Place, seen_by}
use Rattle.mn_law.specs.Planned.{HasPlans}
use Rattle.mn_coord.specs.Coordination.{Coordination, IsSoundStep as IsSoundCoordStep, is_stopped_at_last, participant, stage_in, stage_of, step_at, step_of, try_request}
use Rattle.mn_coord.specs.Legal.{Agrees as CoordAgrees, MayMake}
use Rattle.mn_coord.specs.declared.stage.Stage.{Stage}
use Rattle.mn_coord.specs.declared.stage.Stage.TheVariants as At
use Rattle.mn_coord.specs.declared.step.CoordStep.TheVariants.{Send, Abandon, Committed, Failed, Doubt}
use Rattle.mn_coord.proofs.Legal.{abandon_at}
use Rattle.mn_coord.proofs.Endings.{committed_at, done_is_settled, doubt_is_shown, failed_at, failed_is_given_up}
use Rattle.mn_proxy.specs.declared.errand.Errand.TheVariants as out
use Rattle.mn_proxy.specs.declared.errand.Purpose.{Purpose}
use Rattle.mn_proxy.specs.declared.errand.Purpose.TheVariants as by
use Rattle.mn_work.specs.declared.known.Known.{Known}
use Rattle.mn_proxy.specs.declared.proxy.retrying.Failure.{Failure}
use Rattle.mn_proxy.specs.declared.proxy.retrying.Failure.TheVariants as fails
use Rattle.mn_proxy.specs.Turn as turns
use Rattle.mn_proxy.specs.declared.step.ProxyStep.TheVariants as steps
use Rattle.mn_work.specs.declared.work.Job.{Job}
use Rattle.mn_work.specs.declared.work.Job.TheVariants as at
use Rattle.mn_work.specs.declared.work.Work.{Work}
use Rattle.mn_proxy.specs.Agrees.{Agrees, AreOverNodes, HasRead, IsMadeFor, IsOwn, IsOwnLast, IsUnderWay, KeptIsLast, MayWant}
use Rattle.mn_proxy.specs.Agrees.{IsAtRest, IsPeekOf, IsReadOf, MayPeekFor}
use Rattle.mn_proxy.specs.Agrees.{MiniAgrees, MiniFailed, MiniGoesOn, PeekedAgrees, ReadGoesOn}
use Rattle.mn_proxy.specs.Issues.{AreClosed}
use Rattle.mn_proxy.specs.Jobs.{ScanShown}
use Rattle.mn_work.specs.Refusals.{refusal_of}
use Rattle.mn_proxy.specs.State.{IsOutIn, ProxyState}
use Rattle.mn_proxy.specs.Turns.{FailsSo, IsCommitted, IsDown, IsOver, IsReadDone, IsRefused, IsRefusedBy}
use Rattle.mn_proxy.specs.Turns.{HasFailed, IsSoundTurn, IsSoundWork, TurnAgrees, WaitsFor, read_alone, with_work}
use Rattle.mn_work.specs.Walks.{IfLater}
use Rattle.mn_work.specs.Works.{IsJobIn, IsStartable, retried_job}
use Rattle.mn_proxy.proofs.Answered.{answered_own, may_answer, may_want}
use Rattle.mn_proxy.proofs.Feeding.{failed_on, id_issued, later_told, mini_on, mini_same, own_as, read_few}
use Rattle.mn_proxy.proofs.Issues.{IsLater, abandoned_later, called_later, closed_are_given_up, closed_are_settled, closed_plan, closed_read, closed_with, ended_given_up, ended_settled, fresh_abandoned, last_tid, own_calls_none, own_recovers_none, own_tries_none}
use Rattle.mn_proxy.proofs.Last.{own_gives_none}
use Rattle.mn_proxy.proofs.Opens.{own_on, under_way_still}
use Rattle.mn_proxy.proofs.Retrying.{began_again, shown_again}

-- Stages

abandons_refused : (n done : ℕ) (told : Bool) (decided : ℕ)
    → stage_of n done None told decided ≡ At.Abandon → ⊥
abandons_refused n done told decided e = all (nat_lt done n) (nat_lt 1 n && nat_lt decided n) e
  where
    all : (a b : Bool) → (if a then At.Ask else (if b then At.Commit else At.Committed)) ≡ At.Abandon → ⊥
    all true b f = absurd cc
    all false true f = absurd cc
    all false false f = absurd cc

pub fails_refused : (n done : ℕ) (told : Bool) (decided : ℕ)
    → stage_of n done None told decided ≡ At.Failed → ⊥
fails_refused n done told decided e = all (nat_lt done n) (nat_lt 1 n && nat_lt decided n) e
  where
    all : (a b : Bool) → (if a then At.Ask else (if b then At.Commit else At.Committed)) ≡ At.Failed → ⊥
    all true b f = absurd cc
    all false true f = absurd cc
    all false false f = absurd cc

doubts_refused : (n done : ℕ) (told : Bool) (decided : ℕ)
    → stage_of n done None told decided ≡ At.Doubt → ⊥
doubts_refused n done told decided e = all (nat_lt done n) (nat_lt 1 n && nat_lt decided n) e
  where
    all : (a b : Bool) → (if a then At.Ask else (if b then At.Commit else At.Committed)) ≡ At.Doubt → ⊥
    all true b f = absurd cc
    all false true f = absurd cc
    all false false f = absurd cc

-- one that found no memory neither waits for the rest nor is in doubt
pub lacks_stage : (n done decided : ℕ)
    → (stage_of n done (Some Say.NoMemory) false decided ≡ At.Failed)
    ⊎ (stage_of n done (Some Say.NoMemory) false decided ≡ At.Abandon)
lacks_stage n done decided = by (nat_eq n 1)
  where
    by : (alone : Bool) → ((if alone then At.Failed else At.Abandon) ≡ At.Failed)
        ⊎ ((if alone then At.Failed else At.Abandon) ≡ At.Abandon)
    by true = inl refl
    by false = inr refl

pub doubted_at : (c : Coordination) (node : NodeNo) → step_of c ≡ Doubt node → stage_in c ≡ At.Doubt
doubted_at c node step = by (stage_in c) refl step
  where
    by : (stage : Stage) → stage_in c ≡ stage → step_at c stage ≡ Doubt node → stage_in c ≡ At.Doubt
    by At.Ask s f = absurd cc
    by At.Commit s f = absurd cc
    by At.Abandon s f = absurd cc
    by At.Cancel s f = absurd cc
    by At.Committed s f = absurd cc
    by At.Failed s f = absurd cc
    by At.Doubt s f = s

pub commits_unrefused : (n done : ℕ) (refused : Option NodeReply) (told : Bool) (decided : ℕ)
    → stage_of n done refused told decided ≡ At.Committed → (refused ≡ None) × (n ≤ done)
commits_unrefused n done None told decided e = (refl, all (nat_lt done n) (nat_lt 1 n && nat_lt decided n) refl e)
  where
    all : (a b : Bool) → nat_lt done n ≡ a → (if a then At.Ask else (if b then At.Commit else At.Committed)) ≡ At.Committed → n ≤ done
    all true b is f = absurd cc
    all false b is f = ltb-false done n is
commits_unrefused n done (Some reply) told decided e = absurd (all (is_stopped_at_last n done reply) (nat_eq n 1) (not told) (nat_lt decided done) e)
  where
    all : (a b c d : Bool) → (if a then At.Doubt else (if b then At.Failed else (if c then At.Abandon else (if d then At.Cancel else At.Failed)))) ≡ At.Committed → ⊥
    all true b c d f = absurd cc
    all false true c d f = absurd cc
    all false false true d f = absurd cc
    all false false false true f = absurd cc
    all false false false false f = absurd cc

-- A job begins anew

pub retries_startable : (known : Known) (op : Op) (job : Job) → IsJobIn known op job
    → IsStartable op (retried_job job)
retries_startable known op at.Start is = tt
retries_startable known op (at.Get d) is = tt
retries_startable known op (at.Transaction a) is = tt
retries_startable known op (at.Child c) is = tt
retries_startable known (Tx name steps) (at.Scan s) is = absurd is
retries_startable known (Snapshot name child) (at.Scan s) is = absurd is
retries_startable known (Branch name child) (at.Scan s) is = absurd is
retries_startable known (Scan name low high limit) (at.Scan s) is = (refl, refl)
retries_startable known Versions (at.Scan s) is = absurd is

pub waits_startable : (known : Known) (w : Work) (purpose : Purpose) → WaitsFor known w purpose
    → IsStartable w.op (retried_job w.job)
waits_startable known w by.Catalog waits = retries_startable known w.op w.job waits.0
waits_startable known w (by.Page addr) waits = retries_startable known w.op w.job waits.0
waits_startable known w by.Count waits = retries_startable known w.op w.job waits.0
waits_startable known w (by.Plan reply) waits = waits.0

-- It goes on

-- a request is handed out
abbrev pub with_asked : Coordination → Coordination
with_asked c = record c { asked = true }

abbrev pub with_told : Coordination → Coordination
with_told c = record c { told = true }

goes_asked : (es : List Entry) (known : Known) (w : Work) (c : Coordination) (purpose : Purpose)
    → MatchOption c.refused (MiniGoesOn es known w c purpose) (MiniFailed es known w c)
    → MatchOption c.refused (MiniGoesOn es known w (with_asked c) purpose) (MiniFailed es known w c)
goes_asked es known w c by.Catalog goes = goes
goes_asked es known w c (by.Page addr) goes = goes
goes_asked es known w c by.Count goes = goes
goes_asked es known w c (by.Plan reply) goes = goes

pub mini_sends : (es : List Entry) (p : ProxyState) (w : Work) (tid : Tid) (c d : Coordination)
    (purpose : Purpose) (node : NodeNo) (request : Request) → d ≡ with_asked c → IsOwn es p
    → MiniAgrees es p.known w tid c purpose → MayMake es c.tid (Send node request) → CoordAgrees es d
    → TurnAgrees es p (turns.Goes (steps.Call node request) w (out.Mini tid d purpose))
mini_sends es p w tid c d purpose node request is own m may agrees = (
  may,
  λ new entered. subst (λ (l : List Entry). Agrees l (with_work p w (out.Mini tid d purpose))) (sym entered) (
    own_as es p w (out.Mini tid d purpose) own,
    subst (λ (x : Coordination). MiniAgrees es p.known w tid x purpose) (sym is)
        (mini_same es p.known w tid c (with_asked c) purpose m (subst (CoordAgrees es) is agrees) refl refl (goes_asked es p.known w c purpose m.goes)),
  ),
)

pub sends_soundly : (known : Known) (w : Work) (tid : Tid) (c d : Coordination) (purpose : Purpose)
    (node : NodeNo) (request : Request) → d ≡ with_asked c → step_of c ≡ Send node request
    → c.mini.nodes ≡ known.nodes → IsSoundCoordStep c.mini.nodes (Send node request)
    → IsSoundWork known w (out.Mini tid c purpose)
    → IsSoundTurn known (turns.Goes (steps.Call node request) w (out.Mini tid d purpose))
sends_soundly known w tid c d purpose node request is step nodes sound work =
    subst (λ (x : Coordination). IsSoundTurn known (turns.Goes (steps.Call node request) w (out.Mini tid x purpose))) (sym is) (
      record { few = work.few; errand_is = work.errand_is },
      subst (λ (k : ℕ). IsSoundCoordStep k (Send node request)) nodes sound,
      (refl, step),
      tt,
    )

-- It is given up

match_some : (o : Option NodeReply) (A B : Type 0) (P Q : NodeReply → Type 0) → (o ≡ None → ⊥)
    → ((reply : NodeReply) → P reply → Q reply) → MatchOption o A P → MatchOption o B Q
match_some None A B P Q some g m = absurd (some refl)
match_some (Some reply) A B P Q some g m = g reply m

pub mini_abandons : (es : List Entry) (p : ProxyState) (w : Work) (tid : Tid) (c d : Coordination)
    (purpose : Purpose) → d ≡ with_told c → step_of c ≡ Abandon → IsOwn es p
    → MiniAgrees es p.known w tid c purpose → MayMake es c.tid Abandon
    → ((e : Entry) → e.node ≡ None → e.what ≡ Abandoned c.tid → CoordAgrees (e ∷ es) d)
    → TurnAgrees es p (turns.Goes (steps.Abandon tid) w (out.Mini tid d purpose))
mini_abandons es p w tid c d purpose is step own m may agrees = (
  (subst (λ (t : Tid). MayMake es t Abandon) m.id may, tt),
  λ new entered. subst (λ (l : List Entry). Agrees l (with_work p w (out.Mini tid d purpose))) (sym entered.2) (after entered.0 entered.1.node entered.1.what_is),
)
  where
    after : (e : Entry) → e.node ≡ None → e.what ≡ Abandoned tid
        → Agrees (e ∷ es) (with_work p w (out.Mini tid d purpose))
    after e none what = (
      own_as (e ∷ es) p w (out.Mini tid d purpose) (own_on e es p own later.issues
          (fresh_abandoned p.client p.run e es tid own.fresh (id_issued es p w tid c purpose own m) none what)
          (own_recovers_none e es none own.recovers)),
      subst (λ (x : Coordination). MiniAgrees (e ∷ es) p.known w tid x purpose) (sym is)
          (mini_on es e p.known w tid c (with_told c) purpose m later (own_tries_none e m.last.earlier none)
          (subst (CoordAgrees (e ∷ es)) is (agrees e none (what ∙ ap Abandoned (sym m.id)))) refl refl
          (match_some c.refused (MiniGoesOn es p.known w c purpose) (MiniGoesOn (e ∷ es) p.known w (with_told c) purpose) (MiniFailed es p.known w c) (MiniFailed (e ∷ es) p.known w c)
          (λ unrefused. abandons_refused (length (participants_of c.mini)) c.done c.told c.decided
          (subst (λ (o : Option NodeReply). stage_of (length (participants_of c.mini)) c.done o c.told c.decided ≡ At.Abandon) unrefused (abandon_at c step)))
          (λ reply. failed_on es e p.known w c reply later.goes
          (ap (flat_map (λ (k : Call). seen_by k.node k.request k.reply)) (own_calls_none e none))
          (own_gives_none e none)
          (ap (list_all (λ (k : Call). is_any_decide k.request)) (own_calls_none e none))
          (ap (list_all (λ (k : Call). not (is_refusal k.reply))) (own_calls_none e none))) m.goes)),
    )
      where
        later : IsLater e.what
        later = abandoned_later e tid what

pub abandons_soundly : (known : Known) (w : Work) (tid : Tid) (c d : Coordination)
    (purpose : Purpose) → d ≡ with_told c → c.asked ≡ false
    → IsSoundWork known w (out.Mini tid c purpose)
    → IsSoundTurn known (turns.Goes (steps.Abandon tid) w (out.Mini tid d purpose))
abandons_soundly known w tid c d purpose is quiet work =
    subst (λ (x : Coordination). IsSoundTurn known (turns.Goes (steps.Abandon tid) w (out.Mini tid x purpose))) (sym is) (
      record { few = work.few; errand_is = work.errand_is },
      tt,
      λ asked. (let both : true ≡ false = sym asked ∙ quiet in absurd cc),
      tt,
    )

-- It has ended

-- its issue, by the id that it has there
abbrev pub issue_under : Tid → Coordination → Issued
issue_under tid c = record { tid = tid; mini = c.mini }

over_nodes : (es : List Entry) (p : ProxyState) (w : Work) (tid : Tid) (c : Coordination)
    (purpose : Purpose) → IsOwn es p → MiniAgrees es p.known w tid c purpose
    → AreOverNodes p.known.nodes w.failed (since_begin es)
over_nodes es p w tid c purpose own m =
    later_told w.failed (nodes_of (issues_of (since_begin es)) ≡ p.known.nodes)
    (ap nodes_of m.last.of_operation
    ∙ (last_tid p.client p.run p.known.nodes es (issue_under tid c) m.last.earlier own.issues m.last.of_operation).1)

read_ended : (es : List Entry) (p : ProxyState) (w : Work) (tid : Tid) (c : Coordination)
    (purpose : Purpose) → IsOwn es p → MiniAgrees es p.known w tid c purpose
    → step_of c ≡ Committed → is_read c.mini.items ≡ true
    → length (participants_of c.mini) ≤ 1
    → MatchOption c.refused (ReadGoesOn es p.known w purpose c.done c.reads) (MiniFailed es p.known w c)
    → IsReadDone es p.known w c.reads purpose
read_ended es p w tid c purpose own m step read few goes = record {
  bytes = brought.0;
  reads_are = brought.1;
  read = brought.2;
  closed = closed_with (since_begin es) (issue_under tid c) m.last.earlier m.last.of_operation m.older
      (closed_read (since_begin es) (issue_under tid c) (subst (λ (t : Tid). is_over (since_begin es) (issue_under t c) ≡ true) m.id ((done_is_settled es c m.coordinates step).2 read)) read);
  over = over_nodes es p w tid c purpose own m;
}
  where
    facts : (c.refused ≡ None) × (length (participants_of c.mini) ≤ c.done)
    facts = commits_unrefused (length (participants_of c.mini)) c.done c.refused c.told c.decided (committed_at c step)

    most : c.done ≤ length (participants_of c.mini)
    most = subst (λ (o : Option NodeReply). MatchOption o (c.done ≤ length (participants_of c.mini)) (λ reply. c.done < length (participants_of c.mini))) facts.0 m.coordinates.within

    one : c.done ≡ 1
    one = let a = facts.1 in let b = most in let some = m.coordinates.some in omega arith

    brought : ReadGoesOn es p.known w purpose 1 c.reads
    brought = subst (λ (done : ℕ). ReadGoesOn es p.known w purpose done c.reads) one
        (subst (λ (o : Option NodeReply). MatchOption o (ReadGoesOn es p.known w purpose c.done c.reads) (MiniFailed es p.known w c)) facts.0 goes)

-- a plan that nothing refused
plan_kept : (es : List Entry) (known : Known) (w : Work) (c : Coordination) (reply : Reply)
    → MatchOption c.refused (MiniGoesOn es known w c (by.Plan reply)) (MiniFailed es known w c)
    → c.refused ≡ None → KeptIsLast es known
plan_kept es known w c reply goes none =
    (subst (λ (o : Option NodeReply). MatchOption o (MiniGoesOn es known w c (by.Plan reply)) (MiniFailed es known w c)) none goes).0.last.0

-- it is committed
pub mini_commits : (es : List Entry) (p : ProxyState) (w : Work) (tid : Tid) (c : Coordination)
    (purpose : Purpose) → IsOwn es p → MiniAgrees es p.known w tid c purpose → step_of c ≡ Committed
    → IsCommitted es p.known w c.reads purpose
mini_commits es p w tid c by.Catalog own m step =
    read_ended es p w tid c by.Catalog own m step (ap is_read m.made.2) (read_few c.mini m.made.0 m.made.2) m.goes
mini_commits es p w tid c (by.Page addr) own m step =
    read_ended es p w tid c (by.Page addr) own m step (ap is_read m.made.2) (read_few c.mini m.made.0 m.made.2) m.goes
mini_commits es p w tid c by.Count own m step =
    read_ended es p w tid c by.Count own m step (ap is_read m.made.2) (read_few c.mini m.made.0 m.made.2) m.goes
mini_commits es p w tid c (by.Plan reply) own m step =
    let law = done_is_settled es c m.coordinates step in (
      m.of,
      ended_settled (since_begin es) (issue_under tid c) m.last.earlier m.last.of_operation m.older
          (subst (λ (t : Tid). is_settled (since_begin es) (issue_under t c) ≡ true) m.id law.1),
      (
        issue_under tid c,
        m.before,
        m.last,
        m.made.0,
        m.made.1,
        subst (λ (t : Tid). all_done es (issue_under t c) ≡ true) m.id law.0,
      ),
      plan_kept es p.known w c reply m.goes
          (commits_unrefused (length (participants_of c.mini)) c.done c.refused c.told c.decided (committed_at c step)).0,
    )

-- how far a scan has come stays, where it is tried again
planned_again : (now : List Entry) (spoiled : Bool) (op : Op) (job : Job) → HasPlans op
    → ScanShown now spoiled op job
planned_again now spoiled (Tx name steps) job plans = tt
planned_again now spoiled (Snapshot name child) job plans = tt
planned_again now spoiled (Branch name child) job plans = tt
planned_again now spoiled (Scan name low high limit) job plans = absurd plans
planned_again now spoiled Versions job plans = tt

scan_again : (known : Known) (now : List Entry) (w : Work) (purpose : Purpose)
    (before : List Entry) (mini : Mini) → WaitsFor known w purpose
    → IsMadeFor before w.op w.job purpose mini → ScanShown now w.spoiled w.op w.job
    → ScanShown now w.spoiled w.op (retried_job w.job)
scan_again known now w by.Catalog before mini waits made shown =
    shown_again known now w.spoiled w.op w.job waits.0 shown
scan_again known now w (by.Page addr) before mini waits made shown =
    shown_again known now w.spoiled w.op w.job waits.0 shown
scan_again known now w by.Count before mini waits made shown =
    shown_again known now w.spoiled w.op w.job waits.0 shown
scan_again known now w (by.Plan reply) before mini waits made shown =
    planned_again now w.spoiled w.op (retried_job w.job) made.1.2.kind

-- it failed by this reply
module _ (es : List Entry) (p : ProxyState) (w : Work) (tid : Tid) (c : Coordination)
    (purpose : Purpose) (node : NodeNo) (reply : NodeReply) (own : IsOwn es p)
    (m : MiniAgrees es p.known w tid c purpose) (step : step_of c ≡ Failed node)
    (is : c.refused ≡ Some reply) where
  failed : MiniFailed es p.known w c reply
  failed = subst (λ (o : Option NodeReply). MatchOption o (MiniGoesOn es p.known w c purpose) (MiniFailed es p.known w c)) is m.goes

  given_up : is_given_up (since_begin es) (issue_under tid c) ≡ true
  given_up =
      subst (λ (t : Tid). is_given_up (since_begin es) (issue_under t c) ≡ true) m.id
      (failed_is_given_up es c node reply m.coordinates step is failed.0).0

  settled : is_settled (since_begin es) (issue_under tid c) ≡ true
  settled =
      subst (λ (t : Tid). is_settled (since_begin es) (issue_under t c) ≡ true) m.id
      (failed_is_given_up es c node reply m.coordinates step is failed.0).1

  is_ended : IsOver es w.op
  is_ended = record {
    of = m.of;
    given_up = ended_given_up (since_begin es) (issue_under tid c) m.last.earlier m.last.of_operation m.older given_up;
    settled = ended_settled (since_begin es) (issue_under tid c) m.last.earlier m.last.of_operation m.older settled;
  }

  is_down : (reply ≡ Say.Down) ⊎ (reply ≡ Say.Stopped) → IsDown es w.op node
  is_down down = (is_ended, (failed_is_given_up es c node reply m.coordinates step is failed.0).3 down)

  has_failed : WaitsFor p.known w purpose → is_refusal reply ≡ true
      → HasFailed es p.known w (refusal_of tid c.mini node reply)
  has_failed waits refusal = record {
    of = m.of;
    closed = closed_with (since_begin es) (issue_under tid c) m.last.earlier m.last.of_operation m.older
        (closed_plan (since_begin es) (issue_under tid c)
        (subst (λ (t : Tid). is_over (since_begin es) (issue_under t c) ≡ true) m.id ((failed_is_given_up es c node reply m.coordinates step is failed.0).2 refusal)) given_up settled);
    over = over_nodes es p w tid c purpose own m;
    began = began_again es w.op w.job failed.1.0;
    failed_by = λ busy told. inl (failed.1.1 refusal busy
        (subst (λ (t : Tid). IfLater w.failed (refusal_of t c.mini (participant c c.done) reply ≡ Some busy)) (sym m.id)
        (subst (λ (n : NodeNo). IfLater w.failed (refusal_of tid c.mini n reply ≡ Some busy)) (sym (failed_at c node step).1) told)));
    scan = scan_again p.known (since_begin es) w purpose m.before c.mini waits m.made failed.2;
  }

-- such a reply to a try is none
unfit : (tid : Tid) (mini : Mini) (n : NodeNo) (reply : NodeReply) → is_done reply ≡ false
    → Fits (try_request tid mini n) reply
    → ((reply ≡ Say.Down) ⊎ (reply ≡ Say.Stopped) ⊎ (reply ≡ Say.NoMemory) → ⊥)
    → is_refusal reply ≡ true
unfit tid mini n reply undone fits other =
    by (nat_eq (length (participants_of mini)) 1) reply fits undone other
  where
    by : (b : Bool) (r : NodeReply)
        → Fits (if b then Ask.Exec tid (part_of mini n) else Ask.Prepare tid (participants_of mini) (part_of mini n)) r
        → is_done r ≡ false → ((r ≡ Say.Down) ⊎ (r ≡ Say.Stopped) ⊎ (r ≡ Say.NoMemory) → ⊥)
        → is_refusal r ≡ true
    by b (Say.Done reads) f u o = absurd cc
    by b (Say.BadLock s k h) f u o = refl
    by b (Say.BadCompare i found) f u o = refl
    by b Say.BadForced f u o = refl
    by true (Say.Vote v) f u o = absurd f
    by false (Say.Vote v) f u o = absurd f
    by true Say.Decided f u o = absurd f
    by false Say.Decided f u o = absurd f
    by true (Say.Listed d) f u o = absurd f.0
    by false (Say.Listed d) f u o = absurd f.0
    by true (Say.Peeked bytes) f u o = absurd f
    by false (Say.Peeked bytes) f u o = absurd f
    by b Say.Down f u o = absurd (o (inl refl))
    by b Say.Stopped f u o = absurd (o (inr (inl refl)))
    by b Say.NoMemory f u o = absurd (o (inr (inr refl)))

-- the reply of a refusal is told
mini_refused : (es : List Entry) (p : ProxyState) (w : Work) (tid : Tid) (c : Coordination)
    (purpose : Purpose) (node : NodeNo) (reply : NodeReply) → IsOwn es p
    → MiniAgrees es p.known w tid c purpose → WaitsFor p.known w purpose → step_of c ≡ Failed node
    → c.refused ≡ Some reply
    → is_refusal reply ≡ true
    → (is_refusal reply ≡ true) × HasFailed es p.known w (refusal_of tid c.mini node reply)
mini_refused es p w tid c purpose node reply own m waits step is refusal =
    (refusal, has_failed es p w tid c purpose node reply own m step is waits refusal)

refused_by : (es : List Entry) (p : ProxyState) (w : Work) (tid : Tid) (c : Coordination)
    (purpose : Purpose) (node : NodeNo) (reply : NodeReply) → IsOwn es p
    → MiniAgrees es p.known w tid c purpose → WaitsFor p.known w purpose → step_of c ≡ Failed node
    → c.refused ≡ Some reply
    → IsRefusedBy es p.known w tid c.mini node reply
refused_by es p w tid c purpose node Say.Down own m waits step is =
    is_down es p w tid c purpose node Say.Down own m step is (inl refl)
refused_by es p w tid c purpose node Say.Stopped own m waits step is =
    is_down es p w tid c purpose node Say.Stopped own m step is (inr refl)
refused_by es p w tid c purpose node Say.NoMemory own m waits step is = tt
refused_by es p w tid c purpose node (Say.BadLock s k h) own m waits step is =
    mini_refused es p w tid c purpose node (Say.BadLock s k h) own m waits step is refl
refused_by es p w tid c purpose node (Say.BadCompare i found) own m waits step is =
    mini_refused es p w tid c purpose node (Say.BadCompare i found) own m waits step is refl
refused_by es p w tid c purpose node Say.BadForced own m waits step is =
    mini_refused es p w tid c purpose node Say.BadForced own m waits step is refl
refused_by es p w tid c purpose node (Say.Done reads) own m waits step is =
    absurd (let done = (failed es p w tid c purpose node (Say.Done reads) own m step is).3 in cc)
refused_by es p w tid c purpose node (Say.Vote v) own m waits step is =
    mini_refused es p w tid c purpose node (Say.Vote v) own m waits step is
    (let f = failed es p w tid c purpose node (Say.Vote v) own m step is in unfit c.tid c.mini (participant c c.done) (Say.Vote v) f.3 f.0 (λ o. vote o))
  where
    vote : (Say.Vote v ≡ Say.Down) ⊎ (Say.Vote v ≡ Say.Stopped) ⊎ (Say.Vote v ≡ Say.NoMemory) → ⊥
    vote (inl e) = absurd cc
    vote (inr (inl e)) = absurd cc
    vote (inr (inr e)) = absurd cc
refused_by es p w tid c purpose node Say.Decided own m waits step is =
    mini_refused es p w tid c purpose node Say.Decided own m waits step is
    (let f = failed es p w tid c purpose node Say.Decided own m step is in unfit c.tid c.mini (participant c c.done) Say.Decided f.3 f.0 (λ o. told o))
  where
    told : (Say.Decided ≡ Say.Down) ⊎ (Say.Decided ≡ Say.Stopped) ⊎ (Say.Decided ≡ Say.NoMemory) → ⊥
    told (inl e) = absurd cc
    told (inr (inl e)) = absurd cc
    told (inr (inr e)) = absurd cc
refused_by es p w tid c purpose node (Say.Listed d) own m waits step is =
    mini_refused es p w tid c purpose node (Say.Listed d) own m waits step is
    (let f = failed es p w tid c purpose node (Say.Listed d) own m step is in unfit c.tid c.mini (participant c c.done) (Say.Listed d) f.3 f.0 (λ o. listed o))
  where
    listed : (Say.Listed d ≡ Say.Down) ⊎ (Say.Listed d ≡ Say.Stopped) ⊎ (Say.Listed d ≡ Say.NoMemory) → ⊥
    listed (inl e) = absurd cc
    listed (inr (inl e)) = absurd cc
    listed (inr (inr e)) = absurd cc
refused_by es p w tid c purpose node (Say.Peeked b) own m waits step is =
    mini_refused es p w tid c purpose node (Say.Peeked b) own m waits step is
    (let f = failed es p w tid c purpose node (Say.Peeked b) own m step is in unfit c.tid c.mini (participant c c.done) (Say.Peeked b) f.3 f.0 (λ o. peeked o))
  where
    peeked : (Say.Peeked b ≡ Say.Down) ⊎ (Say.Peeked b ≡ Say.Stopped) ⊎ (Say.Peeked b ≡ Say.NoMemory) → ⊥
    peeked (inl e) = absurd cc
    peeked (inr (inl e)) = absurd cc
    peeked (inr (inr e)) = absurd cc

-- it has a reply by which it failed
refused_some : (c : Coordination) (node : NodeNo) → step_of c ≡ Failed node → c.refused ≡ None → ⊥
refused_some c node step none =
    fails_refused (length (participants_of c.mini)) c.done c.told c.decided
    (subst (λ (o : Option NodeReply). stage_of (length (participants_of c.mini)) c.done o c.told c.decided ≡ At.Failed) none (failed_at c node step).0)

pub mini_fails : (es : List Entry) (p : ProxyState) (w : Work) (tid : Tid) (c : Coordination)
    (purpose : Purpose) (node : NodeNo) → IsOwn es p → MiniAgrees es p.known w tid c purpose
    → WaitsFor p.known w purpose → step_of c ≡ Failed node → IsRefused es p.known w tid c.mini node c.refused
mini_fails es p w tid c purpose node own m waits step = by c.refused refl
  where
    by : (o : Option NodeReply) → c.refused ≡ o
        → MatchOption o ⊤ (IsRefusedBy es p.known w tid c.mini node)
    by None is = tt
    by (Some reply) is = refused_by es p w tid c purpose node reply own m waits step is

-- where it was refused, what is kept was shown last
refused_kept : (es : List Entry) (known : Known) (w : Work) (c : Coordination) (purpose : Purpose)
    → MatchOption c.refused (MiniGoesOn es known w c purpose) (MiniFailed es known w c)
    → (c.refused ≡ None → ⊥) → KeptIsLast es known
refused_kept es known w c purpose goes some = by c.refused some goes
  where
    by : (o : Option NodeReply) → (o ≡ None → ⊥)
        → MatchOption o (MiniGoesOn es known w c purpose) (MiniFailed es known w c) → KeptIsLast es known
    by None none is = absurd (none refl)
    by (Some reply) none is = is.4

pub fails_kept : (es : List Entry) (known : Known) (w : Work) (tid : Tid) (c : Coordination)
    (purpose : Purpose) (node : NodeNo) → MiniAgrees es known w tid c purpose → step_of c ≡ Failed node
    → KeptIsLast es known
fails_kept es known w tid c purpose node m step =
    refused_kept es known w c purpose m.goes (λ none. refused_some c node step none)

-- so the operation may be answered
pub fails_over : (es : List Entry) (p : ProxyState) (w : Work) (tid : Tid) (c : Coordination)
    (purpose : Purpose) (node : NodeNo) → IsOwn es p → MiniAgrees es p.known w tid c purpose
    → step_of c ≡ Failed node → IsOver es w.op
fails_over es p w tid c purpose node own m step = by c.refused refl
  where
    by : (o : Option NodeReply) → c.refused ≡ o → IsOver es w.op
    by None is = absurd (refused_some c node step is)
    by (Some reply) is = is_ended es p w tid c purpose node reply own m step is

-- it is in doubt
pub mini_doubts : (es : List Entry) (p : ProxyState) (w : Work) (tid : Tid) (c : Coordination)
    (purpose : Purpose) (node : NodeNo) → IsOwn es p → MiniAgrees es p.known w tid c purpose
    → step_of c ≡ Doubt node → TurnAgrees es p (turns.Ends (answers.InDoubt tid node))
mini_doubts es p w tid c purpose node own m step = (
  may_answer es p w.op (answers.InDoubt tid node) m.of tt (
    issue_under tid c,
    m.before,
    m.last,
    refl,
    subst (λ (t : Tid). list_any (is_doubt_cause node t) (calls_of (since_begin es)) ≡ true) m.id (doubt_is_shown es c node m.coordinates step),
  ),
  λ new entered. answered_own es new p (answers.InDoubt tid node) (own, refused_kept es p.known w c purpose m.goes some) entered,
)
  where
    some : c.refused ≡ None → ⊥
    some none =
        doubts_refused (length (participants_of c.mini)) c.done c.told c.decided
        (subst (λ (o : Option NodeReply). stage_of (length (participants_of c.mini)) c.done o c.told c.decided ≡ At.Doubt) none (doubted_at c node step))

-- Answers

-- it is down
pub down_answered : (es : List Entry) (p : ProxyState) (op : Op) (node : NodeNo) → IsOwnLast es p
    → IsDown es op node → TurnAgrees es p (turns.Ends (answers.Down node))
down_answered es p op node own (over, cause) = (
  may_answer es p op (answers.Down node) over.of over.settled (over.given_up, cause),
  λ new entered. answered_own es new p (answers.Down node) own entered,
)

-- the plan is committed
pub plan_answered : (es : List Entry) (p : ProxyState) (w : Work) (reads : List (List (List ℕ)))
    (reply : Reply) → IsOwn es p → IsCommitted es p.known w reads (by.Plan reply)
    → TurnAgrees es p (turns.Ends (answers.Replied reply))
plan_answered es p w reads reply own (of, settled, last, kept) = (
  may_answer es p w.op (answers.Replied reply) of settled (inl last),
  λ new entered. answered_own es new p (answers.Replied reply) (own, kept) entered,
)

-- a read is under way with its reply
pub read_under_way : (es : List Entry) (known : Known) (w : Work) (purpose : Purpose)
    (bytes : List ℕ) → HasRead es known w purpose bytes → IsUnderWay es w.op
read_under_way es known w purpose bytes h =
    subst (λ (l : List Entry). IsUnderWay l w.op) (sym h.split)
    (under_way_still h.e h.before w.op (by h.came).goes h.open_before.of)
  where
    by : IsReadOf h.e h.place bytes
        ⊎ (IsPeekOf h.e h.place bytes × (w.failed ≡ 0) × MayPeekFor w.job purpose) → IsLater h.e.what
    by (inl (tid, long, call)) = called_later h.e h.place.node (Ask.Exec tid (Bare.Read h.place.start h.place.length ∷ [])) (Say.Done (bytes ∷ [])) call
    by (inr (peeked, first, may)) = called_later h.e h.place.node (Ask.Peek h.place.start h.place.length) (Say.Peeked bytes) peeked.1

-- the operation may be answered where all is closed
pub closed_over : (es : List Entry) (op : Op) → IsUnderWay es op → AreClosed (since_begin es)
    → IsOver es op
closed_over es op of closed = record {
  of = of;
  given_up = closed_are_given_up (since_begin es) closed;
  settled = closed_are_settled (since_begin es) closed;
}

-- a read that is done may be answered so
pub read_may_want : (es : List Entry) (known : Known) (w : Work) (reads : List (List (List ℕ)))
    (purpose : Purpose) → IsReadDone es known w reads purpose → MayWant es
read_may_want es known w reads purpose d =
    may_want es w.op (closed_over es w.op (read_under_way es known w purpose d.bytes d.read) d.closed)

-- what is committed, but no plan, is a read
pub committed_read : (es : List Entry) (known : Known) (w : Work) (reads : List (List (List ℕ)))
    (purpose : Purpose) → ((reply : Reply) → purpose ≡ by.Plan reply → ⊥)
    → IsCommitted es known w reads purpose → IsReadDone es known w reads purpose
committed_read es known w reads by.Catalog other is = is
committed_read es known w reads (by.Page addr) other is = is
committed_read es known w reads by.Count other is = is
committed_read es known w reads (by.Plan reply) other is = absurd (other reply refl)

-- a Peek's operation is under way
pub peeked_under_way : (es : List Entry) (known : Known) (w : Work) (place : Place)
    (purpose : Purpose) (reply : NodeReply) → PeekedAgrees es known w place purpose reply
    → IsUnderWay es w.op
peeked_under_way es known w place purpose (Say.Peeked bytes) is = read_under_way es known w purpose bytes is
peeked_under_way es known w place purpose Say.Down is = is.0
peeked_under_way es known w place purpose (Say.Done reads) is = is.0
peeked_under_way es known w place purpose (Say.BadLock s k h) is = is.0
peeked_under_way es known w place purpose (Say.BadCompare i found) is = is.0
peeked_under_way es known w place purpose Say.BadForced is = is.0
peeked_under_way es known w place purpose (Say.Vote v) is = is.0
peeked_under_way es known w place purpose Say.Decided is = is.0
peeked_under_way es known w place purpose (Say.Listed d) is = is.0
peeked_under_way es known w place purpose Say.Stopped is = is.0
peeked_under_way es known w place purpose Say.NoMemory is = is.0

-- one that brought no bytes leaves what is kept as it was shown last
pub peeked_kept : (es : List Entry) (known : Known) (w : Work) (place : Place) (purpose : Purpose)
    (reply : NodeReply) → ((bytes : List ℕ) → reply ≡ Say.Peeked bytes → ⊥)
    → PeekedAgrees es known w place purpose reply → KeptIsLast es known
peeked_kept es known w place purpose (Say.Peeked bytes) other is = absurd (other bytes refl)
peeked_kept es known w place purpose Say.Down other is = is.2
peeked_kept es known w place purpose reply other is = is.1

-- the bytes that it brought
pub done_read : (es : List Entry) (known : Known) (w : Work) (reads : List (List (List ℕ)))
    (purpose : Purpose) (bytes : List ℕ) → IsReadDone es known w reads purpose
    → read_alone reads ≡ Some bytes → HasRead es known w purpose bytes
done_read es known w reads purpose bytes d is =
    let first : Some d.bytes ≡ Some bytes = sym (ap read_alone d.reads_are) ∙ is in
    let same : d.bytes ≡ bytes = cc in subst (HasRead es known w purpose) same d.read

-- what is so anyhow is so where there was no memory
pub on_err : {A E : Type 0} (result : Result A E) (P : Type 0) → P → OnErr result P
on_err (Ok a) P p = tt
on_err (Err e) P p = p

-- what is so of each result is so of an error
pub err_if_ok : {A E : Type 0} (result : Result A E) (P : A → Type 0) → IsErr result → IfOk result P
err_if_ok (Ok a) P err = absurd cc
err_if_ok (Err e) P err = tt

-- A reply by which it failed

-- a node was down, or stopped
pub refused_down : (es : List Entry) (known : Known) (w : Work) (tid : Tid) (mini : Mini)
    (node : NodeNo) (o : Option NodeReply) (reply : NodeReply) → o ≡ Some reply
    → (reply ≡ Say.Down) ⊎ (reply ≡ Say.Stopped) → IsRefused es known w tid mini node o
    → IsDown es w.op node
refused_down es known w tid mini node o reply is (inl down) refused =
    subst (IsRefused es known w tid mini node) (is ∙ ap (λ (r : NodeReply). Some r) down) refused
refused_down es known w tid mini node o reply is (inr stopped) refused =
    subst (IsRefused es known w tid mini node) (is ∙ ap (λ (r : NodeReply). Some r) stopped) refused

-- or it refused
refused_told : (es : List Entry) (known : Known) (w : Work) (tid : Tid) (mini : Mini)
    (node : NodeNo) (reply : NodeReply) → (reply ≡ Say.NoMemory → ⊥) → (reply ≡ Say.Down → ⊥)
    → (reply ≡ Say.Stopped → ⊥) → IsRefusedBy es known w tid mini node reply
    → HasFailed es known w (refusal_of tid mini node reply)
refused_told es known w tid mini node Say.NoMemory memory down stopped is = absurd (memory refl)
refused_told es known w tid mini node Say.Down memory down stopped is = absurd (down refl)
refused_told es known w tid mini node Say.Stopped memory down stopped is = absurd (stopped refl)
refused_told es known w tid mini node (Say.Done reads) memory down stopped is = is.1
refused_told es known w tid mini node (Say.BadLock s k h) memory down stopped is = is.1
refused_told es known w tid mini node (Say.BadCompare i found) memory down stopped is = is.1
refused_told es known w tid mini node Say.BadForced memory down stopped is = is.1
refused_told es known w tid mini node (Say.Vote v) memory down stopped is = is.1
refused_told es known w tid mini node Say.Decided memory down stopped is = is.1
refused_told es known w tid mini node (Say.Listed d) memory down stopped is = is.1
refused_told es known w tid mini node (Say.Peeked b) memory down stopped is = is.1

pub refused_failed : (es : List Entry) (known : Known) (w : Work) (tid : Tid) (mini : Mini)
    (node : NodeNo) (o : Option NodeReply) (reply : NodeReply) (cause : Option Busy)
    → o ≡ Some reply → (reply ≡ Say.NoMemory → ⊥) → (reply ≡ Say.Down → ⊥)
    → (reply ≡ Say.Stopped → ⊥) → cause ≡ refusal_of tid mini node reply
    → IsRefused es known w tid mini node o → HasFailed es known w cause
refused_failed es known w tid mini node o reply cause is memory down stopped told refused =
    subst (HasFailed es known w) (sym told)
    (refused_told es known w tid mini node reply memory down stopped (subst (IsRefused es known w tid mini node) is refused))

-- What is on its way

-- at rest the operation may be answered for want of memory
pub rest_may_want : (es : List Entry) (known : Known) (w : Work) → IsAtRest es known w → MayWant es
rest_may_want es known w rest = may_want es w.op (closed_over es w.op rest.0.of rest.1)

-- and after a Peek
pub peeked_may_want : (es : List Entry) (known : Known) (w : Work) (place : Place)
    (purpose : Purpose) (reply : NodeReply) → PeekedAgrees es known w place purpose reply
    → AreClosed (since_begin es) → MayWant es
peeked_may_want es known w place purpose reply is closed =
    may_want es w.op (closed_over es w.op (peeked_under_way es known w place purpose reply is) closed)

-- which found the node down
pub peeked_down : (es : List Entry) (p : ProxyState) (w : Work) (place : Place) (purpose : Purpose)
    → IsOwn es p → PeekedAgrees es p.known w place purpose Say.Down → AreClosed (since_begin es)
    → TurnAgrees es p (turns.Ends (answers.Down place.node))
peeked_down es p w place purpose own is closed =
    down_answered es p w.op place.node (own, is.2) (closed_over es w.op is.0 closed, is.1)

-- a first try issued for any number of nodes
pub first_over : (nodes count : ℕ) (now : List Entry) → count ≡ 0 → AreOverNodes nodes count now
first_over nodes count now first =
    subst (λ (n : ℕ). AreOverNodes nodes n now) (sym first) tt

-- no request is out
pub quiet_in : (w : Work) (tid : Tid) (c : Coordination) (purpose : Purpose)
    → (IsOutIn (Some (w, out.Mini tid c purpose)) → ⊥) → c.asked ≡ false
quiet_in w tid c purpose none = falsely c.asked none

-- so it is where it failed so
pub refused_so_down : (es : List Entry) (known : Known) (w : Work) (tid : Tid) (mini : Mini)
    (node : NodeNo) (o : Option NodeReply) (failure : Failure) → failure ≡ fails.Down
    → FailsSo tid mini node o failure → IsRefused es known w tid mini node o → IsDown es w.op node
refused_so_down es known w tid mini node o failure is so refused =
    by (subst (FailsSo tid mini node o) is so)
  where
    by : (o ≡ Some Say.Down) ⊎ (o ≡ Some Say.Stopped) → IsDown es w.op node
    by (inl down) = refused_down es known w tid mini node o Say.Down down (inl refl) refused
    by (inr stopped) = refused_down es known w tid mini node o Say.Stopped stopped (inr refl) refused

pub refused_so_failed : (es : List Entry) (known : Known) (w : Work) (tid : Tid) (mini : Mini)
    (node : NodeNo) (o : Option NodeReply) (failure : Failure) (cause : Option Busy)
    → failure ≡ fails.Refused cause → FailsSo tid mini node o failure
    → IsRefused es known w tid mini node o → HasFailed es known w cause
refused_so_failed es known w tid mini node o failure cause is so refused =
    let s = subst (FailsSo tid mini node o) is so in
    refused_failed es known w tid mini node o s.0 cause s.1 s.2 s.3 s.4 s.5 refused
