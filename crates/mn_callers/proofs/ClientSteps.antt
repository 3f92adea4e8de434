-- What the entries of a client make of its list and its proxy.
use Rattle.std.proofs.Common.{◌≡◌, ◌≢◌, ℕ, ◌+◌, ◌≤◌, Bool, true, not, List, [], ◌∷◌, ◌++◌, length, map, reverse, Option, Some, None, Result, Ok, Err, refl, sym, ap, ◌∙◌, subst, arith, inl, inr}
use Rattle.std.specs.Prelude.{IsTrue, MatchOption, OnErr, OnOk, ⊤, if◌then◌else◌, nat_le}
use Rattle.std.specs.List.{AllByRecursion}
use Rattle.std.specs.Option.{option_map}
use Rattle.std.proofs.lemmas.List.{map-append, reverse-append}
use Rattle.mn_base.specs.declared.answer.Answer.{Answer}
use Rattle.mn_base.specs.declared.answer.Answer.TheVariants as answers
use Rattle.mn_base.specs.declared.ids.ClientNo.{ClientNo}
use Rattle.mn_base.specs.declared.ids.NodeNo.{NodeNo}
use Rattle.mn_base.specs.declared.ids.Tid.{Tid}
use Rattle.mn_base.specs.declared.op.Op.{Op}
use Rattle.mn_cell.specs.Runs.{IsIssueOf}
use Rattle.mn_mini.specs.Mini.{Mini, participants_of, is_read}
use Rattle.mn_mini.specs.RecordGrammar.{IsTid}
use Rattle.mn_mini.specs.declared.reply.NodeReply.{NodeReply}
use Rattle.mn_mini.specs.declared.reply.NodeReply.TheVariants as Say
use Rattle.mn_mini.specs.declared.request.Request.{Request}
use Rattle.mn_script.specs.declared.elements.Point.{Point}
use Rattle.mn_runs.specs.declared.entry.Entry.{Entry}
use Rattle.mn_runs.specs.declared.entry.What.{What}
use Rattle.mn_runs.specs.declared.entry.What.TheVariants.{Begin, Issue, Called, Stopped, Restarted, Abandoned, Answered}
use Rattle.mn_law.specs.Answers.{MeansBy}
use Rattle.mn_runs.specs.Calls.{Begun, Call as Asked, Issued, begun_in, begun_of, call_in, issue_in, issues_of, under_way, under_way_after}
use Rattle.mn_runs.specs.Clients.{recovers_nothing, ClientAllows, last_number}
use Rattle.mn_runs.specs.Lists.{ClientState}
use Rattle.mn_runs.specs.Seen.{Place}
use Rattle.mn_runs.specs.Protocol.{Start, entries_of}
use Rattle.mn_hist.specs.Points.{points_met}
use Rattle.mn_hist.specs.Watching.{number_of}
use Rattle.mn_proxy.specs.declared.errand.Errand.{Errand}
use Rattle.mn_proxy.specs.declared.errand.Errand.TheVariants as out
use Rattle.mn_proxy.specs.declared.errand.Purpose.{Purpose}
use Rattle.mn_work.specs.declared.known.Known.{Known}
use Rattle.mn_proxy.specs.declared.step.ProxyStep.{ProxyStep}
use Rattle.mn_proxy.specs.declared.step.ProxyStep.TheVariants as steps
use Rattle.mn_work.specs.declared.work.Work.{Work}
use Rattle.mn_proxy.specs.Agrees.{Agrees, Enters, EntersWant, ErrandAgrees, HasOutIn, HasRead, IsOwnEntry, IsSoundStep, IsUnderWay, MayStep, MayWant, PeekedAgrees, Wants, WorksBy}
use Rattle.mn_work.specs.Places.{place_of}
use Rattle.mn_proxy.specs.State.{IsIdle, IsReady, ProxyState}
use Rattle.mn_proxy.specs.Turns.{KeepsSelf}
use Rattle.mn_callers.specs.declared.client.Call.{Call}
use Rattle.mn_callers.specs.declared.client.Client.{Client}
use Rattle.mn_callers.specs.declared.client.Went.TheVariants.{On}
use Rattle.mn_callers.specs.Clients.{HasProxy, IsAlive, IsAtSteps, IsClient, MayCallNext, IsListOfRun, IsOfRun, IsProxyFor, KeepsIssues, MayCall, is_plan_first, last_shared}
use Rattle.mn_callers.specs.Going.{HandedOut, HasGone, HasList, IsList, IsSameBut, KeepsPoints, MayMake, MeetsSame, WorksFor}
use Rattle.mn_callers.specs.Points.{has_died, is_kill_of, is_some_met}
use Rattle.mn_callers.specs.Steps.{Adds, KeepsList, own_entry}
use Rattle.mn_callers.proofs.MetPoints.{own_meets_none}

-- either way it ended
pub in_both : {T E A B P : Type 0} (r : Result T E) → OnOk r A → OnErr r B → (A → P) → (B → P) → P
in_both (Ok x) a b f g = f a
in_both (Err e) a b f g = g b

pub on_error : {T E : Type 0} (r : Result T E) (P : Type 0) → P → OnErr r P
on_error (Ok x) P so = tt
on_error (Err e) P so = so

pub on_ok : {T E : Type 0} (r : Result T E) (P Q : Type 0) → (P → Q) → OnOk r P → OnOk r Q
on_ok (Ok x) P Q f so = f so
on_ok (Err e) P Q f so = tt

-- what is so of a client is so of one that is the same
pub as_same : (P : Client → Type 0) (same new : Client) → new ≡ same → P same → P new
as_same P same new is so = subst P (sym is) so

-- One entry more

pub longer : (e : Entry) (old new : ClientState) → Adds e old new → entries_of new.entries ≡ e ∷ entries_of old.entries
longer e old new adds =
    ap (λ (l : List (ℕ × Entry)). entries_of l) adds.ends
    ∙ (ap (λ (l : List Entry). reverse l) (map-append (λ (p : ℕ × Entry). p.1) old.entries ((adds.place, e) ∷ []))
    ∙ reverse-append (map (λ (p : ℕ × Entry). p.1) old.entries) (e ∷ []))

-- what is so with the entry is so of the new list
pub with_entry : (P : ClientNo → List Entry → Type 0) (e : Entry) (old new : ClientState) → Adds e old new → P old.client (e ∷ entries_of old.entries) → P new.client (entries_of new.entries)
with_entry P e old new adds so =
    subst (λ (c : ClientNo). P c (entries_of new.entries)) (sym adds.client) (subst (λ (l : List Entry). P old.client l) (sym (longer e old new adds)) so)

-- What is kept of the issues

pub same_issues : (e : Entry) (es : List Entry) (id : Option Tid) (plan : Bool) → issue_in e.what ≡ [] → KeepsIssues es id plan → KeepsIssues (e ∷ es) id plan
same_issues e es id plan none keeps =
    let same : issues_of es ≡ issues_of (e ∷ es) = sym (ap (λ (l : List Issued). l ++ issues_of es) none) in
    record {
      id_is = keeps.id_is ∙ ap (λ (l : List Issued). last_shared l) same;
      plan_is = keeps.plan_is ∙ ap (λ (l : List Issued). is_plan_first l) same;
    }

pub one_issue : (c : ClientNo) (tid : Tid) (mini : Mini) (es : List Entry) (id id' : Option Tid) (plan is_shared reads : Bool) → is_shared ≡ nat_le 2 (length (participants_of mini)) → reads ≡ is_read mini.items
    → id' ≡ (if is_shared then Some tid else id) → KeepsIssues es id plan → KeepsIssues (own_entry c (Issue tid mini) ∷ es) id' (not reads)
one_issue c tid mini es id id' plan is_shared reads several read is keeps = record {
  id_is = is ∙ (ap (λ (b : Bool). if b then Some tid else id) several ∙ ap (λ (o : Option Tid). if nat_le 2 (length (participants_of mini)) then Some tid else o) keeps.id_is);
  plan_is = ap (λ (b : Bool). not b) read;
}

module _ (start : Start) (old new : ClientState) (p : ProxyState) (what : What) (step : MayMake start old p what) (adds : Adds (own_entry old.client what) old new) where
  abbrev e : Entry
  e = own_entry old.client what

  pub made_list : (begun : ℕ) (id id' : Option Tid) (plan plan' : Bool) → MatchOption id' ⊤ IsTid → KeepsIssues (e ∷ entries_of old.entries) id' plan' → IsList start old begun id plan → IsList start new begun id' plan'
  made_list begun id id' plan plan' shared issues has = record {
    own = with_entry (λ d es. AllByRecursion (λ x. x.client ≡ Some d) es) e old new adds (refl, has.own);
    of_run = with_entry (λ d es. AllByRecursion (IsIssueOf start) es) e old new adds (step.of_run, has.of_run);
    plain = with_entry (λ d es. IsTrue (recovers_nothing es)) e old new adds step.agrees.0.recovers;
    begun = with_entry (λ d es. last_number (begun_of es) ≡ begun) e old new adds (ap (λ (bs : List Begun). last_number (bs ++ begun_of (entries_of old.entries))) step.begins_none ∙ has.begun);
    counted = with_entry (λ d es. length (begun_of es) ≡ begun) e old new adds (ap (λ (bs : List Begun). length (bs ++ begun_of (entries_of old.entries))) step.begins_none ∙ has.counted);
    shared = shared;
    issues = with_entry (λ d es. KeepsIssues es id' plan') e old new adds issues;
  }

  pub made_proxy : IsProxyFor start new p
  made_proxy = record {
    agrees = with_entry (λ d es. Agrees es p) e old new adds step.agrees;
    client = step.proxy.client ∙ sym adds.client;
    run = step.proxy.run;
    nodes = step.proxy.nodes;
  }

  pub made_points : (flags : List Bool) → MeetsSame old flags new flags
  made_points flags = record {
    client = adds.client;
    flags = refl;
    met = λ points. with_entry (λ d es. points_met points es ≡ points_met points (entries_of old.entries)) e old new adds (own_meets_none points (entries_of old.entries) e step.may.0);
  }

-- one that has just other room
pub same_list : (P : ClientNo → List Entry → Type 0) (old new : ClientState) → new.client ≡ old.client → new.entries ≡ old.entries → P old.client (entries_of old.entries) → P new.client (entries_of new.entries)
same_list P old new client entries so =
    subst (λ (d : ClientNo). P d (entries_of new.entries)) (sym client) (subst (λ (l : List (ℕ × Entry)). P old.client (entries_of l)) (sym entries) so)

pub kept_list : (start : Start) (old new : ClientState) (begun : ℕ) (id : Option Tid) (plan : Bool) → KeepsList old new → IsList start old begun id plan → IsList start new begun id plan
kept_list start old new begun id plan keeps has = record {
  own = same_list (λ d es. AllByRecursion (λ x. x.client ≡ Some d) es) old new keeps.client keeps.entries has.own;
  of_run = same_list (λ d es. AllByRecursion (IsIssueOf start) es) old new keeps.client keeps.entries has.of_run;
  plain = same_list (λ d es. IsTrue (recovers_nothing es)) old new keeps.client keeps.entries has.plain;
  begun = same_list (λ d es. last_number (begun_of es) ≡ begun) old new keeps.client keeps.entries has.begun;
  counted = same_list (λ d es. length (begun_of es) ≡ begun) old new keeps.client keeps.entries has.counted;
  shared = has.shared;
  issues = same_list (λ d es. KeepsIssues es id plan) old new keeps.client keeps.entries has.issues;
}

pub kept_points : (old new : ClientState) (flags : List Bool) → KeepsList old new → MeetsSame old flags new flags
kept_points old new flags keeps = record { client = keeps.client; flags = refl; met = λ points. ap (λ (l : List (ℕ × Entry)). points_met points (entries_of l)) keeps.entries }

pub same_points : (l : ClientState) (flags : List Bool) → MeetsSame l flags l flags
same_points l flags = record { client = refl; flags = refl; met = λ points. refl }

pub then_points : {a b c : ClientState} {f g h : List Bool} → MeetsSame a f b g → MeetsSame b g c h → MeetsSame a f c h
then_points one two = record { client = two.client ∙ one.client; flags = two.flags ∙ one.flags; met = λ points. two.met points ∙ one.met points }

-- A minitransaction was issued, and what is to be known of it is kept

module _ (start : Start) (old mid new : Client) (tid : Tid) (mini : Mini) (is_shared reads : Bool) (step : MayMake start old.list old.proxy (Issue tid mini)) (same : IsSameBut old mid)
    (adds : Adds (own_entry old.list.client (Issue tid mini)) old.list mid.list) (is : new ≡ record mid { shared = new.shared; is_plan = not reads }) where
  abbrev after : Client
  after = record old { list = mid.list; shared = new.shared; is_plan = not reads }

  issued_is : new ≡ after
  issued_is = is ∙ ap (λ (k : Client). record k { shared = new.shared; is_plan = not reads }) same

  pub issued_list : MatchOption new.shared ⊤ IsTid → new.shared ≡ (if is_shared then Some tid else mid.shared) → is_shared ≡ nat_le 2 (length (participants_of mini)) → reads ≡ is_read mini.items → HasList start old → HasList start new
  issued_list known id several read has =
      as_same (HasList start) after new issued_is (made_list start old.list mid.list old.proxy (Issue tid mini) step adds old.begun old.shared new.shared old.is_plan (not reads) known
      (one_issue old.list.client tid mini (entries_of old.list.entries) old.shared new.shared old.is_plan is_shared reads several read (id ∙ ap (λ (k : Client). if is_shared then Some tid else k.shared) same) has.issues) has)

  pub issued_proxy : HasProxy start new
  issued_proxy = as_same (HasProxy start) after new issued_is (made_proxy start old.list mid.list old.proxy (Issue tid mini) step adds)

  pub issued_points : KeepsPoints old new
  issued_points = as_same (KeepsPoints old) after new issued_is (made_points start old.list mid.list old.proxy (Issue tid mini) step adds old.met.items)

  pub issued_stays : (new.proxy ≡ old.proxy) × (new.due ≡ old.due) × (new.begun ≡ old.begun)
  issued_stays = (ap (λ (k : Client). k.proxy) issued_is, ap (λ (k : Client). k.due) issued_is, ap (λ (k : Client). k.begun) issued_is)

-- The operation under way

number_at : (what : What) (es : List Entry) (b : Begun) → (under_way es ≡ Some b → b.number ≡ last_number (begun_of es))
    → under_way_after what (under_way es) ≡ Some b → b.number ≡ last_number (begun_in what ++ begun_of es)
number_at (Begin number op) es b rest is = let same : b ≡ record { number = number; op = op } = cc in ap (λ (x : Begun). x.number) same
number_at (Answered number answer) es b rest is = absurd cc
number_at (Issue tid mini) es b rest is = rest is
number_at (Called request reply) es b rest is = rest is
number_at (Stopped request asked) es b rest is = rest is
number_at (Restarted kept) es b rest is = rest is
number_at (Abandoned tid) es b rest is = rest is

-- it has the last number
pub number_is : (es : List Entry) (b : Begun) → under_way es ≡ Some b → b.number ≡ last_number (begun_of es)
number_is [] b is = absurd cc
number_is (e ∷ es) b is = number_at e.what es b (number_is es b) is

calls_pass : (at : Option NodeNo) (what : What) (call : Asked) (before : Option Begun) → call_in at what ≡ call ∷ [] → under_way_after what before ≡ before
calls_pass at (Issue tid mini) call before is = refl
calls_pass at (Called request reply) call before is = refl
calls_pass at (Stopped request asked) call before is = refl
calls_pass at (Restarted kept) call before is = refl
calls_pass at (Abandoned tid) call before is = refl
calls_pass None (Begin number op) call before is = absurd cc
calls_pass (Some n) (Begin number op) call before is = absurd cc
calls_pass None (Answered number answer) call before is = absurd cc
calls_pass (Some n) (Answered number answer) call before is = absurd cc

still_under_way : (e : Entry) (es : List Entry) (call : Asked) (op : Op) → call_in e.node e.what ≡ call ∷ [] → IsUnderWay es op → IsUnderWay (e ∷ es) op
still_under_way e es call op is under = (under.0, calls_pass e.node e.what call (under_way es) is ∙ under.1)

read_under_way : (es : List Entry) (known : Known) (w : Work) (purpose : Purpose) (bytes : List ℕ) → HasRead es known w purpose bytes → IsUnderWay es w.op
read_under_way es known w purpose bytes r =
    subst (λ (l : List Entry). IsUnderWay l w.op) (sym r.split) (elim r.came [
      | inl exec ↦ still_under_way r.e r.before _ w.op exec.2 r.open_before.of
      | inr peek ↦ still_under_way r.e r.before _ w.op peek.0.1 r.open_before.of
    ])

peeked_under_way : (es : List Entry) (known : Known) (w : Work) (place : Place) (purpose : Purpose) (reply : NodeReply) → PeekedAgrees es known w place purpose reply → IsUnderWay es w.op
peeked_under_way es known w place purpose (Say.Peeked bytes) a = read_under_way es known w purpose bytes a
peeked_under_way es known w place purpose Say.Down a = a.0
peeked_under_way es known w place purpose Say.Stopped a = a.0
peeked_under_way es known w place purpose (Say.Done reads) a = a.0
peeked_under_way es known w place purpose (Say.BadLock from long holder) a = a.0
peeked_under_way es known w place purpose (Say.BadCompare item found) a = a.0
peeked_under_way es known w place purpose Say.BadForced a = a.0
peeked_under_way es known w place purpose (Say.Vote vote) a = a.0
peeked_under_way es known w place purpose Say.Decided a = a.0
peeked_under_way es known w place purpose (Say.Listed doubts) a = a.0
peeked_under_way es known w place purpose Say.NoMemory a = a.0

errand_under_way : (es : List Entry) (known : Known) (w : Work) (errand : Errand) → ErrandAgrees es known w errand → IsUnderWay es w.op
errand_under_way es known w out.Nothing a = a.0.of
errand_under_way es known w (out.Peek place purpose) a = a.0.0.of
errand_under_way es known w (out.Peeked place reply purpose) a = peeked_under_way es known w (place_of place) purpose reply a.0
errand_under_way es known w (out.Mini tid c purpose) a = a.of

-- an operation is under way under the last number
abbrev pub HasLast : List Entry → Type 0
HasLast es = (op : Op) × (under_way es ≡ Some (record { number = last_number (begun_of es); op = op }))

last_of : (es : List Entry) (op : Op) → IsUnderWay es op → HasLast es
last_of es op under =
    (op, under.1 ∙ ap (λ (n : ℕ). Some (let b : Begun = record { number = n; op = op } in b)) (number_is es (record { number = under.0; op = op }) under.1))

works_last : (es : List Entry) (p : ProxyState) (work : Option (Work × Errand)) → work ≢ None → WorksBy es p work → HasLast es
works_last es p None some a = absurd (some refl)
works_last es p (Some x) some a = last_of es x.0.op (errand_under_way es p.known x.0 x.1 a)

pub ready_last : (es : List Entry) (p : ProxyState) → p.work ≢ None → Agrees es p → HasLast es
ready_last es p some a = works_last es p p.work some a.1

pub out_works : (work : Option (Work × Errand)) (node : NodeNo) (request : Request) → HasOutIn work node request → work ≢ None
out_works None node request has is = has
out_works (Some x) node request has is = absurd cc

pub last_number_of : (es : List Entry) → HasLast es → number_of es ≡ Some (last_number (begun_of es))
last_number_of es last = ap (λ (o : Option Begun). option_map (λ (b : Begun). b.number) o) last.1

-- The steps of the proxy

module _ (start : Start) (l : ClientState) (p : ProxyState) where
  own_is : (what : What) → WorksFor start l p → (e : Entry) × IsOwnEntry p.client what e × (own_entry l.client what ∷ entries_of l.entries ≡ e ∷ entries_of l.entries)
  own_is what w = (own_entry l.client what, record { node = refl; by = ap Some (sym w.client); what_is = refl }, refl)

  pub issue_makes : (tid : Tid) (mini : Mini) → HandedOut start l p (steps.Issue tid mini) → MayMake start l p (Issue tid mini)
  issue_makes tid mini t =
      let agrees = t.enters (own_entry l.client (Issue tid mini) ∷ entries_of l.entries) (own_is (Issue tid mini) t.proxy) in
      record {
        proxy = t.proxy;
        may = (tt, subst (λ (d : ClientNo). ClientAllows d (entries_of l.entries) None (Issue tid mini)) t.proxy.client t.may.0, t.may.1);
        agrees = agrees;
        of_run = (ap (λ (x : Tid). x.run) agrees.0.issues.0 ∙ t.proxy.run, agrees.0.issues.1 ∙ t.proxy.nodes);
        begins_none = refl;
      }

  pub issue_id : (tid : Tid) (mini : Mini) → HandedOut start l p (steps.Issue tid mini) → (1 ≤ tid.run) × (tid.client ≡ l.client) × (1 ≤ tid.serial)
  issue_id tid mini t =
      let m = issue_makes tid mini t in
      (at_least tid.run _ m.of_run.0, m.may.1.client, at_least tid.serial _ m.may.1.serial)
    where
      at_least : (n k : ℕ) → n ≡ k + 1 → 1 ≤ n
      at_least n k is = omega arith

  pub abandon_makes : (tid : Tid) → HandedOut start l p (steps.Abandon tid) → MayMake start l p (Abandoned tid)
  abandon_makes tid t = record {
    proxy = t.proxy;
    may = (tt, t.may.0, t.may.1);
    agrees = t.enters (own_entry l.client (Abandoned tid) ∷ entries_of l.entries) (own_is (Abandoned tid) t.proxy);
    of_run = tt;
    begins_none = refl;
  }

  answer_makes : (number : ℕ) (answer : Answer) → last_number (begun_of (entries_of l.entries)) ≡ number → WorksFor start l p
      → ClientAllows l.client (entries_of l.entries) None (Answered (last_number (begun_of (entries_of l.entries))) answer) → MeansBy (entries_of l.entries) (Answered (last_number (begun_of (entries_of l.entries))) answer)
      → Agrees (own_entry l.client (Answered (last_number (begun_of (entries_of l.entries))) answer) ∷ entries_of l.entries) p
      → MayMake start l p (Answered number answer)
  answer_makes number answer begun w allows means agrees = subst (λ (n : ℕ). MayMake start l p (Answered n answer)) begun made
    where
      made : MayMake start l p (Answered (last_number (begun_of (entries_of l.entries))) answer)
      made = record { proxy = w; may = (tt, allows, means); agrees = agrees; of_run = tt; begins_none = refl }

  pub done_makes : (answer : Answer) (number : ℕ) → last_number (begun_of (entries_of l.entries)) ≡ number → HandedOut start l p (steps.Done answer) → MayMake start l p (Answered number answer)
  done_makes answer number begun t =
      let what = Answered (last_number (begun_of (entries_of l.entries))) answer in
      answer_makes number answer begun t.proxy t.may.0 t.may.1 (t.enters (own_entry l.client what ∷ entries_of l.entries) (own_is what t.proxy))

-- a call that is handed out
pub call_due : (start : Start) (l : ClientState) (p : ProxyState) (node : NodeNo) (request : Request) → HandedOut start l p (steps.Call node request)
    → IsProxyFor start l p × MayCall start l p (record { node = node; request = request })
call_due start l p node request t = (
  record { agrees = t.enters (entries_of l.entries) refl; client = t.proxy.client; run = t.proxy.run; nodes = t.proxy.nodes },
  record { out = t.wants; allowed = t.may; among = t.sound.0; sound = t.sound.1 },
)

-- The proxy is asked

module _ (start : Start) (l : ClientState) (old p : ProxyState) (kept : KeepsSelf old p) (has : IsProxyFor start l old) where
  asked_works : WorksFor start l p
  asked_works = record { client = kept.0 ∙ has.client; run = kept.1 ∙ has.run; nodes = kept.2 ∙ has.nodes }

  may_alike : (es : List Entry) (step : ProxyStep) → MayStep es old step → MayStep es p step
  may_alike es (steps.Issue tid mini) may = (subst (λ (d : ClientNo). ClientAllows d es None (Issue tid mini)) (sym kept.0) may.0, may.1)
  may_alike es (steps.Abandon tid) may = may
  may_alike es (steps.Call node request) may = may
  may_alike es (steps.Done answer) may = may

  enters_alike : (es : List Entry) (step : ProxyStep) (new : List Entry) → Enters es p step new → Enters es old step new
  enters_alike es (steps.Issue tid mini) new x = (x.0, record { node = x.1.node; by = x.1.by ∙ ap Some kept.0; what_is = x.1.what_is }, x.2)
  enters_alike es (steps.Abandon tid) new x = (x.0, record { node = x.1.node; by = x.1.by ∙ ap Some kept.0; what_is = x.1.what_is }, x.2)
  enters_alike es (steps.Call node request) new x = x
  enters_alike es (steps.Done answer) new x = (x.0, record { node = x.1.node; by = x.1.by ∙ ap Some kept.0; what_is = x.1.what_is }, x.2)

  pub handed_out : (step : ProxyStep) → MayStep (entries_of l.entries) old step → ((new : List Entry) → Enters (entries_of l.entries) old step new → Agrees new p)
      → IsSoundStep old.known.nodes step → Wants step p → HandedOut start l p step
  handed_out step may enters sound wants = record {
    proxy = asked_works;
    may = may_alike (entries_of l.entries) step may;
    enters = λ new x. enters new (enters_alike (entries_of l.entries) step new x);
    sound = subst (λ (n : ℕ). IsSoundStep n step) has.nodes sound;
    wants = wants;
  }

  pub want_makes : (number : ℕ) → IsReady old → last_number (begun_of (entries_of l.entries)) ≡ number → MayWant (entries_of l.entries) → ((new : List Entry) → EntersWant (entries_of l.entries) old new → Agrees new p)
      → MayMake start l p (Answered number answers.NoMemory)
  want_makes number ready begun means enters =
      let what = Answered (last_number (begun_of (entries_of l.entries))) answers.NoMemory in
      answer_makes start l p number answers.NoMemory begun asked_works (ready_last (entries_of l.entries) old ready.0 has.agrees) means
      (enters (own_entry l.client what ∷ entries_of l.entries) (own_is start l old what (record { client = has.client; run = has.run; nodes = has.nodes })))

-- Crash points

pub kept_run : (start : Start) (points : List Point) (old new : ClientState) (flags flags' : List Bool) (begun count : ℕ) (id id' : Option Tid) (plan plan' : Bool) → IsList start new count id' plan' → MeetsSame old flags new flags'
    → IsListOfRun start points old flags begun id plan → IsListOfRun start points new flags' count id' plan'
kept_run start points old new flags flags' begun count id id' plan plan' has keeps run = record {
  own = has.own;
  of_run = has.of_run;
  met = keeps.flags ∙ (run.met ∙ sym (keeps.met points));
  plain = has.plain;
  begun = has.begun;
  counted = has.counted;
  shared = has.shared;
  issues = has.issues;
}

pub kept_death : (points : List Point) (old new : ClientState) (flags flags' : List Bool) → MeetsSame old flags new flags' → has_died points new.client (entries_of new.entries) ≡ true → has_died points old.client (entries_of old.entries) ≡ true
kept_death points old new flags flags' keeps dead =
    sym (ap (λ (d : ClientNo). is_some_met (is_kill_of d) points (points_met points (entries_of new.entries))) keeps.client
    ∙ ap (λ (met : List Bool). is_some_met (is_kill_of old.client) points met) (keeps.met points)) ∙ dead

pub list_of_run : (start : Start) (points : List Point) (l : ClientState) (flags : List Bool) (begun : ℕ) (id : Option Tid) (plan : Bool) → IsListOfRun start points l flags begun id plan → IsList start l begun id plan
list_of_run start points l flags begun id plan run = record { own = run.own; of_run = run.of_run; plain = run.plain; begun = run.begun; counted = run.counted; shared = run.shared; issues = run.issues }

-- How a client has gone on

-- it made a step, and its proxy is to be asked again
pub made_goes : (start : Start) (old new : Client) → new.proxy ≡ old.proxy → new.due ≡ old.due → IsReady old.proxy → old.due ≡ None → HasProxy start new → HasGone start new On
made_goes start old new proxy due ready none has = (has, subst IsReady (sym proxy) ready, due ∙ none)

pub made_on : (start : Start) (old new : Client) → IsSameBut old new → IsReady old.proxy → old.due ≡ None → HasProxy start new → HasGone start new On
made_on start old new same ready none has = made_goes start old new (ap (λ (k : Client). k.proxy) same) (ap (λ (k : Client). k.due) same) ready none has

-- it made a step that answered its operation
pub answered_rests : (start : Start) (old new : Client) → IsSameBut old new → IsIdle old.proxy → old.due ≡ None → HasProxy start new → IsAlive start new
answered_rests start old new same idle none has = record {
  proxy = has;
  due = subst (λ (o : Option Call). MatchOption o (IsIdle new.proxy) (MayCallNext start new)) (sym (ap (λ (k : Client). k.due) same ∙ none)) (ap (λ (k : Client). k.proxy.work) same ∙ idle);
}

-- its own steps go on, or rest

pub still_steps : (start : Start) (points : List Point) (old new : Client) → IsAtSteps start points old → HasList start new → KeepsPoints old new → HasGone start new On → IsAtSteps start points new
still_steps start points old new at has keeps gone = record {
  run = kept_run start points old.list new.list old.met.items new.met.items old.begun new.begun old.shared new.shared old.is_plan new.is_plan has keeps at.run;
  lives = λ dead. at.lives (kept_death points old.list new.list old.met.items new.met.items keeps dead);
  proxy = gone.0;
  ready = gone.1;
  none_due = gone.2;
}

pub steps_rest : (start : Start) (points : List Point) (old new : Client) → IsAtSteps start points old → HasList start new → KeepsPoints old new → IsAlive start new → IsClient start points new
steps_rest start points old new at has keeps alive = record {
  run = kept_run start points old.list new.list old.met.items new.met.items old.begun new.begun old.shared new.shared old.is_plan new.is_plan has keeps at.run;
  dead = λ dead. absurd (at.lives (kept_death points old.list new.list old.met.items new.met.items keeps dead));
  alive = λ lives. alive;
}

pub steps_run : (start : Start) (points : List Point) (old new : Client) → IsAtSteps start points old → HasList start new → KeepsPoints old new → IsOfRun start points new
steps_run start points old new at has keeps = kept_run start points old.list new.list old.met.items new.met.items old.begun new.begun old.shared new.shared old.is_plan new.is_plan has keeps at.run

pub steps_list : (start : Start) (points : List Point) (c : Client) → IsAtSteps start points c → HasList start c
steps_list start points c at = list_of_run start points c.list c.met.items c.begun c.shared c.is_plan at.run
