-- An operation that was answered sends no more. Once each node is up, a plan of it is committed or
-- never will be.
use Rattle.std.proofs.Common.{◌≡◌, ℕ, ◌<◌, ◌⊎◌, inl, inr, Bool, true, false, ◌||◌, List, [], ◌∷◌, ◌++◌, length, Option, Some, None, refl, subst, sym, ap, ◌∙◌, if◌then◌else◌}
use Rattle.std.specs.List.{list_all}
use Rattle.std.specs.Option.{option_map}
use Rattle.std.proofs.lemmas.List.{append_assoc}
use Rattle.mn_base.specs.Ids.{node_same, tid_same}
use Rattle.mn_base.specs.declared.ids.NodeNo.{NodeNo}
use Rattle.mn_base.specs.declared.ids.ClientNo.{ClientNo}
use Rattle.mn_base.specs.declared.ids.Tid.{Tid}
use Rattle.mn_base.specs.declared.answer.Answer.{Answer}
use Rattle.mn_base.proofs.Booleans.{clash, or_cases}
use Rattle.mn_mini.specs.declared.request.Request.{Request}
use Rattle.mn_mini.specs.declared.request.Request.TheVariants as Ask
use Rattle.mn_mini.specs.Mini.{Mini}
use Rattle.mn_runs.specs.declared.entry.Entry.{Entry}
use Rattle.mn_runs.specs.declared.entry.What.{What}
use Rattle.mn_runs.specs.declared.entry.What.TheVariants.{Begin, Issue, Called, Stopped, Restarted, Abandoned, Answered}
use Rattle.mn_runs.specs.Calls.{Issued, Begun, is_at, is_by, is_try, is_done, node_entries, client_entries, issue_named, issues_of, since_begin, since_begin_after}
use Rattle.mn_runs.specs.Clients.{Sends}
use Rattle.mn_runs.specs.Nodes.{is_down, is_down_after, stopped_request, stopped_request_after}
use Rattle.mn_runs.specs.Protocol.{Start, start_nodes, KeepsProtocol, FollowsProtocol, AreUp}
use Rattle.mn_runs.specs.Commits.{has_vote, effect_of, issued_as, committed_with, committed_by}
use Rattle.mn_votes.specs.Laws.{StartsSound}
use Rattle.mn_commits.specs.Laws.{IsNeverCommitted}
use Rattle.mn_runs.proofs.Same.{tid_same-true, client_same-refl, same_request}
use Rattle.mn_runs.proofs.NewCalls.{by_of}
use Rattle.mn_votes.proofs.Unchanged.{as_own, current_issue, issue_stays}
use Rattle.mn_votes.proofs.Backing.{Kept}
use Rattle.mn_votes.proofs.Preserved.{kept_run}
use Rattle.mn_commits.proofs.Commits.Never.{none_some, same_issued, closed_since, none_is_some}
use Rattle.mn_commits.proofs.Commits.Once.{at_some}
use Rattle.mn_runs.proofs.Prefixes.{older_follows}
use Rattle.mn_serial.proofs.Meaning.Positions.{IssueAt, AnswerAt, issue_before_answer, answered_since}
use Rattle.mn_serial.proofs.Meaning.Done.{CommittedIn, committed_more}

-- Nothing more is sent for the id

abbrev pub IsShut : ClientNo → List Entry → Tid → Type 0
IsShut c past tid = (mini : Mini) × (issue_named tid (issues_of (client_entries c past)) ≡ Some mini) × (issue_named tid (issues_of (since_begin (client_entries c past))) ≡ None)

shut_stays : (start : Start) (past : List Entry) (e : Entry) (c : ClientNo) (tid : Tid)
    → Kept start past → KeepsProtocol start past e → IsShut c past tid → IsShut c (e ∷ past) tid
shut_stays start past e c tid kept keeps (mini, is, none) = (
  mini,
  issue_stays start past e c tid mini kept keeps is,
  elim (is_by c e) as (λ b. is_by c e ≡ b → issue_named tid (issues_of (since_begin (if b then e ∷ client_entries c past else client_entries c past))) ≡ None) [
    | true ↦ λ by.
        subst (λ (o : Option ClientNo). issue_named tid (issues_of (since_begin_after e.what (record { node = e.node; client = o; what = e.what }) (since_begin (client_entries c past)))) ≡ None) (sym (by_of c e.client e.node e.what by))
        (closed_since start past c e.node e.what tid mini kept (as_own start past c e by keeps) is none)
    | false ↦ λ _. none
  ] refl,
)

pub not_false : false ≡ true → ⊥
not_false e = cc

-- what a client may send of an id is of its operation under way
sent_open : (start : Start) (past : List Entry) (d : ClientNo) (t tid : Tid) (mini : Mini) (c : ClientNo) → Kept start past → IsShut c past tid → t ≡ tid → issue_named t (issues_of (since_begin (client_entries d past))) ≡ Some mini → ⊥
sent_open start past d t tid mini c kept (m, is, none) same now =
    let current : issue_named tid (issues_of (since_begin (client_entries d past))) ≡ Some mini = subst (λ (x : Tid). issue_named x (issues_of (since_begin (client_entries d past))) ≡ Some mini) same now in
    let one : tid.client ≡ d = (kept.issued d tid mini (current_issue (client_entries d past) tid mini current)).0 in
    let two : tid.client ≡ c = (kept.issued c tid m is).0 in
    none_is_some mini (sym none ∙ subst (λ (x : ClientNo). issue_named tid (issues_of (since_begin (client_entries x past))) ≡ Some mini) (sym one ∙ two) current)

sends_none : (start : Start) (past : List Entry) (d : ClientNo) (k : NodeNo) (request : Request) (tid : Tid) (c : ClientNo) → Kept start past → IsShut c past tid → Sends (client_entries d past) (Some k) request → is_try tid request ≡ true → ⊥
sends_none start past d k (Ask.Prepare t ps part) tid c kept shut s try = by (or_cases (tid_same t tid) false try)
  where
    by : (tid_same t tid ≡ true) ⊎ (false ≡ true) → ⊥
    by (inl same) = sent_open start past d t tid s.mini c kept shut (tid_same-true t tid same) s.issued
    by (inr never) = not_false never
sends_none start past d k (Ask.Exec t part) tid c kept shut s try = sent_open start past d t tid s.mini c kept shut (tid_same-true t tid try) s.issued
sends_none start past d k (Ask.Decide t verdict) tid c kept shut s try = not_false try
sends_none start past d k (Ask.Force t) tid c kept shut s try = not_false try
sends_none start past d k Ask.List tid c kept shut s try = not_false try
sends_none start past d k (Ask.Peek at n) tid c kept shut s try = not_false try

-- No node is down inside a request of it

abbrev pub NonePending : List Entry → Tid → Type 0
NonePending past tid = (k : NodeNo) (request : Request) → is_try tid request ≡ true → is_down (node_entries k past) ≡ true → stopped_request (node_entries k past) ≡ Some request → ⊥

pub no_request : (r : Request) → None ≡ Some r → ⊥
no_request r e = cc

not_pending : (start : Start) (past : List Entry) (by : Option ClientNo) (k : NodeNo) (what : What) (tid : Tid) (c : ClientNo) (request : Request) → Kept start past → KeepsProtocol start past (record { node = Some k; client = by; what = what }) → IsShut c past tid → NonePending past tid
    → is_try tid request ≡ true → is_down_after what (is_down (node_entries k past)) ≡ true
    → stopped_request_after what (stopped_request (node_entries k past)) ≡ Some request → ⊥
not_pending start past by k (Called r reply) tid c request kept keeps shut none try down is = none k request try down is
not_pending start past None k (Stopped (Some r) asked) tid c request kept keeps shut none try down is = absurd keeps.by_client
not_pending start past (Some d) k (Stopped (Some r) asked) tid c request kept keeps shut none try down is =
    sends_none start past d k request tid c kept shut (subst (λ (q : Request). Sends (client_entries d past) (Some k) q) (same_request r request is) keeps.by_client) try
not_pending start past by k (Stopped None asked) tid c request kept keeps shut none try down is = no_request request is
not_pending start past by k (Restarted restored) tid c request kept keeps shut none try down is = not_false down
not_pending start past by k (Begin number op) tid c request kept keeps shut none try down is = absurd keeps.at_node.1
not_pending start past by k (Issue u m) tid c request kept keeps shut none try down is = absurd keeps.at_node.1
not_pending start past by k (Abandoned u) tid c request kept keeps shut none try down is = absurd keeps.at_node.1
not_pending start past by k (Answered number answer) tid c request kept keeps shut none try down is = absurd keeps.at_node.1

pending_stays : (start : Start) (past : List Entry) (e : Entry) (c : ClientNo) (tid : Tid)
    → Kept start past → KeepsProtocol start past e → IsShut c past tid → NonePending past tid
    → NonePending (e ∷ past) tid
pending_stays start past e c tid kept keeps shut none = λ k request try.
    elim (is_at k e) as (λ b. is_at k e ≡ b → is_down (if b then e ∷ node_entries k past else node_entries k past) ≡ true → stopped_request (if b then e ∷ node_entries k past else node_entries k past) ≡ Some request → ⊥) [
      | true ↦ λ at down is.
          not_pending start past e.client k e.what tid c request kept (subst (λ (o : Option NodeNo). KeepsProtocol start past (record { node = o; client = e.client; what = e.what })) (at_some k e.node e.client e.what at) keeps) shut none try down is
      | false ↦ λ _ down is. none k request try down is
    ] refl

-- only nodes of the run are ever down
down_low : (start : Start) (past : List Entry) (k : NodeNo) → FollowsProtocol start past
    → is_down (node_entries k past) ≡ true → k.0 < start_nodes start
down_low start [] k run down = absurd (not_false down)
down_low start (e ∷ past) k run down =
    elim (is_at k e) as (λ b. is_at k e ≡ b → is_down (if b then e ∷ node_entries k past else node_entries k past) ≡ true → k.0 < start_nodes start) [
      | true ↦ λ at _. low at
      | false ↦ λ _ h. down_low start past k run.0 h
    ] refl down
  where
    low : is_at k e ≡ true → k.0 < start_nodes start
    low at =
        let keeps : KeepsProtocol start past (record { node = Some k; client = e.client; what = e.what }) = subst (λ (o : Option NodeNo). KeepsProtocol start past (record { node = o; client = e.client; what = e.what })) (at_some k e.node e.client e.what at) run.1 in
        keeps.at_node.0

pub none_down : (start : Start) (past : List Entry) (tid : Tid) → FollowsProtocol start past
    → AreUp start past → NonePending past tid
none_down start past tid run up = λ k request try down is. clash (is_down (node_entries k past)) down (up k (down_low start past k run down))

-- Nothing commits it

issued_id : (tid : Tid) (past : List Entry) (i : Issued) → issued_as tid past ≡ Some i → tid ≡ i.tid
issued_id tid past i is = by (issue_named tid (issues_of past)) is
  where
    by : (o : Option Mini)
        → option_map (λ (mini : Mini). let r : Issued = record { tid = tid; mini = mini } in r) o ≡ Some i → tid ≡ i.tid
    by None f = absurd (none_some i f)
    by (Some mini) f = ap (λ (j : Issued). j.tid) (same_issued (record { tid = tid; mini = mini }) i f)

same_tid : (t u : Tid) → t ≡ u → tid_same t u ≡ true
same_tid t u e = subst (λ (x : Tid). tid_same t x ≡ true) e (Rattle.mn_runs.proofs.Same.tid_same-refl t)

-- what commits an id is a Prepare or Exec of it that takes effect
pub effect_try : (past : List Entry) (n : NodeNo) (eff : Option Request) (tid : Tid) (i : Issued)
    → committed_with past n eff ≡ Some i → i.tid ≡ tid
    → (request : Request) × (eff ≡ Some request) × (is_try tid request ≡ true)
effect_try past n None tid i is eq = absurd (none_some i is)
effect_try past n (Some (Ask.Prepare t ps part)) tid i is eq = by (list_all (λ m. node_same m n || has_vote t m past) ps) is
  where
    by : (b : Bool) → (if b then issued_as t past else None) ≡ Some i
        → (request : Request) × (Some (Ask.Prepare t ps part) ≡ Some request)
        × (is_try tid request ≡ true)
    by true h = (Ask.Prepare t ps part, refl, ap (λ (b : Bool). b || false) (same_tid t tid (issued_id t past i h ∙ eq)))
    by false h = absurd (none_some i h)
effect_try past n (Some (Ask.Exec t part)) tid i is eq = (Ask.Exec t part, refl, same_tid t tid (issued_id t past i is ∙ eq))
effect_try past n (Some (Ask.Decide t verdict)) tid i is eq = absurd (none_some i is)
effect_try past n (Some (Ask.Force t)) tid i is eq = absurd (none_some i is)
effect_try past n (Some Ask.List) tid i is eq = absurd (none_some i is)
effect_try past n (Some (Ask.Peek at length)) tid i is eq = absurd (none_some i is)

effect_none : (start : Start) (past : List Entry) (by : Option ClientNo) (k : NodeNo) (what : What) (tid : Tid) (c : ClientNo) (request : Request) → Kept start past → KeepsProtocol start past (record { node = Some k; client = by; what = what }) → IsShut c past tid → NonePending past tid
    → effect_of (node_entries k past) what ≡ Some request → is_try tid request ≡ true → ⊥
effect_none start past None k (Called r reply) tid c request kept keeps shut none is try = absurd keeps.by_client
effect_none start past (Some d) k (Called r reply) tid c request kept keeps shut none is try = by (is_done reply) is
  where
    by : (b : Bool) → (if b then Some r else None) ≡ Some request → ⊥
    by false e = no_request request e
    by true e = sends_none start past d k request tid c kept shut (subst (λ (q : Request). Sends (client_entries d past) (Some k) q) (same_request r request e) keeps.by_client) try
effect_none start past by k (Restarted true) tid c request kept keeps shut none is try = none k request try keeps.at_node.1.0 is
effect_none start past by k (Restarted false) tid c request kept keeps shut none is try = no_request request is
effect_none start past by k (Stopped r asked) tid c request kept keeps shut none is try = no_request request is
effect_none start past by k (Begin number op) tid c request kept keeps shut none is try = no_request request is
effect_none start past by k (Issue u m) tid c request kept keeps shut none is try = no_request request is
effect_none start past by k (Abandoned u) tid c request kept keeps shut none is try = no_request request is
effect_none start past by k (Answered number answer) tid c request kept keeps shut none is try = no_request request is

pub shut_quiet : (start : Start) (past : List Entry) (by : Option ClientNo) (at : Option NodeNo) (what : What) (tid : Tid) (c : ClientNo) → Kept start past → KeepsProtocol start past (record { node = at; client = by; what = what }) → IsShut c past tid → NonePending past tid
    → (i : Issued) → committed_by past (record { node = at; client = by; what = what }) ≡ Some i
    → i.tid ≡ tid → ⊥
shut_quiet start past by None what tid c kept keeps shut none i is eq = none_some i is
shut_quiet start past by (Some k) what tid c kept keeps shut none i is eq =
    let x = effect_try past k (effect_of (node_entries k past) what) tid i is eq in
    effect_none start past by k what tid c x.0 kept keeps shut none x.1 x.2

-- Later

shut_later : (start : Start) (past later : List Entry) (c : ClientNo) (tid : Tid)
    → StartsSound start → FollowsProtocol start (later ++ past) → IsShut c past tid
    → IsShut c (later ++ past) tid
shut_later start past [] c tid sound run shut = shut
shut_later start past (e ∷ later) c tid sound run shut = shut_stays start (later ++ past) e c tid (kept_run start (later ++ past) sound run.0) run.1 (shut_later start past later c tid sound run.0 shut)

pending_later : (start : Start) (past later : List Entry) (c : ClientNo) (tid : Tid)
    → StartsSound start → FollowsProtocol start (later ++ past) → IsShut c past tid
    → NonePending past tid → NonePending (later ++ past) tid
pending_later start past [] c tid sound run shut none = none
pending_later start past (e ∷ later) c tid sound run shut none =
    pending_stays start (later ++ past) e c tid (kept_run start (later ++ past) sound run.0) run.1 (shut_later start past later c tid sound run.0 shut) (pending_later start past later c tid sound run.0 shut none)

never_of : (tid : Tid) (past : List Entry) → (CommittedIn past tid → ⊥) → IsNeverCommitted tid past
never_of tid [] none = tt
never_of tid (e ∷ past) none = ((λ i is eq. none (record { entry = e; later = []; before = past; issued = i; split = refl; commits = is; same = eq })), never_of tid past (λ c. none (committed_more e past tid c)))

pub shut_never : (start : Start) (past later : List Entry) (c : ClientNo) (tid : Tid)
    → StartsSound start → FollowsProtocol start (later ++ past) → IsShut c past tid
    → NonePending past tid → (CommittedIn past tid → ⊥) → IsNeverCommitted tid (later ++ past)
shut_never start past [] c tid sound run shut none not_yet = never_of tid past not_yet
shut_never start past (e ∷ later) c tid sound run shut none not_yet = (
  shut_quiet start (later ++ past) e.client e.node e.what tid c (kept_run start (later ++ past) sound run.0) run.1 (shut_later start past later c tid sound run.0 shut) (pending_later start past later c tid sound run.0 shut none),
  shut_never start past later c tid sound run.0 shut none not_yet,
)

-- An answer shuts the issues of its operation

shut_here : (past : List Entry) (at : Option NodeNo) (c : ClientNo) (number : ℕ) (answer : Answer) (i : Issued) → issue_named i.tid (issues_of (since_begin (client_entries c past))) ≡ Some i.mini → IsShut c (record { node = at; client = Some c; what = Answered number answer } ∷ past) i.tid
shut_here past at c number answer i is =
    let e : Entry = record { node = at; client = Some c; what = Answered number answer } in
    subst (λ (b : Bool). (mini : Mini) × (issue_named i.tid (issues_of (if b then e ∷ client_entries c past else client_entries c past)) ≡ Some mini)
    × (issue_named i.tid (issues_of (since_begin (if b then e ∷ client_entries c past else client_entries c past))) ≡ None)) (sym (client_same-refl c)) (i.mini, current_issue (client_entries c past) i.tid i.mini is, refl)

-- an answer stands in what goes on from its log
abbrev pub answer_later : (past later : List Entry) (c : ClientNo) (number : ℕ) (answer : Answer)
    → AnswerAt past c number answer → AnswerAt (later ++ past) c number answer
answer_later past later c number answer e = record {
  at = record {
    entry = e.at.entry;
    later = later ++ e.at.later;
    before = e.at.before;
    split = ap (λ (l : List Entry). later ++ l) e.at.split ∙ sym (append_assoc later e.at.later (e.at.entry ∷ e.at.before));
    by = e.at.by;
  };
  answers = e.answers;
}

pub answer_shuts : (start : Start) (past later : List Entry) (c : ClientNo) (number : ℕ) (answer : Answer) (e : AnswerAt past c number answer) (b : Begun) (i : Issued) (x : IssueAt (later ++ past) c b i) → StartsSound start → FollowsProtocol start (later ++ past) → b.number ≡ number → IsShut c past i.tid
answer_shuts start past later c number answer e b i x sound run same =
    let less = issue_before_answer start (later ++ past) c b i number answer x (answer_later past later c number answer e) run same in
    let since = answered_since start (later ++ past) c b i number answer x (answer_later past later c number answer e) run less same in
    let here : IsShut c (e.at.entry ∷ e.at.before) i.tid =
    subst (λ (o : Option ClientNo). IsShut c (record { node = e.at.entry.node; client = o; what = e.at.entry.what } ∷ e.at.before) i.tid) (sym e.at.by)
    (subst (λ (w : What). IsShut c (record { node = e.at.entry.node; client = Some c; what = w } ∷ e.at.before) i.tid) (sym e.answers) (shut_here e.at.before e.at.entry.node c number answer i since.named)) in
    subst (λ (l : List Entry). IsShut c l i.tid) (sym e.at.split)
    (shut_later start (e.at.entry ∷ e.at.before) e.at.later c i.tid sound (subst (FollowsProtocol start) e.at.split (older_follows start later past run)) here)
