-- What an entry leaves as it was.
use Rattle.std.proofs.Common.{◌≡◌, ◌+◌, ◌≤◌, ◌⊎◌, inl, inr, Bool, true, false, ◌&&◌, List, [], ◌∷◌, ◌++◌, length, Option, Some, None, refl, subst, sym, ap, arith, if◌then◌else◌, Contains}
use Rattle.std.specs.List.{list_any}
use Rattle.mn_base.specs.Ids.{tid_same, node_same}
use Rattle.mn_base.specs.declared.ids.NodeNo.{NodeNo}
use Rattle.mn_base.specs.declared.ids.ClientNo.{ClientNo}
use Rattle.mn_base.specs.declared.ids.Tid.{Tid}
use Rattle.mn_base.proofs.Booleans.{left_true, or_cases, or_right, right_true}
use Rattle.mn_mini.specs.declared.record.Record.{Record}
use Rattle.mn_mini.specs.declared.request.Request.{Request}
use Rattle.mn_mini.specs.declared.request.Request.TheVariants as Ask
use Rattle.mn_mini.specs.declared.reply.NodeReply.{NodeReply}
use Rattle.mn_mini.specs.Mini.{Mini}
use Rattle.mn_mini.specs.Node.{answer, with_added}
use Rattle.mn_mini.specs.declared.part.PartItem.{PartItem}
use Rattle.mn_runs.specs.declared.entry.Entry.{Entry}
use Rattle.mn_runs.specs.declared.entry.What.{What}
use Rattle.mn_runs.specs.declared.entry.What.TheVariants.{Begin, Issue, Called, Stopped, Restarted, Abandoned, Answered}
use Rattle.mn_runs.specs.Calls.{is_by, is_try, client_entries, Issued, issue_in, issue_named, issues_of, since_begin, since_begin_after, was_told, is_abandonment, was_abandoned}
use Rattle.mn_runs.specs.Clients.{AllowsIssue, Sends}
use Rattle.mn_runs.specs.Protocol.{Start, base_at, records_of, KeepsProtocol}
use Rattle.mn_runs.proofs.Same.{tid_same-true, client_same-true}
use Rattle.mn_runs.proofs.Steps.{Grows, records_grow}
use Rattle.mn_runs.proofs.NewCalls.{new_call, call_stays}
use Rattle.mn_votes.proofs.Backing.{PartAt, ExecAt, IssuedTo, WasTried, WasExecuted, Kept}

-- Records stay

added_stays : (test : Record → Bool) (o : Option Record) (old : List Record) → list_any test old ≡ true → list_any test (with_added o old) ≡ true
added_stays test None old e = e
added_stays test (Some r) old e = or_right (test r) _ e

pub record_stays : (start : Start) (past : List Entry) (e : Entry) (k : NodeNo) (test : Record → Bool) → list_any test (records_of start past k) ≡ true → list_any test (records_of start (e ∷ past) k) ≡ true
record_stays start past e k test has = grown (records_grow start past e k)
  where
    grown : Grows (base_at start k) (records_of start past k) (records_of start (e ∷ past) k) → list_any test (records_of start (e ∷ past) k) ≡ true
    grown (inl same) = subst (λ (r : List Record). list_any test r ≡ true) (sym same) has
    grown (inr (request, is)) = subst (λ (r : List Record). list_any test r ≡ true) (sym is) (added_stays test (answer (base_at start k) (records_of start past k) request).added (records_of start past k) has)

-- Issues stay

-- where the list knows no such id, a new issue of another id changes nothing of one that it knows
issue_kept : (tid : Tid) (mini : Mini) (new : List Issued) (old : List Issued) → ((i : Issued) → Contains new i → tid_same i.tid tid ≡ false) → issue_named tid old ≡ Some mini → issue_named tid (new ++ old) ≡ Some mini
issue_kept tid mini [] old other e = e
issue_kept tid mini (i ∷ is) old other e =
    subst (λ (b : Bool). (if b then Some i.mini else issue_named tid (is ++ old)) ≡ Some mini) (sym (other i (0, omega arith, refl))) (issue_kept tid mini is old (λ j h. other j (h.0 + 1, omega (arith, h.1), later i is j h)) e)
  where
    later : (i : Issued) (is : List Issued) (j : Issued) (h : Contains is j) → Rattle.std.proofs.Common.get_or (i ∷ is) (h.0 + 1) j ≡ j
    later i is j h = rw Rattle.std.proofs.Common.add-one (h.2)

-- an entry's issue has a number above all that its client has issued
new_issue : (start : Start) (past : List Entry) (c : ClientNo) (at : Option NodeNo) (what : What) (tid : Tid) (mini : Mini) → Kept start past → KeepsProtocol start past (record { node = at; client = Some c; what = what })
    → issue_named tid (issues_of (client_entries c past)) ≡ Some mini → issue_named tid (issue_in what ++ issues_of (client_entries c past)) ≡ Some mini
new_issue start past c at (Issue t m) tid mini kept keeps is =
    elim (tid_same t tid) as (λ b. tid_same t tid ≡ b → (if b then Some m else issue_named tid (issues_of (client_entries c past))) ≡ Some mini) [
      | true ↦ λ same.
          let by : AllowsIssue c (client_entries c past) t m = keeps.by_client in
          let eq : t ≡ tid = tid_same-true t tid same in
          let low : tid.serial ≤ length (issues_of (client_entries c past)) = (kept.issued c tid mini is).1 in
          let high : t.serial ≡ length (issues_of (client_entries c past)) + 1 = by.serial in
          let both : t.serial ≡ tid.serial = ap (λ (x : Tid). x.serial) eq in
          absurd (omega arith)
      | false ↦ λ _. is
    ] refl
new_issue start past c at (Begin number op) tid mini kept keeps is = is
new_issue start past c at (Called request reply) tid mini kept keeps is = is
new_issue start past c at (Stopped request asked) tid mini kept keeps is = is
new_issue start past c at (Restarted restored) tid mini kept keeps is = is
new_issue start past c at (Abandoned t) tid mini kept keeps is = is
new_issue start past c at (Answered number answer) tid mini kept keeps is = is

by_some : (c : ClientNo) (by : Option ClientNo) (at : Option NodeNo) (what : What) → is_by c (record { node = at; client = by; what = what }) ≡ true → by ≡ Some c
by_some c None at what e = absurd cc
by_some c (Some d) at what e = ap (λ (x : ClientNo). Some x) (sym (client_same-true c d e))

-- an entry of a client, said of that client
pub as_own : (start : Start) (past : List Entry) (c : ClientNo) (e : Entry) → is_by c e ≡ true → KeepsProtocol start past e → KeepsProtocol start past (record { node = e.node; client = Some c; what = e.what })
as_own start past c e by keeps = subst (λ (o : Option ClientNo). KeepsProtocol start past (record { node = e.node; client = o; what = e.what })) (by_some c e.client e.node e.what by) keeps

pub issue_stays : (start : Start) (past : List Entry) (e : Entry) (c : ClientNo) (tid : Tid) (mini : Mini) → Kept start past → KeepsProtocol start past e
    → issue_named tid (issues_of (client_entries c past)) ≡ Some mini → issue_named tid (issues_of (client_entries c (e ∷ past))) ≡ Some mini
issue_stays start past e c tid mini kept keeps is =
    elim (is_by c e) as (λ b. is_by c e ≡ b → issue_named tid (issues_of (if b then e ∷ client_entries c past else client_entries c past)) ≡ Some mini) [
      | true ↦ λ by. new_issue start past c e.node e.what tid mini kept (as_own start past c e by keeps) is
      | false ↦ λ _. is
    ] refl

pub IssuedTo_stays : (start : Start) (past : List Entry) (e : Entry) (tid : Tid) (ps : List NodeNo) → Kept start past → KeepsProtocol start past e → IssuedTo past tid ps → IssuedTo (e ∷ past) tid ps
IssuedTo_stays start past e tid ps kept keeps (mini, is, all) = (mini, issue_stays start past e tid.client tid mini kept keeps is, all)

-- an issue of the operation under way is one of the list
current_step : (es : List Entry) (tid : Tid) (mini : Mini) (at : Option NodeNo) (by : Option ClientNo) (what : What)
    → (issue_named tid (issues_of (since_begin es)) ≡ Some mini → issue_named tid (issues_of es) ≡ Some mini)
    → issue_named tid (issues_of (since_begin_after what (record { node = at; client = by; what = what }) (since_begin es))) ≡ Some mini
    → issue_named tid (issue_in what ++ issues_of es) ≡ Some mini
current_step es tid mini at by (Issue t m) older e =
    elim (tid_same t tid) as (λ b. (if b then Some m else issue_named tid (issues_of (since_begin es))) ≡ Some mini → (if b then Some m else issue_named tid (issues_of es)) ≡ Some mini) [
      | true ↦ λ h. h
      | false ↦ older
    ] e
current_step es tid mini at by (Begin number op) older e = absurd cc
current_step es tid mini at by (Answered number answer) older e = absurd cc
current_step es tid mini at by (Called request reply) older e = older e
current_step es tid mini at by (Stopped request asked) older e = older e
current_step es tid mini at by (Restarted restored) older e = older e
current_step es tid mini at by (Abandoned t) older e = older e

pub current_issue : (es : List Entry) (tid : Tid) (mini : Mini) → issue_named tid (issues_of (since_begin es)) ≡ Some mini → issue_named tid (issues_of es) ≡ Some mini
current_issue [] tid mini e = e
current_issue (x ∷ es) tid mini e = current_step es tid mini x.node x.client x.what (current_issue es tid mini) e

-- A Prepare or Exec comes from the client of the id, before it is abandoned

-- what is known of a try that a client may send
abbrev pub MayTry : List Entry → ClientNo → Tid → Type 0
MayTry past c tid = (tid.client ≡ c) × (was_abandoned tid (client_entries c past) ≡ false) × ((mini : Mini) × (issue_named tid (issues_of (client_entries c past)) ≡ Some mini))

pub may_try : (start : Start) (past : List Entry) (c : ClientNo) (k : NodeNo) (tid : Tid) (request : Request) → Kept start past
    → is_try tid request ≡ true → Sends (client_entries c past) (Some k) request → MayTry past c tid
may_try start past c k tid (Ask.Prepare t ps part) kept e sends =
    let eq : t ≡ tid = tid_same-true t tid (elim (or_cases (tid_same t tid) false e) as (λ _. tid_same t tid ≡ true) [ inl h ↦ h | inr h ↦ absurd cc ]) in
    let is = current_issue (client_entries c past) t sends.mini sends.issued in
    subst (λ (x : Tid). MayTry past c x) eq ((kept.issued c t sends.mini is).0, sends.open_still, (sends.mini, is))
may_try start past c k tid (Ask.Exec t part) kept e sends =
    let eq : t ≡ tid = tid_same-true t tid e in
    let is = current_issue (client_entries c past) t sends.mini sends.issued in
    subst (λ (x : Tid). MayTry past c x) eq ((kept.issued c t sends.mini is).0, sends.open_still, (sends.mini, is))
may_try start past c k tid (Ask.Decide t verdict) kept e sends = absurd cc
may_try start past c k tid (Ask.Force t) kept e sends = absurd cc
may_try start past c k tid Ask.List kept e sends = absurd cc
may_try start past c k tid (Ask.Peek at length) kept e sends = absurd cc

pub true_or_false : (b : Bool) → (b ≡ true) ⊎ (b ≡ false)
true_or_false true = inl refl
true_or_false false = inr refl

-- after an id was abandoned its client is told nothing more of a try
pub try_stays_untold : (start : Start) (past : List Entry) (e : Entry) (tid : Tid) (k : NodeNo) (say : NodeReply → Bool) → Kept start past → KeepsProtocol start past e
    → was_abandoned tid (client_entries tid.client past) ≡ true → was_told (is_try tid) say k (client_entries tid.client past) ≡ false
    → was_told (is_try tid) say k (client_entries tid.client (e ∷ past)) ≡ false
try_stays_untold start past e tid k say kept keeps gone untold =
    elim (true_or_false (was_told (is_try tid) say k (client_entries tid.client (e ∷ past)))) as (λ _. was_told (is_try tid) say k (client_entries tid.client (e ∷ past)) ≡ false) [
      | inr h ↦ h
      | inl h ↦ elim (new_call start past tid.client e (λ c. node_same c.node k && (is_try tid c.request && say c.reply)) keeps h) as (λ _. was_told (is_try tid) say k (client_entries tid.client (e ∷ past)) ≡ false) [
        | inl old ↦ absurd (clash _ old untold)
        | inr (call, is, passes) ↦
            let ask : is_try tid call.request ≡ true = left_true _ _ (right_true _ _ passes) in
            absurd (clash _ gone (may_try start past tid.client call.node tid call.request kept ask is.sends).1)
      ]
    ]
  where
    clash : (b : Bool) → b ≡ true → b ≡ false → ⊥
    clash b p q = absurd cc

pub abandoned_stays : (past : List Entry) (e : Entry) (c : ClientNo) (tid : Tid) → was_abandoned tid (client_entries c past) ≡ true → was_abandoned tid (client_entries c (e ∷ past)) ≡ true
abandoned_stays past e c tid gone =
    elim (is_by c e) as (λ b. was_abandoned tid (if b then e ∷ client_entries c past else client_entries c past) ≡ true) [
      | true ↦ or_right (is_abandonment tid e.what) _ gone
      | false ↦ gone
    ]

pub WasTried_stays : (past : List Entry) (e : Entry) (tid : Tid) (k : NodeNo) → WasTried past tid k → WasTried (e ∷ past) tid k
WasTried_stays past e tid k (inl h) = inl (call_stays past tid.client e _ h)
WasTried_stays past e tid k (inr h) = inr (call_stays past tid.client e _ h)

pub WasExecuted_stays : (past : List Entry) (e : Entry) (tid : Tid) (k : NodeNo) → WasExecuted past tid k → WasExecuted (e ∷ past) tid k
WasExecuted_stays past e tid k (inl h) = inl (call_stays past tid.client e _ h)
WasExecuted_stays past e tid k (inr h) = inr (call_stays past tid.client e _ h)

pub PartAt_stays : (start : Start) (past : List Entry) (e : Entry) (tid : Tid) (k : NodeNo) (part : List PartItem) → Kept start past → KeepsProtocol start past e → PartAt past tid k part → PartAt (e ∷ past) tid k part
PartAt_stays start past e tid k part kept keeps (mini, is, rest, named, several) = (mini, issue_stays start past e tid.client tid mini kept keeps is, rest, named, several)

pub ExecAt_stays : (start : Start) (past : List Entry) (e : Entry) (tid : Tid) (k : NodeNo) (part : List PartItem) → Kept start past → KeepsProtocol start past e → ExecAt past tid k part → ExecAt (e ∷ past) tid k part
ExecAt_stays start past e tid k part kept keeps (mini, is, rest, alone) = (mini, issue_stays start past e tid.client tid mini kept keeps is, rest, alone)
