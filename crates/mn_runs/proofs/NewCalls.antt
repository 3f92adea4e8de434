-- What an entry adds to a client's list: at most one call, which the list allowed and the node's
-- records answered.
use Rattle.std.proofs.Common.{◌≡◌, ◌⊎◌, inl, inr, Bool, true, false, ◌||◌, List, [], ◌∷◌, Option, Some, None, refl, subst, sym, ap, ◌∙◌, if◌then◌else◌, Contains, ◌++◌}
use Rattle.std.specs.List.{AllByRecursion, list_any}
use Rattle.std.proofs.lemmas.List.Folds.{list_any-append}
use Rattle.std.proofs.lemmas.List.Elements.{Contains-append_cases}
use Rattle.mn_base.specs.declared.ids.NodeNo.{NodeNo}
use Rattle.mn_base.specs.declared.ids.ClientNo.{ClientNo}
use Rattle.mn_base.proofs.Booleans.{or_cases, or_right}
use Rattle.mn_mini.specs.declared.request.Request.{Request}
use Rattle.mn_mini.specs.declared.reply.NodeReply.{NodeReply}
use Rattle.mn_mini.specs.declared.reply.NodeReply.TheVariants as Say
use Rattle.mn_mini.specs.Node.{answer, with_added}
use Rattle.mn_mini.proofs.Parts.{same_self}
use Rattle.mn_runs.specs.declared.entry.Entry.{Entry}
use Rattle.mn_runs.specs.declared.entry.What.{What}
use Rattle.mn_runs.specs.declared.entry.What.TheVariants.{Begin, Issue, Called, Stopped, Restarted, Abandoned, Answered}
use Rattle.mn_runs.specs.Calls.{Call, is_by, node_entries, client_entries, call_in, calls_of}
use Rattle.mn_runs.specs.Nodes.{is_down, stopped_request, entry_adds, node_records}
use Rattle.mn_runs.specs.Clients.{Sends}
use Rattle.mn_runs.specs.Protocol.{Start, base_at, start_records, records_of, KeepsProtocol}
use Rattle.mn_runs.proofs.Same.{client_same-true}
use Rattle.std.proofs.lemmas.List.{append_assoc}
use Rattle.std.specs.Prelude.{filter, cond}

-- a node answered a call while it was up: the reply, and the record that it adds
pub record WasAnswered (start : Start) (past : List Entry) (e : Entry) (call : Call) : Type 0 where
  pub replies : call.reply ≡ (answer (base_at start call.node) (records_of start past call.node) call.request).reply
  pub records : records_of start (e ∷ past) call.node ≡ with_added (answer (base_at start call.node) (records_of start past call.node) call.request).added (records_of start past call.node)

-- a call that an entry makes
pub record IsCallOf (start : Start) (past : List Entry) (c : ClientNo) (e : Entry) (call : Call) : Type 0 where
  pub sends : Sends (client_entries c past) (Some call.node) call.request
  pub answered : (call.reply ≡ Say.Stopped) ⊎ ((call.reply ≡ Say.Down) ⊎ WasAnswered start past e call)

-- the records of the entry's own node
pub records_here : (start : Start) (past : List Entry) (k : NodeNo) (by : Option ClientNo) (what : What)
    → records_of start (record { node = Some k; client = by; what = what } ∷ past) k
    ≡ with_added (entry_adds (base_at start k) (records_of start past k) (is_down (node_entries k past)) (stopped_request (node_entries k past)) what) (records_of start past k)
records_here start past k by what =
    let e : Entry = record { node = Some k; client = by; what = what } in
    ap (λ (b : Bool). node_records (base_at start k) (start_records start k) (if b then e ∷ node_entries k past else node_entries k past)) (same_self k)

called : (start : Start) (past : List Entry) (c : ClientNo) (k : NodeNo) (request : Request) (reply : NodeReply) (down : Bool) → is_down (node_entries k past) ≡ down
    → reply ≡ (if down then Say.Down else (answer (base_at start k) (records_of start past k) request).reply)
    → let call : Call = record { node = k; request = request; reply = reply } in
    (call.reply ≡ Say.Stopped) ⊎ ((call.reply ≡ Say.Down) ⊎ WasAnswered start past (record { node = Some k; client = Some c; what = Called request reply }) call)
called start past c k request reply true is e = inr (inl e)
called start past c k request reply false is e =
    inr (inr (record {
      replies = e;
      records = records_here start past k (Some c) (Called request reply)
          ∙ ap (λ (b : Bool). with_added (if b then None else (answer (base_at start k) (records_of start past k) request).added) (records_of start past k)) is;
    }))

-- the calls of an entry are such
entry_calls : (start : Start) (past : List Entry) (c : ClientNo) (at : Option NodeNo) (what : What)
    → KeepsProtocol start past (record { node = at; client = Some c; what = what })
    → AllByRecursion (IsCallOf start past c (record { node = at; client = Some c; what = what })) (call_in at what)
entry_calls start past c None what keeps = tt
entry_calls start past c (Some k) (Begin number op) keeps = tt
entry_calls start past c (Some k) (Issue tid mini) keeps = tt
entry_calls start past c (Some k) (Called request reply) keeps = (
  record { sends = keeps.by_client; answered = called start past c k request reply (is_down (node_entries k past)) refl keeps.at_node.1 },
  tt,
)
entry_calls start past c (Some k) (Stopped None asked) keeps = tt
entry_calls start past c (Some k) (Stopped (Some request) asked) keeps = (record { sends = keeps.by_client; answered = inl refl }, tt)
entry_calls start past c (Some k) (Restarted kept) keeps = tt
entry_calls start past c (Some k) (Abandoned tid) keeps = tt
entry_calls start past c (Some k) (Answered number answer) keeps = tt

-- the entry is this client's
pub by_of : (c : ClientNo) (by : Option ClientNo) (at : Option NodeNo) (what : What) → is_by c (record { node = at; client = by; what = what }) ≡ true → by ≡ Some c
by_of c None at what e = absurd cc
by_of c (Some d) at what e = ap (λ (x : ClientNo). Some x) (sym (client_same-true c d e))

pub own_calls : (start : Start) (past : List Entry) (c : ClientNo) (e : Entry) → KeepsProtocol start past e → is_by c e ≡ true → AllByRecursion (IsCallOf start past c e) (call_in e.node e.what)
own_calls start past c e keeps by =
    let is : e.client ≡ Some c = by_of c e.client e.node e.what by in
    subst (λ (o : Option ClientNo). KeepsProtocol start past (record { node = e.node; client = o; what = e.what }) → AllByRecursion (IsCallOf start past c (record { node = e.node; client = o; what = e.what })) (call_in e.node e.what)) (sym is) (entry_calls start past c e.node e.what) keeps

-- a test that some call passes is passed by an older call, or by the entry's own
pub some_call : (P : Call → Type 0) (test : Call → Bool) (new : List Call) → AllByRecursion P new → list_any test new ≡ true → (call : Call) × P call × (test call ≡ true)
some_call P test [] all e = absurd cc
some_call P test (call ∷ calls) all e =
    elim (test call) as (λ b. test call ≡ b → (b || list_any test calls) ≡ true → (call : Call) × P call × (test call ≡ true)) [
      | true ↦ λ t _. (call, all.0, t)
      | false ↦ λ _ rest. some_call P test calls all.1 rest
    ] refl e

pub new_call : (start : Start) (past : List Entry) (c : ClientNo) (e : Entry) (test : Call → Bool) → KeepsProtocol start past e
    → list_any test (calls_of (client_entries c (e ∷ past))) ≡ true
    → (list_any test (calls_of (client_entries c past)) ≡ true) ⊎ ((call : Call) × IsCallOf start past c e call × (test call ≡ true))
new_call start past c e test keeps any =
    elim (is_by c e) as (λ b. is_by c e ≡ b → list_any test (calls_of (if b then e ∷ client_entries c past else client_entries c past)) ≡ true → (list_any test (calls_of (client_entries c past)) ≡ true) ⊎ ((call : Call) × IsCallOf start past c e call × (test call ≡ true))) [
      | true ↦ λ by t. split (or_cases (list_any test (call_in e.node e.what)) (list_any test (calls_of (client_entries c past))) (sym (list_any-append test (call_in e.node e.what) (calls_of (client_entries c past))) ∙ t)) by
      | false ↦ λ _ t. inl t
    ] refl any
  where
    split : (list_any test (call_in e.node e.what) ≡ true) ⊎ (list_any test (calls_of (client_entries c past)) ≡ true) → is_by c e ≡ true → (list_any test (calls_of (client_entries c past)) ≡ true) ⊎ ((call : Call) × IsCallOf start past c e call × (test call ≡ true))
    split (inl here) by = inr (some_call (IsCallOf start past c e) test (call_in e.node e.what) (own_calls start past c e keeps by) here)
    split (inr there) by = inl there

pub call_stays : (past : List Entry) (c : ClientNo) (e : Entry) (test : Call → Bool) → list_any test (calls_of (client_entries c past)) ≡ true → list_any test (calls_of (client_entries c (e ∷ past))) ≡ true
call_stays past c e test any =
    elim (is_by c e) as (λ b. list_any test (calls_of (if b then e ∷ client_entries c past else client_entries c past)) ≡ true) [
      | true ↦ list_any-append test (call_in e.node e.what) (calls_of (client_entries c past)) ∙ or_right _ _ any
      | false ↦ any
    ]

-- the calls of a list after an entry
pub new_member : (start : Start) (past : List Entry) (c : ClientNo) (e : Entry) (call : Call) → KeepsProtocol start past e → Contains (calls_of (client_entries c (e ∷ past))) call
    → Contains (calls_of (client_entries c past)) call ⊎ IsCallOf start past c e call
new_member start past c e call keeps has =
    elim (is_by c e) as (λ b. is_by c e ≡ b → Contains (calls_of (if b then e ∷ client_entries c past else client_entries c past)) call → Contains (calls_of (client_entries c past)) call ⊎ IsCallOf start past c e call) [
      | true ↦ λ by h. split by (Contains-append_cases (call_in e.node e.what) (calls_of (client_entries c past)) call h)
      | false ↦ λ _ h. inl h
    ] refl has
  where
    split : is_by c e ≡ true → Contains (call_in e.node e.what) call ⊎ Contains (calls_of (client_entries c past)) call → Contains (calls_of (client_entries c past)) call ⊎ IsCallOf start past c e call
    split by (inl here) = inr (Rattle.std.proofs.lemmas.List.Elements.All-contains (IsCallOf start past c e) (call_in e.node e.what) call (Rattle.std.proofs.lemmas.List.Elements.All-from_recursion (IsCallOf start past c e) (call_in e.node e.what) (own_calls start past c e keeps by)) here)
    split by (inr there) = inl there

-- Lists that are put together

pub calls_append : (xs ys : List Entry) → calls_of (xs ++ ys) ≡ calls_of xs ++ calls_of ys
calls_append [] ys = refl
calls_append (x ∷ xs) ys = ap (λ (l : List Call). call_in x.node x.what ++ l) (calls_append xs ys) ∙ sym (append_assoc (call_in x.node x.what) (calls_of xs) (calls_of ys))

-- Participants are nodes

pub filter_all : (P : NodeNo → Type 0) (test : NodeNo → Bool) (xs : List NodeNo) → AllByRecursion P xs → AllByRecursion P (filter test xs)
filter_all P test [] a = tt
filter_all P test (x ∷ xs) a = elim (test x) as (λ b. AllByRecursion P (cond b (x ∷ filter test xs) (filter test xs))) [ true ↦ (a.0, filter_all P test xs a.1) | false ↦ filter_all P test xs a.1 ]
