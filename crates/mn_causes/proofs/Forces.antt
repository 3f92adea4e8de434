-- Who forced an id; and what a client that makes no request of a recovery has decided.
use Rattle.std.proofs.Common.{◌≡◌, ℕ, ◌⊎◌, inl, inr, Bool, true, false, not, ◌&&◌, ◌||◌, List, [], ◌∷◌, ◌++◌, Option, Some, None, refl, subst, sym, ap, ◌∙◌, arith, if◌then◌else◌, Contains}
use Rattle.std.specs.List.{list_any, list_all, AllByRecursion}
use Rattle.std.proofs.lemmas.List.Folds.{list_any-append}
use Rattle.mn_base.specs.Ids.{tid_same, node_same}
use Rattle.mn_base.specs.declared.ids.NodeNo.{NodeNo}
use Rattle.mn_base.specs.declared.ids.ClientNo.{ClientNo}
use Rattle.mn_base.specs.declared.ids.Tid.{Tid}
use Rattle.mn_base.proofs.Booleans.{clash, left_true, or_cases, or_left, right_true}
use Rattle.mn_mini.specs.declared.part.PartItem.{PartItem}
use Rattle.mn_mini.specs.declared.record.Record.{Record}
use Rattle.mn_mini.specs.declared.record.Record.TheVariants.{Voted, Executed, Decided, Forced}
use Rattle.mn_mini.specs.declared.request.Request.{Request}
use Rattle.mn_mini.specs.declared.request.Request.TheVariants as Ask
use Rattle.mn_mini.specs.declared.reply.NodeReply.TheVariants as Say
use Rattle.mn_mini.specs.Mini.{Mini, participants_of, has_write}
use Rattle.mn_mini.specs.Flat.{Mismatched, part_mismatch_from}
use Rattle.mn_mini.specs.Node.{Clash, clash_of, held_parts, is_held, has_forced, has_voted, only_reply, after_compares, after_locks, tested, answer, space_of, with_added}
use Rattle.mn_mini.proofs.Parts.{same_true}
use Rattle.mn_runs.specs.declared.entry.Entry.{Entry}
use Rattle.mn_runs.specs.declared.entry.What.{What}
use Rattle.mn_runs.specs.declared.entry.What.TheVariants.{Begin, Issue, Called, Stopped, Restarted, Abandoned, Answered}
use Rattle.mn_runs.specs.Calls.{Call, call_in, calls_of, is_at, is_by, is_prepare, is_force, is_decide, is_done, is_yes, is_no, was_told, was_sent, was_abandoned, was_decided, has_yes, Lists, WasListed, issue_named, issues_of, node_entries, client_entries}
use Rattle.mn_runs.specs.Nodes.{is_down, stopped_request, stopped_request_after, entry_adds, added_by}
use Rattle.mn_runs.specs.Clients.{AllowsPrepare, AllowsDecide, Sends, is_recovery, recovers_nothing}
use Rattle.mn_runs.specs.Protocol.{Start, base_at, start_records, records_of, KeepsProtocol, FollowsProtocol}
use Rattle.mn_votes.specs.Laws.{StartsSound}
use Rattle.mn_causes.specs.Causes.{prepared_after_decide, WasForcedBy}
use Rattle.mn_runs.proofs.Same.{tid_same-true, same_request}
use Rattle.mn_runs.proofs.NewCalls.{IsCallOf, WasAnswered, own_calls, some_call, new_call, new_member, call_stays}
use Rattle.mn_votes.proofs.Unchanged.{issue_stays, current_issue, abandoned_stays}
use Rattle.mn_votes.proofs.Backing.{Kept}
use Rattle.mn_votes.proofs.Preserved.{kept_run}
use Rattle.mn_commits.proofs.Commits.Once.{at_some}
use Rattle.mn_plans.proofs.Told.{all_there}
use Rattle.mn_serial.proofs.Meaning.Over.{told_weaker}
use Rattle.mn_serial.proofs.Meaning.Positions.{is_own}
use Rattle.mn_causes.proofs.Heard.{decide_is}

-- Which request adds a Forced

tested_force : (base : List ℕ) (records : List Record) (t : Tid) (part : List PartItem) (added : Option Record) (tid : Tid) → has_forced (with_added added records) tid ≡ has_forced records tid
    → has_forced (with_added (tested base records t part added).added records) tid ≡ true
    → has_forced records tid ≡ true
tested_force base records t part added tid same has = locks (clash_of (held_parts records) t part) has
  where
    compares : (o : Option Mismatched)
        → has_forced (with_added (after_compares (space_of base records) part added o).added records) tid ≡ true → has_forced records tid ≡ true
    compares (Some at) h = h
    compares None h = sym same ∙ h

    locks : (o : Option Clash)
        → has_forced (with_added (after_locks (space_of base records) part added o).added records) tid ≡ true → has_forced records tid ≡ true
    locks (Some at) h = h
    locks None h = compares (part_mismatch_from (space_of base records) 0 part) h

-- a Force of the id, to a node that had not voted
abbrev Forces : List ℕ → List Record → Request → Tid → Type 0
Forces base records request tid = (request ≡ Ask.Force tid) × ((answer base records request).reply ≡ Say.Vote false)

added_force : (base : List ℕ) (records : List Record) (request : Request) (tid : Tid)
    → has_forced (with_added (answer base records request).added records) tid ≡ true
    → (has_forced records tid ≡ true) ⊎ Forces base records request tid
added_force base records (Ask.Prepare t ps part) tid has = inl (by (has_forced records t) has)
  where
    by : (b : Bool)
        → has_forced (with_added (if b then only_reply Say.BadForced else tested base records t part (Some (Voted t ps part))).added records) tid ≡ true → has_forced records tid ≡ true
    by true h = h
    by false h = tested_force base records t part (Some (Voted t ps part)) tid refl h
added_force base records (Ask.Exec t part) tid has = inl (tested_force base records t part (if has_write part then Some (Executed t part) else None) tid (same (has_write part)) has)
  where
    same : (b : Bool)
        → has_forced (with_added (if b then Some (Executed t part) else None) records) tid ≡ has_forced records tid
    same true = refl
    same false = refl
added_force base records (Ask.Decide t verdict) tid has = inl (by (is_held records t) has)
  where
    by : (b : Bool)
        → has_forced (with_added (if b then Some (Decided t verdict) else None) records) tid ≡ true
        → has_forced records tid ≡ true
    by true h = h
    by false h = h
added_force base records (Ask.Force t) tid has = by (has_voted records t) refl has
  where
    new : (tid_same t tid ≡ true) ⊎ (has_forced records tid ≡ true) → has_voted records t ≡ false
        → (has_forced records tid ≡ true) ⊎ Forces base records (Ask.Force t) tid
    new (inr old) e = inl old
    new (inl same) e =
        inr (
          ap (λ (x : Tid). Ask.Force x) (tid_same-true t tid same),
          ap (λ (b : Bool). (if b then only_reply (Say.Vote true) else record { reply = Say.Vote false; added = if has_forced records t then None else Some (Forced t) }).reply) e,
        )

    was : (b : Bool)
        → has_forced (with_added (if b then None else Some (Forced t)) records) tid ≡ true
        → has_voted records t ≡ false
        → (has_forced records tid ≡ true) ⊎ Forces base records (Ask.Force t) tid
    was true h e = inl h
    was false h e = new (or_cases (tid_same t tid) (has_forced records tid) h) e

    by : (b : Bool) → has_voted records t ≡ b
        → has_forced (with_added (if b then only_reply (Say.Vote true) else record { reply = Say.Vote false; added = if has_forced records t then None else Some (Forced t) }).added records) tid ≡ true
        → (has_forced records tid ≡ true) ⊎ Forces base records (Ask.Force t) tid
    by true e h = inl h
    by false e h = was (has_forced records t) h e
added_force base records Ask.List tid has = inl has
added_force base records (Ask.Peek begins size) tid has = inl has

-- Who sent it

-- some actor sent the node a Force of the id
abbrev SomeForced : List Entry → NodeNo → Tid → Type 0
SomeForced past n tid = (sender : ClientNo) × WasForcedBy past n tid sender

forced_more : (e : Entry) (past : List Entry) (n : NodeNo) (tid : Tid) → SomeForced past n tid
    → SomeForced (e ∷ past) n tid
forced_more e past n tid (sender, f) = (
  sender,
  record {
    entry = f.entry;
    later = e ∷ f.later;
    older = f.older;
    split = ap (λ (l : List Entry). e ∷ l) f.split;
    client = f.client;
    reply = f.reply;
    call = f.call;
    said = f.said;
  },
)

-- the node stopped in it
stop_here : (start : Start) (past : List Entry) (n : NodeNo) (tid : Tid) (by : Option ClientNo) (what : What) → KeepsProtocol start past (record { node = Some n; client = by; what = what })
    → stopped_request_after what (stopped_request (node_entries n past)) ≡ Some (Ask.Force tid)
    → (stopped_request (node_entries n past) ≡ Some (Ask.Force tid) → SomeForced past n tid)
    → SomeForced (record { node = Some n; client = by; what = what } ∷ past) n tid
stop_here start past n tid None (Stopped (Some request) asked) keeps is older = absurd keeps.by_client
stop_here start past n tid (Some c) (Stopped (Some request) asked) keeps is older = (
  c,
  record {
    entry = record { node = Some n; client = Some c; what = Stopped (Some request) asked };
    later = [];
    older = past;
    split = refl;
    client = refl;
    reply = Say.Stopped;
    call = ap (λ (q : Request). record { node = n; request = q; reply = Say.Stopped } ∷ []) (same_request request (Ask.Force tid) is);
    said = inr refl;
  },
)
stop_here start past n tid by (Stopped None asked) keeps is older = absurd cc
stop_here start past n tid by (Begin number op) keeps is older = forced_more _ past n tid (older is)
stop_here start past n tid by (Issue t mini) keeps is older = forced_more _ past n tid (older is)
stop_here start past n tid by (Called request reply) keeps is older = forced_more _ past n tid (older is)
stop_here start past n tid by (Restarted restored) keeps is older = forced_more _ past n tid (older is)
stop_here start past n tid by (Abandoned t) keeps is older = forced_more _ past n tid (older is)
stop_here start past n tid by (Answered number answer) keeps is older = forced_more _ past n tid (older is)

pending_force : (start : Start) (past : List Entry) (n : NodeNo) (tid : Tid)
    → FollowsProtocol start past → stopped_request (node_entries n past) ≡ Some (Ask.Force tid)
    → SomeForced past n tid
pending_force start [] n tid run is = absurd cc
pending_force start (e ∷ past) n tid run is =
    elim (is_at n e) as (λ b. is_at n e ≡ b → stopped_request (if b then e ∷ node_entries n past else node_entries n past) ≡ Some (Ask.Force tid) → SomeForced (e ∷ past) n tid) [
      | true ↦ λ at h. here (at_some n e.node e.client e.what at) h (λ f. pending_force start past n tid run.0 f)
      | false ↦ λ _ h. forced_more e past n tid (pending_force start past n tid run.0 h)
    ] refl is
  where
    here : e.node ≡ Some n
        → stopped_request_after e.what (stopped_request (node_entries n past)) ≡ Some (Ask.Force tid) → (stopped_request (node_entries n past) ≡ Some (Ask.Force tid) → SomeForced past n tid) → SomeForced (e ∷ past) n tid
    here at h older =
        subst (λ (o : Option NodeNo). SomeForced (record { node = o; client = e.client; what = e.what } ∷ past) n tid) (sym at)
        (stop_here start past n tid e.client e.what (subst (λ (o : Option NodeNo). KeepsProtocol start past (record { node = o; client = e.client; what = e.what })) at run.1) h older)

-- an entry of the node adds it
added_here : (start : Start) (past : List Entry) (n : NodeNo) (tid : Tid) (by : Option ClientNo) (what : What) → FollowsProtocol start past → KeepsProtocol start past (record { node = Some n; client = by; what = what })
    → has_forced (with_added (entry_adds (base_at start n) (records_of start past n) (is_down (node_entries n past)) (stopped_request (node_entries n past)) what) (records_of start past n)) tid ≡ true
    → (has_forced (records_of start past n) tid ≡ true)
    ⊎ SomeForced (record { node = Some n; client = by; what = what } ∷ past) n tid
added_here start past n tid None (Called request reply) run keeps has = absurd keeps.by_client
added_here start past n tid (Some c) (Called request reply) run keeps has = at (is_down (node_entries n past)) refl has keeps.at_node.1
  where
    at : (down : Bool) → is_down (node_entries n past) ≡ down
        → has_forced (with_added (if down then None else (answer (base_at start n) (records_of start past n) request).added) (records_of start past n)) tid ≡ true
        → reply ≡ (if down then Say.Down else (answer (base_at start n) (records_of start past n) request).reply)
        → (has_forced (records_of start past n) tid ≡ true)
        ⊎ SomeForced (record { node = Some n; client = Some c; what = Called request reply } ∷ past) n tid
    at true is h said = inl h
    at false is h said = new (added_force (base_at start n) (records_of start past n) request tid h)
      where
        new : (has_forced (records_of start past n) tid ≡ true)
            ⊎ Forces (base_at start n) (records_of start past n) request tid
            → (has_forced (records_of start past n) tid ≡ true)
            ⊎ SomeForced (record { node = Some n; client = Some c; what = Called request reply } ∷ past) n tid
        new (inl old) = inl old
        new (inr (asks, votes)) =
            inr (
              c,
              record {
                entry = record { node = Some n; client = Some c; what = Called request reply };
                later = [];
                older = past;
                split = refl;
                client = refl;
                reply = reply;
                call = ap (λ (q : Request). record { node = n; request = q; reply = reply } ∷ []) asks;
                said = inl (said ∙ votes);
              },
            )
added_here start past n tid by (Restarted true) run keeps has = at (stopped_request (node_entries n past)) refl has
  where
    at : (o : Option Request) → stopped_request (node_entries n past) ≡ o
        → has_forced (with_added (added_by (base_at start n) (records_of start past n) o) (records_of start past n)) tid ≡ true
        → (has_forced (records_of start past n) tid ≡ true)
        ⊎ SomeForced (record { node = Some n; client = by; what = Restarted true } ∷ past) n tid
    at None is h = inl h
    at (Some request) is h = new (added_force (base_at start n) (records_of start past n) request tid h)
      where
        new : (has_forced (records_of start past n) tid ≡ true)
            ⊎ Forces (base_at start n) (records_of start past n) request tid
            → (has_forced (records_of start past n) tid ≡ true)
            ⊎ SomeForced (record { node = Some n; client = by; what = Restarted true } ∷ past) n tid
        new (inl old) = inl old
        new (inr (asks, votes)) = inr (forced_more _ past n tid (pending_force start past n tid run (is ∙ ap (λ (q : Request). Some q) asks)))
added_here start past n tid by (Restarted false) run keeps has = inl has
added_here start past n tid by (Stopped request asked) run keeps has = inl has
added_here start past n tid by (Begin number op) run keeps has = inl has
added_here start past n tid by (Issue t mini) run keeps has = inl has
added_here start past n tid by (Abandoned t) run keeps has = inl has
added_here start past n tid by (Answered number answer) run keeps has = inl has

-- a Forced is of the start, or some actor sent it
pub forced_from : (start : Start) (past : List Entry) (n : NodeNo) (tid : Tid)
    → FollowsProtocol start past → has_forced (records_of start past n) tid ≡ true
    → (has_forced (start_records start n) tid ≡ true) ⊎ SomeForced past n tid
forced_from start [] n tid run has = inl has
forced_from start (e ∷ past) n tid run has =
    elim (is_at n e) as (λ b. is_at n e ≡ b → has_forced (Rattle.mn_runs.specs.Nodes.node_records (base_at start n) (start_records start n) (if b then e ∷ node_entries n past else node_entries n past)) tid ≡ true
    → (has_forced (start_records start n) tid ≡ true) ⊎ SomeForced (e ∷ past) n tid) [
      | true ↦ λ at h. here (at_some n e.node e.client e.what at) h (λ f. forced_from start past n tid run.0 f)
      | false ↦ λ _ h. on (forced_from start past n tid run.0 h)
    ] refl has
  where
    on : (has_forced (start_records start n) tid ≡ true) ⊎ SomeForced past n tid
        → (has_forced (start_records start n) tid ≡ true) ⊎ SomeForced (e ∷ past) n tid
    on (inl old) = inl old
    on (inr f) = inr (forced_more e past n tid f)

    new : (has_forced (records_of start past n) tid ≡ true) ⊎ SomeForced (e ∷ past) n tid
        → (has_forced (records_of start past n) tid ≡ true → (has_forced (start_records start n) tid ≡ true) ⊎ SomeForced past n tid)
        → (has_forced (start_records start n) tid ≡ true) ⊎ SomeForced (e ∷ past) n tid
    new (inl old) older = on (older old)
    new (inr f) older = inr f

    here : e.node ≡ Some n
        → has_forced (with_added (entry_adds (base_at start n) (records_of start past n) (is_down (node_entries n past)) (stopped_request (node_entries n past)) e.what) (records_of start past n)) tid ≡ true
        → (has_forced (records_of start past n) tid ≡ true → (has_forced (start_records start n) tid ≡ true) ⊎ SomeForced past n tid) → (has_forced (start_records start n) tid ≡ true) ⊎ SomeForced (e ∷ past) n tid
    here at h older =
        new
        (subst (λ (o : Option NodeNo). (has_forced (records_of start past n) tid ≡ true) ⊎ SomeForced (record { node = o; client = e.client; what = e.what } ∷ past) n tid) (sym at)
        (added_here start past n tid e.client e.what run.0 (subst (λ (o : Option NodeNo). KeepsProtocol start past (record { node = o; client = e.client; what = e.what })) at run.1) h)) older

-- A client that makes no request of a recovery

abbrev NoneAsked : List Call → Type 0
NoneAsked calls = list_all (λ (call : Call). not (is_recovery call.request)) calls ≡ true

none_such : (f : Call → Bool) → ((call : Call) → f call ≡ true → is_recovery call.request ≡ true)
    → (cs : List Call) → NoneAsked cs → list_any f cs ≡ true → ⊥
none_such f such [] none any = absurd cc
none_such f such (c ∷ cs) none any = by (or_cases (f c) (list_any f cs) any) (λ there. none_such f such cs (right_true (not (is_recovery c.request)) _ none) there)
  where
    not_true : (b : Bool) → not b ≡ true → b ≡ true → ⊥
    not_true true e h = absurd cc
    not_true false e h = absurd cc

    by : (f c ≡ true) ⊎ (list_any f cs ≡ true) → (list_any f cs ≡ true → ⊥) → ⊥
    by (inl here) rest = not_true (is_recovery c.request) (left_true (not (is_recovery c.request)) _ none) (such c here)
    by (inr there) rest = rest there

none_older : (new old : List Call) → NoneAsked (new ++ old) → NoneAsked old
none_older [] old none = none
none_older (c ∷ new) old none = none_older new old (right_true (not (is_recovery c.request)) _ none)

none_before : (c : ClientNo) (e : Entry) (past : List Entry)
    → NoneAsked (calls_of (client_entries c (e ∷ past)))
    → NoneAsked (calls_of (client_entries c past))
none_before c e past none =
    elim (is_by c e) as (λ b. NoneAsked (calls_of (if b then e ∷ client_entries c past else client_entries c past)) → NoneAsked (calls_of (client_entries c past))) [
      | true ↦ λ h. none_older (call_in e.node e.what) (calls_of (client_entries c past)) h
      | false ↦ λ h. h
    ] none

pub recovers_before : (c : ClientNo) (later before : List Entry)
    → recovers_nothing (client_entries c (later ++ before)) ≡ true
    → recovers_nothing (client_entries c before) ≡ true
recovers_before c [] before none = none
recovers_before c (e ∷ later) before none = recovers_before c later before (none_before c e (later ++ before) none)

force_asks : (tid : Tid) (request : Request) → is_force tid request ≡ true
    → is_recovery request ≡ true
force_asks tid (Ask.Force t) e = refl
force_asks tid (Ask.Prepare t ps part) e = absurd cc
force_asks tid (Ask.Exec t part) e = absurd cc
force_asks tid (Ask.Decide t verdict) e = absurd cc
force_asks tid Ask.List e = absurd cc
force_asks tid (Ask.Peek begins size) e = absurd cc

-- what lists an id is the answer to a List

tested_lists : (base : List ℕ) (records : List Record) (t : Tid) (part : List PartItem) (added : Option Record) (tid : Tid) (ps : List NodeNo) → Lists tid ps (tested base records t part added).reply → ⊥
tested_lists base records t part added tid ps is = locks (clash_of (held_parts records) t part) is
  where
    compares : (o : Option Mismatched)
        → Lists tid ps (after_compares (space_of base records) part added o).reply → ⊥
    compares (Some at) h = h
    compares None h = h

    locks : (o : Option Clash)
        → Lists tid ps (after_locks (space_of base records) part added o).reply → ⊥
    locks (Some at) h = h
    locks None h = compares (part_mismatch_from (space_of base records) 0 part) h

answer_lists : (base : List ℕ) (records : List Record) (request : Request) (tid : Tid) (ps : List NodeNo) → Lists tid ps (answer base records request).reply → is_recovery request ≡ true
answer_lists base records (Ask.Prepare t qs part) tid ps is = absurd (by (has_forced records t) is)
  where
    by : (b : Bool)
        → Lists tid ps (if b then only_reply Say.BadForced else tested base records t part (Some (Voted t qs part))).reply → ⊥
    by true h = h
    by false h = tested_lists base records t part (Some (Voted t qs part)) tid ps h
answer_lists base records (Ask.Exec t part) tid ps is = absurd (tested_lists base records t part (if has_write part then Some (Executed t part) else None) tid ps is)
answer_lists base records (Ask.Decide t verdict) tid ps is = absurd is
answer_lists base records (Ask.Force t) tid ps is = refl
answer_lists base records Ask.List tid ps is = refl
answer_lists base records (Ask.Peek begins size) tid ps is = absurd is

lists_asks : (start : Start) (past : List Entry) (c : ClientNo) (call : Call) (tid : Tid) (ps : List NodeNo) → FollowsProtocol start past → Contains (calls_of (client_entries c past)) call → Lists tid ps call.reply → is_recovery call.request ≡ true
lists_asks start [] c call tid ps run (k, in', is) lists = absurd (omega arith)
lists_asks start (e ∷ past) c call tid ps run has lists = by (new_member start past c e call run.1 has) (λ old. lists_asks start past c call tid ps run.0 old lists)
  where
    said : (call.reply ≡ Say.Stopped) ⊎ ((call.reply ≡ Say.Down) ⊎ WasAnswered start past e call)
        → is_recovery call.request ≡ true
    said (inl stopped) = absurd (subst (Lists tid ps) stopped lists)
    said (inr (inl down)) = absurd (subst (Lists tid ps) down lists)
    said (inr (inr a)) = answer_lists (base_at start call.node) (records_of start past call.node) call.request tid ps (subst (Lists tid ps) a.replies lists)

    by : Contains (calls_of (client_entries c past)) call ⊎ IsCallOf start past c e call
        → (Contains (calls_of (client_entries c past)) call → is_recovery call.request ≡ true)
        → is_recovery call.request ≡ true
    by (inl old) older = older old
    by (inr new) older = said new.answered

unlisted : (start : Start) (past : List Entry) (c : ClientNo) (tid : Tid) (ps : List NodeNo)
    → FollowsProtocol start past → NoneAsked (calls_of (client_entries c past))
    → WasListed tid ps (client_entries c past) → ⊥
unlisted start past c tid ps run none (call, has, lists) = at (calls_of (client_entries c past)) none has
  where
    not_true : (b : Bool) → not b ≡ true → b ≡ true → ⊥
    not_true true e h = absurd cc
    not_true false e h = absurd cc

    all : (cs : List Call) → NoneAsked cs
        → AllByRecursion (λ (d : Call). not (is_recovery d.request) ≡ true) cs
    all [] h = tt
    all (d ∷ cs) h = (left_true (not (is_recovery d.request)) _ h, all cs (right_true (not (is_recovery d.request)) _ h))

    at : (cs : List Call) → NoneAsked cs → Contains cs call → ⊥
    at cs h there =
        not_true (is_recovery call.request) (all_there (λ (d : Call). not (is_recovery d.request) ≡ true) cs call (all cs h) there) (lists_asks start past c call tid ps run has lists)

-- What it decided

-- the client has abandoned the id, or each participant of its issue was done
abbrev Backed : List Entry → Tid → Type 0
Backed es t =
    (was_abandoned t es ≡ true)
    ⊎ ((mini : Mini) × (issue_named t (issues_of es) ≡ Some mini) × AllByRecursion (λ (k : NodeNo). was_told (is_prepare t) is_done k es ≡ true) (participants_of mini))

all_done_by : (es : List Entry) (t : Tid) (ps : List NodeNo) → NoneAsked (calls_of es)
    → AllByRecursion (λ (k : NodeNo). has_yes t k es ≡ true) ps
    → AllByRecursion (λ (k : NodeNo). was_told (is_prepare t) is_done k es ≡ true) ps
all_done_by es t [] none all = tt
all_done_by es t (k ∷ ps) none all = (by (or_cases (was_told (is_prepare t) is_done k es) (was_told (is_force t) is_yes k es) all.0), all_done_by es t ps none all.1)
  where
    by : (was_told (is_prepare t) is_done k es ≡ true) ⊎ (was_told (is_force t) is_yes k es ≡ true)
        → was_told (is_prepare t) is_done k es ≡ true
    by (inl h) = h
    by (inr h) =
        absurd (none_such (λ (c : Call). node_same c.node k && (is_force t c.request && is_yes c.reply)) (λ c e. force_asks t c.request (left_true (is_force t c.request) _ (right_true (node_same c.node k) _ e))) (calls_of es) none h)

backed_now : (start : Start) (past : List Entry) (c : ClientNo) (t : Tid) (verdict : Bool)
    → FollowsProtocol start past → NoneAsked (calls_of (client_entries c past))
    → AllowsDecide (client_entries c past) t verdict → Backed (client_entries c past) t
backed_now start past c t true run none (ps, inl (mini, issued, is), all) =
    inr (mini, issued, subst (AllByRecursion (λ (k : NodeNo). was_told (is_prepare t) is_done k (client_entries c past) ≡ true)) is (all_done_by (client_entries c past) t ps none all))
backed_now start past c t true run none (ps, inr listed, all) = absurd (unlisted start past c t ps run none listed)
backed_now start past c t false run none decides = by (or_cases (was_abandoned t (client_entries c past)) _ decides)
  where
    by : (was_abandoned t (client_entries c past) ≡ true)
        ⊎ (list_any (λ (d : Call). is_force t d.request && is_no d.reply) (calls_of (client_entries c past)) ≡ true) → Backed (client_entries c past) t
    by (inl gone) = inl gone
    by (inr forced) = absurd (none_such (λ (d : Call). is_force t d.request && is_no d.reply) (λ d e. force_asks t d.request (left_true (is_force t d.request) _ e)) (calls_of (client_entries c past)) none forced)

backed_on : (start : Start) (past : List Entry) (e : Entry) (c : ClientNo) (t : Tid)
    → Kept start past → KeepsProtocol start past e → Backed (client_entries c past) t
    → Backed (client_entries c (e ∷ past)) t
backed_on start past e c t kept keeps (inl gone) = inl (abandoned_stays past e c t gone)
backed_on start past e c t kept keeps (inr (mini, issued, all)) = inr (mini, issue_stays start past e c t mini kept keeps issued, done (participants_of mini) all)
  where
    done : (ps : List NodeNo)
        → AllByRecursion (λ (k : NodeNo). was_told (is_prepare t) is_done k (client_entries c past) ≡ true) ps → AllByRecursion (λ (k : NodeNo). was_told (is_prepare t) is_done k (client_entries c (e ∷ past)) ≡ true) ps
    done [] h = tt
    done (k ∷ ps) h = (call_stays past c e (λ (d : Call). node_same d.node k && (is_prepare t d.request && is_done d.reply)) h.0, done ps h.1)

backed : (start : Start) (past : List Entry) (c : ClientNo) (t : Tid) (n : NodeNo)
    → StartsSound start → FollowsProtocol start past → NoneAsked (calls_of (client_entries c past))
    → was_decided t n (client_entries c past) ≡ true → Backed (client_entries c past) t
backed start [] c t n sound run none told = absurd cc
backed start (e ∷ past) c t n sound run none told =
    backed_on start past e c t (kept_run start past sound run.0) run.1
    (by (new_call start past c e (λ (d : Call). node_same d.node n && (is_decide t d.request && true)) run.1 told) (λ old. backed start past c t n sound run.0 (none_before c e past none) old))
  where
    by : (list_any (λ (d : Call). node_same d.node n && (is_decide t d.request && true)) (calls_of (client_entries c past)) ≡ true)
        ⊎ ((call : Call) × IsCallOf start past c e call × ((node_same call.node n && (is_decide t call.request && true)) ≡ true))
        → (was_decided t n (client_entries c past) ≡ true → Backed (client_entries c past) t)
        → Backed (client_entries c past) t
    by (inl old) older = older old
    by (inr (call, is, passes)) older =
        let ask = decide_is t call.request (left_true (is_decide t call.request) true (right_true (node_same call.node n) _ passes)) in
        let sends : Sends (client_entries c past) (Some call.node) (Ask.Decide t ask.0) = subst (λ (q : Request). Sends (client_entries c past) (Some call.node) q) ask.1 is.sends in
        backed_now start past c t ask.0 run.0 (none_before c e past none) sends.1

pub prepare_is : (t : Tid) (request : Request) → is_prepare t request ≡ true
    → (ps : List NodeNo) × (part : List PartItem) × (request ≡ Ask.Prepare t ps part)
prepare_is t (Ask.Prepare u ps part) e = (ps, part, ap (λ (x : Tid). Ask.Prepare x ps part) (tid_same-true u t e))
prepare_is t (Ask.Exec u part) e = absurd cc
prepare_is t (Ask.Decide u verdict) e = absurd cc
prepare_is t (Ask.Force u) e = absurd cc
prepare_is t Ask.List e = absurd cc
prepare_is t (Ask.Peek begins size) e = absurd cc

-- after a Decide of an id it sends no Prepare of it there
late_none : (start : Start) (past : List Entry) (c : ClientNo) (t : Tid) (n : NodeNo) (ps : List NodeNo) (part : List PartItem) → StartsSound start → FollowsProtocol start past → NoneAsked (calls_of (client_entries c past))
    → was_decided t n (client_entries c past) ≡ true
    → AllowsPrepare (client_entries c past) n t ps part → ⊥
late_none start past c t n ps part sound run none decided a = by (backed start past c t n sound run none decided)
  where
    same_mini : (x y : Mini) → Some x ≡ Some y → x ≡ y
    same_mini x y e = cc

    sent : was_told (is_prepare t) is_done n (client_entries c past) ≡ true
        → was_sent t n (client_entries c past) ≡ true
    sent told =
        told_weaker (λ (d : Call). node_same d.node n && (is_prepare t d.request && is_done d.reply)) (λ (d : Call). node_same d.node n && ((is_prepare t d.request || Rattle.mn_runs.specs.Calls.is_exec t d.request) && true))
        (λ d e. one (node_same d.node n) (is_prepare t d.request) (Rattle.mn_runs.specs.Calls.is_exec t d.request) (is_done d.reply) e) (calls_of (client_entries c past)) told
      where
        one : (x p q s : Bool) → (x && (p && s)) ≡ true → (x && ((p || q) && true)) ≡ true
        one true true q s e = refl
        one true false q s e = absurd cc
        one false p q s e = absurd cc

    by : Backed (client_entries c past) t → ⊥
    by (inl gone) = clash (was_abandoned t (client_entries c past)) gone a.open_still
    by (inr (mini, issued, all)) =
        let same : a.mini ≡ mini = same_mini a.mini mini (sym (current_issue (client_entries c past) t a.mini a.issued) ∙ issued) in
        let named : Contains (participants_of mini) n = subst (λ (m : Mini). Contains (participants_of m) n) same (subst (λ (l : List NodeNo). Contains l n) a.all a.named) in
        clash (was_sent t n (client_entries c past)) (sent (all_there (λ (k : NodeNo). was_told (is_prepare t) is_done k (client_entries c past) ≡ true) (participants_of mini) n all named)) a.once

pub early_none : (start : Start) (past : List Entry) (t : Tid) (n : NodeNo) → StartsSound start
    → FollowsProtocol start past → recovers_nothing (client_entries t.client past) ≡ true
    → prepared_after_decide t n (client_entries t.client past) ≡ false
early_none start [] t n sound run none = refl
early_none start (e ∷ past) t n sound run none = by_client (early_none start past t n sound run.0 (none_before t.client e past none))
  where
    never : is_by t.client e ≡ true
        → list_any (λ (c : Call). node_same c.node n && is_prepare t c.request) (call_in e.node e.what) ≡ true → was_decided t n (client_entries t.client past) ≡ true → ⊥
    never by any decided =
        let s = some_call (IsCallOf start past t.client e) (λ (c : Call). node_same c.node n && is_prepare t c.request) (call_in e.node e.what) (own_calls start past t.client e run.1 by) any in
        let ask = prepare_is t s.0.request (right_true (node_same s.0.node n) _ s.2) in
        let node : s.0.node ≡ n = same_true s.0.node n (left_true (node_same s.0.node n) _ s.2) in
        let sends : AllowsPrepare (client_entries t.client past) s.0.node t ask.0 ask.1 = subst (λ (q : Request). Sends (client_entries t.client past) (Some s.0.node) q) ask.2 s.1.sends in
        late_none start past t.client t n ask.0 ask.1 sound run.0 (none_before t.client e past none) decided (subst (λ (k : NodeNo). AllowsPrepare (client_entries t.client past) k t ask.0 ask.1) node sends)

    both : (a b : Bool)
        → list_any (λ (c : Call). node_same c.node n && is_prepare t c.request) (call_in e.node e.what) ≡ a → was_decided t n (client_entries t.client past) ≡ b → is_by t.client e ≡ true
        → prepared_after_decide t n (client_entries t.client past) ≡ false
        → ((list_any (λ (c : Call). node_same c.node n && is_prepare t c.request) (call_in e.node e.what) && was_decided t n (client_entries t.client past)) || prepared_after_decide t n (client_entries t.client past)) ≡ false
    both true true p q by older = absurd (never by p q)
    both true false p q by older = (λ i. (p i && q i) || older i)
    both false b p q by older = (λ i. (p i && was_decided t n (client_entries t.client past)) || older i)

    by_client : prepared_after_decide t n (client_entries t.client past) ≡ false
        → prepared_after_decide t n (client_entries t.client (e ∷ past)) ≡ false
    by_client older =
        elim (is_by t.client e) as (λ b. is_by t.client e ≡ b → prepared_after_decide t n (if b then e ∷ client_entries t.client past else client_entries t.client past) ≡ false) [
          | true ↦ λ by. both (list_any (λ (c : Call). node_same c.node n && is_prepare t c.request) (call_in e.node e.what)) (was_decided t n (client_entries t.client past)) refl refl by older
          | false ↦ λ _. older
        ] refl

-- what it sent stands in its list
pub call_there : (past later : List Entry) (e : Entry) (older : List Entry) (c : ClientNo) (f : Call → Bool) → past ≡ later ++ e ∷ older → e.client ≡ Some c → list_any f (call_in e.node e.what) ≡ true → list_any f (calls_of (client_entries c past)) ≡ true
call_there past later e older c f split by any = subst (λ (l : List Entry). list_any f (calls_of (client_entries c l)) ≡ true) (sym split) (on later)
  where
    on : (l : List Entry) → list_any f (calls_of (client_entries c (l ++ e ∷ older))) ≡ true
    on [] =
        ap (λ (b : Bool). list_any f (calls_of (if b then e ∷ client_entries c older else client_entries c older))) (is_own c e by)
        ∙ (list_any-append f (call_in e.node e.what) (calls_of (client_entries c older)) ∙ or_left _ _ any)
    on (x ∷ l) = call_stays (l ++ e ∷ older) c x f (on l)

pub sends_none : (past : List Entry) (c : ClientNo) (tid : Tid)
    → recovers_nothing (client_entries c past) ≡ true
    → list_any (λ (d : Call). is_force tid d.request) (calls_of (client_entries c past)) ≡ true → ⊥
sends_none past c tid none any = none_such (λ (d : Call). is_force tid d.request) (λ d e. force_asks tid d.request e) (calls_of (client_entries c past)) none any
