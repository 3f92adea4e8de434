-- Where the records of an entry come from, and that what is lost stays lost.
use Rattle.std.proofs.Common.{◌≡◌, ℕ, ◌⊎◌, inl, inr, Bool, true, false, ◌&&◌, ◌||◌, List, ◌∷◌, length, Option, Some, None, refl, subst, sym, ap, if◌then◌else◌}
use Rattle.std.specs.Bool.{⊤}
use Rattle.mn_base.specs.Ids.{tid_same, node_same}
use Rattle.mn_base.specs.declared.ids.NodeNo.{NodeNo}
use Rattle.mn_base.specs.declared.ids.ClientNo.{ClientNo}
use Rattle.mn_base.specs.declared.ids.Tid.{Tid}
use Rattle.mn_base.proofs.Lists.{weaker}
use Rattle.mn_base.proofs.Booleans.{clash}
use Rattle.mn_mini.specs.declared.record.Record.{Record}
use Rattle.mn_mini.specs.declared.record.Record.TheVariants.{Voted, Executed, Decided, Forced}
use Rattle.mn_mini.specs.declared.request.Request.{Request}
use Rattle.mn_mini.specs.declared.request.Request.TheVariants as Ask
use Rattle.mn_mini.specs.declared.reply.NodeReply.{NodeReply}
use Rattle.mn_mini.specs.declared.reply.NodeReply.TheVariants as Say
use Rattle.mn_mini.specs.declared.part.PartItem.{PartItem}
use Rattle.mn_mini.specs.Mini.{has_write}
use Rattle.mn_mini.specs.Flat.{part_mismatch_from}
use Rattle.mn_mini.specs.Node.{Clash, held_parts, is_held, clash_of, has_voted, has_forced, is_vote_of, is_force_of, only_reply, after_locks, after_compares, tested, space_of, answer, with_added}
use Rattle.mn_mini.proofs.Parts.{same_self, same_true}
use Rattle.mn_runs.specs.declared.entry.Entry.{Entry}
use Rattle.mn_runs.specs.declared.entry.What.{What}
use Rattle.mn_runs.specs.declared.entry.What.TheVariants.{Begin, Issue, Called, Stopped, Restarted, Abandoned, Answered}
use Rattle.mn_runs.specs.Calls.{is_at, is_try, is_done, is_stopped, node_entries, client_entries, was_told, was_abandoned}
use Rattle.mn_runs.specs.Nodes.{is_down, stopped_request, added_by, entry_adds, node_records}
use Rattle.mn_runs.specs.Clients.{Sends}
use Rattle.mn_runs.specs.Protocol.{Start, base_at, start_records, records_of, KeepsProtocol}
use Rattle.mn_runs.proofs.Same.{tid_same-true, client_same-refl}
use Rattle.mn_votes.proofs.Unchanged.{PartAt_stays, ExecAt_stays, record_stays, IssuedTo_stays, may_try, try_stays_untold, abandoned_stays, WasTried_stays, WasExecuted_stays}
use Rattle.mn_votes.proofs.Backing.{MayList, WasTried, IsStuck, IsLostAt, IsLost, AllVoted, RequestSound, RecordSound, Kept}

-- a call that the entry's client was allowed, and was told the node's answer of
pub record FromCall (start : Start) (past : List Entry) (e : Entry) (k : NodeNo) (request : Request) : Type 0 where
  pub c : ClientNo
  pub sends : Sends (client_entries c past) (Some k) request
  pub told : (ask : Request → Bool) (say : NodeReply → Bool) → ask request ≡ true → say (answer (base_at start k) (records_of start past k) request).reply ≡ true
      → was_told ask say k (client_entries c (e ∷ past)) ≡ true

-- the node is down, and stopped inside this request
abbrev pub IsPending : List Entry → NodeNo → Request → Type 0
IsPending past k request = (stopped_request (node_entries k past) ≡ Some request) × (is_down (node_entries k past) ≡ true)

-- the node's records stay, or a request adds its record: one that was called, or the one that the
-- node stopped inside
abbrev pub NodeCase : Start → List Entry → Entry → NodeNo → List Record → Type 0
NodeCase start past e k new =
    (new ≡ records_of start past k)
    ⊎ ((request : Request) × (new ≡ with_added (answer (base_at start k) (records_of start past k) request).added (records_of start past k))
    × (FromCall start past e k request ⊎ IsPending past k request))

pub told_here : (start : Start) (past : List Entry) (c : ClientNo) (k : NodeNo) (request : Request) (reply : NodeReply) (ask : Request → Bool) (say : NodeReply → Bool) → ask request ≡ true → say reply ≡ true
    → was_told ask say k (client_entries c (record { node = Some k; client = Some c; what = Called request reply } ∷ past)) ≡ true
told_here start past c k request reply ask say asked said =
    let e : Entry = record { node = Some k; client = Some c; what = Called request reply } in
    let test : (node_same k k && (ask request && say reply)) ≡ true = let n = same_self k in cc in
    subst (λ (b : Bool). was_told ask say k (if b then e ∷ client_entries c past else client_entries c past) ≡ true) (sym (client_same-refl c)) (ap (λ (b : Bool). b || was_told ask say k (client_entries c past)) test)

called_case : (start : Start) (past : List Entry) (by : Option ClientNo) (k : NodeNo) (request : Request) (reply : NodeReply)
    → KeepsProtocol start past (record { node = Some k; client = by; what = Called request reply }) → (down : Bool) → is_down (node_entries k past) ≡ down
    → NodeCase start past (record { node = Some k; client = by; what = Called request reply }) k (with_added (if down then None else (answer (base_at start k) (records_of start past k) request).added) (records_of start past k))
called_case start past None k request reply keeps down is = absurd keeps.by_client
called_case start past (Some c) k request reply keeps true is = inl refl
called_case start past (Some c) k request reply keeps false is =
    let same : reply ≡ (answer (base_at start k) (records_of start past k) request).reply =
    subst (λ (b : Bool). reply ≡ (if b then Say.Down else (answer (base_at start k) (records_of start past k) request).reply)) is keeps.at_node.1 in
    inr (
      request,
      refl,
      inl (record {
        c = c;
        sends = keeps.by_client;
        told = λ ask say asked said. told_here start past c k request reply ask say asked (subst (λ (r : NodeReply). say r ≡ true) (sym same) said);
      }),
    )

restart_case : (start : Start) (past : List Entry) (by : Option ClientNo) (k : NodeNo) (stopped : Option Request) → stopped_request (node_entries k past) ≡ stopped → is_down (node_entries k past) ≡ true
    → NodeCase start past (record { node = Some k; client = by; what = Restarted true }) k (with_added (added_by (base_at start k) (records_of start past k) stopped) (records_of start past k))
restart_case start past by k None is down = inl refl
restart_case start past by k (Some request) is down = inr (request, refl, inr (is, down))

here_case : (start : Start) (past : List Entry) (by : Option ClientNo) (k : NodeNo) (what : What) → KeepsProtocol start past (record { node = Some k; client = by; what = what })
    → NodeCase start past (record { node = Some k; client = by; what = what }) k (with_added (entry_adds (base_at start k) (records_of start past k) (is_down (node_entries k past)) (stopped_request (node_entries k past)) what) (records_of start past k))
here_case start past by k (Called request reply) keeps = called_case start past by k request reply keeps (is_down (node_entries k past)) refl
here_case start past by k (Restarted true) keeps = restart_case start past by k (stopped_request (node_entries k past)) refl keeps.at_node.1.0
here_case start past by k (Restarted false) keeps = inl refl
here_case start past by k (Stopped request asked) keeps = inl refl
here_case start past by k (Begin number op) keeps = inl refl
here_case start past by k (Issue tid mini) keeps = inl refl
here_case start past by k (Abandoned tid) keeps = inl refl
here_case start past by k (Answered number answer) keeps = inl refl

at_some : (k : NodeNo) (at : Option NodeNo) (by : Option ClientNo) (what : What) → is_at k (record { node = at; client = by; what = what }) ≡ true → at ≡ Some k
at_some k None by what e = absurd cc
at_some k (Some n) by what e = ap (λ (x : NodeNo). Some x) (sym (same_true k n e))

pub node_case : (start : Start) (past : List Entry) (e : Entry) (k : NodeNo) → KeepsProtocol start past e → NodeCase start past e k (records_of start (e ∷ past) k)
node_case start past e k keeps =
    elim (is_at k e) as (λ b. is_at k e ≡ b → NodeCase start past e k (node_records (base_at start k) (start_records start k) (if b then e ∷ node_entries k past else node_entries k past))) [
      | true ↦ λ at.
          subst (λ (o : Option NodeNo). KeepsProtocol start past (record { node = o; client = e.client; what = e.what }) → NodeCase start past (record { node = o; client = e.client; what = e.what }) k (with_added (entry_adds (base_at start k) (records_of start past k) (is_down (node_entries k past)) (stopped_request (node_entries k past)) e.what) (records_of start past k)))
          (sym (at_some k e.node e.client e.what at)) (here_case start past e.client k e.what) keeps
      | false ↦ λ _. inl refl
    ] refl

-- What a request adds

-- a record that is added, with the request that adds it
abbrev pub AddedAs : List Record → Request → NodeReply → Option Record → Type 0
AddedAs old request reply None = ⊤
AddedAs old request reply (Some (Voted tid ps part)) = (request ≡ Ask.Prepare tid ps part) × (has_forced old tid ≡ false) × (is_done reply ≡ true)
AddedAs old request reply (Some (Executed tid part)) = (request ≡ Ask.Exec tid part) × (is_done reply ≡ true)
AddedAs old request reply (Some (Decided tid verdict)) = request ≡ Ask.Decide tid verdict
AddedAs old request reply (Some (Forced tid)) = (request ≡ Ask.Force tid) × (has_voted old tid ≡ false) × (has_forced old tid ≡ false)

prepare_adds : (base : List ℕ) (old : List Record) (tid : Tid) (ps : List NodeNo) (part : List PartItem) → has_forced old tid ≡ false → (clash : Option Clash)
    → AddedAs old (Ask.Prepare tid ps part) (after_locks (space_of base old) part (Some (Voted tid ps part)) clash).reply (after_locks (space_of base old) part (Some (Voted tid ps part)) clash).added
prepare_adds base old tid ps part free (Some clash) = tt
prepare_adds base old tid ps part free None =
    elim (part_mismatch_from (space_of base old) 0 part) as (λ o. AddedAs old (Ask.Prepare tid ps part) (after_compares (space_of base old) part (Some (Voted tid ps part)) o).reply (after_compares (space_of base old) part (Some (Voted tid ps part)) o).added) [
      | Some at ↦ tt
      | None ↦ (refl, free, refl)
    ]

exec_adds : (base : List ℕ) (old : List Record) (tid : Tid) (part : List PartItem) (writes : Bool) (clash : Option Clash)
    → AddedAs old (Ask.Exec tid part) (after_locks (space_of base old) part (if writes then Some (Executed tid part) else None) clash).reply (after_locks (space_of base old) part (if writes then Some (Executed tid part) else None) clash).added
exec_adds base old tid part writes (Some clash) = tt
exec_adds base old tid part writes None =
    elim (part_mismatch_from (space_of base old) 0 part) as (λ o. AddedAs old (Ask.Exec tid part) (after_compares (space_of base old) part (if writes then Some (Executed tid part) else None) o).reply (after_compares (space_of base old) part (if writes then Some (Executed tid part) else None) o).added) [
      | Some at ↦ tt
      | None ↦ elim writes as (λ w. AddedAs old (Ask.Exec tid part) (Say.Done (Rattle.mn_mini.specs.Flat.part_reads (space_of base old) part)) (if w then Some (Executed tid part) else None)) [ true ↦ (refl, refl) | false ↦ tt ]
    ]

pub answer_adds : (base : List ℕ) (old : List Record) (request : Request) → AddedAs old request (answer base old request).reply (answer base old request).added
answer_adds base old (Ask.Prepare tid ps part) =
    elim (has_forced old tid) as (λ b. has_forced old tid ≡ b → AddedAs old (Ask.Prepare tid ps part) (if b then only_reply Say.BadForced else tested base old tid part (Some (Voted tid ps part))).reply (if b then only_reply Say.BadForced else tested base old tid part (Some (Voted tid ps part))).added) [
      | true ↦ λ _. tt
      | false ↦ λ free. prepare_adds base old tid ps part free (clash_of (held_parts old) tid part)
    ] refl
answer_adds base old (Ask.Exec tid part) = exec_adds base old tid part (has_write part) (clash_of (held_parts old) tid part)
answer_adds base old (Ask.Decide tid verdict) = elim (is_held old tid) as (λ b. AddedAs old (Ask.Decide tid verdict) Say.Decided (if b then Some (Decided tid verdict) else None)) [ true ↦ refl | false ↦ tt ]
answer_adds base old (Ask.Force tid) = forced (has_voted old tid) (has_forced old tid) refl refl
  where
    forced : (voted been : Bool) → has_voted old tid ≡ voted → has_forced old tid ≡ been → AddedAs old (Ask.Force tid) (if voted then only_reply (Say.Vote true) else record { reply = Say.Vote false; added = if been then None else Some (Forced tid) }).reply (if voted then only_reply (Say.Vote true) else record { reply = Say.Vote false; added = if been then None else Some (Forced tid) }).added
    forced true been v b = tt
    forced false true v b = tt
    forced false false v b = (refl, v, b)
answer_adds base old Ask.List = tt
answer_adds base old (Ask.Peek at length) = tt

-- What is lost stays lost

-- a request that is allowed, or was stopped, is no Prepare of an id that is lost at the node
lost_prepare : (start : Start) (past : List Entry) (e : Entry) (k : NodeNo) (tid : Tid) (ps : List NodeNo) (part : List PartItem) (request : Request) → Kept start past
    → IsLostAt start past tid k → request ≡ Ask.Prepare tid ps part → has_forced (records_of start past k) tid ≡ false
    → FromCall start past e k request ⊎ IsPending past k request → ⊥
lost_prepare start past e k tid ps part request kept (unvoted, inl forced) is free origin = clash _ forced free
lost_prepare start past e k tid ps part request kept (unvoted, inr (gone, undone, unstopped)) is free (inl from) =
    let try : is_try tid request ≡ true = subst (λ (r : Request). is_try tid r ≡ true) (sym is) (ap (λ (b : Bool). b || false) (Rattle.mn_runs.proofs.Same.tid_same-refl tid)) in
    let may = may_try start past from.c k tid request kept try from.sends in
    clash _ gone (subst (λ (c : ClientNo). was_abandoned tid (client_entries c past) ≡ false) (sym may.0) may.1)
lost_prepare start past e k tid ps part request kept (unvoted, inr (gone, undone, unstopped)) is free (inr stopped) =
    let sound : RequestSound start past k (Ask.Prepare tid ps part) = subst (λ (r : Request). RequestSound start past k r) is (kept.pending k request stopped.0) in
    tried sound.1
  where
    tried : WasTried past tid k → ⊥
    tried (inl h) = clash _ h undone
    tried (inr h) = clash _ h unstopped

unvoted_after : (start : Start) (past : List Entry) (e : Entry) (k : NodeNo) (tid : Tid) (request : Request) → Kept start past → IsLostAt start past tid k
    → FromCall start past e k request ⊎ IsPending past k request
    → (reply : NodeReply) (added : Option Record) → AddedAs (records_of start past k) request reply added → has_voted (with_added added (records_of start past k)) tid ≡ false
unvoted_after start past e k tid request kept lost origin reply None adds = lost.0
unvoted_after start past e k tid request kept lost origin reply (Some (Voted t ps part)) adds =
    elim (tid_same t tid) as (λ b. tid_same t tid ≡ b → (b || has_voted (records_of start past k) tid) ≡ false) [
      | true ↦ λ same.
          let eq : t ≡ tid = tid_same-true t tid same in
          absurd (lost_prepare start past e k tid ps part request kept lost (subst (λ (x : Tid). request ≡ Ask.Prepare x ps part) eq adds.0) (subst (λ (x : Tid). has_forced (records_of start past k) x ≡ false) eq adds.1) origin)
      | false ↦ λ _. lost.0
    ] refl
unvoted_after start past e k tid request kept lost origin reply (Some (Executed t part)) adds = lost.0
unvoted_after start past e k tid request kept lost origin reply (Some (Decided t verdict)) adds = lost.0
unvoted_after start past e k tid request kept lost origin reply (Some (Forced t)) adds = lost.0

pub IsLostAt_stays : (start : Start) (past : List Entry) (e : Entry) (k : NodeNo) (tid : Tid) → Kept start past → KeepsProtocol start past e → IsLostAt start past tid k → IsLostAt start (e ∷ past) tid k
IsLostAt_stays start past e k tid kept keeps lost = (unvoted (node_case start past e k keeps), stuck lost.1)
  where
    unvoted : NodeCase start past e k (records_of start (e ∷ past) k) → has_voted (records_of start (e ∷ past) k) tid ≡ false
    unvoted (inl same) = subst (λ (r : List Record). has_voted r tid ≡ false) (sym same) lost.0
    unvoted (inr (request, is, origin)) =
        subst (λ (r : List Record). has_voted r tid ≡ false) (sym is) (unvoted_after start past e k tid request kept lost origin _ _ (answer_adds (base_at start k) (records_of start past k) request))

    stuck : IsStuck start past tid k → IsStuck start (e ∷ past) tid k
    stuck (inl forced) = inl (record_stays start past e k (is_force_of tid) forced)
    stuck (inr (gone, undone, unstopped)) =
        inr (
          abandoned_stays past e tid.client tid gone,
          try_stays_untold start past e tid k is_done kept keeps gone undone,
          try_stays_untold start past e tid k is_stopped kept keeps gone unstopped,
        )

pub IsLost_stays : (start : Start) (past : List Entry) (e : Entry) (tid : Tid) → Kept start past → KeepsProtocol start past e → IsLost start past tid → IsLost start (e ∷ past) tid
IsLost_stays start past e tid kept keeps (inl (ps, k, to, has, lost)) = inl (ps, k, IssuedTo_stays start past e tid ps kept keeps to, has, IsLostAt_stays start past e k tid kept keeps lost)
IsLost_stays start past e tid kept keeps (inr old) = inr old

pub AllVoted_stays : (start : Start) (past : List Entry) (e : Entry) (tid : Tid) → Kept start past → KeepsProtocol start past e → AllVoted start past tid → AllVoted start (e ∷ past) tid
AllVoted_stays start past e tid kept keeps (inl (ps, to, all)) =
    inl (ps, IssuedTo_stays start past e tid ps kept keeps to, weaker (λ k. has_voted (records_of start past k) tid ≡ true) (λ k. has_voted (records_of start (e ∷ past) k) tid ≡ true) (λ k h. record_stays start past e k (is_vote_of tid) h) ps all)
AllVoted_stays start past e tid kept keeps (inr old) = inr old

pub MayList_stays : (start : Start) (past : List Entry) (e : Entry) (tid : Tid) (ps : List NodeNo) → Kept start past → KeepsProtocol start past e → MayList start past tid ps → MayList start (e ∷ past) tid ps
MayList_stays start past e tid ps kept keeps (inl (to, several)) = inl (IssuedTo_stays start past e tid ps kept keeps to, several)
MayList_stays start past e tid ps kept keeps (inr old) = inr old

pub RequestSound_stays : (start : Start) (past : List Entry) (e : Entry) (k : NodeNo) (request : Request) → Kept start past → KeepsProtocol start past e → RequestSound start past k request → RequestSound start (e ∷ past) k request
RequestSound_stays start past e k (Ask.Prepare tid ps part) kept keeps h = (IssuedTo_stays start past e tid ps kept keeps h.0, WasTried_stays past e tid k h.1, PartAt_stays start past e tid k part kept keeps h.2)
RequestSound_stays start past e k (Ask.Exec tid part) kept keeps h = (WasExecuted_stays past e tid k h.0, ExecAt_stays start past e tid k part kept keeps h.1)
RequestSound_stays start past e k (Ask.Decide tid true) kept keeps h = AllVoted_stays start past e tid kept keeps h
RequestSound_stays start past e k (Ask.Decide tid false) kept keeps h = IsLost_stays start past e tid kept keeps h
RequestSound_stays start past e k (Ask.Force tid) kept keeps h = (h.0, MayList_stays start past e tid h.0 kept keeps h.1)
RequestSound_stays start past e k Ask.List kept keeps h = tt
RequestSound_stays start past e k (Ask.Peek at length) kept keeps h = tt

pub RecordSound_stays : (start : Start) (past : List Entry) (e : Entry) (k : NodeNo) (r : Record) → Kept start past → KeepsProtocol start past e → RecordSound start past k r → RecordSound start (e ∷ past) k r
RecordSound_stays start past e k (Voted tid ps part) kept keeps (inl h) = inl (IssuedTo_stays start past e tid ps kept keeps h.0, WasTried_stays past e tid k h.1, PartAt_stays start past e tid k part kept keeps h.2)
RecordSound_stays start past e k (Voted tid ps part) kept keeps (inr h) = inr h
RecordSound_stays start past e k (Executed tid part) kept keeps (inl h) = inl (WasExecuted_stays past e tid k h.0, ExecAt_stays start past e tid k part kept keeps h.1)
RecordSound_stays start past e k (Executed tid part) kept keeps (inr h) = inr h
RecordSound_stays start past e k (Decided tid true) kept keeps h = AllVoted_stays start past e tid kept keeps h
RecordSound_stays start past e k (Decided tid false) kept keeps h = IsLost_stays start past e tid kept keeps h
RecordSound_stays start past e k (Forced tid) kept keeps (inl h) = inl (h.0, MayList_stays start past e tid h.0 kept keeps h.1)
RecordSound_stays start past e k (Forced tid) kept keeps (inr h) = inr h
