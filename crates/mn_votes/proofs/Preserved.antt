-- Each entry keeps what the votes and decisions rest on.
use Rattle.std.proofs.Common.{◌≡◌, ℕ, ◌+◌, ◌≤◌, ◌⊎◌, inl, inr, Bool, true, false, not, ◌&&◌, ◌||◌, List, [], ◌∷◌, ◌++◌, length, Option, Some, None, refl, subst, sym, ap, ◌∙◌, arith, if◌then◌else◌, Contains}
use Rattle.std.specs.List.{AllByRecursion, list_any}
use Rattle.mn_base.specs.Ids.{tid_same, node_same}
use Rattle.mn_base.specs.declared.ids.NodeNo.{NodeNo}
use Rattle.mn_base.specs.declared.ids.ClientNo.{ClientNo}
use Rattle.mn_base.specs.declared.ids.Tid.{Tid}
use Rattle.mn_base.proofs.Booleans.{clash, falsely, left_true, not_true, or_cases, or_left, or_right, right_true}
use Rattle.mn_base.proofs.Lists.{weaker}
use Rattle.mn_mini.specs.declared.record.Record.{Record}
use Rattle.mn_mini.specs.declared.record.Record.TheVariants.{Voted, Executed, Decided, Forced}
use Rattle.mn_mini.specs.declared.request.Request.{Request}
use Rattle.mn_mini.specs.declared.request.Request.TheVariants as Ask
use Rattle.mn_mini.specs.declared.reply.NodeReply.{NodeReply}
use Rattle.mn_mini.specs.declared.reply.NodeReply.TheVariants as Say
use Rattle.mn_mini.specs.declared.part.PartItem.{PartItem}
use Rattle.mn_mini.specs.Mini.{Mini, participants_of}
use Rattle.mn_mini.specs.Flat.{Mismatched, part_mismatch_from}
use Rattle.mn_mini.specs.Node.{Clash, held_parts, clash_of, has_voted, has_forced, has_executed, is_vote_of, only_reply, after_locks, after_compares, tested, space_of, answer, with_added}
use Rattle.mn_runs.specs.declared.entry.Entry.{Entry}
use Rattle.mn_runs.specs.declared.entry.What.{What}
use Rattle.mn_runs.specs.declared.entry.What.TheVariants.{Begin, Issue, Called, Stopped, Restarted, Abandoned, Answered}
use Rattle.mn_mini.specs.declared.doubt.Doubt.{Doubt}
use Rattle.mn_mini.specs.Node.{HeldPart, doubts_of, with_doubt}
use Rattle.mn_mini.proofs.Apart.{All-without}
use Rattle.mn_mini.proofs.Parts.{same_true}
use Rattle.mn_runs.specs.Calls.{Call, is_force, is_yes, is_no, has_yes, has_no, lists_doubt, Lists, WasListed, is_at, is_by, is_try, is_prepare, is_exec, is_done, is_stopped, calls_of, node_entries, client_entries, issue_in, issue_named, issues_of, was_told, was_done, was_stopped, is_abandonment, was_abandoned}
use Rattle.mn_runs.specs.Nodes.{stopped_request_after, stopped_request}
use Rattle.mn_runs.specs.Clients.{Knows, AllowsAbandoned, AllowsIssue, Sends}
use Rattle.mn_runs.specs.Protocol.{Start, run_number, base_at, start_records, records_of, KeepsProtocol}
use Rattle.mn_runs.specs.Sound.{voted_participants}
use Rattle.mn_votes.proofs.Start.{names_old, old_below, start_sound}
use Rattle.mn_runs.proofs.Same.{tid_same-true, client_same-true, client_same-refl, tid_same-refl}
use Rattle.mn_runs.proofs.NewCalls.{IsCallOf, WasAnswered, new_call, new_member}
use Rattle.mn_votes.proofs.Unchanged.{PartAt_stays, ExecAt_stays, record_stays, IssuedTo_stays, current_issue}
use Rattle.mn_votes.proofs.Backing.{SameVotes, mini_of, IssuedTo, IsOld, Names, MayList, WasTried, WasAsked, WasExecuted, IssuedLost, StartLost, IsLost, IssuedVoted, StartVoted, AllVoted, RequestSound, RecordSound, Kept}
use Rattle.std.proofs.lemmas.List.Elements.{All-contains, All-from_recursion}
use Rattle.std.proofs.lemmas.List.Folds.{Any-from_list_any}
use Rattle.mn_votes.proofs.Unchanged.{as_own}
use Rattle.mn_votes.proofs.Lost.{IsPending, FromCall, NodeCase, node_case, AddedAs, answer_adds, IsLost_stays, AllVoted_stays, MayList_stays, RequestSound_stays, RecordSound_stays}
use Rattle.mn_runs.specs.Protocol.{FollowsProtocol}
use Rattle.mn_votes.specs.Laws.{StartsSound, DecidedOneWay}

-- Issues

issued_step : (start : Start) (past : List Entry) (c : ClientNo) (at : Option NodeNo) (what : What) (tid : Tid) (mini : Mini) → Kept start past → KeepsProtocol start past (record { node = at; client = Some c; what = what })
    → issue_named tid (issue_in what ++ issues_of (client_entries c past)) ≡ Some mini → (tid.client ≡ c) × (tid.serial ≤ length (issue_in what ++ issues_of (client_entries c past))) × (tid.run ≡ run_number start)
issued_step start past c at (Issue t m) tid mini kept keeps is =
    elim (tid_same t tid) as (λ b. tid_same t tid ≡ b → (if b then Some m else issue_named tid (issues_of (client_entries c past))) ≡ Some mini → (tid.client ≡ c) × (tid.serial ≤ length (issue_in (Issue t m) ++ issues_of (client_entries c past))) × (tid.run ≡ run_number start)) [
      | true ↦ λ same _.
          let by : AllowsIssue c (client_entries c past) t m = keeps.by_client in
          let eq : t ≡ tid = tid_same-true t tid same in
          let high : t.serial ≡ length (issues_of (client_entries c past)) + 1 = by.serial in
          let both : t.serial ≡ tid.serial = ap (λ (x : Tid). x.serial) eq in
          (subst (λ (x : Tid). x.client ≡ c) eq by.client, omega arith, subst (λ (x : Tid). x.run ≡ run_number start) eq keeps.of_run.0)
      | false ↦ λ _ old. let k = kept.issued c tid mini old in let low : tid.serial ≤ length (issues_of (client_entries c past)) = k.1 in (k.0, omega arith, k.2)
    ] refl is
issued_step start past c at (Begin number op) tid mini kept keeps is = kept.issued c tid mini is
issued_step start past c at (Called request reply) tid mini kept keeps is = kept.issued c tid mini is
issued_step start past c at (Stopped request asked) tid mini kept keeps is = kept.issued c tid mini is
issued_step start past c at (Restarted restored) tid mini kept keeps is = kept.issued c tid mini is
issued_step start past c at (Abandoned t) tid mini kept keeps is = kept.issued c tid mini is
issued_step start past c at (Answered number answer) tid mini kept keeps is = kept.issued c tid mini is

issued_kept : (start : Start) (past : List Entry) (e : Entry) (c : ClientNo) (tid : Tid) (mini : Mini) → Kept start past → KeepsProtocol start past e
    → issue_named tid (issues_of (client_entries c (e ∷ past))) ≡ Some mini → (tid.client ≡ c) × (tid.serial ≤ length (issues_of (client_entries c (e ∷ past)))) × (tid.run ≡ run_number start)
issued_kept start past e c tid mini kept keeps is =
    elim (is_by c e) as (λ b. is_by c e ≡ b → issue_named tid (issues_of (if b then e ∷ client_entries c past else client_entries c past)) ≡ Some mini → (tid.client ≡ c) × (tid.serial ≤ length (issues_of (if b then e ∷ client_entries c past else client_entries c past))) × (tid.run ≡ run_number start)) [
      | true ↦ λ by h. issued_step start past c e.node e.what tid mini kept (as_own start past c e by keeps) h
      | false ↦ λ _ h. kept.issued c tid mini h
    ] refl is

own_mini : (start : Start) (past : List Entry) (c : ClientNo) (tid : Tid) (mini : Mini) → Kept start past → issue_named tid (issues_of (client_entries c past)) ≡ Some mini → mini_of past tid ≡ Some mini
own_mini start past c tid mini kept is = subst (λ (d : ClientNo). issue_named tid (issues_of (client_entries d past)) ≡ Some mini) (sym (kept.issued c tid mini is).0) is

-- the issue of a client's own list is that of the id
own_issue : (start : Start) (past : List Entry) (c : ClientNo) (tid : Tid) (ps : List NodeNo) (mini : Mini) → Kept start past → issue_named tid (issues_of (client_entries c past)) ≡ Some mini → ps ≡ participants_of mini → IssuedTo past tid ps
own_issue start past c tid ps mini kept is all =
    (mini, subst (λ (d : ClientNo). issue_named tid (issues_of (client_entries d past)) ≡ Some mini) (sym (kept.issued c tid mini is).0) is, all)

known : (start : Start) (past : List Entry) (c : ClientNo) (tid : Tid) (ps : List NodeNo) → Kept start past → Knows (client_entries c past) tid ps → Names start past tid ps
known start past c tid ps kept (inl (mini, is, all)) = inl (own_issue start past c tid ps mini kept is all)
known start past c tid ps kept (inr was) = named (kept.listed c tid ps was)
  where
    named : MayList start past tid ps → Names start past tid ps
    named (inl h) = inl h.0
    named (inr h) = inr h

-- an id that was issued has no record at the start
pub new_not_old : (start : Start) (past : List Entry) (c : ClientNo) (tid : Tid) (mini : Mini) → Kept start past → issue_named tid (issues_of (client_entries c past)) ≡ Some mini → IsOld start tid → ⊥
new_not_old start past c tid mini kept is old = let new : tid.run ≡ run_number start = (kept.issued c tid mini is).2 in let low = old_below start tid old in absurd (omega (arith, new, low))

-- the records at the start are there ever after
pub start_stays : (start : Start) (past : List Entry) (k : NodeNo) (test : Record → Bool) → list_any test (start_records start k) ≡ true → list_any test (records_of start past k) ≡ true
start_stays start [] k test has = has
start_stays start (e ∷ past) k test has = record_stays start past e k test (start_stays start past k test has)

-- Requests

-- what a client may send is backed
sent_sound : (start : Start) (past : List Entry) (e : Entry) (c : ClientNo) (k : NodeNo) (request : Request) → Kept start past → KeepsProtocol start past e → Sends (client_entries c past) (Some k) request
    → ((tid : Tid) → is_try tid request ≡ true → tid.client ≡ c → (ask : Request → Bool) → ask request ≡ true → WasAsked ask (e ∷ past) tid.client k) → RequestSound start (e ∷ past) k request
sent_sound start past e c k (Ask.Prepare tid ps part) kept keeps sends tried =
    let is = current_issue (client_entries c past) tid sends.mini sends.issued in
    let mine : mini_of past tid ≡ Some sends.mini = own_mini start past c tid sends.mini kept is in (
      IssuedTo_stays start past e tid ps kept keeps (own_issue start past c tid ps sends.mini kept is sends.all),
      tried tid (or_left _ _ (tid_same-refl tid)) (kept.issued c tid sends.mini is).0 (is_try tid) (or_left _ _ (tid_same-refl tid)),
      PartAt_stays start past e tid k part kept keeps (
        sends.mini,
        mine,
        sends.own_part,
        subst (λ (x : List NodeNo). Contains x k) sends.all sends.named,
        subst (λ (x : List NodeNo). 2 ≤ length x) sends.all sends.several,
      ),
    )
sent_sound start past e c k (Ask.Exec tid part) kept keeps sends tried =
    let is = current_issue (client_entries c past) tid sends.mini sends.issued in
    (tried tid (tid_same-refl tid) (kept.issued c tid sends.mini is).0 (is_exec tid) (tid_same-refl tid), ExecAt_stays start past e tid k part kept keeps (sends.mini, own_mini start past c tid sends.mini kept is, sends.own_part, sends.alone))
sent_sound start past e c k (Ask.Decide tid true) kept keeps (doubt, (ps, knows, all)) tried =
    AllVoted_stays start past e tid kept keeps (by (known start past c tid ps kept knows))
  where
    voted : AllByRecursion (λ n. has_voted (records_of start past n) tid ≡ true) ps
    voted = weaker (λ n. has_yes tid n (client_entries c past) ≡ true) (λ n. has_voted (records_of start past n) tid ≡ true) (λ n h. kept.yes c n tid h) ps all

    by : Names start past tid ps → AllVoted start past tid
    by (inl to) = inl (ps, to, voted)
    by (inr old) = inr (ps, old, weaker (λ n. has_voted (records_of start past n) tid ≡ true) (λ n. has_voted (start_records start n) tid ≡ true) (λ n h. sym (kept.old n tid (names_old start tid ps old)).0 ∙ h) ps voted)
sent_sound start past e c k (Ask.Decide tid false) kept keeps (doubt, why) tried = IsLost_stays start past e tid kept keeps (because (or_cases _ _ why))
  where
    because : (was_abandoned tid (client_entries c past) ≡ true) ⊎ (has_no tid (client_entries c past) ≡ true) → IsLost start past tid
    because (inl gone) = kept.abandoned c tid gone
    because (inr voted_no) = kept.no c tid voted_no
sent_sound start past e c k (Ask.Force tid) kept keeps sends tried = (sends.1.0, MayList_stays start past e tid sends.1.0 kept keeps (kept.listed c tid sends.1.0 sends.1.1))
sent_sound start past e c k Ask.List kept keeps sends tried = tt
sent_sound start past e c k (Ask.Peek at n) kept keeps sends tried = tt

-- Records

-- a record that a request adds is backed by what backs the request
backed : (start : Start) (past : List Entry) (e : Entry) (k : NodeNo) (request : Request) (reply : NodeReply) (r : Record) → AddedAs (records_of start past k) request reply (Some r) → RequestSound start (e ∷ past) k request → RecordSound start (e ∷ past) k r
backed start past e k request reply (Voted tid ps part) adds sound = inl (subst (λ (q : Request). RequestSound start (e ∷ past) k q) adds.0 sound)
backed start past e k request reply (Executed tid part) adds sound = inl (subst (λ (q : Request). RequestSound start (e ∷ past) k q) adds.0 sound)
backed start past e k request reply (Decided tid true) adds sound = subst (λ (q : Request). RequestSound start (e ∷ past) k q) adds sound
backed start past e k request reply (Decided tid false) adds sound = subst (λ (q : Request). RequestSound start (e ∷ past) k q) adds sound
backed start past e k request reply (Forced tid) adds sound = inl (subst (λ (q : Request). RequestSound start (e ∷ past) k q) adds.0 sound)

from_call : (start : Start) (past : List Entry) (e : Entry) (k : NodeNo) (request : Request) (r : Record) → Kept start past → KeepsProtocol start past e → FromCall start past e k request
    → AddedAs (records_of start past k) request (answer (base_at start k) (records_of start past k) request).reply (Some r) → RecordSound start (e ∷ past) k r
from_call start past e k request (Voted t qs qart) kept keeps from adds =
    backed start past e k request _ (Voted t qs qart) adds (sent_sound start past e from.c k request kept keeps from.sends (λ tid try own ask asked. inl (subst (λ (d : ClientNo). was_told ask is_done k (client_entries d (e ∷ past)) ≡ true) (sym own) (from.told ask is_done asked adds.2))))
from_call start past e k request (Executed t part) kept keeps from adds =
    backed start past e k request (answer (base_at start k) (records_of start past k) request).reply (Executed t part) adds
    (sent_sound start past e from.c k request kept keeps from.sends (λ tid try own ask asked. inl (subst (λ (d : ClientNo). was_told ask is_done k (client_entries d (e ∷ past)) ≡ true) (sym own) (from.told ask is_done asked adds.1))))
from_call start past e k request (Decided t verdict) kept keeps from adds =
    backed start past e k request (answer (base_at start k) (records_of start past k) request).reply (Decided t verdict) adds (sent_sound start past e from.c k request kept keeps from.sends (λ tid try own ask asked. absurd (clash _ (subst (λ (q : Request). is_try tid q ≡ true) adds try) refl)))
from_call start past e k request (Forced t) kept keeps from adds =
    backed start past e k request (answer (base_at start k) (records_of start past k) request).reply (Forced t) adds (sent_sound start past e from.c k request kept keeps from.sends (λ tid try own ask asked. absurd (clash _ (subst (λ (q : Request). is_try tid q ≡ true) adds.0 try) refl)))

records_kept : (start : Start) (past : List Entry) (e : Entry) (k : NodeNo) → Kept start past → KeepsProtocol start past e → AllByRecursion (RecordSound start (e ∷ past) k) (records_of start (e ∷ past) k)
records_kept start past e k kept keeps = grown (node_case start past e k keeps)
  where
    older : AllByRecursion (RecordSound start (e ∷ past) k) (records_of start past k)
    older = weaker (RecordSound start past k) (RecordSound start (e ∷ past) k) (λ r h. RecordSound_stays start past e k r kept keeps h) (records_of start past k) (kept.records k)

    added : (request : Request) → FromCall start past e k request ⊎ IsPending past k request → (o : Option Record)
        → AddedAs (records_of start past k) request (answer (base_at start k) (records_of start past k) request).reply o → AllByRecursion (RecordSound start (e ∷ past) k) (with_added o (records_of start past k))
    added request origin None adds = older
    added request (inl from) (Some r) adds = (from_call start past e k request r kept keeps from adds, older)
    added request (inr stopped) (Some r) adds =
        (backed start past e k request _ r adds (RequestSound_stays start past e k request kept keeps (kept.pending k request stopped.0)), older)

    grown : NodeCase start past e k (records_of start (e ∷ past) k) → AllByRecursion (RecordSound start (e ∷ past) k) (records_of start (e ∷ past) k)
    grown (inl same) = subst (λ (r : List Record). AllByRecursion (RecordSound start (e ∷ past) k) r) (sym same) older
    grown (inr (request, is, origin)) =
        subst (λ (r : List Record). AllByRecursion (RecordSound start (e ∷ past) k) r) (sym is) (added request origin _ (answer_adds (base_at start k) (records_of start past k) request))

-- An id of the start has no new votes

prepare_is_new : (start : Start) (past : List Entry) (e : Entry) (k : NodeNo) (request : Request) (t : Tid) (ps : List NodeNo) (part : List PartItem) → Kept start past → request ≡ Ask.Prepare t ps part
    → FromCall start past e k request ⊎ IsPending past k request → IsOld start t → ⊥
prepare_is_new start past e k request t ps part kept is (inl from) old =
    let s : Sends (client_entries from.c past) (Some k) (Ask.Prepare t ps part) = subst (λ (q : Request). Sends (client_entries from.c past) (Some k) q) is from.sends in
    new_not_old start past from.c t s.mini kept (current_issue (client_entries from.c past) t s.mini s.issued) old
prepare_is_new start past e k request t ps part kept is (inr stopped) old =
    let s : RequestSound start past k (Ask.Prepare t ps part) = subst (λ (q : Request). RequestSound start past k q) is (kept.pending k request stopped.0) in
    new_not_old start past t.client t s.0.0 kept s.0.1 old

exec_is_new : (start : Start) (past : List Entry) (e : Entry) (k : NodeNo) (request : Request) (t : Tid) (part : List PartItem) → Kept start past → request ≡ Ask.Exec t part
    → FromCall start past e k request ⊎ IsPending past k request → IsOld start t → ⊥
exec_is_new start past e k request t part kept is (inl from) old =
    let s : Sends (client_entries from.c past) (Some k) (Ask.Exec t part) = subst (λ (q : Request). Sends (client_entries from.c past) (Some k) q) is from.sends in
    new_not_old start past from.c t s.mini kept (current_issue (client_entries from.c past) t s.mini s.issued) old
exec_is_new start past e k request t part kept is (inr stopped) old =
    let s : RequestSound start past k (Ask.Exec t part) = subst (λ (q : Request). RequestSound start past k q) is (kept.pending k request stopped.0) in
    new_not_old start past t.client t s.1.0 kept s.1.1 old

old_kept : (start : Start) (past : List Entry) (e : Entry) (k : NodeNo) (tid : Tid) → Kept start past → KeepsProtocol start past e → IsOld start tid → SameVotes tid (records_of start (e ∷ past) k) (start_records start k)
old_kept start past e k tid kept keeps old = let g = grown (node_case start past e k keeps) in let o = kept.old k tid old in (g.0 ∙ o.0, g.1 ∙ o.1, g.2 ∙ o.2)
  where
    same_id : (t : Tid) → tid_same t tid ≡ true → IsOld start t
    same_id t same = subst (λ (x : Tid). IsOld start x) (sym (tid_same-true t tid same)) old

    added : (request : Request) → FromCall start past e k request ⊎ IsPending past k request → (o : Option Record)
        → AddedAs (records_of start past k) request (answer (base_at start k) (records_of start past k) request).reply o → SameVotes tid (with_added o (records_of start past k)) (records_of start past k)
    added request origin None adds = (refl, refl, refl)
    added request origin (Some (Voted t ps part)) adds =
        elim (tid_same t tid) as (λ b. tid_same t tid ≡ b → ((b || has_voted (records_of start past k) tid) ≡ has_voted (records_of start past k) tid) × (has_executed (records_of start past k) tid ≡ has_executed (records_of start past k) tid) × ((if b then Some ps else voted_participants tid (records_of start past k)) ≡ voted_participants tid (records_of start past k))) [
          | true ↦ λ same. absurd (prepare_is_new start past e k request t ps part kept adds.0 origin (same_id t same))
          | false ↦ λ _. (refl, refl, refl)
        ] refl
    added request origin (Some (Executed t part)) adds =
        elim (tid_same t tid) as (λ b. tid_same t tid ≡ b → (has_voted (records_of start past k) tid ≡ has_voted (records_of start past k) tid) × ((b || has_executed (records_of start past k) tid) ≡ has_executed (records_of start past k) tid) × (voted_participants tid (records_of start past k) ≡ voted_participants tid (records_of start past k))) [
          | true ↦ λ same. absurd (exec_is_new start past e k request t part kept adds.0 origin (same_id t same))
          | false ↦ λ _. (refl, refl, refl)
        ] refl
    added request origin (Some (Decided t verdict)) adds = (refl, refl, refl)
    added request origin (Some (Forced t)) adds = (refl, refl, refl)

    grown : NodeCase start past e k (records_of start (e ∷ past) k) → SameVotes tid (records_of start (e ∷ past) k) (records_of start past k)
    grown (inl same) = subst (λ (r : List Record). SameVotes tid r (records_of start past k)) (sym same) (refl, refl, refl)
    grown (inr (request, is, origin)) = subst (λ (r : List Record). SameVotes tid r (records_of start past k)) (sym is) (added request origin _ (answer_adds (base_at start k) (records_of start past k) request))

-- The stopped request

stopped_here : (past : List Entry) (c : ClientNo) (k : NodeNo) (request : Request) (asked : Option Rattle.mn_base.specs.declared.gate.StopAt.StopAt) (ask : Request → Bool) → ask request ≡ true
    → was_told ask is_stopped k (client_entries c (record { node = Some k; client = Some c; what = Stopped (Some request) asked } ∷ past)) ≡ true
stopped_here past c k request asked ask passes =
    let e : Entry = record { node = Some k; client = Some c; what = Stopped (Some request) asked } in
    let n = Rattle.mn_mini.proofs.Parts.same_self k in
    let test : (node_same k k && (ask request && true)) ≡ true = cc in
    subst (λ (b : Bool). was_told ask is_stopped k (if b then e ∷ client_entries c past else client_entries c past) ≡ true) (sym (Rattle.mn_runs.proofs.Same.client_same-refl c)) (or_left _ _ test)

stop_kept : (start : Start) (past : List Entry) (by : Option ClientNo) (k : NodeNo) (what : What) (request : Request) → Kept start past → KeepsProtocol start past (record { node = Some k; client = by; what = what })
    → stopped_request_after what (stopped_request (node_entries k past)) ≡ Some request → RequestSound start (record { node = Some k; client = by; what = what } ∷ past) k request
stop_kept start past by k (Begin number op) request kept keeps is = RequestSound_stays start past _ k request kept keeps (kept.pending k request is)
stop_kept start past by k (Issue tid mini) request kept keeps is = RequestSound_stays start past _ k request kept keeps (kept.pending k request is)
stop_kept start past by k (Called asked reply) request kept keeps is = RequestSound_stays start past _ k request kept keeps (kept.pending k request is)
stop_kept start past by k (Restarted restored) request kept keeps is = RequestSound_stays start past _ k request kept keeps (kept.pending k request is)
stop_kept start past by k (Abandoned tid) request kept keeps is = RequestSound_stays start past _ k request kept keeps (kept.pending k request is)
stop_kept start past by k (Answered number answer) request kept keeps is = RequestSound_stays start past _ k request kept keeps (kept.pending k request is)
stop_kept start past by k (Stopped None asked) request kept keeps is = absurd cc
stop_kept start past None k (Stopped (Some r) asked) request kept keeps is = absurd keeps.by_client
stop_kept start past (Some c) k (Stopped (Some r) asked) request kept keeps is =
    let same : r ≡ request = cc in
    subst (λ (q : Request). RequestSound start (record { node = Some k; client = Some c; what = Stopped (Some r) asked } ∷ past) k q) same (
    sent_sound start past (record { node = Some k; client = Some c; what = Stopped (Some r) asked }) c k r kept keeps keeps.by_client (λ tid try own ask passes.
    inr (subst (λ (d : ClientNo). was_told ask is_stopped k (client_entries d (record { node = Some k; client = Some c; what = Stopped (Some r) asked } ∷ past)) ≡ true) (sym own) (stopped_here past c k r asked ask passes))
    ))

at_some : (k : NodeNo) (at : Option NodeNo) (by : Option ClientNo) (what : What) → is_at k (record { node = at; client = by; what = what }) ≡ true → at ≡ Some k
at_some k None by what e = absurd cc
at_some k (Some n) by what e = ap (λ (x : NodeNo). Some x) (sym (same_true k n e))

pending_kept : (start : Start) (past : List Entry) (e : Entry) (k : NodeNo) (request : Request) → Kept start past → KeepsProtocol start past e
    → stopped_request (node_entries k (e ∷ past)) ≡ Some request → RequestSound start (e ∷ past) k request
pending_kept start past e k request kept keeps is =
    elim (is_at k e) as (λ b. is_at k e ≡ b → stopped_request (if b then e ∷ node_entries k past else node_entries k past) ≡ Some request → RequestSound start (e ∷ past) k request) [
      | true ↦ λ at h.
          subst (λ (o : Option NodeNo). KeepsProtocol start past (record { node = o; client = e.client; what = e.what }) → RequestSound start (record { node = o; client = e.client; what = e.what } ∷ past) k request)
          (sym (at_some k e.node e.client e.what at)) (λ keeps'. stop_kept start past e.client k e.what request kept keeps' h) keeps
      | false ↦ λ _ h. RequestSound_stays start past e k request kept keeps (kept.pending k request h)
    ] refl is

-- Votes that were told

-- a Prepare that is done has voted, and so has a node that votes yes
done_votes : (base : List ℕ) (old : List Record) (request : Request) (tid : Tid) → is_prepare tid request ≡ true → is_done (answer base old request).reply ≡ true → has_voted (with_added (answer base old request).added old) tid ≡ true
done_votes base old (Ask.Prepare t ps part) tid ask say =
    elim (has_forced old t) as (λ b. is_done (if b then only_reply Say.BadForced else tested base old t part (Some (Voted t ps part))).reply ≡ true → has_voted (with_added (if b then only_reply Say.BadForced else tested base old t part (Some (Voted t ps part))).added old) tid ≡ true) [
      | true ↦ λ s. absurd cc
      | false ↦ locks (clash_of (held_parts old) t part)
    ] say
  where
    compares : (o : Option Mismatched) → is_done (after_compares (space_of base old) part (Some (Voted t ps part)) o).reply ≡ true → has_voted (with_added (after_compares (space_of base old) part (Some (Voted t ps part)) o).added old) tid ≡ true
    compares (Some at) s = absurd cc
    compares None s = or_left _ _ ask

    locks : (o : Option Clash) → is_done (after_locks (space_of base old) part (Some (Voted t ps part)) o).reply ≡ true → has_voted (with_added (after_locks (space_of base old) part (Some (Voted t ps part)) o).added old) tid ≡ true
    locks (Some at) s = absurd cc
    locks None s = compares (part_mismatch_from (space_of base old) 0 part) s
done_votes base old (Ask.Exec t part) tid ask say = absurd cc
done_votes base old (Ask.Decide t verdict) tid ask say = absurd cc
done_votes base old (Ask.Force t) tid ask say = absurd cc
done_votes base old Ask.List tid ask say = absurd cc
done_votes base old (Ask.Peek at n) tid ask say = absurd cc

force_yes : (base : List ℕ) (old : List Record) (request : Request) (tid : Tid) → is_force tid request ≡ true → is_yes (answer base old request).reply ≡ true → has_voted old tid ≡ true
force_yes base old (Ask.Force t) tid ask say =
    subst (λ (x : Tid). has_voted old x ≡ true) (tid_same-true t tid ask) (
    elim (has_voted old t) as (λ b. is_yes (if b then only_reply (Say.Vote true) else record { reply = Say.Vote false; added = if has_forced old t then None else Some (Forced t) }).reply ≡ true → b ≡ true) [ true ↦ λ _. refl | false ↦ λ s. s ] say
    )
force_yes base old (Ask.Prepare t ps part) tid ask say = absurd cc
force_yes base old (Ask.Exec t part) tid ask say = absurd cc
force_yes base old (Ask.Decide t verdict) tid ask say = absurd cc
force_yes base old Ask.List tid ask say = absurd cc
force_yes base old (Ask.Peek at n) tid ask say = absurd cc

-- a node that votes no has not voted, and is forced from then on
force_no : (base : List ℕ) (old : List Record) (request : Request) (tid : Tid) → is_force tid request ≡ true → is_no (answer base old request).reply ≡ true
    → (request ≡ Ask.Force tid) × (has_voted (with_added (answer base old request).added old) tid ≡ false) × (has_forced (with_added (answer base old request).added old) tid ≡ true)
force_no base old (Ask.Force t) tid ask say =
    let eq : t ≡ tid = tid_same-true t tid ask in
    subst (λ (x : Tid). (Ask.Force t ≡ Ask.Force x) × (has_voted (with_added (answer base old (Ask.Force t)).added old) x ≡ false) × (has_forced (with_added (answer base old (Ask.Force t)).added old) x ≡ true)) eq
    (refl, (forced (has_voted old t) refl (has_forced old t) refl say).0, (forced (has_voted old t) refl (has_forced old t) refl say).1)
  where
    forced : (voted : Bool) → has_voted old t ≡ voted → (been : Bool) → has_forced old t ≡ been
        → is_no (if voted then only_reply (Say.Vote true) else record { reply = Say.Vote false; added = if been then None else Some (Forced t) }).reply ≡ true
        → (has_voted (with_added (if voted then only_reply (Say.Vote true) else record { reply = Say.Vote false; added = if been then None else Some (Forced t) }).added old) t ≡ false)
        × (has_forced (with_added (if voted then only_reply (Say.Vote true) else record { reply = Say.Vote false; added = if been then None else Some (Forced t) }).added old) t ≡ true)
    forced true v been b s = absurd cc
    forced false v true b s = (v, b)
    forced false v false b s = (v, or_left _ _ (tid_same-refl t))
force_no base old (Ask.Prepare t ps part) tid ask say = absurd cc
force_no base old (Ask.Exec t part) tid ask say = absurd cc
force_no base old (Ask.Decide t verdict) tid ask say = absurd cc
force_no base old Ask.List tid ask say = absurd cc
force_no base old (Ask.Peek at n) tid ask say = absurd cc

not_said : (say : NodeReply → Bool) (reply other : NodeReply) → say reply ≡ true → reply ≡ other → say other ≡ false → ⊥
not_said say reply other s e f = clash _ (subst (λ (r : NodeReply). say r ≡ true) e s) f

-- a reply that passes a test which neither Stopped nor Down passes was the node's answer
answered : (start : Start) (past : List Entry) (c : ClientNo) (e : Entry) (call : Call) (say : NodeReply → Bool) → IsCallOf start past c e call → say call.reply ≡ true → say Say.Stopped ≡ false → say Say.Down ≡ false → WasAnswered start past e call
answered start past c e call say is said stopped down = was is.answered
  where
    was : (call.reply ≡ Say.Stopped) ⊎ ((call.reply ≡ Say.Down) ⊎ WasAnswered start past e call) → WasAnswered start past e call
    was (inl h) = absurd (not_said say call.reply Say.Stopped said h stopped)
    was (inr (inl h)) = absurd (not_said say call.reply Say.Down said h down)
    was (inr (inr w)) = w

yes_kept : (start : Start) (past : List Entry) (e : Entry) (c : ClientNo) (k : NodeNo) (tid : Tid) → Kept start past → KeepsProtocol start past e → has_yes tid k (client_entries c (e ∷ past)) ≡ true → has_voted (records_of start (e ∷ past) k) tid ≡ true
yes_kept start past e c k tid kept keeps yes' = both (or_cases _ _ yes')
  where
    here : (call : Call) → node_same call.node k ≡ true → has_voted (records_of start (e ∷ past) call.node) tid ≡ true → has_voted (records_of start (e ∷ past) k) tid ≡ true
    here call n h = subst (λ (m : NodeNo). has_voted (records_of start (e ∷ past) m) tid ≡ true) (same_true call.node k n) h

    prepared : (call : Call) → IsCallOf start past c e call → (node_same call.node k && (is_prepare tid call.request && is_done call.reply)) ≡ true → has_voted (records_of start (e ∷ past) k) tid ≡ true
    prepared call is passes =
        let told : (is_prepare tid call.request && is_done call.reply) ≡ true = right_true (node_same call.node k) (is_prepare tid call.request && is_done call.reply) passes in
        let said : is_done call.reply ≡ true = right_true (is_prepare tid call.request) (is_done call.reply) told in
        let ask : is_prepare tid call.request ≡ true = left_true (is_prepare tid call.request) (is_done call.reply) told in
        let near : node_same call.node k ≡ true = left_true (node_same call.node k) (is_prepare tid call.request && is_done call.reply) passes in
        let w : WasAnswered start past e call = answered start past c e call is_done is said refl refl in
        here call near (subst (λ (r : List Record). has_voted r tid ≡ true) (sym w.records) (done_votes (base_at start call.node) (records_of start past call.node) call.request tid ask (subst (λ (r : NodeReply). is_done r ≡ true) w.replies said)))

    forced : (call : Call) → IsCallOf start past c e call → (node_same call.node k && (is_force tid call.request && is_yes call.reply)) ≡ true → has_voted (records_of start (e ∷ past) k) tid ≡ true
    forced call is passes =
        let told : (is_force tid call.request && is_yes call.reply) ≡ true = right_true (node_same call.node k) (is_force tid call.request && is_yes call.reply) passes in
        let said : is_yes call.reply ≡ true = right_true (is_force tid call.request) (is_yes call.reply) told in
        let ask : is_force tid call.request ≡ true = left_true (is_force tid call.request) (is_yes call.reply) told in
        let near : node_same call.node k ≡ true = left_true (node_same call.node k) (is_force tid call.request && is_yes call.reply) passes in
        let w : WasAnswered start past e call = answered start past c e call is_yes is said refl refl in
        here call near (record_stays start past e call.node (is_vote_of tid) (force_yes (base_at start call.node) (records_of start past call.node) call.request tid ask (subst (λ (r : NodeReply). is_yes r ≡ true) w.replies said)))

    both : (was_told (is_prepare tid) is_done k (client_entries c (e ∷ past)) ≡ true) ⊎ (was_told (is_force tid) is_yes k (client_entries c (e ∷ past)) ≡ true) → has_voted (records_of start (e ∷ past) k) tid ≡ true
    both (inl h) =
        elim (new_call start past c e (λ call. node_same call.node k && (is_prepare tid call.request && is_done call.reply)) keeps h) as (λ _. has_voted (records_of start (e ∷ past) k) tid ≡ true) [
          | inl old ↦ record_stays start past e k (is_vote_of tid) (kept.yes c k tid (or_left _ _ old))
          | inr (call, is, passes) ↦ prepared call is passes
        ]
    both (inr h) =
        elim (new_call start past c e (λ call. node_same call.node k && (is_force tid call.request && is_yes call.reply)) keeps h) as (λ _. has_voted (records_of start (e ∷ past) k) tid ≡ true) [
          | inl old ↦ record_stays start past e k (is_vote_of tid) (kept.yes c k tid (or_right _ _ old))
          | inr (call, is, passes) ↦ forced call is passes
        ]

no_kept : (start : Start) (past : List Entry) (e : Entry) (c : ClientNo) (tid : Tid) → Kept start past → KeepsProtocol start past e → has_no tid (client_entries c (e ∷ past)) ≡ true → IsLost start (e ∷ past) tid
no_kept start past e c tid kept keeps no' =
    elim (new_call start past c e (λ call. is_force tid call.request && is_no call.reply) keeps no') as (λ _. IsLost start (e ∷ past) tid) [
      | inl old ↦ IsLost_stays start past e tid kept keeps (kept.no c tid old)
      | inr (call, is, passes) ↦ forced call is passes
    ]
  where
    lost : (call : Call) → WasAnswered start past e call → Sends (client_entries c past) (Some call.node) (Ask.Force tid)
        → has_voted (with_added (answer (base_at start call.node) (records_of start past call.node) call.request).added (records_of start past call.node)) tid ≡ false
        → has_forced (with_added (answer (base_at start call.node) (records_of start past call.node) call.request).added (records_of start past call.node)) tid ≡ true
        → IsLost start (e ∷ past) tid
    lost call w (doubt, (ps, was, has)) unvoted forced = by (kept.listed c tid ps was)
      where
        now : has_voted (records_of start (e ∷ past) call.node) tid ≡ false
        now = subst (λ (r : List Record). has_voted r tid ≡ false) (sym w.records) unvoted

        by : MayList start past tid ps → IsLost start (e ∷ past) tid
        by (inl (to, several)) = inl (ps, call.node, IssuedTo_stays start past e tid ps kept keeps to, has, (now, inl (subst (λ (r : List Record). has_forced r tid ≡ true) (sym w.records) forced)))
        by (inr old) = inr (ps, call.node, old, has, falsely _ (λ voted. clash _ (start_stays start (e ∷ past) call.node (is_vote_of tid) voted) now))

    forced : (call : Call) → IsCallOf start past c e call → (is_force tid call.request && is_no call.reply) ≡ true → IsLost start (e ∷ past) tid
    forced call is passes =
        let said : is_no call.reply ≡ true = right_true (is_force tid call.request) (is_no call.reply) passes in
        let w : WasAnswered start past e call = answered start past c e call is_no is said refl refl in
        let ask : is_force tid call.request ≡ true = left_true (is_force tid call.request) (is_no call.reply) passes in
        let f = force_no (base_at start call.node) (records_of start past call.node) call.request tid ask (subst (λ (r : NodeReply). is_no r ≡ true) w.replies said) in
        lost call w (subst (λ (q : Request). Sends (client_entries c past) (Some call.node) q) f.0 is.sends) f.1 f.2

-- Abandoned

-- a node that has voted was sent its Prepare by the client of the id
pub voted_tried : (start : Start) (past : List Entry) (k : NodeNo) (tid : Tid) (records : List Record) → (IsOld start tid → ⊥) → AllByRecursion (RecordSound start past k) records → has_voted records tid ≡ true → WasTried past tid k
voted_tried start past k tid [] new all voted = absurd cc
voted_tried start past k tid (Voted t ps part ∷ records) new all voted =
    elim (or_cases (tid_same t tid) (has_voted records tid) voted) as (λ _. WasTried past tid k) [
      | inl same ↦ by (tid_same-true t tid same) all.0
      | inr older ↦ voted_tried start past k tid records new all.1 older
    ]
  where
    by : t ≡ tid → RecordSound start past k (Voted t ps part) → WasTried past tid k
    by eq (inl h) = subst (λ (x : Tid). WasTried past x k) eq h.1
    by eq (inr h) = absurd (new (subst (λ (x : Tid). IsOld start x) eq (names_old start t ps (k, h))))
voted_tried start past k tid (Executed t part ∷ records) new all voted = voted_tried start past k tid records new all.1 voted
voted_tried start past k tid (Decided t verdict ∷ records) new all voted = voted_tried start past k tid records new all.1 voted
voted_tried start past k tid (Forced t ∷ records) new all voted = voted_tried start past k tid records new all.1 voted

told_more : (ask ask' : Request → Bool) (say : NodeReply → Bool) (n : NodeNo) (calls : List Call) → ((r : Request) → ask r ≡ true → ask' r ≡ true)
    → list_any (λ c. node_same c.node n && (ask c.request && say c.reply)) calls ≡ true → list_any (λ c. node_same c.node n && (ask' c.request && say c.reply)) calls ≡ true
told_more ask ask' say n [] more e = absurd cc
told_more ask ask' say n (c ∷ cs) more e = step (node_same c.node n) (ask c.request) (ask' c.request) (say c.reply) _ _ (more c.request) (told_more ask ask' say n cs more) e
  where
    step : (a b b' s x y : Bool) → (b ≡ true → b' ≡ true) → (x ≡ true → y ≡ true) → ((a && (b && s)) || x) ≡ true → ((a && (b' && s)) || y) ≡ true
    step true true true s x y g f h = both s x y f h
      where
        both : (s x y : Bool) → (x ≡ true → y ≡ true) → (s || x) ≡ true → (s || y) ≡ true
        both true x y f h = refl
        both false x y f h = f h
    step true true false s x y g f h = absurd (clash _ (g refl) refl)
    step true false b' s x y g f h = or_right _ _ (f h)
    step false b b' s x y g f h = f h

-- what was sent its Exec was tried
pub executed_was_tried : (past : List Entry) (tid : Tid) (k : NodeNo) → WasExecuted past tid k → WasTried past tid k
executed_was_tried past tid k (inl h) = inl (told_more (is_exec tid) (is_try tid) is_done k (calls_of (client_entries tid.client past)) (λ r e. or_right (is_prepare tid r) _ e) h)
executed_was_tried past tid k (inr h) = inr (told_more (is_exec tid) (is_try tid) is_stopped k (calls_of (client_entries tid.client past)) (λ r e. or_right (is_prepare tid r) _ e) h)

-- a node that has executed was sent its Exec
pub executed_tried : (start : Start) (past : List Entry) (k : NodeNo) (tid : Tid) (records : List Record) → (IsOld start tid → ⊥) → AllByRecursion (RecordSound start past k) records → has_executed records tid ≡ true → WasTried past tid k
executed_tried start past k tid [] new all x = absurd cc
executed_tried start past k tid (Executed t part ∷ records) new all x =
    elim (or_cases (tid_same t tid) (has_executed records tid) x) as (λ _. WasTried past tid k) [
      | inl same ↦ by (tid_same-true t tid same) all.0
      | inr older ↦ executed_tried start past k tid records new all.1 older
    ]
  where
    by : t ≡ tid → RecordSound start past k (Executed t part) → WasTried past tid k
    by eq (inl h) = subst (λ (y : Tid). WasTried past y k) eq (executed_was_tried past t k h.0)
    by eq (inr old) = absurd (new (subst (λ (y : Tid). IsOld start y) eq old))
executed_tried start past k tid (Voted t ps part ∷ records) new all x = executed_tried start past k tid records new all.1 x
executed_tried start past k tid (Decided t verdict ∷ records) new all x = executed_tried start past k tid records new all.1 x
executed_tried start past k tid (Forced t ∷ records) new all x = executed_tried start past k tid records new all.1 x

gone_here : (start : Start) (past : List Entry) (c : ClientNo) (t : Tid) → Kept start past → KeepsProtocol start past (record { node = None; client = Some c; what = Abandoned t })
    → AllowsAbandoned (client_entries c past) t → IssuedLost start (record { node = None; client = Some c; what = Abandoned t } ∷ past) t
gone_here start past c t kept keeps (mini, is, some) =
    let e : Entry = record { node = None; client = Some c; what = Abandoned t } in
    let any = Any-from_list_any (λ n. not (was_done t n (client_entries c past)) && not (was_stopped t n (client_entries c past))) (participants_of mini) some in
    let own : t.client ≡ c = (kept.issued c t mini is).0 in
    let undone : was_done t any.1 (client_entries c past) ≡ false = not_true _ (left_true _ _ any.4) in
    let unstopped : was_stopped t any.1 (client_entries c past) ≡ false = not_true _ (right_true _ _ any.4) in
    let undone' : was_done t any.1 (client_entries t.client past) ≡ false = subst (λ (d : ClientNo). was_done t any.1 (client_entries d past) ≡ false) (sym own) undone in
    let unstopped' : was_stopped t any.1 (client_entries t.client past) ≡ false = subst (λ (d : ClientNo). was_stopped t any.1 (client_entries d past) ≡ false) (sym own) unstopped in (
      participants_of mini,
      any.1,
      IssuedTo_stays start past e t (participants_of mini) kept keeps (own_issue start past c t (participants_of mini) mini kept is refl),
      (any.0, any.2, any.3),
      (
        falsely _ (λ voted. elim (voted_tried start past any.1 t (records_of start past any.1) (new_not_old start past c t mini kept is) (kept.records any.1) voted) as (λ _. ⊥) [ inl h ↦ clash _ h undone' | inr h ↦ clash _ h unstopped' ]),
        inr (
          subst (λ (d : ClientNo). was_abandoned t (client_entries d (e ∷ past)) ≡ true) (sym own)
              (subst (λ (b : Bool). was_abandoned t (if b then e ∷ client_entries c past else client_entries c past) ≡ true) (sym (Rattle.mn_runs.proofs.Same.client_same-refl c)) (or_left _ _ (tid_same-refl t))),
          elim (is_by t.client e) as (λ b. was_done t any.1 (if b then e ∷ client_entries t.client past else client_entries t.client past) ≡ false) [ true ↦ undone' | false ↦ undone' ],
          elim (is_by t.client e) as (λ b. was_stopped t any.1 (if b then e ∷ client_entries t.client past else client_entries t.client past) ≡ false) [ true ↦ unstopped' | false ↦ unstopped' ],
        ),
      ),
    )

gone_step : (start : Start) (past : List Entry) (c : ClientNo) (at : Option NodeNo) (what : What) (tid : Tid) → Kept start past → KeepsProtocol start past (record { node = at; client = Some c; what = what })
    → is_abandonment tid what ≡ true → IsLost start (record { node = at; client = Some c; what = what } ∷ past) tid
gone_step start past c None (Abandoned t) tid kept keeps is =
    subst (λ (x : Tid). IsLost start (record { node = None; client = Some c; what = Abandoned t } ∷ past) x) (tid_same-true t tid is) (inl (gone_here start past c t kept keeps keeps.by_client))
gone_step start past c (Some n) (Abandoned t) tid kept keeps is = absurd keeps.at_node.1
gone_step start past c at (Begin number op) tid kept keeps is = absurd cc
gone_step start past c at (Issue t m) tid kept keeps is = absurd cc
gone_step start past c at (Called request reply) tid kept keeps is = absurd cc
gone_step start past c at (Stopped request asked) tid kept keeps is = absurd cc
gone_step start past c at (Restarted restored) tid kept keeps is = absurd cc
gone_step start past c at (Answered number answer) tid kept keeps is = absurd cc

abandoned_kept : (start : Start) (past : List Entry) (e : Entry) (c : ClientNo) (tid : Tid) → Kept start past → KeepsProtocol start past e → was_abandoned tid (client_entries c (e ∷ past)) ≡ true → IsLost start (e ∷ past) tid
abandoned_kept start past e c tid kept keeps gone =
    elim (is_by c e) as (λ b. is_by c e ≡ b → was_abandoned tid (if b then e ∷ client_entries c past else client_entries c past) ≡ true → IsLost start (e ∷ past) tid) [
      | true ↦ λ by h. new by (or_cases (is_abandonment tid e.what) (was_abandoned tid (client_entries c past)) h)
      | false ↦ λ _ h. IsLost_stays start past e tid kept keeps (kept.abandoned c tid h)
    ] refl gone
  where
    own : is_by c e ≡ true → e.client ≡ Some c
    own by = by_own e.client e.node e.what by
      where
        by_own : (by : Option ClientNo) (at : Option NodeNo) (what : What) → is_by c (record { node = at; client = by; what = what }) ≡ true → by ≡ Some c
        by_own None at what h = absurd cc
        by_own (Some d) at what h = ap (λ (x : ClientNo). Some x) (sym (client_same-true c d h))

    new : is_by c e ≡ true → (is_abandonment tid e.what ≡ true) ⊎ (was_abandoned tid (client_entries c past) ≡ true) → IsLost start (e ∷ past) tid
    new by (inr old) = IsLost_stays start past e tid kept keeps (kept.abandoned c tid old)
    new by (inl h) =
        subst (λ (o : Option ClientNo). KeepsProtocol start past (record { node = e.node; client = o; what = e.what }) → IsLost start (record { node = e.node; client = o; what = e.what } ∷ past) tid) (sym (own by))
        (λ keeps'. gone_step start past c e.node e.what tid kept keeps' h) keeps

-- What a Listed reply gives

pub same_mini : (a b : Mini) → Some a ≡ Some b → a ≡ b
same_mini a b e = cc

held_issued : (start : Start) (past : List Entry) (k : NodeNo) (records : List Record) → AllByRecursion (RecordSound start past k) records → AllByRecursion (λ h. MayList start past h.tid h.participants) (held_parts records)
held_issued start past k [] a = tt
held_issued start past k (Voted tid ps part ∷ records) a = (by a.0, held_issued start past k records a.1)
  where
    by : RecordSound start past k (Voted tid ps part) → MayList start past tid ps
    by (inl (to, tried, (mini, is, own, has, several))) = inl (to, subst (λ (x : List NodeNo). 2 ≤ length x) (ap participants_of (same_mini mini to.0 (sym is ∙ to.1)) ∙ sym to.2) several)
    by (inr h) = inr (k, h)
held_issued start past k (Executed tid part ∷ records) a = held_issued start past k records a.1
held_issued start past k (Decided tid verdict ∷ records) a = All-without _ tid (held_parts records) (held_issued start past k records a.1)
held_issued start past k (Forced tid ∷ records) a = held_issued start past k records a.1

abbrev DoubtIssued : Start → List Entry → Doubt → Type 0
DoubtIssued start past d = MayList start past d.tid d.participants

with_doubt_issued : (start : Start) (past : List Entry) (d : Doubt) (ds : List Doubt) → DoubtIssued start past d → AllByRecursion (DoubtIssued start past) ds → AllByRecursion (DoubtIssued start past) (with_doubt d ds)
with_doubt_issued start past d [] h a = (h, tt)
with_doubt_issued start past d (x ∷ ds) h a =
    elim (Rattle.mn_base.specs.Ids.tid_lt d.tid x.tid) as (λ b. AllByRecursion (DoubtIssued start past) (if b then d ∷ x ∷ ds else x ∷ with_doubt d ds)) [ true ↦ (h, a) | false ↦ (a.0, with_doubt_issued start past d ds h a.1) ]

doubts_issued : (start : Start) (past : List Entry) (hs : List HeldPart) → AllByRecursion (λ h. MayList start past h.tid h.participants) hs → AllByRecursion (DoubtIssued start past) (doubts_of hs)
doubts_issued start past [] a = tt
doubts_issued start past (h ∷ hs) a = with_doubt_issued start past _ (doubts_of hs) a.0 (doubts_issued start past hs a.1)

listed_issued : (start : Start) (past : List Entry) (tid : Tid) (ps : List NodeNo) (ds : List Doubt) → AllByRecursion (DoubtIssued start past) ds → lists_doubt tid ds ≡ Some ps → MayList start past tid ps
listed_issued start past tid ps [] a e = absurd cc
listed_issued start past tid ps (d ∷ ds) a e =
    elim (tid_same d.tid tid) as (λ b. tid_same d.tid tid ≡ b → (if b then Some d.participants else lists_doubt tid ds) ≡ Some ps → MayList start past tid ps) [
      | true ↦ λ same h.
          let eq : d.tid ≡ tid = tid_same-true d.tid tid same in
          let all : d.participants ≡ ps = cc in
          subst (λ (x : Tid). MayList start past x ps) eq (subst (λ (x : List NodeNo). MayList start past d.tid x) all a.0)
      | false ↦ λ _ h. listed_issued start past tid ps ds a.1 h
    ] refl e

no_listing : (base : List ℕ) (old : List Record) (t : Tid) (part : List PartItem) (added : Option Record) (tid : Tid) (ps : List NodeNo) (o : Option Clash) → Lists tid ps (after_locks (space_of base old) part added o).reply → ⊥
no_listing base old t part added tid ps (Some at) l = l
no_listing base old t part added tid ps None l =
    elim (part_mismatch_from (space_of base old) 0 part) as (λ o. Lists tid ps (after_compares (space_of base old) part added o).reply → ⊥) [ Some at ↦ λ h. h | None ↦ λ h. h ] l

-- only a List is answered Listed
listed_reply : (base : List ℕ) (old : List Record) (request : Request) (tid : Tid) (ps : List NodeNo) → Lists tid ps (answer base old request).reply → lists_doubt tid (doubts_of (held_parts old)) ≡ Some ps
listed_reply base old (Ask.Prepare t qs part) tid ps l =
    absurd (elim (has_forced old t) as (λ b. Lists tid ps (if b then only_reply Say.BadForced else tested base old t part (Some (Voted t qs part))).reply → ⊥) [
      | true ↦ λ h. h
      | false ↦ no_listing base old t part (Some (Voted t qs part)) tid ps (clash_of (held_parts old) t part)
    ] l)
listed_reply base old (Ask.Exec t part) tid ps l = absurd (no_listing base old t part _ tid ps (clash_of (held_parts old) t part) l)
listed_reply base old (Ask.Decide t verdict) tid ps l = absurd l
listed_reply base old (Ask.Force t) tid ps l = absurd (elim (has_voted old t) as (λ b. Lists tid ps (if b then only_reply (Say.Vote true) else record { reply = Say.Vote false; added = if has_forced old t then None else Some (Forced t) }).reply → ⊥) [ true ↦ λ h. h | false ↦ λ h. h ] l)
listed_reply base old Ask.List tid ps l = l
listed_reply base old (Ask.Peek at n) tid ps l = absurd l

listed_kept : (start : Start) (past : List Entry) (e : Entry) (c : ClientNo) (tid : Tid) (ps : List NodeNo) → Kept start past → KeepsProtocol start past e → WasListed tid ps (client_entries c (e ∷ past)) → MayList start (e ∷ past) tid ps
listed_kept start past e c tid ps kept keeps (call, has, lists) =
    MayList_stays start past e tid ps kept keeps (
    elim (new_member start past c e call keeps has) as (λ _. MayList start past tid ps) [
      | inl old ↦ kept.listed c tid ps (call, old, lists)
      | inr is ↦ told is.answered
    ]
    )
  where
    told : (call.reply ≡ Say.Stopped) ⊎ ((call.reply ≡ Say.Down) ⊎ WasAnswered start past e call) → MayList start past tid ps
    told (inl h) = absurd (subst (λ (r : NodeReply). Lists tid ps r) h lists)
    told (inr (inl h)) = absurd (subst (λ (r : NodeReply). Lists tid ps r) h lists)
    told (inr (inr w)) =
        listed_issued start past tid ps (doubts_of (held_parts (records_of start past call.node))) (doubts_issued start past _ (held_issued start past call.node (records_of start past call.node) (kept.records call.node)))
        (listed_reply (base_at start call.node) (records_of start past call.node) call.request tid ps (subst (λ (r : NodeReply). Lists tid ps r) w.replies lists))

-- Runs from records that fit together

pub kept_run : (start : Start) (past : List Entry) → StartsSound start → FollowsProtocol start past → Kept start past
kept_run start [] sound run = record {
  issued = λ c tid mini e. absurd cc;
  old = λ k tid old. (refl, refl, refl);
  records = λ k. start_sound start sound k;
  pending = λ k request e. absurd cc;
  yes = λ c k tid e. absurd cc;
  no = λ c tid e. absurd cc;
  abandoned = λ c tid e. absurd cc;
  listed = λ c tid ps h. absurd (omega (arith, h.1.1));
}
kept_run start (e ∷ past) sound run =
    let kept = kept_run start past sound run.0 in
    let keeps = run.1 in
    record {
      issued = λ c tid mini. issued_kept start past e c tid mini kept keeps;
      old = λ k tid. old_kept start past e k tid kept keeps;
      records = λ k. records_kept start past e k kept keeps;
      pending = λ k request. pending_kept start past e k request kept keeps;
      yes = λ c k tid. yes_kept start past e c k tid kept keeps;
      no = λ c tid. no_kept start past e c tid kept keeps;
      abandoned = λ c tid. abandoned_kept start past e c tid kept keeps;
      listed = λ c tid ps. listed_kept start past e c tid ps kept keeps;
    }

pub decided_yes_voted : (start : Start) (past : List Entry) (k : NodeNo) (tid : Tid) (records : List Record) → AllByRecursion (RecordSound start past k) records → Rattle.mn_mini.specs.Node.has_decided_yes records tid ≡ true → AllVoted start past tid
decided_yes_voted start past k tid [] a e = absurd cc
decided_yes_voted start past k tid (Voted t ps part ∷ records) a e = decided_yes_voted start past k tid records a.1 e
decided_yes_voted start past k tid (Executed t part ∷ records) a e = decided_yes_voted start past k tid records a.1 e
decided_yes_voted start past k tid (Decided t true ∷ records) a e =
    elim (or_cases (tid_same t tid) (Rattle.mn_mini.specs.Node.has_decided_yes records tid) e) as (λ _. AllVoted start past tid) [
      | inl same ↦ subst (λ (x : Tid). AllVoted start past x) (tid_same-true t tid same) a.0
      | inr older ↦ decided_yes_voted start past k tid records a.1 older
    ]
decided_yes_voted start past k tid (Decided t false ∷ records) a e = decided_yes_voted start past k tid records a.1 e
decided_yes_voted start past k tid (Forced t ∷ records) a e = decided_yes_voted start past k tid records a.1 e

pub decided_no_lost : (start : Start) (past : List Entry) (k : NodeNo) (tid : Tid) (records : List Record) → AllByRecursion (RecordSound start past k) records → Rattle.mn_mini.specs.Node.has_decided_no records tid ≡ true → IsLost start past tid
decided_no_lost start past k tid [] a e = absurd cc
decided_no_lost start past k tid (Voted t ps part ∷ records) a e = decided_no_lost start past k tid records a.1 e
decided_no_lost start past k tid (Executed t part ∷ records) a e = decided_no_lost start past k tid records a.1 e
decided_no_lost start past k tid (Decided t false ∷ records) a e =
    elim (or_cases (tid_same t tid) (Rattle.mn_mini.specs.Node.has_decided_no records tid) e) as (λ _. IsLost start past tid) [
      | inl same ↦ subst (λ (x : Tid). IsLost start past x) (tid_same-true t tid same) a.0
      | inr older ↦ decided_no_lost start past k tid records a.1 older
    ]
decided_no_lost start past k tid (Decided t true ∷ records) a e = decided_no_lost start past k tid records a.1 e
decided_no_lost start past k tid (Forced t ∷ records) a e = decided_no_lost start past k tid records a.1 e

-- an id of which every participant has voted has lost none
pub issued_or_lost : (start : Start) (past : List Entry) (tid : Tid) → IssuedVoted start past tid → IssuedLost start past tid → ⊥
issued_or_lost start past tid (ps, (mini, is, all), voted) (qs, k, (other, is', all'), has, lost) =
    let same : mini ≡ other = cc in
    let parts : qs ≡ ps = all' ∙ (sym (ap participants_of same) ∙ sym all) in
    let here : Contains ps k = subst (λ (x : List NodeNo). Contains x k) parts has in
    clash _ (All-contains (λ n. has_voted (records_of start past n) tid ≡ true) ps k (All-from_recursion (λ n. has_voted (records_of start past n) tid ≡ true) ps voted) here) lost.0

start_or_lost : (start : Start) (tid : Tid) → StartsSound start → StartVoted start tid → StartLost start tid → ⊥
start_or_lost start tid sound (ps, (n, (low, is)), voted) (qs, k, (m, (low', is')), has, unvoted) =
    let same : ps ≡ qs = sound.same n m tid ps qs low low' is is' in
    let here : Contains ps k = subst (λ (x : List NodeNo). Contains x k) (sym same) has in
    clash _ (All-contains (λ n. has_voted (start_records start n) tid ≡ true) ps k (All-from_recursion (λ n. has_voted (start_records start n) tid ≡ true) ps voted) here) unvoted

pub voted_or_lost : (start : Start) (past : List Entry) (tid : Tid) → StartsSound start → Kept start past → AllVoted start past tid → IsLost start past tid → ⊥
voted_or_lost start past tid sound kept (inl voted) (inl lost) = issued_or_lost start past tid voted lost
voted_or_lost start past tid sound kept (inr voted) (inr lost) = start_or_lost start tid sound voted lost
voted_or_lost start past tid sound kept (inl voted) (inr lost) = new_not_old start past tid.client tid voted.1.0 kept voted.1.1 (names_old start tid lost.0 lost.2)
voted_or_lost start past tid sound kept (inr voted) (inl lost) = new_not_old start past tid.client tid lost.2.0 kept lost.2.1 (names_old start tid voted.0 voted.1)

pub decided_one_way : DecidedOneWay
decided_one_way start past n m tid sound run low low' yes' no' =
    let kept = kept_run start past sound run in
    voted_or_lost start past tid sound kept (decided_yes_voted start past n tid (records_of start past n) (kept.records n) yes') (decided_no_lost start past m tid (records_of start past m) (kept.records m) no')
