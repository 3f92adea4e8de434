-- An id is committed at most once.
use Rattle.std.proofs.Common.{◌≡◌, ℕ, inl, inr, Bool, true, false, ◌||◌, List, [], ◌∷◌, Option, Some, None, refl, subst, sym, ap, ◌∙◌, if◌then◌else◌, Contains}
use Rattle.std.specs.List.{list_all}
use Rattle.std.proofs.lemmas.List.Elements.{All-contains, All-from_recursion}
use Rattle.mn_base.specs.Ids.{node_same}
use Rattle.mn_base.specs.declared.ids.NodeNo.{NodeNo}
use Rattle.mn_base.specs.declared.ids.ClientNo.{ClientNo}
use Rattle.mn_base.specs.declared.ids.Tid.{Tid}
use Rattle.mn_base.proofs.Booleans.{clash}
use Rattle.mn_mini.specs.declared.part.PartItem.{PartItem}
use Rattle.mn_mini.specs.declared.record.Record.{Record}
use Rattle.mn_mini.specs.declared.request.Request.{Request}
use Rattle.mn_mini.specs.declared.request.Request.TheVariants as Ask
use Rattle.mn_mini.specs.declared.reply.NodeReply.{NodeReply}
use Rattle.mn_mini.specs.declared.reply.NodeReply.TheVariants as Say
use Rattle.mn_mini.specs.Mini.{participants_of}
use Rattle.mn_mini.specs.Node.{has_voted, answer}
use Rattle.mn_mini.proofs.Parts.{same_self, same_true}
use Rattle.mn_runs.specs.declared.entry.Entry.{Entry}
use Rattle.mn_runs.specs.declared.entry.What.{What}
use Rattle.mn_runs.specs.declared.entry.What.TheVariants.{Begin, Issue, Called, Stopped, Restarted, Abandoned, Answered}
use Rattle.mn_runs.specs.Calls.{Issued, is_at, is_try, is_done, is_stopped, node_entries, client_entries, calls_of, was_sent}
use Rattle.mn_runs.specs.Nodes.{is_down, is_down_after, stopped_request, stopped_request_after}
use Rattle.mn_runs.specs.Clients.{Sends}
use Rattle.mn_runs.specs.Protocol.{Start, base_at, records_of, KeepsProtocol, FollowsProtocol}
use Rattle.mn_runs.specs.Commits.{has_vote, effect_of, issued_as, committed_with, committed_by}
use Rattle.mn_votes.specs.Laws.{StartsSound}
use Rattle.mn_commits.specs.Laws.{IsNeverCommitted, CommitsOnce}
use Rattle.mn_commits.proofs.Commits.Told.{issues_agree}
use Rattle.mn_votes.proofs.Unchanged.{current_issue}
use Rattle.mn_votes.proofs.Backing.{mini_of, ExecAt, PartAt, WasTried, WasExecuted, Kept}
use Rattle.mn_votes.proofs.Preserved.{kept_run, executed_was_tried, same_mini}
use Rattle.mn_votes.proofs.Acts.{Act, idle, votes, executes, decides, forces, sent_unvoted, act_here, told_sent}
use Rattle.mn_commits.proofs.Bytes.Step.{idle_commits, issued_is}
use Rattle.mn_commits.proofs.Bytes.Through.{eff_at, added_at}
use Rattle.mn_commits.proofs.Commits.Records.{fits_run, alone_or_several}
use Rattle.mn_commits.proofs.Commits.Never.{IsBacked, never_from, alone_unvoted, none_some, same_issued}

-- an Exec that may be sent is of an id that nothing backs
pub sent_unbacked : (start : Start) (past : List Entry) (c : ClientNo) (k : NodeNo) (t : Tid) (part : List PartItem) → Kept start past → Sends (client_entries c past) (Some k) (Ask.Exec t part) → IsBacked start past t → ⊥
sent_unbacked start past c k t part kept s backed = by backed
  where
    own : t.client ≡ c
    own = (kept.issued c t s.mini (current_issue (client_entries c past) t s.mini s.issued)).0

    mine : mini_of past t ≡ Some s.mini
    mine = subst (λ (d : ClientNo). Rattle.mn_runs.specs.Calls.issue_named t (Rattle.mn_runs.specs.Calls.issues_of (client_entries d past)) ≡ Some s.mini) (sym own) (current_issue (client_entries c past) t s.mini s.issued)

    unsent : was_sent t k (client_entries t.client past) ≡ false
    unsent = subst (λ (d : ClientNo). was_sent t k (client_entries d past) ≡ false) (sym own) s.once

    tried : WasTried past t k → ⊥
    tried (inl h) = clash _ (told_sent (is_try t) is_done k (calls_of (client_entries t.client past)) h) unsent
    tried (inr h) = clash _ (told_sent (is_try t) is_stopped k (calls_of (client_entries t.client past)) h) unsent

    head : (a b : NodeNo) → a ∷ [] ≡ b ∷ [] → a ≡ b
    head a b h = cc

    by : IsBacked start past t → ⊥
    by (inl voted) = alone_unvoted start past t s.mini k kept mine s.alone voted
    by (inr (n, other, (mini, is, its, alone), was)) =
        let same : mini ≡ s.mini = same_mini mini s.mini (sym is ∙ mine) in
        let one : n ≡ k = head n k (sym alone ∙ (ap participants_of same ∙ s.alone)) in
        tried (executed_was_tried past t k (subst (λ (m : NodeNo). WasExecuted past t m) one was))

-- A pending Exec is not committed

abbrev IsPendingNever : List Entry → Type 0
IsPendingNever past = (k : NodeNo) (t : Tid) (part : List PartItem) → is_down (node_entries k past) ≡ true → stopped_request (node_entries k past) ≡ Some (Ask.Exec t part) → IsNeverCommitted t past

-- a node that is down commits nothing, unless it restarts
quiet : (past : List Entry) (k : NodeNo) (request : Request) (base : List ℕ) (records : List Record) (reply : NodeReply) (down : Bool) → down ≡ true → reply ≡ (if down then Say.Down else (answer base records request).reply) → is_done reply ≡ false
quiet past k request base records reply true d e = ap is_done e
quiet past k request base records reply false d e = absurd cc

-- an entry that commits an id with one participant is at that node
pub exec_place : (start : Start) (past : List Entry) (k : NodeNo) (eff : Option Request) (added : Option Record) (tid : Tid) (n : NodeNo) (part : List PartItem) → FollowsProtocol start past → Act start past k eff added → ExecAt past tid n part
    → (i : Issued) → committed_with past k eff ≡ Some i → i.tid ≡ tid → k ≡ n
exec_place start past k eff added tid n part run (idle q none) exec i is eq = absurd (none_some i (sym (idle_commits past k q none) ∙ is))
exec_place start past k eff added tid n part run (decides q t verdict none held) exec i is eq = absurd (none_some i (sym (idle_commits past k q none) ∙ is))
exec_place start past k eff added tid n part run (forces q t none unvoted unforced ps may) exec i is eq = absurd (none_some i (sym (idle_commits past k q none) ∙ is))
exec_place start past k eff added tid n part run (executes t own free tested (unexecuted, (mini, has, its, alone))) exec i is eq =
    let this : record { tid = t; mini = mini } ≡ i = same_issued _ i (sym (issued_is start past t mini (issues_agree start past t run) has) ∙ is) in
    let id : t ≡ tid = ap (λ (j : Issued). j.tid) this ∙ eq in
    one (subst (λ (x : Tid). ExecAt past x k own) id (mini, has, its, alone)) exec
  where
    head : (a b : NodeNo) → a ∷ [] ≡ b ∷ [] → a ≡ b
    head a b h = cc

    one : ExecAt past tid k own → ExecAt past tid n part → k ≡ n
    one (a, isa, owna, alonea) (b, isb, ownb, aloneb) = head k n (sym alonea ∙ (ap participants_of (same_mini a b (sym isa ∙ isb)) ∙ aloneb))
exec_place start past k eff added tid n part run (votes t ps own unforced free tested (unvoted, (mini, has, all), at)) exec i is eq = by (list_all (λ m. node_same m k || has_vote t m past) ps) is
  where
    by : (b : Bool) → (if b then issued_as t past else None) ≡ Some i → k ≡ n
    by false h = absurd (none_some i h)
    by true h =
        let this : record { tid = t; mini = mini } ≡ i = same_issued _ i (sym (issued_is start past t mini (issues_agree start past t run) has) ∙ h) in
        let id : t ≡ tid = ap (λ (j : Issued). j.tid) this ∙ eq in
        absurd (alone_or_several past tid n k part own exec (subst (λ (x : Tid). PartAt past x k own) id at))

-- an entry that leaves a node down commits none of its pending Exec
pending_quiet : (start : Start) (past : List Entry) (by : Option ClientNo) (at : Option NodeNo) (what : What) (k : NodeNo) (t : Tid) (part : List PartItem) → StartsSound start → FollowsProtocol start past
    → KeepsProtocol start past (record { node = at; client = by; what = what }) → ExecAt past t k part → ((at ≡ Some k) → effect_of (node_entries k past) what ≡ None)
    → (i : Issued) → committed_by past (record { node = at; client = by; what = what }) ≡ Some i → i.tid ≡ t → ⊥
pending_quiet start past by None what k t part sound run keeps exec still i is eq = none_some i is
pending_quiet start past by (Some m) what k t part sound run keeps exec still i is eq =
    let f = fits_run start past sound run in
    let here : m ≡ k = exec_place start past m (eff_at past m what) (added_at start past m what) t k part run (act_here start past by m what f.kept f.pending f.once keeps) exec i is eq in
    let nothing : effect_of (node_entries m past) what ≡ None = subst (λ (n : NodeNo). effect_of (node_entries n past) what ≡ None) (sym here) (still (ap (λ (n : NodeNo). Some n) here)) in
    none_some i (sym (ap (λ (o : Option Request). committed_with past m o) nothing) ∙ is)

-- what an entry of the node that leaves it down does
still_here : (start : Start) (past : List Entry) (by : Option ClientNo) (k : NodeNo) (what : What) → KeepsProtocol start past (record { node = Some k; client = by; what = what }) → is_down_after what (is_down (node_entries k past)) ≡ true
    → effect_of (node_entries k past) what ≡ None
still_here start past by k (Called request reply) keeps down =
    ap (λ (b : Bool). if b then Some request else None) (quiet past k request (base_at start k) (records_of start past k) reply (is_down (node_entries k past)) down keeps.at_node.1)
still_here start past by k (Stopped request asked) keeps down = refl
still_here start past by k (Restarted restored) keeps down = absurd cc
still_here start past by k (Begin number op) keeps down = refl
still_here start past by k (Issue t m) keeps down = refl
still_here start past by k (Abandoned t) keeps down = refl
still_here start past by k (Answered number answer) keeps down = refl

-- the request was pending before, or was sent now
before_here : (start : Start) (past : List Entry) (by : Option ClientNo) (k : NodeNo) (what : What) (t : Tid) (part : List PartItem) → StartsSound start → FollowsProtocol start past → IsPendingNever past
    → KeepsProtocol start past (record { node = Some k; client = by; what = what }) → is_down_after what (is_down (node_entries k past)) ≡ true → stopped_request_after what (stopped_request (node_entries k past)) ≡ Some (Ask.Exec t part)
    → IsNeverCommitted t past × ExecAt past t k part
before_here start past by k (Called request reply) t part sound run pending keeps down is = (pending k t part down is, ((kept_run start past sound run).pending k (Ask.Exec t part) is).1)
before_here start past None k (Stopped (Some r) asked) t part sound run pending keeps down is = absurd keeps.by_client
before_here start past (Some c) k (Stopped (Some r) asked) t part sound run pending keeps down is =
    let same : r ≡ Ask.Exec t part = cc in
    let s : Sends (client_entries c past) (Some k) (Ask.Exec t part) = subst (λ (q : Request). Sends (client_entries c past) (Some k) q) same keeps.by_client in
    let kept = kept_run start past sound run in
    (never_from start past t sound run (sent_unbacked start past c k t part kept s), ((sent_unvoted start past c k (Ask.Exec t part) kept s).exec t part refl).1)
before_here start past by k (Stopped None asked) t part sound run pending keeps down is = absurd cc
before_here start past by k (Restarted restored) t part sound run pending keeps down is = absurd cc
before_here start past by k (Begin number op) t part sound run pending keeps down is = absurd keeps.at_node.1
before_here start past by k (Issue u m) t part sound run pending keeps down is = absurd keeps.at_node.1
before_here start past by k (Abandoned u) t part sound run pending keeps down is = absurd keeps.at_node.1
before_here start past by k (Answered number answer) t part sound run pending keeps down is = absurd keeps.at_node.1

pub at_some : (k : NodeNo) (at : Option NodeNo) (by : Option ClientNo) (what : What) → is_at k (record { node = at; client = by; what = what }) ≡ true → at ≡ Some k
at_some k None by what e = absurd cc
at_some k (Some n) by what e = ap (λ (x : NodeNo). Some x) (sym (same_true k n e))

pub not_at : (k : NodeNo) (at : Option NodeNo) (by : Option ClientNo) (what : What) → is_at k (record { node = at; client = by; what = what }) ≡ false → at ≡ Some k → ⊥
not_at k at by what e is = clash _ (subst (λ (o : Option NodeNo). is_at k (record { node = o; client = by; what = what }) ≡ true) (sym is) (same_self k)) e

pub pending_never : (start : Start) (past : List Entry) → StartsSound start → FollowsProtocol start past → IsPendingNever past
pending_never start [] sound run k t part down is = tt
pending_never start (e ∷ past) sound run k t part down is =
    let older = pending_never start past sound run.0 in
    elim (is_at k e) as (λ b. is_at k e ≡ b → is_down (if b then e ∷ node_entries k past else node_entries k past) ≡ true → stopped_request (if b then e ∷ node_entries k past else node_entries k past) ≡ Some (Ask.Exec t part) → IsNeverCommitted t (e ∷ past)) [
      | true ↦ λ at d s.
          let here = at_some k e.node e.client e.what at in
          let keeps = subst (λ (o : Option NodeNo). KeepsProtocol start past (record { node = o; client = e.client; what = e.what })) here run.1 in
          let b = before_here start past e.client k e.what t part sound run.0 older keeps d s in
          (pending_quiet start past e.client e.node e.what k t part sound run.0 run.1 b.1 (λ _. still_here start past e.client k e.what keeps d), b.0)
      | false ↦ λ at d s.
          (pending_quiet start past e.client e.node e.what k t part sound run.0 run.1 ((kept_run start past sound run.0).pending k (Ask.Exec t part) s).1 (λ here. absurd (not_at k e.node e.client e.what at here)), older k t part d s)
    ] refl down is

-- A commit

-- a vote completes an id that nothing backs
vote_unbacked : (start : Start) (past : List Entry) (k : NodeNo) (t : Tid) (part : List PartItem) → has_voted (records_of start past k) t ≡ false → PartAt past t k part → IsBacked start past t → ⊥
vote_unbacked start past k t part unvoted (mini, is, own, has, several) (inl (ps, (mini', is', all), voted)) =
    let same : mini ≡ mini' = same_mini mini mini' (sym is ∙ is') in
    let here : Contains ps k = subst (λ (x : List NodeNo). Contains x k) (ap participants_of same ∙ sym all) has in
    clash _ (All-contains (λ n. has_voted (records_of start past n) t ≡ true) ps k (All-from_recursion (λ n. has_voted (records_of start past n) t ≡ true) ps voted) here) unvoted
vote_unbacked start past k t part unvoted at (inr (n, other, exec, was)) = alone_or_several past t n k other part exec at

-- an Exec that takes effect was not committed
exec_never : (start : Start) (past : List Entry) (by : Option ClientNo) (k : NodeNo) (what : What) (t : Tid) (part : List PartItem) → StartsSound start → FollowsProtocol start past → KeepsProtocol start past (record { node = Some k; client = by; what = what })
    → effect_of (node_entries k past) what ≡ Some (Ask.Exec t part) → IsNeverCommitted t past
exec_never start past None k (Called request reply) t part sound run keeps is = absurd keeps.by_client
exec_never start past (Some c) k (Called request reply) t part sound run keeps is = by (is_done reply) is
  where
    by : (b : Bool) → (if b then Some request else None) ≡ Some (Ask.Exec t part) → IsNeverCommitted t past
    by false e = absurd cc
    by true e =
        let same : request ≡ Ask.Exec t part = cc in
        let s : Sends (client_entries c past) (Some k) (Ask.Exec t part) = subst (λ (q : Request). Sends (client_entries c past) (Some k) q) same keeps.by_client in
        never_from start past t sound run (sent_unbacked start past c k t part (kept_run start past sound run) s)
exec_never start past by k (Restarted true) t part sound run keeps is = pending_never start past sound run k t part keeps.at_node.1.0 is
exec_never start past by k (Restarted false) t part sound run keeps is = absurd cc
exec_never start past by k (Stopped request asked) t part sound run keeps is = absurd cc
exec_never start past by k (Begin number op) t part sound run keeps is = absurd cc
exec_never start past by k (Issue u m) t part sound run keeps is = absurd cc
exec_never start past by k (Abandoned u) t part sound run keeps is = absurd cc
exec_never start past by k (Answered number answer) t part sound run keeps is = absurd cc

once_of : (start : Start) (past : List Entry) (k : NodeNo) (eff : Option Request) (added : Option Record) → StartsSound start → FollowsProtocol start past → ((t : Tid) (part : List PartItem) → eff ≡ Some (Ask.Exec t part) → IsNeverCommitted t past)
    → Act start past k eff added → (i : Issued) → committed_with past k eff ≡ Some i → IsNeverCommitted i.tid past
once_of start past k eff added sound run exec (idle q none) i is = absurd (none_some i (sym (idle_commits past k q none) ∙ is))
once_of start past k eff added sound run exec (decides q t verdict none held) i is = absurd (none_some i (sym (idle_commits past k q none) ∙ is))
once_of start past k eff added sound run exec (forces q t none unvoted unforced ps may) i is = absurd (none_some i (sym (idle_commits past k q none) ∙ is))
once_of start past k eff added sound run exec (executes t part free tested (unexecuted, (mini, has, own, alone))) i is =
    let this : record { tid = t; mini = mini } ≡ i = same_issued _ i (sym (issued_is start past t mini (issues_agree start past t run) has) ∙ is) in
    subst (λ (j : Issued). IsNeverCommitted j.tid past) this (exec t part refl)
once_of start past k eff added sound run exec (votes t ps part unforced free tested (unvoted, (mini, has, all), at)) i is = by (list_all (λ m. node_same m k || has_vote t m past) ps) is
  where
    by : (b : Bool) → (if b then issued_as t past else None) ≡ Some i → IsNeverCommitted i.tid past
    by false h = absurd (none_some i h)
    by true h =
        let this : record { tid = t; mini = mini } ≡ i = same_issued _ i (sym (issued_is start past t mini (issues_agree start past t run) has) ∙ h) in
        subst (λ (j : Issued). IsNeverCommitted j.tid past) this (never_from start past t sound run (vote_unbacked start past k t part unvoted at))

once_here : (start : Start) (past : List Entry) (by : Option ClientNo) (at : Option NodeNo) (what : What) → StartsSound start → FollowsProtocol start past → KeepsProtocol start past (record { node = at; client = by; what = what })
    → (i : Issued) → committed_by past (record { node = at; client = by; what = what }) ≡ Some i → IsNeverCommitted i.tid past
once_here start past by None what sound run keeps i is = absurd (none_some i is)
once_here start past by (Some k) what sound run keeps i is =
    let f = fits_run start past sound run in
    once_of start past k (eff_at past k what) (added_at start past k what) sound run (λ t part e. exec_never start past by k what t part sound run keeps e) (act_here start past by k what f.kept f.pending f.once keeps) i is

pub commits_once : CommitsOnce
commits_once start past e i sound run is = once_here start past e.client e.node e.what sound run.0 run.1 i is
