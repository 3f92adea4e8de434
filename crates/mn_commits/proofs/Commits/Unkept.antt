-- An Exec that a restart did not keep is committed at no place.
use Rattle.std.proofs.Common.{◌≡◌, inr, Bool, true, false, ◌||◌, List, [], ◌∷◌, ◌++◌, Option, Some, None, refl, subst, sym, ap, ◌∙◌, if◌then◌else◌}
use Rattle.std.specs.List.{list_all}
use Rattle.mn_base.specs.Ids.{node_same}
use Rattle.mn_base.specs.declared.ids.NodeNo.{NodeNo}
use Rattle.mn_base.specs.declared.ids.ClientNo.{ClientNo}
use Rattle.mn_base.specs.declared.ids.Tid.{Tid}
use Rattle.mn_mini.specs.declared.part.PartItem.{PartItem}
use Rattle.mn_mini.specs.declared.record.Record.{Record}
use Rattle.mn_mini.specs.declared.request.Request.{Request}
use Rattle.mn_mini.specs.declared.request.Request.TheVariants as Ask
use Rattle.mn_runs.specs.declared.entry.Entry.{Entry}
use Rattle.mn_runs.specs.declared.entry.What.{What}
use Rattle.mn_runs.specs.declared.entry.What.TheVariants.{Begin, Issue, Called, Stopped, Restarted, Abandoned, Answered}
use Rattle.mn_runs.specs.Calls.{Issued, is_at, is_done, node_entries, client_entries}
use Rattle.mn_runs.specs.Nodes.{is_down, is_down_after, stopped_request, stopped_request_after}
use Rattle.mn_runs.specs.Clients.{Sends}
use Rattle.mn_runs.specs.Protocol.{Start, KeepsProtocol, FollowsProtocol}
use Rattle.mn_runs.specs.Commits.{has_vote, effect_of, issued_as, committed_with, committed_by}
use Rattle.mn_votes.specs.Laws.{StartsSound}
use Rattle.mn_commits.specs.Laws.{IsNeverCommitted, UnkeptIsNever}
use Rattle.mn_commits.proofs.Commits.Told.{issues_agree}
use Rattle.mn_votes.proofs.Unchanged.{ExecAt_stays, WasExecuted_stays}
use Rattle.mn_votes.proofs.Backing.{ExecAt, PartAt, WasExecuted, Kept}
use Rattle.mn_votes.proofs.Preserved.{kept_run}
use Rattle.mn_votes.proofs.Acts.{Act, idle, votes, executes, decides, forces, act_here}
use Rattle.mn_commits.proofs.Bytes.Step.{idle_commits, issued_is}
use Rattle.mn_commits.proofs.Bytes.Through.{eff_at, added_at}
use Rattle.mn_commits.proofs.Commits.Records.{fits_run, alone_or_several}
use Rattle.mn_commits.proofs.Commits.Never.{none_some, same_issued, follows_past}
use Rattle.mn_commits.proofs.Commits.Once.{sent_unbacked, pending_never, exec_place, at_some}

-- an entry that commits an id with one participant is its Exec
exec_effect : (start : Start) (past : List Entry) (k : NodeNo) (eff : Option Request) (added : Option Record) (tid : Tid) (n : NodeNo) (part : List PartItem) → FollowsProtocol start past → Act start past k eff added → ExecAt past tid n part
    → (i : Issued) → committed_with past k eff ≡ Some i → i.tid ≡ tid → (own : List PartItem) × (eff ≡ Some (Ask.Exec tid own))
exec_effect start past k eff added tid n part run (idle q none) exec i is eq = absurd (none_some i (sym (idle_commits past k q none) ∙ is))
exec_effect start past k eff added tid n part run (decides q t verdict none held) exec i is eq = absurd (none_some i (sym (idle_commits past k q none) ∙ is))
exec_effect start past k eff added tid n part run (forces q t none unvoted unforced ps may) exec i is eq = absurd (none_some i (sym (idle_commits past k q none) ∙ is))
exec_effect start past k eff added tid n part run (executes t own free tested (unexecuted, (mini, has, its, alone))) exec i is eq =
    let this : record { tid = t; mini = mini } ≡ i = same_issued _ i (sym (issued_is start past t mini (issues_agree start past t run) has) ∙ is) in
    (own, ap (λ (x : Tid). Some (Ask.Exec x own)) (ap (λ (j : Issued). j.tid) this ∙ eq))
exec_effect start past k eff added tid n part run (votes t ps own unforced free tested (unvoted, (mini, has, all), at)) exec i is eq = by (list_all (λ m. node_same m k || has_vote t m past) ps) is
  where
    by : (b : Bool) → (if b then issued_as t past else None) ≡ Some i → (own' : List PartItem) × (Some (Ask.Prepare t ps own) ≡ Some (Ask.Exec tid own'))
    by false h = absurd (none_some i h)
    by true h =
        let this : record { tid = t; mini = mini } ≡ i = same_issued _ i (sym (issued_is start past t mini (issues_agree start past t run) has) ∙ h) in
        absurd (alone_or_several past tid n k part own exec (subst (λ (x : Tid). PartAt past x k own) (ap (λ (j : Issued). j.tid) this ∙ eq) at))

-- the Exec was sent to its node, is not committed, and is not pending
abbrev IsDropped : List Entry → Tid → NodeNo → List PartItem → Type 0
IsDropped past tid k part =
    ExecAt past tid k part × WasExecuted past tid k × IsNeverCommitted tid past × ((own : List PartItem) → is_down (node_entries k past) ≡ true → stopped_request (node_entries k past) ≡ Some (Ask.Exec tid own) → ⊥)

-- nothing makes it take effect
no_effect : (start : Start) (past : List Entry) (by : Option ClientNo) (k : NodeNo) (what : What) (tid : Tid) (part own : List PartItem) → Kept start past → KeepsProtocol start past (record { node = Some k; client = by; what = what }) → IsDropped past tid k part
    → effect_of (node_entries k past) what ≡ Some (Ask.Exec tid own) → ⊥
no_effect start past None k (Called request reply) tid part own kept keeps d is = absurd keeps.by_client
no_effect start past (Some c) k (Called request reply) tid part own kept keeps d is = by (is_done reply) is
  where
    by : (b : Bool) → (if b then Some request else None) ≡ Some (Ask.Exec tid own) → ⊥
    by false e = absurd cc
    by true e =
        let same : request ≡ Ask.Exec tid own = cc in
        sent_unbacked start past c k tid own kept (subst (λ (q : Request). Sends (client_entries c past) (Some k) q) same keeps.by_client) (inr (k, part, d.0, d.1))
no_effect start past by k (Restarted true) tid part own kept keeps d is = d.3 own keeps.at_node.1.0 is
no_effect start past by k (Restarted false) tid part own kept keeps d is = absurd cc
no_effect start past by k (Stopped request asked) tid part own kept keeps d is = absurd cc
no_effect start past by k (Begin number op) tid part own kept keeps d is = absurd cc
no_effect start past by k (Issue u m) tid part own kept keeps d is = absurd cc
no_effect start past by k (Abandoned u) tid part own kept keeps d is = absurd cc
no_effect start past by k (Answered number answer) tid part own kept keeps d is = absurd cc

dropped_quiet : (start : Start) (past : List Entry) (by : Option ClientNo) (at : Option NodeNo) (what : What) (tid : Tid) (k : NodeNo) (part : List PartItem) → StartsSound start → FollowsProtocol start past → KeepsProtocol start past (record { node = at; client = by; what = what })
    → IsDropped past tid k part → (i : Issued) → committed_by past (record { node = at; client = by; what = what }) ≡ Some i → i.tid ≡ tid → ⊥
dropped_quiet start past by None what tid k part sound run keeps d i is eq = none_some i is
dropped_quiet start past by (Some m) what tid k part sound run keeps d i is eq =
    let f = fits_run start past sound run in
    let act = act_here start past by m what f.kept f.pending f.once keeps in
    let here : m ≡ k = exec_place start past m (eff_at past m what) (added_at start past m what) tid k part run act d.0 i is eq in
    let x = exec_effect start past m (eff_at past m what) (added_at start past m what) tid k part run act d.0 i is eq in
    no_effect start past by m what tid part x.0 f.kept keeps (subst (λ (n : NodeNo). IsDropped past tid n part) (sym here) d) x.1

-- nothing makes it pending again
not_pending : (start : Start) (past : List Entry) (by : Option ClientNo) (k : NodeNo) (what : What) (tid : Tid) (part own : List PartItem) → Kept start past → KeepsProtocol start past (record { node = Some k; client = by; what = what }) → IsDropped past tid k part
    → is_down_after what (is_down (node_entries k past)) ≡ true → stopped_request_after what (stopped_request (node_entries k past)) ≡ Some (Ask.Exec tid own) → ⊥
not_pending start past by k (Called request reply) tid part own kept keeps d down is = d.3 own down is
not_pending start past None k (Stopped (Some r) asked) tid part own kept keeps d down is = absurd keeps.by_client
not_pending start past (Some c) k (Stopped (Some r) asked) tid part own kept keeps d down is =
    let same : r ≡ Ask.Exec tid own = cc in
    sent_unbacked start past c k tid own kept (subst (λ (q : Request). Sends (client_entries c past) (Some k) q) same keeps.by_client) (inr (k, part, d.0, d.1))
not_pending start past by k (Stopped None asked) tid part own kept keeps d down is = absurd cc
not_pending start past by k (Restarted restored) tid part own kept keeps d down is = absurd cc
not_pending start past by k (Begin number op) tid part own kept keeps d down is = absurd keeps.at_node.1
not_pending start past by k (Issue u m) tid part own kept keeps d down is = absurd keeps.at_node.1
not_pending start past by k (Abandoned u) tid part own kept keeps d down is = absurd keeps.at_node.1
not_pending start past by k (Answered number answer) tid part own kept keeps d down is = absurd keeps.at_node.1

dropped_stays : (start : Start) (past : List Entry) (e : Entry) (tid : Tid) (k : NodeNo) (part : List PartItem) → StartsSound start → FollowsProtocol start past → KeepsProtocol start past e → IsDropped past tid k part → IsDropped (e ∷ past) tid k part
dropped_stays start past e tid k part sound run keeps d = (
  ExecAt_stays start past e tid k part (kept_run start past sound run) keeps d.0,
  WasExecuted_stays past e tid k d.1,
  (dropped_quiet start past e.client e.node e.what tid k part sound run keeps d, d.2),
  λ own. elim (is_at k e) as (λ b. is_at k e ≡ b → is_down (if b then e ∷ node_entries k past else node_entries k past) ≡ true → stopped_request (if b then e ∷ node_entries k past else node_entries k past) ≡ Some (Ask.Exec tid own) → ⊥) [
    | true ↦ λ at down is.
        not_pending start past e.client k e.what tid part own (kept_run start past sound run) (subst (λ (o : Option NodeNo). KeepsProtocol start past (record { node = o; client = e.client; what = e.what })) (at_some k e.node e.client e.what at) keeps) d down is
    | false ↦ λ _ down is. d.3 own down is
  ] refl,
)

dropped_later : (start : Start) (past later : List Entry) (tid : Tid) (k : NodeNo) (part : List PartItem) → StartsSound start → FollowsProtocol start (later ++ past) → IsDropped past tid k part → IsDropped (later ++ past) tid k part
dropped_later start past [] tid k part sound run d = d
dropped_later start past (e ∷ later) tid k part sound run d = dropped_stays start (later ++ past) e tid k part sound run.0 run.1 (dropped_later start past later tid k part sound run.0 d)

dropped_here : (start : Start) (past : List Entry) (by : Option ClientNo) (k : NodeNo) (tid : Tid) (part : List PartItem) → StartsSound start → FollowsProtocol start past → KeepsProtocol start past (record { node = Some k; client = by; what = Restarted false })
    → stopped_request (node_entries k past) ≡ Some (Ask.Exec tid part) → IsDropped (record { node = Some k; client = by; what = Restarted false } ∷ past) tid k part
dropped_here start past by k tid part sound run keeps is =
    let e : Entry = record { node = Some k; client = by; what = Restarted false } in
    let kept = kept_run start past sound run in
    let s = kept.pending k (Ask.Exec tid part) is in (
      ExecAt_stays start past e tid k part kept keeps s.1,
      WasExecuted_stays past e tid k s.0,
      ((λ i c eq. none_some i c), pending_never start past sound run k tid part keeps.at_node.1 is),
      λ own. subst (λ (b : Bool). is_down (if b then e ∷ node_entries k past else node_entries k past) ≡ true → stopped_request (if b then e ∷ node_entries k past else node_entries k past) ≡ Some (Ask.Exec tid own) → ⊥) (sym (Rattle.mn_mini.proofs.Parts.same_self k)) (λ down h. absurd cc),
    )

pub unkept_is_never : UnkeptIsNever
unkept_is_never start past later e k tid part sound run at what is =
    let here : FollowsProtocol start (e ∷ past) = follows_past start (e ∷ past) later run in
    let d : IsDropped (e ∷ past) tid k part =
    subst (λ (o : Option NodeNo). KeepsProtocol start past (record { node = o; client = e.client; what = e.what }) → IsDropped (record { node = o; client = e.client; what = e.what } ∷ past) tid k part) (sym at)
    (subst (λ (w : What). KeepsProtocol start past (record { node = Some k; client = e.client; what = w }) → IsDropped (record { node = Some k; client = e.client; what = w } ∷ past) tid k part) (sym what)
    (λ keeps. dropped_here start past e.client k tid part sound here.0 keeps is)) here.1 in
    (dropped_later start (e ∷ past) later tid k part sound run d).2
