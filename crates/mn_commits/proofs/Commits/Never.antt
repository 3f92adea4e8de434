-- What was given up is committed at no place.
use Rattle.std.proofs.Common.{◌≡◌, ℕ, ◌+◌, ◌≤◌, ◌⊎◌, inl, inr, Bool, true, false, not, ◌&&◌, ◌||◌, List, [], ◌∷◌, ◌++◌, length, Option, Some, None, refl, subst, sym, ap, ◌∙◌, arith, if◌then◌else◌, Contains}
use Rattle.std.specs.Prelude.{nat_eq}
use Rattle.std.proofs.lemmas.Bool.Decides.{nat_tests}
use Rattle.std.specs.Bool.{⊤}
use Rattle.std.specs.List.{AllByRecursion, list_any, list_all}
use Rattle.std.proofs.lemmas.List.Folds.{Any-from_list_any}
use Rattle.std.proofs.lemmas.List.Elements.{All-contains, All-from_recursion}
use Rattle.mn_base.specs.Ids.{node_same, tid_same}
use Rattle.mn_base.specs.declared.ids.NodeNo.{NodeNo}
use Rattle.mn_base.specs.declared.ids.ClientNo.{ClientNo}
use Rattle.mn_base.specs.declared.ids.Tid.{Tid}
use Rattle.mn_base.specs.declared.answer.Answer.{Answer}
use Rattle.mn_base.proofs.Lists.{weaker}
use Rattle.mn_base.proofs.Booleans.{clash, falsely, left_true, not_true, or_cases, or_left, or_right, right_true}
use Rattle.mn_mini.specs.declared.part.PartItem.{PartItem}
use Rattle.mn_mini.specs.declared.record.Record.{Record}
use Rattle.mn_mini.specs.declared.request.Request.{Request}
use Rattle.mn_mini.specs.declared.request.Request.TheVariants as Ask
use Rattle.mn_mini.specs.declared.reply.NodeReply.{NodeReply}
use Rattle.mn_mini.specs.Mini.{Mini, participants_of}
use Rattle.mn_mini.specs.Node.{has_voted, is_vote_of, with_added}
use Rattle.mn_mini.proofs.Parts.{same_self, same_true}
use Rattle.mn_runs.specs.declared.entry.Entry.{Entry}
use Rattle.mn_runs.specs.declared.entry.What.{What}
use Rattle.mn_runs.specs.declared.entry.What.TheVariants.{Begin, Issue, Called, Stopped, Restarted, Abandoned, Answered}
use Rattle.mn_runs.specs.Calls.{Call, Issued, is_by, is_try, is_exec, is_done, is_stopped, is_abandonment, node_entries, client_entries, call_in, calls_of, was_told, was_told_somewhere, was_sent, was_done, was_stopped, was_abandoned, issue_named, issues_of, since_begin, since_begin_after}
use Rattle.mn_runs.specs.Clients.{Sends, AllowsIssue, AllowsAbandoned}
use Rattle.mn_runs.specs.Protocol.{Start, records_of, KeepsProtocol, FollowsProtocol}
use Rattle.mn_runs.specs.Commits.{has_vote, effect_of, issued_as, committed_with, committed_by}
use Rattle.mn_votes.specs.Laws.{StartsSound}
use Rattle.mn_commits.specs.Laws.{IsNeverCommitted, AbandonedIsNever, RefusedIsNever, GivenUpIsNever}
use Rattle.mn_runs.proofs.Same.{tid_same-true, tid_same-refl, client_same-refl}
use Rattle.mn_runs.proofs.NewCalls.{IsCallOf, records_here, new_call, call_stays, by_of}
use Rattle.mn_votes.proofs.Unchanged.{as_own, current_issue, record_stays, issue_stays, IssuedTo_stays, ExecAt_stays, WasExecuted_stays, abandoned_stays, try_stays_untold}
use Rattle.mn_votes.proofs.Lost.{told_here}
use Rattle.mn_commits.proofs.Commits.Told.{votes_agree, issues_agree}
use Rattle.mn_votes.proofs.Backing.{mini_of, ExecAt, WasTried, WasExecuted, IssuedVoted, Kept}
use Rattle.mn_votes.proofs.Start.{voted_old, all_true}
use Rattle.mn_votes.proofs.Preserved.{kept_run, new_not_old, voted_or_lost, executed_was_tried, same_mini}
use Rattle.mn_votes.proofs.Acts.{Act, idle, votes, executes, decides, forces, act_here}
use Rattle.mn_commits.proofs.Bytes.Step.{idle_commits, issued_is}
use Rattle.mn_commits.proofs.Bytes.Through.{eff_at, added_at}
use Rattle.mn_commits.proofs.Commits.Records.{fits_run, voted_part, alone_or_several}
use Rattle.mn_runs.proofs.Since.{since_abandoned}

-- What a commit rests on

-- every participant has voted, or the one participant was sent its Exec
abbrev pub IsBacked : Start → List Entry → Tid → Type 0
IsBacked start past tid = IssuedVoted start past tid ⊎ ((k : NodeNo) × (part : List PartItem) × ExecAt past tid k part × WasExecuted past tid k)

backed_stays : (start : Start) (past : List Entry) (e : Entry) (tid : Tid) → Kept start past → KeepsProtocol start past e → IsBacked start past tid → IsBacked start (e ∷ past) tid
backed_stays start past e tid kept keeps (inl (ps, to, all)) =
    inl (ps, IssuedTo_stays start past e tid ps kept keeps to, weaker (λ k. has_voted (records_of start past k) tid ≡ true) (λ k. has_voted (records_of start (e ∷ past) k) tid ≡ true) (λ k h. record_stays start past e k (is_vote_of tid) h) ps all)
backed_stays start past e tid kept keeps (inr (k, part, exec, was)) = inr (k, part, ExecAt_stays start past e tid k part kept keeps exec, WasExecuted_stays past e tid k was)

-- an Exec that takes effect was sent
exec_told : (start : Start) (past : List Entry) (by : Option ClientNo) (k : NodeNo) (what : What) (t : Tid) (part : List PartItem) → Kept start past → KeepsProtocol start past (record { node = Some k; client = by; what = what })
    → effect_of (node_entries k past) what ≡ Some (Ask.Exec t part) → WasExecuted (record { node = Some k; client = by; what = what } ∷ past) t k
exec_told start past None k (Called request reply) t part kept keeps is = absurd keeps.by_client
exec_told start past (Some c) k (Called request reply) t part kept keeps is = by (is_done reply) refl is
  where
    by : (b : Bool) → is_done reply ≡ b → (if b then Some request else None) ≡ Some (Ask.Exec t part) → WasExecuted (record { node = Some k; client = Some c; what = Called request reply } ∷ past) t k
    by false done e = absurd cc
    by true done e =
        let same : request ≡ Ask.Exec t part = cc in
        let s : Sends (client_entries c past) (Some k) (Ask.Exec t part) = subst (λ (q : Request). Sends (client_entries c past) (Some k) q) same keeps.by_client in
        let own : t.client ≡ c = (kept.issued c t s.mini (current_issue (client_entries c past) t s.mini s.issued)).0 in
        inl (subst (λ (d : ClientNo). was_told (is_exec t) is_done k (client_entries d (record { node = Some k; client = Some c; what = Called request reply } ∷ past)) ≡ true) (sym own)
        (told_here start past c k request reply (is_exec t) is_done (subst (λ (q : Request). is_exec t q ≡ true) (sym same) (tid_same-refl t)) done))
exec_told start past by k (Restarted true) t part kept keeps is = WasExecuted_stays past _ t k (kept.pending k (Ask.Exec t part) is).0
exec_told start past by k (Restarted false) t part kept keeps is = absurd cc
exec_told start past by k (Stopped request asked) t part kept keeps is = absurd cc
exec_told start past by k (Begin number op) t part kept keeps is = absurd cc
exec_told start past by k (Issue u mini) t part kept keeps is = absurd cc
exec_told start past by k (Abandoned u) t part kept keeps is = absurd cc
exec_told start past by k (Answered number answer) t part kept keeps is = absurd cc

pub none_some : (i : Issued) → None ≡ Some i → ⊥
none_some i e = absurd cc

pub same_issued : (i j : Issued) → Some i ≡ Some j → i ≡ j
same_issued i j e = cc

backed_of : (start : Start) (past : List Entry) (e : Entry) (k : NodeNo) (eff : Option Request) (added : Option Record) → StartsSound start → Kept start past → FollowsProtocol start past → KeepsProtocol start past e
    → records_of start (e ∷ past) k ≡ with_added added (records_of start past k) → ((t : Tid) (part : List PartItem) → eff ≡ Some (Ask.Exec t part) → WasExecuted (e ∷ past) t k)
    → Act start past k eff added → (i : Issued) → committed_with past k eff ≡ Some i → IsBacked start (e ∷ past) i.tid
backed_of start past e k eff added sound kept run keeps here told (idle q none) i is = absurd (none_some i (sym (idle_commits past k q none) ∙ is))
backed_of start past e k eff added sound kept run keeps here told (decides q t verdict none held) i is = absurd (none_some i (sym (idle_commits past k q none) ∙ is))
backed_of start past e k eff added sound kept run keeps here told (forces q t none unvoted unforced ps may) i is = absurd (none_some i (sym (idle_commits past k q none) ∙ is))
backed_of start past e k eff added sound kept run keeps here told (executes t part free tested (unexecuted, (mini, has, own, alone))) i is =
    let eq : record { tid = t; mini = mini } ≡ i = same_issued _ i (sym (issued_is start past t mini (issues_agree start past t run) has) ∙ is) in
    subst (λ (j : Issued). IsBacked start (e ∷ past) j.tid) eq (inr (k, part, ExecAt_stays start past e t k part kept keeps (mini, has, own, alone), told t part refl))
backed_of start past e k eff added sound kept run keeps here told (votes t ps part unforced free tested (unvoted, (mini, has, all), own)) i is = by (list_all (λ m. node_same m k || has_vote t m past) ps) refl is
  where
    now : (m : NodeNo) → (node_same m k || has_vote t m past) ≡ true → has_voted (records_of start (e ∷ past) m) t ≡ true
    now m h = elim (or_cases (node_same m k) (has_vote t m past) h) as (λ _. has_voted (records_of start (e ∷ past) m) t ≡ true) [
      | inl same ↦ subst (λ (j : NodeNo). has_voted (records_of start (e ∷ past) j) t ≡ true) (sym (same_true m k same)) (subst (λ (r : List Record). has_voted r t ≡ true) (sym here) (or_left _ _ (tid_same-refl t)))
      | inr voted ↦ record_stays start past e m (is_vote_of t) (sym (votes_agree start past m t (falsely _ (λ v. new_not_old start past t.client t mini kept has (voted_old start m t v))) run) ∙ voted)
    ]

    by : (b : Bool) → list_all (λ m. node_same m k || has_vote t m past) ps ≡ b → (if b then issued_as t past else None) ≡ Some i → IsBacked start (e ∷ past) i.tid
    by false last h = absurd (none_some i h)
    by true last h =
        let eq : record { tid = t; mini = mini } ≡ i = same_issued _ i (sym (issued_is start past t mini (issues_agree start past t run) has) ∙ h) in
        let voted = weaker (λ m. (node_same m k || has_vote t m past) ≡ true) (λ m. has_voted (records_of start (e ∷ past) m) t ≡ true) now ps (all_true (λ m. node_same m k || has_vote t m past) ps last) in
        subst (λ (j : Issued). IsBacked start (e ∷ past) j.tid) eq (inl (ps, IssuedTo_stays start past e t ps kept keeps (mini, has, all), voted))

commit_here : (start : Start) (past : List Entry) (by : Option ClientNo) (at : Option NodeNo) (what : What) → StartsSound start → FollowsProtocol start past → KeepsProtocol start past (record { node = at; client = by; what = what })
    → (i : Issued) → committed_by past (record { node = at; client = by; what = what }) ≡ Some i → IsBacked start (record { node = at; client = by; what = what } ∷ past) i.tid
commit_here start past by None what sound run keeps i is = absurd (none_some i is)
commit_here start past by (Some k) what sound run keeps i is =
    let f = fits_run start past sound run in
    backed_of start past (record { node = Some k; client = by; what = what }) k (eff_at past k what) (added_at start past k what) sound f.kept run keeps (records_here start past k by what)
    (λ t part eff. exec_told start past by k what t part f.kept keeps eff) (act_here start past by k what f.kept f.pending f.once keeps) i is

-- an id that nothing backs is committed nowhere
pub never_from : (start : Start) (past : List Entry) (tid : Tid) → StartsSound start → FollowsProtocol start past → (IsBacked start past tid → ⊥) → IsNeverCommitted tid past
never_from start [] tid sound run none = tt
never_from start (e ∷ past) tid sound run none = (
  (λ i is eq. none (subst (λ (t : Tid). IsBacked start (e ∷ past) t) eq (commit_here start past e.client e.node e.what sound run.0 run.1 i is))),
  never_from start past tid sound run.0 (λ b. none (backed_stays start past e tid (kept_run start past sound run.0) run.1 b)),
)

-- Abandoned

-- an abandoned id has a participant that was neither done nor stopped
abbrev IsUntold : List Entry → Tid → Type 0
IsUntold past tid =
    (mini : Mini) × (mini_of past tid ≡ Some mini) × (k : NodeNo) × Contains (participants_of mini) k
    × (was_abandoned tid (client_entries tid.client past) ≡ true) × (was_done tid k (client_entries tid.client past) ≡ false) × (was_stopped tid k (client_entries tid.client past) ≡ false)

untold_stays : (start : Start) (past : List Entry) (e : Entry) (tid : Tid) → Kept start past → KeepsProtocol start past e → IsUntold past tid → IsUntold (e ∷ past) tid
untold_stays start past e tid kept keeps (mini, is, k, has, gone, undone, unstopped) = (
  mini,
  issue_stays start past e tid.client tid mini kept keeps is,
  k,
  has,
  abandoned_stays past e tid.client tid gone,
  try_stays_untold start past e tid k is_done kept keeps gone undone,
  try_stays_untold start past e tid k is_stopped kept keeps gone unstopped,
)

untold_here : (start : Start) (past : List Entry) (c : ClientNo) (t : Tid) → Kept start past → KeepsProtocol start past (record { node = None; client = Some c; what = Abandoned t })
    → AllowsAbandoned (client_entries c past) t → IsUntold (record { node = None; client = Some c; what = Abandoned t } ∷ past) t
untold_here start past c t kept keeps (mini, is, some) =
    let e : Entry = record { node = None; client = Some c; what = Abandoned t } in
    let any = Any-from_list_any (λ n. not (was_done t n (client_entries c past)) && not (was_stopped t n (client_entries c past))) (participants_of mini) some in
    let own : t.client ≡ c = (kept.issued c t mini is).0 in
    let undone : was_done t any.1 (client_entries t.client past) ≡ false = subst (λ (d : ClientNo). was_done t any.1 (client_entries d past) ≡ false) (sym own) (not_true _ (left_true _ _ any.4)) in
    let unstopped : was_stopped t any.1 (client_entries t.client past) ≡ false = subst (λ (d : ClientNo). was_stopped t any.1 (client_entries d past) ≡ false) (sym own) (not_true _ (right_true _ _ any.4)) in
    let mine : mini_of past t ≡ Some mini = subst (λ (d : ClientNo). issue_named t (issues_of (client_entries d past)) ≡ Some mini) (sym own) is in (
      mini,
      issue_stays start past e t.client t mini kept keeps mine,
      any.1,
      (any.0, any.2, any.3),
      subst (λ (d : ClientNo). was_abandoned t (client_entries d (e ∷ past)) ≡ true) (sym own)
          (subst (λ (b : Bool). was_abandoned t (if b then e ∷ client_entries c past else client_entries c past) ≡ true) (sym (client_same-refl c)) (or_left _ _ (tid_same-refl t))),
      elim (is_by t.client e) as (λ b. was_done t any.1 (if b then e ∷ client_entries t.client past else client_entries t.client past) ≡ false) [ true ↦ undone | false ↦ undone ],
      elim (is_by t.client e) as (λ b. was_stopped t any.1 (if b then e ∷ client_entries t.client past else client_entries t.client past) ≡ false) [ true ↦ unstopped | false ↦ unstopped ],
    )

untold_step : (start : Start) (past : List Entry) (c : ClientNo) (at : Option NodeNo) (what : What) (tid : Tid) → Kept start past → KeepsProtocol start past (record { node = at; client = Some c; what = what })
    → is_abandonment tid what ≡ true → IsUntold (record { node = at; client = Some c; what = what } ∷ past) tid
untold_step start past c None (Abandoned t) tid kept keeps is =
    subst (λ (x : Tid). IsUntold (record { node = None; client = Some c; what = Abandoned t } ∷ past) x) (tid_same-true t tid is) (untold_here start past c t kept keeps keeps.by_client)
untold_step start past c (Some n) (Abandoned t) tid kept keeps is = absurd keeps.at_node.1
untold_step start past c at (Begin number op) tid kept keeps is = absurd cc
untold_step start past c at (Issue t m) tid kept keeps is = absurd cc
untold_step start past c at (Called request reply) tid kept keeps is = absurd cc
untold_step start past c at (Stopped request asked) tid kept keeps is = absurd cc
untold_step start past c at (Restarted restored) tid kept keeps is = absurd cc
untold_step start past c at (Answered number answer) tid kept keeps is = absurd cc

pub untold_run : (start : Start) (past : List Entry) (c : ClientNo) (tid : Tid) → StartsSound start → FollowsProtocol start past → was_abandoned tid (client_entries c past) ≡ true → IsUntold past tid
untold_run start [] c tid sound run gone = absurd cc
untold_run start (e ∷ past) c tid sound run gone =
    let kept = kept_run start past sound run.0 in
    elim (is_by c e) as (λ b. is_by c e ≡ b → was_abandoned tid (if b then e ∷ client_entries c past else client_entries c past) ≡ true → IsUntold (e ∷ past) tid) [
      | true ↦ λ by h. new kept (λ old. untold_run start past c tid sound run.0 old) by (or_cases (is_abandonment tid e.what) (was_abandoned tid (client_entries c past)) h)
      | false ↦ λ _ h. untold_stays start past e tid kept run.1 (untold_run start past c tid sound run.0 h)
    ] refl gone
  where
    new : Kept start past → (was_abandoned tid (client_entries c past) ≡ true → IsUntold past tid) → is_by c e ≡ true → (is_abandonment tid e.what ≡ true) ⊎ (was_abandoned tid (client_entries c past) ≡ true) → IsUntold (e ∷ past) tid
    new kept older by (inr old) = untold_stays start past e tid kept run.1 (older old)
    new kept older by (inl h) =
        subst (λ (o : Option ClientNo). KeepsProtocol start past (record { node = e.node; client = o; what = e.what }) → IsUntold (record { node = e.node; client = o; what = e.what } ∷ past) tid) (sym (by_of c e.client e.node e.what by))
        (λ keeps'. untold_step start past c e.node e.what tid kept keeps' h) run.1

only_one : (k n : NodeNo) → Contains (k ∷ []) n → n ≡ k
only_one k n has = All-contains (λ m. m ≡ k) (k ∷ []) n (All-from_recursion (λ m. m ≡ k) (k ∷ []) (refl, tt)) has

abandoned_unbacked : (start : Start) (past : List Entry) (c : ClientNo) (tid : Tid) → StartsSound start → FollowsProtocol start past → was_abandoned tid (client_entries c past) ≡ true → IsBacked start past tid → ⊥
abandoned_unbacked start past c tid sound run gone (inl voted) = let kept = kept_run start past sound run in voted_or_lost start past tid sound kept (inl voted) (kept.abandoned c tid gone)
abandoned_unbacked start past c tid sound run gone (inr (k, part, (mini, is, own, alone), was)) = by (untold_run start past c tid sound run gone) (executed_was_tried past tid k was)
  where
    by : IsUntold past tid → WasTried past tid k → ⊥
    by (mini', is', n, has, gone', undone, unstopped) tried =
        let same : mini' ≡ mini = same_mini mini' mini (sym is' ∙ is) in
        let one : n ≡ k = only_one k n (subst (λ (x : List NodeNo). Contains x n) (ap participants_of same ∙ alone) has) in
        told tried (subst (λ (m : NodeNo). was_done tid m (client_entries tid.client past) ≡ false) one undone) (subst (λ (m : NodeNo). was_stopped tid m (client_entries tid.client past) ≡ false) one unstopped)
      where
        told : WasTried past tid k → was_done tid k (client_entries tid.client past) ≡ false → was_stopped tid k (client_entries tid.client past) ≡ false → ⊥
        told (inl h) undone' unstopped' = clash _ h undone'
        told (inr h) undone' unstopped' = clash _ h unstopped'

abandoned_later : (past later : List Entry) (c : ClientNo) (tid : Tid) → was_abandoned tid (client_entries c past) ≡ true → was_abandoned tid (client_entries c (later ++ past)) ≡ true
abandoned_later past [] c tid gone = gone
abandoned_later past (e ∷ later) c tid gone = abandoned_stays (later ++ past) e c tid (abandoned_later past later c tid gone)

pub abandoned_is_never : AbandonedIsNever
abandoned_is_never start past later c tid sound run gone = never_from start (later ++ past) tid sound run (abandoned_unbacked start (later ++ past) c tid sound run (abandoned_later past later c tid gone))

-- Refused

-- at most one of the calls is an Exec of the id
abbrev pub IsOnce : Tid → List Call → Type 0
IsOnce tid [] = ⊤
IsOnce tid (c ∷ cs) = (is_exec tid c.request ≡ true → list_any (λ d. is_exec tid d.request) cs ≡ false) × IsOnce tid cs

-- an Exec of the id goes to its one participant
abbrev pub IsToOne : ClientNo → List Entry → Tid → Call → Type 0
IsToOne c past tid call = is_exec tid call.request ≡ true → (mini : Mini) × (issue_named tid (issues_of (client_entries c past)) ≡ Some mini) × (participants_of mini ≡ call.node ∷ [])

abbrev pub ExecsOnce : ClientNo → List Entry → Tid → Type 0
ExecsOnce c past tid = AllByRecursion (IsToOne c past tid) (calls_of (client_entries c past)) × IsOnce tid (calls_of (client_entries c past))

-- what a client may send as an Exec
exec_sent : (start : Start) (past : List Entry) (c : ClientNo) (k : NodeNo) (tid : Tid) (request : Request) → is_exec tid request ≡ true → Sends (client_entries c past) (Some k) request
    → (mini : Mini) × (issue_named tid (issues_of (since_begin (client_entries c past))) ≡ Some mini) × (participants_of mini ≡ k ∷ []) × (was_sent tid k (client_entries c past) ≡ false)
exec_sent start past c k tid (Ask.Exec t part) e s =
    subst (λ (x : Tid). (mini : Mini) × (issue_named x (issues_of (since_begin (client_entries c past))) ≡ Some mini) × (participants_of mini ≡ k ∷ []) × (was_sent x k (client_entries c past) ≡ false)) (tid_same-true t tid e) (s.mini, s.issued, s.alone, s.once)
exec_sent start past c k tid (Ask.Prepare t ps part) e s = absurd cc
exec_sent start past c k tid (Ask.Decide t verdict) e s = absurd cc
exec_sent start past c k tid (Ask.Force t) e s = absurd cc
exec_sent start past c k tid Ask.List e s = absurd cc
exec_sent start past c k tid (Ask.Peek at n) e s = absurd cc

-- where nothing was sent to the participant, no call is an Exec
pub unsent_none : (c : ClientNo) (past : List Entry) (tid : Tid) (k : NodeNo) (mini : Mini) → issue_named tid (issues_of (client_entries c past)) ≡ Some mini → participants_of mini ≡ k ∷ [] → (calls : List Call) → AllByRecursion (IsToOne c past tid) calls
    → list_any (λ d. node_same d.node k && (is_try tid d.request && true)) calls ≡ false → list_any (λ d. is_exec tid d.request) calls ≡ false
unsent_none c past tid k mini is alone [] all unsent = refl
unsent_none c past tid k mini is alone (d ∷ ds) all unsent =
    let s = split (node_same d.node k && (is_try tid d.request && true)) (list_any (λ d. node_same d.node k && (is_try tid d.request && true)) ds) unsent in
    both _ _ (falsely _ (λ x. here x s.0)) (unsent_none c past tid k mini is alone ds all.1 s.1)
  where
    split : (a b : Bool) → (a || b) ≡ false → (a ≡ false) × (b ≡ false)
    split true b e = absurd cc
    split false b e = (refl, e)

    both : (a b : Bool) → a ≡ false → b ≡ false → (a || b) ≡ false
    both a b p q = cc

    here : is_exec tid d.request ≡ true → (node_same d.node k && (is_try tid d.request && true)) ≡ false → ⊥
    here x none =
        let to = all.0 x in
        let same : mini ≡ to.0 = same_mini mini to.0 (sym is ∙ to.1) in
        let lists : k ∷ [] ≡ d.node ∷ [] = sym alone ∙ (ap participants_of same ∙ to.2) in
        let one : k ≡ d.node = head k d.node lists in
        let near : node_same d.node k ≡ true = subst (λ (m : NodeNo). node_same d.node m ≡ true) (sym one) (same_self d.node) in
        let try : is_try tid d.request ≡ true = or_right (Rattle.mn_runs.specs.Calls.is_prepare tid d.request) _ x in
        clash _ (all_three (node_same d.node k) (is_try tid d.request) near try) none
      where
        head : (a b : NodeNo) → a ∷ [] ≡ b ∷ [] → a ≡ b
        head a b h = cc

        all_three : (a b : Bool) → a ≡ true → b ≡ true → (a && (b && true)) ≡ true
        all_three a b p q = cc

to_one_stays : (start : Start) (past : List Entry) (e : Entry) (c : ClientNo) (tid : Tid) (call : Call) → Kept start past → KeepsProtocol start past e → IsToOne c past tid call → IsToOne c (e ∷ past) tid call
to_one_stays start past e c tid call kept keeps to x = let h = to x in (h.0, issue_stays start past e c tid h.0 kept keeps h.1, h.2)

-- a call of the client
once_call : (start : Start) (past : List Entry) (e : Entry) (c : ClientNo) (tid : Tid) (call : Call) → Kept start past → KeepsProtocol start past e → Sends (client_entries c past) (Some call.node) call.request → ExecsOnce c past tid
    → AllByRecursion (IsToOne c (e ∷ past) tid) (call ∷ calls_of (client_entries c past)) × IsOnce tid (call ∷ calls_of (client_entries c past))
once_call start past e c tid call kept keeps sends o = (
  (
    (λ x. let s = exec_sent start past c call.node tid call.request x sends in (s.0, issue_stays start past e c tid s.0 kept keeps (current_issue (client_entries c past) tid s.0 s.1), s.2)),
    weaker (IsToOne c past tid) (IsToOne c (e ∷ past) tid) (λ d h. to_one_stays start past e c tid d kept keeps h) (calls_of (client_entries c past)) o.0,
  ),
  ((λ x. let s = exec_sent start past c call.node tid call.request x sends in unsent_none c past tid call.node s.0 (current_issue (client_entries c past) tid s.0 s.1) s.2 (calls_of (client_entries c past)) o.0 s.3), o.1),
)

once_here : (start : Start) (past : List Entry) (e : Entry) (c : ClientNo) (at : Option NodeNo) (what : What) (tid : Tid) → Kept start past → KeepsProtocol start past e → KeepsProtocol start past (record { node = at; client = Some c; what = what }) → ExecsOnce c past tid
    → AllByRecursion (IsToOne c (e ∷ past) tid) (call_in at what ++ calls_of (client_entries c past)) × IsOnce tid (call_in at what ++ calls_of (client_entries c past))
once_here start past e c None what tid kept keeps own o = (weaker (IsToOne c past tid) (IsToOne c (e ∷ past) tid) (λ d h. to_one_stays start past e c tid d kept keeps h) (calls_of (client_entries c past)) o.0, o.1)
once_here start past e c (Some k) (Called request reply) tid kept keeps own o = once_call start past e c tid (record { node = k; request = request; reply = reply }) kept keeps own.by_client o
once_here start past e c (Some k) (Stopped (Some request) asked) tid kept keeps own o = once_call start past e c tid (record { node = k; request = request; reply = Rattle.mn_mini.specs.declared.reply.NodeReply.TheVariants.Stopped }) kept keeps own.by_client o
once_here start past e c (Some k) (Stopped None asked) tid kept keeps own o = (weaker (IsToOne c past tid) (IsToOne c (e ∷ past) tid) (λ d h. to_one_stays start past e c tid d kept keeps h) (calls_of (client_entries c past)) o.0, o.1)
once_here start past e c (Some k) (Restarted restored) tid kept keeps own o = (weaker (IsToOne c past tid) (IsToOne c (e ∷ past) tid) (λ d h. to_one_stays start past e c tid d kept keeps h) (calls_of (client_entries c past)) o.0, o.1)
once_here start past e c (Some k) (Begin number op) tid kept keeps own o = (weaker (IsToOne c past tid) (IsToOne c (e ∷ past) tid) (λ d h. to_one_stays start past e c tid d kept keeps h) (calls_of (client_entries c past)) o.0, o.1)
once_here start past e c (Some k) (Issue u m) tid kept keeps own o = (weaker (IsToOne c past tid) (IsToOne c (e ∷ past) tid) (λ d h. to_one_stays start past e c tid d kept keeps h) (calls_of (client_entries c past)) o.0, o.1)
once_here start past e c (Some k) (Abandoned u) tid kept keeps own o = (weaker (IsToOne c past tid) (IsToOne c (e ∷ past) tid) (λ d h. to_one_stays start past e c tid d kept keeps h) (calls_of (client_entries c past)) o.0, o.1)
once_here start past e c (Some k) (Answered number answer) tid kept keeps own o = (weaker (IsToOne c past tid) (IsToOne c (e ∷ past) tid) (λ d h. to_one_stays start past e c tid d kept keeps h) (calls_of (client_entries c past)) o.0, o.1)

pub once_run : (start : Start) (past : List Entry) (c : ClientNo) (tid : Tid) → StartsSound start → FollowsProtocol start past → ExecsOnce c past tid
once_run start [] c tid sound run = (tt, tt)
once_run start (e ∷ past) c tid sound run =
    let kept = kept_run start past sound run.0 in
    let o = once_run start past c tid sound run.0 in
    elim (is_by c e) as (λ b. is_by c e ≡ b → AllByRecursion (IsToOne c (e ∷ past) tid) (calls_of (if b then e ∷ client_entries c past else client_entries c past)) × IsOnce tid (calls_of (if b then e ∷ client_entries c past else client_entries c past))) [
      | true ↦ λ by. once_here start past e c e.node e.what tid kept run.1 (as_own start past c e by run.1) o
      | false ↦ λ _. (weaker (IsToOne c past tid) (IsToOne c (e ∷ past) tid) (λ d h. to_one_stays start past e c tid d kept run.1 h) (calls_of (client_entries c past)) o.0, o.1)
    ] refl

-- one call is not told of in two ways
pub asked_some : (tid : Tid) (say : NodeReply → Bool) (calls : List Call) → list_any (λ c. is_exec tid c.request && say c.reply) calls ≡ true → list_any (λ c. is_exec tid c.request) calls ≡ true
asked_some tid say [] e = absurd cc
asked_some tid say (c ∷ cs) e = elim (or_cases (is_exec tid c.request && say c.reply) (list_any (λ c. is_exec tid c.request && say c.reply) cs) e) as (λ _. (is_exec tid c.request || list_any (λ c. is_exec tid c.request) cs) ≡ true) [
  | inl here ↦ or_left (is_exec tid c.request) (list_any (λ c. is_exec tid c.request) cs) (left_true (is_exec tid c.request) (say c.reply) here)
  | inr there ↦ or_right (is_exec tid c.request) (list_any (λ c. is_exec tid c.request) cs) (asked_some tid say cs there)
]

told_twice : (tid : Tid) (one other : NodeReply → Bool) (calls : List Call) → ((r : NodeReply) → one r ≡ true → other r ≡ true → ⊥) → IsOnce tid calls
    → list_any (λ c. is_exec tid c.request && one c.reply) calls ≡ true → list_any (λ c. is_exec tid c.request && other c.reply) calls ≡ true → ⊥
told_twice tid one other [] apart o p q = absurd cc
told_twice tid one other (c ∷ cs) apart o p q = by (told_twice tid one other cs apart o.1) (or_cases _ _ p) (or_cases _ _ q)
  where
    by : (list_any (λ d. is_exec tid d.request && one d.reply) cs ≡ true → list_any (λ d. is_exec tid d.request && other d.reply) cs ≡ true → ⊥) → ((is_exec tid c.request && one c.reply) ≡ true) ⊎ (list_any (λ d. is_exec tid d.request && one d.reply) cs ≡ true) → ((is_exec tid c.request && other c.reply) ≡ true) ⊎ (list_any (λ d. is_exec tid d.request && other d.reply) cs ≡ true) → ⊥
    by older (inl a) (inl b) = apart c.reply (right_true (is_exec tid c.request) (one c.reply) a) (right_true (is_exec tid c.request) (other c.reply) b)
    by older (inl a) (inr b) = clash _ (asked_some tid other cs b) (o.0 (left_true (is_exec tid c.request) (one c.reply) a))
    by older (inr a) (inl b) = clash _ (asked_some tid one cs a) (o.0 (left_true (is_exec tid c.request) (other c.reply) b))
    by older (inr a) (inr b) = older a b

-- told at a node is told
told_somewhere : (ask : Request → Bool) (say : NodeReply → Bool) (k : NodeNo) (calls : List Call) → list_any (λ c. node_same c.node k && (ask c.request && say c.reply)) calls ≡ true → list_any (λ c. ask c.request && say c.reply) calls ≡ true
told_somewhere ask say k [] e = absurd cc
told_somewhere ask say k (c ∷ cs) e = elim (or_cases (node_same c.node k && (ask c.request && say c.reply)) (list_any (λ c. node_same c.node k && (ask c.request && say c.reply)) cs) e) as (λ _. ((ask c.request && say c.reply) || list_any (λ c. ask c.request && say c.reply) cs) ≡ true) [
  | inl here ↦ or_left _ _ (right_true (node_same c.node k) (ask c.request && say c.reply) here)
  | inr there ↦ or_right _ _ (told_somewhere ask say k cs there)
]

abbrev is_result : NodeReply → Bool
is_result reply = is_done reply || is_stopped reply

-- done or stopped
told_result : (tid : Tid) (calls : List Call) → (list_any (λ c. is_exec tid c.request && is_done c.reply) calls ≡ true) ⊎ (list_any (λ c. is_exec tid c.request && is_stopped c.reply) calls ≡ true) → list_any (λ c. is_exec tid c.request && is_result c.reply) calls ≡ true
told_result tid [] (inl e) = absurd cc
told_result tid [] (inr e) = absurd cc
told_result tid (c ∷ cs) (inl e) = elim (or_cases (is_exec tid c.request && is_done c.reply) (list_any (λ c. is_exec tid c.request && is_done c.reply) cs) e) as (λ _. ((is_exec tid c.request && is_result c.reply) || list_any (λ c. is_exec tid c.request && is_result c.reply) cs) ≡ true) [
  | inl here ↦ or_left _ _ (one (is_exec tid c.request) (is_done c.reply) (is_stopped c.reply) here)
  | inr there ↦ or_right _ _ (told_result tid cs (inl there))
]
  where
    one : (a b d : Bool) → (a && b) ≡ true → (a && (b || d)) ≡ true
    one true true d e = refl
    one true false d e = absurd cc
    one false b d e = absurd cc
told_result tid (c ∷ cs) (inr e) = elim (or_cases (is_exec tid c.request && is_stopped c.reply) (list_any (λ c. is_exec tid c.request && is_stopped c.reply) cs) e) as (λ _. ((is_exec tid c.request && is_result c.reply) || list_any (λ c. is_exec tid c.request && is_result c.reply) cs) ≡ true) [
  | inl here ↦ or_left _ _ (one (is_exec tid c.request) (is_done c.reply) (is_stopped c.reply) here)
  | inr there ↦ or_right _ _ (told_result tid cs (inr there))
]
  where
    one : (a b d : Bool) → (a && d) ≡ true → (a && (b || d)) ≡ true
    one true true d e = refl
    one true false d e = e
    one false b d e = absurd cc

executed_result : (past : List Entry) (tid : Tid) (k : NodeNo) → WasExecuted past tid k → was_told_somewhere (is_exec tid) is_result (client_entries tid.client past) ≡ true
executed_result past tid k (inl h) = told_result tid (calls_of (client_entries tid.client past)) (inl (told_somewhere (is_exec tid) is_done k (calls_of (client_entries tid.client past)) h))
executed_result past tid k (inr h) = told_result tid (calls_of (client_entries tid.client past)) (inr (told_somewhere (is_exec tid) is_stopped k (calls_of (client_entries tid.client past)) h))

-- an Exec comes from the client of the id
pub some_to_one : (c : ClientNo) (past : List Entry) (tid : Tid) (calls : List Call) → AllByRecursion (IsToOne c past tid) calls → list_any (λ d. is_exec tid d.request) calls ≡ true
    → (k : NodeNo) × (mini : Mini) × (issue_named tid (issues_of (client_entries c past)) ≡ Some mini) × (participants_of mini ≡ k ∷ [])
some_to_one c past tid [] all e = absurd cc
some_to_one c past tid (d ∷ ds) all e = elim (or_cases (is_exec tid d.request) (list_any (λ d. is_exec tid d.request) ds) e) as (λ _. (k : NodeNo) × (mini : Mini) × (issue_named tid (issues_of (client_entries c past)) ≡ Some mini) × (participants_of mini ≡ k ∷ [])) [
  | inl here ↦ let h = all.0 here in (d.node, h.0, h.1, h.2)
  | inr there ↦ some_to_one c past tid ds all.1 there
]

-- an id with one participant has no votes
pub alone_unvoted : (start : Start) (past : List Entry) (tid : Tid) (mini : Mini) (k : NodeNo) → Kept start past → mini_of past tid ≡ Some mini → participants_of mini ≡ k ∷ [] → IssuedVoted start past tid → ⊥
alone_unvoted start past tid mini k kept is alone (ps, (mini', is', all), voted) =
    let same : mini' ≡ mini = same_mini mini' mini (sym is' ∙ is) in
    let one : ps ≡ k ∷ [] = all ∙ (ap participants_of same ∙ alone) in
    let here : AllByRecursion (λ n. has_voted (records_of start past n) tid ≡ true) (k ∷ []) = subst (λ (x : List NodeNo). AllByRecursion (λ n. has_voted (records_of start past n) tid ≡ true) x) one voted in
    let p = voted_part start past k tid (records_of start past k) (new_not_old start past tid.client tid mini kept is) (kept.records k) here.0 in
    alone_or_several past tid k k (Rattle.mn_mini.specs.Mini.part_of mini k) p.0 (mini, is, refl, alone) p.1

refused_unbacked : (start : Start) (past : List Entry) (c : ClientNo) (tid : Tid) → StartsSound start → FollowsProtocol start past → was_told_somewhere (is_exec tid) (λ reply. not (is_result reply)) (client_entries c past) ≡ true → IsBacked start past tid → ⊥
refused_unbacked start past c tid sound run refused = by
  where
    kept : Kept start past
    kept = kept_run start past sound run

    o : ExecsOnce c past tid
    o = once_run start past c tid sound run

    to : (k : NodeNo) × (mini : Mini) × (issue_named tid (issues_of (client_entries c past)) ≡ Some mini) × (participants_of mini ≡ k ∷ [])
    to = some_to_one c past tid (calls_of (client_entries c past)) o.0 (asked_some tid (λ reply. not (is_result reply)) (calls_of (client_entries c past)) refused)

    own : tid.client ≡ c
    own = (kept.issued c tid to.1 to.2).0

    by : IsBacked start past tid → ⊥
    by (inl voted) = alone_unvoted start past tid to.1 to.0 kept (subst (λ (d : ClientNo). issue_named tid (issues_of (client_entries d past)) ≡ Some to.1) (sym own) to.2) to.3 voted
    by (inr (k, part, exec, was)) =
        told_twice tid is_result (λ reply. not (is_result reply)) (calls_of (client_entries c past)) (λ r p q. clash _ p (not_true _ q)) o.1
        (subst (λ (d : ClientNo). was_told_somewhere (is_exec tid) is_result (client_entries d past) ≡ true) own (executed_result past tid k was)) refused

told_later : (past later : List Entry) (c : ClientNo) (test : Call → Bool) → list_any test (calls_of (client_entries c past)) ≡ true → list_any test (calls_of (client_entries c (later ++ past))) ≡ true
told_later past [] c test told = told
told_later past (e ∷ later) c test told = call_stays (later ++ past) c e test (told_later past later c test told)

pub refused_is_never : RefusedIsNever
refused_is_never start past later c tid sound run refused =
    never_from start (later ++ past) tid sound run (refused_unbacked start (later ++ past) c tid sound run (told_later past later c (λ call. is_exec tid call.request && not (is_result call.reply)) refused))

-- Given up at the answer

-- an id that is issued again would have a lower number
pub issued_anew : (start : Start) (past : List Entry) (c : ClientNo) (t tid : Tid) (m mini : Mini) → Kept start past → AllowsIssue c (client_entries c past) t m → tid_same t tid ≡ true → issue_named tid (issues_of (client_entries c past)) ≡ Some mini → ⊥
issued_anew start past c t tid m mini kept own same is =
    let low : tid.serial ≤ length (issues_of (client_entries c past)) = (kept.issued c tid mini is).1 in
    let high : t.serial ≡ length (issues_of (client_entries c past)) + 1 = own.serial in
    let both : t.serial ≡ tid.serial = ap (λ (x : Tid). x.serial) (tid_same-true t tid same) in
    absurd (omega (arith, low, high, both))

-- of an id that is issued since Begin, each Exec is sent since Begin
abbrev IsCurrent : ClientNo → List Entry → Tid → Type 0
IsCurrent c past tid =
    (mini : Mini) → issue_named tid (issues_of (since_begin (client_entries c past))) ≡ Some mini → was_told_somewhere (is_exec tid) is_result (client_entries c past) ≡ true
    → was_told_somewhere (is_exec tid) is_result (since_begin (client_entries c past)) ≡ true

abbrev is_exec_result : Tid → Call → Bool
is_exec_result tid call = is_exec tid call.request && is_result call.reply

more_calls : (tid : Tid) (new old since : List Call) → (list_any (is_exec_result tid) old ≡ true → list_any (is_exec_result tid) since ≡ true) → list_any (is_exec_result tid) (new ++ old) ≡ true → list_any (is_exec_result tid) (new ++ since) ≡ true
more_calls tid [] old since f e = f e
more_calls tid (c ∷ cs) old since f e = elim (or_cases (is_exec_result tid c) (list_any (is_exec_result tid) (cs ++ old)) e) as (λ _. (is_exec_result tid c || list_any (is_exec_result tid) (cs ++ since)) ≡ true) [
  | inl here ↦ or_left (is_exec_result tid c) (list_any (is_exec_result tid) (cs ++ since)) here
  | inr there ↦ or_right (is_exec_result tid c) (list_any (is_exec_result tid) (cs ++ since)) (more_calls tid cs old since f there)
]

current_here : (start : Start) (past : List Entry) (c : ClientNo) (at : Option NodeNo) (what : What) (tid : Tid) → Kept start past → ExecsOnce c past tid → KeepsProtocol start past (record { node = at; client = Some c; what = what }) → IsCurrent c past tid
    → (mini : Mini) → issue_named tid (issues_of (since_begin_after what (record { node = at; client = Some c; what = what }) (since_begin (client_entries c past)))) ≡ Some mini
    → list_any (is_exec_result tid) (call_in at what ++ calls_of (client_entries c past)) ≡ true
    → list_any (is_exec_result tid) (calls_of (since_begin_after what (record { node = at; client = Some c; what = what }) (since_begin (client_entries c past)))) ≡ true
current_here start past c at (Begin number op) tid kept o keeps older mini is told = absurd cc
current_here start past c at (Answered number answer) tid kept o keeps older mini is told = absurd cc
current_here start past c (Some k) (Issue t m) tid kept o keeps older mini is told = absurd keeps.at_node.1
current_here start past c None (Issue t m) tid kept o keeps older mini is told =
    elim (tid_same t tid) as (λ b. tid_same t tid ≡ b → (if b then Some m else issue_named tid (issues_of (since_begin (client_entries c past)))) ≡ Some mini → list_any (is_exec_result tid) (calls_of (since_begin (client_entries c past))) ≡ true) [
      | true ↦ λ same _.
          let to = some_to_one c past tid (calls_of (client_entries c past)) o.0 (asked_some tid is_result (calls_of (client_entries c past)) told) in
          absurd (issued_anew start past c t tid m to.1 kept keeps.by_client same to.2)
      | false ↦ λ _ h. older mini h told
    ] refl is
current_here start past c at (Called request reply) tid kept o keeps older mini is told = more_calls tid (call_in at (Called request reply)) (calls_of (client_entries c past)) (calls_of (since_begin (client_entries c past))) (older mini is) told
current_here start past c at (Stopped request asked) tid kept o keeps older mini is told = more_calls tid (call_in at (Stopped request asked)) (calls_of (client_entries c past)) (calls_of (since_begin (client_entries c past))) (older mini is) told
current_here start past c at (Restarted restored) tid kept o keeps older mini is told = more_calls tid (call_in at (Restarted restored)) (calls_of (client_entries c past)) (calls_of (since_begin (client_entries c past))) (older mini is) told
current_here start past c at (Abandoned t) tid kept o keeps older mini is told = more_calls tid (call_in at (Abandoned t)) (calls_of (client_entries c past)) (calls_of (since_begin (client_entries c past))) (older mini is) told

current_run : (start : Start) (past : List Entry) (c : ClientNo) (tid : Tid) → StartsSound start → FollowsProtocol start past → IsCurrent c past tid
current_run start [] c tid sound run = λ mini is told. absurd cc
current_run start (e ∷ past) c tid sound run =
    let kept = kept_run start past sound run.0 in
    let older = current_run start past c tid sound run.0 in
    elim (is_by c e) as (λ b. is_by c e ≡ b → (mini : Mini) → issue_named tid (issues_of (since_begin (if b then e ∷ client_entries c past else client_entries c past))) ≡ Some mini
    → list_any (is_exec_result tid) (calls_of (if b then e ∷ client_entries c past else client_entries c past)) ≡ true
    → list_any (is_exec_result tid) (calls_of (since_begin (if b then e ∷ client_entries c past else client_entries c past))) ≡ true) [
      | true ↦ λ by.
          subst (λ (o : Option ClientNo). (mini : Mini) → issue_named tid (issues_of (since_begin_after e.what (record { node = e.node; client = o; what = e.what }) (since_begin (client_entries c past)))) ≡ Some mini
          → list_any (is_exec_result tid) (call_in e.node e.what ++ calls_of (client_entries c past)) ≡ true
          → list_any (is_exec_result tid) (calls_of (since_begin_after e.what (record { node = e.node; client = o; what = e.what }) (since_begin (client_entries c past)))) ≡ true) (sym (by_of c e.client e.node e.what by))
          (current_here start past c e.node e.what tid kept (once_run start past c tid sound run.0) (as_own start past c e by run.1) older)
      | false ↦ λ _. older
    ] refl

-- no more is sent for the id, and its Exec was neither done nor stopped
abbrev IsClosed : ClientNo → List Entry → Tid → Type 0
IsClosed c past tid =
    (k : NodeNo) × (mini : Mini) × (issue_named tid (issues_of (client_entries c past)) ≡ Some mini) × (participants_of mini ≡ k ∷ [])
    × (issue_named tid (issues_of (since_begin (client_entries c past))) ≡ None) × (was_told_somewhere (is_exec tid) is_result (client_entries c past) ≡ false)

pub none_is_some : (m : Mini) → None ≡ Some m → ⊥
none_is_some m e = absurd cc

pub closed_since : (start : Start) (past : List Entry) (c : ClientNo) (at : Option NodeNo) (what : What) (tid : Tid) (mini : Mini) → Kept start past → KeepsProtocol start past (record { node = at; client = Some c; what = what })
    → issue_named tid (issues_of (client_entries c past)) ≡ Some mini → issue_named tid (issues_of (since_begin (client_entries c past))) ≡ None
    → issue_named tid (issues_of (since_begin_after what (record { node = at; client = Some c; what = what }) (since_begin (client_entries c past)))) ≡ None
closed_since start past c at (Begin number op) tid mini kept keeps is none = refl
closed_since start past c at (Answered number answer) tid mini kept keeps is none = refl
closed_since start past c at (Issue t m) tid mini kept keeps is none =
    elim (tid_same t tid) as (λ b. tid_same t tid ≡ b → (if b then Some m else issue_named tid (issues_of (since_begin (client_entries c past)))) ≡ None) [
      | true ↦ λ same. absurd (issued_anew start past c t tid m mini kept keeps.by_client same is)
      | false ↦ λ _. none
    ] refl
closed_since start past c at (Called request reply) tid mini kept keeps is none = none
closed_since start past c at (Stopped request asked) tid mini kept keeps is none = none
closed_since start past c at (Restarted restored) tid mini kept keeps is none = none
closed_since start past c at (Abandoned t) tid mini kept keeps is none = none

closed_stays : (start : Start) (past : List Entry) (e : Entry) (c : ClientNo) (tid : Tid) → Kept start past → KeepsProtocol start past e → IsClosed c past tid → IsClosed c (e ∷ past) tid
closed_stays start past e c tid kept keeps (k, mini, is, alone, none, untold) = (
  k,
  mini,
  issue_stays start past e c tid mini kept keeps is,
  alone,
  elim (is_by c e) as (λ b. is_by c e ≡ b → issue_named tid (issues_of (since_begin (if b then e ∷ client_entries c past else client_entries c past))) ≡ None) [
    | true ↦ λ by.
        subst (λ (o : Option ClientNo). issue_named tid (issues_of (since_begin_after e.what (record { node = e.node; client = o; what = e.what }) (since_begin (client_entries c past)))) ≡ None) (sym (by_of c e.client e.node e.what by))
        (closed_since start past c e.node e.what tid mini kept (as_own start past c e by keeps) is none)
    | false ↦ λ _. none
  ] refl,
  falsely _ (λ told. new (new_call start past c e (is_exec_result tid) keeps told)),
)
  where
    new : (list_any (is_exec_result tid) (calls_of (client_entries c past)) ≡ true) ⊎ ((call : Call) × IsCallOf start past c e call × (is_exec_result tid call ≡ true)) → ⊥
    new (inl old) = clash _ old untold
    new (inr (call, of, passes)) =
        let s = exec_sent start past c call.node tid call.request (left_true (is_exec tid call.request) (is_result call.reply) passes) of.sends in
        none_is_some s.0 (sym none ∙ s.1)

pub follows_past : (start : Start) (past later : List Entry) → FollowsProtocol start (later ++ past) → FollowsProtocol start past
follows_past start past [] run = run
follows_past start past (e ∷ later) run = follows_past start past later run.0

closed_later : (start : Start) (past later : List Entry) (c : ClientNo) (tid : Tid) → StartsSound start → FollowsProtocol start (later ++ past) → IsClosed c past tid → IsClosed c (later ++ past) tid
closed_later start past [] c tid sound run closed = closed
closed_later start past (e ∷ later) c tid sound run closed = closed_stays start (later ++ past) e c tid (kept_run start (later ++ past) sound run.0) run.1 (closed_later start past later c tid sound run.0 closed)

closed_unbacked : (start : Start) (past : List Entry) (c : ClientNo) (tid : Tid) → Kept start past → IsClosed c past tid → IsBacked start past tid → ⊥
closed_unbacked start past c tid kept (k, mini, is, alone, none, untold) (inl voted) =
    alone_unvoted start past tid mini k kept (subst (λ (d : ClientNo). issue_named tid (issues_of (client_entries d past)) ≡ Some mini) (sym (kept.issued c tid mini is).0) is) alone voted
closed_unbacked start past c tid kept (k, mini, is, alone, none, untold) (inr (n, part, exec, was)) =
    clash _ (subst (λ (d : ClientNo). was_told_somewhere (is_exec tid) is_result (client_entries d past) ≡ true) (kept.issued c tid mini is).0 (executed_result past tid n was)) untold

-- a list of one
one_long : (ps : List NodeNo) → nat_eq (length ps) 1 ≡ true → (k : NodeNo) × (ps ≡ k ∷ [])
one_long [] e = absurd (grind (arith, nat_tests))
one_long (p ∷ []) e = (p, refl)
one_long (p ∷ (q ∷ ps)) e = absurd (grind (arith, nat_tests))

-- an answer closes what it gives up
closed_here : (start : Start) (past : List Entry) (at : Option NodeNo) (c : ClientNo) (number : ℕ) (answer : Answer) (i : Issued) → StartsSound start → FollowsProtocol start past → KeepsProtocol start past (record { node = at; client = Some c; what = Answered number answer })
    → issue_named i.tid (issues_of (since_begin (client_entries c past))) ≡ Some i.mini → nat_eq (length (participants_of i.mini)) 1 ≡ true → was_told_somewhere (is_exec i.tid) is_result (since_begin (client_entries c past)) ≡ false
    → IsClosed c (record { node = at; client = Some c; what = Answered number answer } ∷ past) i.tid
closed_here start past (Some k) c number answer i sound run keeps is few untold = absurd keeps.at_node.1
closed_here start past None c number answer i sound run keeps is few untold =
    let e : Entry = record { node = None; client = Some c; what = Answered number answer } in
    let one = one_long (participants_of i.mini) few in
    subst (λ (b : Bool). (k : NodeNo) × (mini : Mini) × (issue_named i.tid (issues_of (if b then e ∷ client_entries c past else client_entries c past)) ≡ Some mini) × (participants_of mini ≡ k ∷ [])
    × (issue_named i.tid (issues_of (since_begin (if b then e ∷ client_entries c past else client_entries c past))) ≡ None)
    × (was_told_somewhere (is_exec i.tid) is_result (if b then e ∷ client_entries c past else client_entries c past) ≡ false)) (sym (client_same-refl c)) (
      one.0,
      i.mini,
      current_issue (client_entries c past) i.tid i.mini is,
      one.1,
      refl,
      falsely _ (λ told. clash _ (current_run start past c i.tid sound run i.mini is told) untold),
    )

pub given_up_is_never : GivenUpIsNever
given_up_is_never start past later e c number answer i sound run by what is gone = cases (or_cases _ _ gone)
  where
    here : FollowsProtocol start (e ∷ past)
    here = follows_past start (e ∷ past) later run

    cases : (was_abandoned i.tid (since_begin (client_entries c past)) ≡ true)
        ⊎ ((nat_eq (length (participants_of i.mini)) 1 && not (was_told_somewhere (is_exec i.tid) is_result (since_begin (client_entries c past)))) ≡ true) → IsNeverCommitted i.tid (later ++ e ∷ past)
    cases (inl abandoned) = abandoned_is_never start (e ∷ past) later c i.tid sound run (abandoned_stays past e c i.tid (since_abandoned (client_entries c past) i.tid abandoned))
    cases (inr h) =
        let few = left_true (nat_eq (length (participants_of i.mini)) 1) (not (was_told_somewhere (is_exec i.tid) is_result (since_begin (client_entries c past)))) h in
        let untold = not_true _ (right_true (nat_eq (length (participants_of i.mini)) 1) (not (was_told_somewhere (is_exec i.tid) is_result (since_begin (client_entries c past)))) h) in
        let closed : IsClosed c (e ∷ past) i.tid =
        subst (λ (o : Option ClientNo). KeepsProtocol start past (record { node = e.node; client = o; what = e.what }) → IsClosed c (record { node = e.node; client = o; what = e.what } ∷ past) i.tid) (sym by)
        (subst (λ (w : What). KeepsProtocol start past (record { node = e.node; client = Some c; what = w }) → IsClosed c (record { node = e.node; client = Some c; what = w } ∷ past) i.tid) (sym what)
        (λ keeps. closed_here start past e.node c number answer i sound here.0 keeps is few untold)) here.1 in
        never_from start (later ++ e ∷ past) i.tid sound run (closed_unbacked start (later ++ e ∷ past) c i.tid (kept_run start (later ++ e ∷ past) sound run) (closed_later start (e ∷ past) later c i.tid sound run closed))
