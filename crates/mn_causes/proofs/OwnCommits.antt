-- Where no other actor has an entry from an operation's Begin to its answer, and each node is up,
-- only its own plans are committed.
use Rattle.std.proofs.Common.{◌≡◌, ℕ, ◌⊎◌, inl, inr, Bool, true, false, List, [], ◌∷◌, ◌++◌, length, Option, Some, None, refl, subst, sym, ap, ◌∙◌, arith, if◌then◌else◌}
use Rattle.std.specs.List.{AllByRecursion}
use Rattle.std.proofs.lemmas.List.{append_assoc}
use Rattle.mn_base.specs.Ids.{tid_same}
use Rattle.mn_base.specs.declared.history.Past.{Past}
use Rattle.mn_base.specs.declared.ids.NodeNo.{NodeNo}
use Rattle.mn_base.specs.declared.ids.ClientNo.{ClientNo}
use Rattle.mn_base.specs.declared.ids.Tid.{Tid}
use Rattle.mn_base.specs.declared.answer.Answer.{Answer}
use Rattle.mn_base.proofs.Booleans.{clash, or_cases}
use Rattle.mn_mini.specs.declared.request.Request.{Request}
use Rattle.mn_mini.specs.declared.request.Request.TheVariants as Ask
use Rattle.mn_mini.specs.Mini.{Mini}
use Rattle.mn_runs.specs.declared.entry.Entry.{Entry}
use Rattle.mn_runs.specs.declared.entry.What.{What}
use Rattle.mn_runs.specs.declared.entry.What.TheVariants.{Begin, Issue, Called, Stopped, Restarted, Abandoned, Answered}
use Rattle.mn_runs.specs.Calls.{Issued, Begun, is_try, is_done, node_entries, client_entries, issue_named, issues_of, since_begin, under_way, under_way_after}
use Rattle.mn_runs.specs.Clients.{Sends}
use Rattle.mn_runs.specs.Nodes.{is_down}
use Rattle.mn_runs.specs.Protocol.{Start, KeepsProtocol, FollowsProtocol, AreUp}
use Rattle.mn_runs.specs.Commits.{effect_of, committed_by}
use Rattle.mn_serial.specs.History.{PlanOf}
use Rattle.mn_votes.specs.Laws.{StartsSound}
use Rattle.mn_causes.specs.Undisturbed.{OnlyOwnCommits}
use Rattle.mn_runs.proofs.Same.{tid_same-true, same_request}
use Rattle.mn_law.proofs.MakeRun.{runs_follow_protocol}
use Rattle.mn_votes.proofs.Unchanged.{current_issue}
use Rattle.mn_votes.proofs.Backing.{Kept}
use Rattle.mn_votes.proofs.Preserved.{kept_run}
use Rattle.mn_commits.proofs.Commits.Never.{none_some}
use Rattle.mn_serial.proofs.Meaning.Splits.{shorter_by}
use Rattle.mn_runs.proofs.Prefixes.{follows_before}
use Rattle.mn_serial.proofs.Meaning.Prefixes.{keeps_there}
use Rattle.mn_serial.proofs.Meaning.Clients.{Allowed, client_allowed, Still, Ended, since_op, same_begun}
use Rattle.mn_serial.proofs.Meaning.Positions.{IssueAt, AnswerAt, behind_issue, answered_once, client_split, is_own}
use Rattle.mn_serial.proofs.Meaning.LastPlan.{Lifted, lift}
use Rattle.mn_serial.proofs.Meaning.Origins.{begun_as}
use Rattle.mn_serial.proofs.Meaning.Stands.{client_of}
use Rattle.mn_serial.proofs.Meaning.Settled.{InOlder, InLater, where_is, longer}
use Rattle.mn_serial.proofs.Meaning.Shut.{none_down, shut_quiet, effect_try, answer_shuts, answer_later, no_request}
use Rattle.mn_serial.proofs.Meaning.Between.{all_mid}

-- What a client's entry commits, it sent for its operation under way

sent_named : (es : List Entry) (k : NodeNo) (request : Request) (tid : Tid)
    → Sends es (Some k) request → is_try tid request ≡ true
    → (mini : Mini) × (issue_named tid (issues_of (since_begin es)) ≡ Some mini)
sent_named es k (Ask.Prepare t ps part) tid s try = by (or_cases (tid_same t tid) false try)
  where
    by : (tid_same t tid ≡ true) ⊎ (false ≡ true)
        → (mini : Mini) × (issue_named tid (issues_of (since_begin es)) ≡ Some mini)
    by (inl same) = (s.mini, subst (λ (x : Tid). issue_named x (issues_of (since_begin es)) ≡ Some s.mini) (tid_same-true t tid same) s.issued)
    by (inr never) = absurd cc
sent_named es k (Ask.Exec t part) tid s try = (s.mini, subst (λ (x : Tid). issue_named x (issues_of (since_begin es)) ≡ Some s.mini) (tid_same-true t tid try) s.issued)
sent_named es k (Ask.Decide t verdict) tid s try = absurd cc
sent_named es k (Ask.Force t) tid s try = absurd cc
sent_named es k Ask.List tid s try = absurd cc
sent_named es k (Ask.Peek at n) tid s try = absurd cc

effect_named : (start : Start) (past : List Entry) (c : ClientNo) (k : NodeNo) (what : What) (tid : Tid) (request : Request) → KeepsProtocol start past (record { node = Some k; client = Some c; what = what }) → AreUp start past
    → effect_of (node_entries k past) what ≡ Some request → is_try tid request ≡ true
    → (mini : Mini)
    × (issue_named tid (issues_of (since_begin (client_entries c past))) ≡ Some mini)
effect_named start past c k (Called r reply) tid request keeps up is try = by (is_done reply) is
  where
    by : (b : Bool) → (if b then Some r else None) ≡ Some request
        → (mini : Mini)
        × (issue_named tid (issues_of (since_begin (client_entries c past))) ≡ Some mini)
    by false e = absurd (no_request request e)
    by true e = sent_named (client_entries c past) k request tid (subst (λ (q : Request). Sends (client_entries c past) (Some k) q) (same_request r request e) keeps.by_client) try
effect_named start past c k (Restarted true) tid request keeps up is try = absurd (clash (is_down (node_entries k past)) keeps.at_node.1.0 (up k keeps.at_node.0))
effect_named start past c k (Restarted false) tid request keeps up is try = absurd (no_request request is)
effect_named start past c k (Stopped r asked) tid request keeps up is try = absurd (no_request request is)
effect_named start past c k (Begin number op) tid request keeps up is try = absurd (no_request request is)
effect_named start past c k (Issue u m) tid request keeps up is try = absurd (no_request request is)
effect_named start past c k (Abandoned u) tid request keeps up is try = absurd (no_request request is)
effect_named start past c k (Answered number a) tid request keeps up is try = absurd (no_request request is)

commit_named : (start : Start) (past : List Entry) (c : ClientNo) (at : Option NodeNo) (what : What) (i : Issued) → KeepsProtocol start past (record { node = at; client = Some c; what = what }) → AreUp start past
    → committed_by past (record { node = at; client = Some c; what = what }) ≡ Some i
    → (mini : Mini)
    × (issue_named i.tid (issues_of (since_begin (client_entries c past))) ≡ Some mini)
commit_named start past c None what i keeps up is = absurd (none_some i is)
commit_named start past c (Some k) what i keeps up is =
    let x = effect_try past k (effect_of (node_entries k past) what) i.tid i is refl in
    effect_named start past c k what i.tid x.0 keeps up x.1 x.2

-- An operation that was under way is so still, or was answered

record AnsweredIn (past : List Entry) (c : ClientNo) (number : ℕ) : Type 0 where
  answer : Answer
  at : AnswerAt past c number answer

still_or_answered : (start : Start) (past : List Entry) (c : ClientNo) (b : Begun) (newer older : List Entry) → FollowsProtocol start past → client_entries c past ≡ newer ++ older → under_way older ≡ Some b
    → (under_way (client_entries c past) ≡ Some b) ⊎ AnsweredIn past c b.number
still_or_answered start past c b newer older run split is = by (since_op c b newer older (subst (Allowed c) split (client_allowed start past c run)) is)
  where
    by : Still b newer older ⊎ Ended b newer older
        → (under_way (client_entries c past) ≡ Some b) ⊎ AnsweredIn past c b.number
    by (inl s) = inl (ap under_way split ∙ s.under_way)
    by (inr e) =
        let l : Lifted c past e.entry (e.between ++ older) = lift c past e.newest e.entry (e.between ++ older) (split ∙ (ap (λ (l : List Entry). l ++ older) e.split ∙ append_assoc e.newest (e.entry ∷ e.between) older)) in
        inr (record { answer = e.answer; at = record { at = record { entry = e.entry; later = l.later; before = l.before; split = l.split; by = l.by }; answers = e.answers } })

-- The entry that commits

-- a plan that is committed by an entry of the client, while each node is up and the operation is
-- under way
own_plan : (start : Start) (past : List Entry) (c : ClientNo) (d : Begun) (at : Option NodeNo) (what : What) (i : Issued) (p : Past) → StartsSound start → FollowsProtocol start past → AreUp start past
    → KeepsProtocol start past (record { node = at; client = Some c; what = what })
    → committed_by past (record { node = at; client = Some c; what = what }) ≡ Some i
    → under_way (client_entries c past) ≡ Some d → PlanOf past i p
    → (p.client ≡ c) × (p.number ≡ d.number)
own_plan start past c d at what i p sound run up keeps commits now plan = (clients, number)
  where
    kept : Kept start past
    kept = kept_run start past sound run

    named : (mini : Mini)
        × (issue_named i.tid (issues_of (since_begin (client_entries c past))) ≡ Some mini)
    named = commit_named start past c at what i keeps up commits

    first : IssueAt past p.client (begun_as p) i
    first = record { at = record { entry = plan.entry; later = plan.later; before = plan.before; split = plan.split; by = plan.by }; issues = plan.issued; of = plan.of }

    clients : p.client ≡ c
    clients = sym (client_of start past p.client (begun_as p) i first run) ∙ (kept.issued c i.tid named.0 (current_issue (client_entries c past) i.tid named.0 named.1)).0

    x : IssueAt past c (begun_as p) i
    x = subst (λ (e : ClientNo). IssueAt past e (begun_as p) i) clients first

    still : (under_way (client_entries c past) ≡ Some (begun_as p)) ⊎ AnsweredIn past c p.number
        → p.number ≡ d.number
    still (inl under) = ap (λ (b : Begun). b.number) (same_begun (begun_as p) d (sym under ∙ now))
    still (inr answered) =
        absurd (shut_quiet start past (Some c) at what i.tid c kept keeps (answer_shuts start past [] c p.number answered.answer answered.at (begun_as p) i x sound run refl) (none_down start past i.tid run up) i commits refl)

    number : p.number ≡ d.number
    number =
        still (still_or_answered start past c (begun_as p) (client_entries c x.at.later) (x.at.entry ∷ client_entries c x.at.before) run
        (client_split c past x.at.later x.at.entry x.at.before x.at.split (is_own c x.at.entry x.at.by)) (behind_issue past c (begun_as p) i x))

pub only_own_commits : OnlyOwnCommits
only_own_commits start store past later between before begins answers c number op answer h split is says up own place other its (newer, y, older, i, sp, is_place, commits, not_read, (p, plan, client, n)) low high =
    by (where_is (later ++ answers ∷ []) (between ++ begins ∷ before) newer y older (append_assoc later (answers ∷ []) (between ++ begins ∷ before) ∙ (sym split ∙ sp)))
  where
    run : FollowsProtocol start past
    run = runs_follow_protocol start past h.run

    there : InLater (begins ∷ before) between y older → (other ≡ c) × (its ≡ number)
    there w = (sym client ∙ q.0, sym n ∙ q.1)
      where
        begun : under_way (begins ∷ client_entries c before) ≡ Some (record { number = number; op = op })
        begun = ap (λ (x : What). under_way_after x (under_way (client_entries c before))) is.1

        below : past ≡ (newer ++ y ∷ []) ++ older
        below = sp ∙ sym (append_assoc newer (y ∷ []) older)

        to : FollowsProtocol start older
        to = follows_before start past (newer ++ y ∷ []) older below run

        mine : y.client ≡ Some c
        mine = all_mid (λ (e : Entry). e.client ≡ Some c) w.newer y w.older (subst (AllByRecursion (λ (e : Entry). e.client ≡ Some c)) w.split own)

        ups : AreUp start older
        ups = subst (AreUp start) (sym w.rest) (up (w.newer ++ y ∷ []) w.older (w.split ∙ sym (append_assoc w.newer (y ∷ []) w.older)))

        once : AnsweredIn older c number → ⊥
        once a =
            let one = answer_later older (newer ++ y ∷ []) c number a.answer a.at in
            let two : AnswerAt ((newer ++ y ∷ []) ++ older) c number answer = record { at = record { entry = answers; later = later; before = between ++ begins ∷ before; split = sym below ∙ split; by = says.0 }; answers = says.1 } in
            let same = (answered_once start ((newer ++ y ∷ []) ++ older) c number a.answer answer (answer_later older (newer ++ y ∷ []) c number a.answer a.at)
            (record { at = record { entry = answers; later = later; before = between ++ begins ∷ before; split = sym below ∙ split; by = says.0 }; answers = says.1 }) (subst (FollowsProtocol start) below run)).0 in
            let lengths : length a.at.at.before ≡ length (between ++ begins ∷ before) = same in
            let less = shorter_by older a.at.at.later a.at.at.entry a.at.at.before a.at.at.split in
            let at : place ≡ length older = is_place in omega arith

        under : (under_way (client_entries c older) ≡ Some (record { number = number; op = op }))
            ⊎ AnsweredIn older c number
            → under_way (client_entries c older) ≡ Some (record { number = number; op = op })
        under (inl u) = u
        under (inr a) = absurd (once a)

        now : under_way (client_entries c older) ≡ Some (record { number = number; op = op })
        now =
            under (still_or_answered start older c (record { number = number; op = op }) (client_entries c w.older) (begins ∷ client_entries c before) to
            (client_split c older w.older begins before w.rest (is_own c begins is.0)) begun)

        q : (p.client ≡ c) × (p.number ≡ number)
        q = own_plan start older c (record { number = number; op = op }) y.node y.what i p h.opened.sound to ups
            (subst (λ (o : Option ClientNo). KeepsProtocol start older (record { node = y.node; client = o; what = y.what })) mine (keeps_there start past newer y older sp run)) commits now plan

    inner : InOlder (begins ∷ before) y older ⊎ InLater (begins ∷ before) between y older
        → (other ≡ c) × (its ≡ number)
    inner (inl o) =
        let less = shorter_by (begins ∷ before) o.later y older o.split in
        let at : place ≡ length older = is_place in absurd (omega arith)
    inner (inr w) = there w

    by : InOlder (between ++ begins ∷ before) y older
        ⊎ InLater (between ++ begins ∷ before) (later ++ answers ∷ []) y older
        → (other ≡ c) × (its ≡ number)
    by (inl o) = inner (where_is between (begins ∷ before) o.later y older o.split)
    by (inr w) =
        let long = longer w.older (between ++ begins ∷ before) in
        let whole : length older ≡ length (w.older ++ (between ++ begins ∷ before)) = ap (λ (l : List Entry). length l) w.rest in
        let at : place ≡ length older = is_place in absurd (omega arith)
