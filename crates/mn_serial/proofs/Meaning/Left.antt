-- What a client was left in by a yes vote took effect, or never will, once no node holds anything.
use Rattle.std.proofs.Common.{◌≡◌, ℕ, zero, suc, ◌+◌, ◌<◌, ◌≤◌, ◌⊎◌, inl, inr, Bool, true, false, ◌&&◌, List, [], ◌∷◌, ◌++◌, length, Option, Some, None, refl, subst, sym, ap, ◌∙◌, arith, if◌then◌else◌, Contains}
use Rattle.std.specs.List.{AllByRecursion}
use Rattle.std.proofs.lemmas.List.{append_assoc, length-append}
use Rattle.mn_base.specs.Ids.{node_same, tid_same}
use Rattle.mn_base.specs.declared.ids.NodeNo.{NodeNo}
use Rattle.mn_base.specs.declared.ids.ClientNo.{ClientNo}
use Rattle.mn_base.specs.declared.ids.Tid.{Tid}
use Rattle.mn_base.specs.declared.answer.Answer.TheVariants.{Replied}
use Rattle.mn_base.specs.Store.{Store}
use Rattle.mn_base.proofs.Booleans.{clash, or_left}
use Rattle.mn_mini.specs.declared.part.PartItem.{PartItem}
use Rattle.mn_mini.specs.declared.request.Request.{Request}
use Rattle.mn_mini.specs.declared.request.Request.TheVariants as Ask
use Rattle.mn_mini.specs.declared.reply.NodeReply.{NodeReply}
use Rattle.mn_mini.specs.declared.reply.NodeReply.TheVariants as Say
use Rattle.mn_mini.specs.Mini.{Mini, participants_of, is_read}
use Rattle.mn_mini.specs.Node.{HeldPart, held_parts, held_part_of, has_voted, has_decided_yes, has_decided_no}
use Rattle.mn_mini.proofs.Parts.{same_self}
use Rattle.mn_runs.specs.declared.entry.Entry.{Entry}
use Rattle.mn_runs.specs.declared.entry.What.{What}
use Rattle.mn_runs.specs.declared.entry.What.TheVariants.{Called}
use Rattle.mn_runs.specs.Calls.{Call, Issued, Begun, issue_in, is_exec, is_refused, has_yes, calls_of, client_entries, issue_named, issues_of, since_begin, under_way, under_way_after}
use Rattle.mn_runs.specs.Clients.{Sends, AllowsPrepare, ClientAllows}
use Rattle.mn_runs.specs.Commits.{has_vote}
use Rattle.mn_runs.specs.Protocol.{Start, start_nodes, records_of, AllowedAt, FollowsProtocol}
use Rattle.mn_serial.specs.History.{Placed}
use Rattle.mn_votes.specs.Laws.{StartsSound}
use Rattle.mn_commits.specs.Laws.{IsNeverCommitted}
use Rattle.mn_serial.specs.Meaning.{HistoryRun}
use Rattle.mn_serial.specs.OneHistory.{is_yes_vote, EndsWithVote, StandsNowhere, IsNeverAlone, TookEffect, LeftAreSettled}
use Rattle.mn_runs.specs.Protocol.{AreFree}
use Rattle.mn_runs.proofs.Same.{tid_same-refl, tid_same-true}
use Rattle.mn_law.proofs.MakeRun.{runs_follow_protocol}
use Rattle.mn_votes.proofs.Unchanged.{current_issue, issue_stays}
use Rattle.mn_votes.proofs.Backing.{mini_of, IsLost, AllVoted, Kept}
use Rattle.mn_votes.proofs.Start.{names_old}
use Rattle.mn_votes.proofs.Lost.{IsLost_stays}
use Rattle.mn_votes.proofs.Preserved.{kept_run, new_not_old, decided_yes_voted, decided_no_lost, voted_or_lost, same_mini}
use Rattle.mn_commits.proofs.Commits.Never.{IsBacked, never_from, once_run, some_to_one, asked_some}
use Rattle.mn_runs.proofs.Since.{since_abandoned, since_told}
use Rattle.mn_commits.proofs.Bytes.Step.{voted_held}
use Rattle.mn_commits.proofs.Bytes.Through.{Whole}
use Rattle.mn_commits.proofs.Bytes.Spaces.{whole_run}
use Rattle.mn_runs.proofs.Alone.{read_alone}
use Rattle.mn_plans.proofs.Told.{all_there}
use Rattle.mn_serial.proofs.Meaning.Over.{GoneIn, behind, all_over, gone_since, gone_never}
use Rattle.mn_serial.proofs.Meaning.Splits.{SameSplit, same_split}
use Rattle.mn_runs.proofs.Prefixes.{follows_before}
use Rattle.mn_serial.proofs.Meaning.Prefixes.{keeps_there}
use Rattle.mn_serial.proofs.Meaning.Clients.{Allowed, client_allowed, behind_answer}
use Rattle.mn_serial.proofs.Meaning.Positions.{OwnAt, IssueAt, allowed_at, older_own, issued_since, client_split, is_own, ordered}
use Rattle.mn_serial.proofs.Meaning.LastPlan.{Lifted, lift}
use Rattle.mn_serial.proofs.Meaning.Done.{CommittedIn, votes_commit}
use Rattle.mn_serial.proofs.Meaning.Origins.{Origin, by_plan, by_answer}
use Rattle.mn_serial.proofs.Meaning.Once.{answer_as}
use Rattle.mn_serial.proofs.Meaning.Between.{origin_of}
use Rattle.mn_serial.proofs.Meaning.Settled.{InOlder, InLater, where_is, Stands, stands_or_not, took_effect, CommitsLater, commits_later, never_later}
use Rattle.mn_serial.proofs.Meaning.Shut.{not_false}

-- The vote that was the client's last step

record YesVote (what : What) : Type 0 where
  tid : Tid
  participants : List NodeNo
  part : List PartItem
  reads : List (List ℕ)
  is : what ≡ Called (Ask.Prepare tid participants part) (Say.Done reads)

yes_vote : (what : What) → is_yes_vote what ≡ true → YesVote what
yes_vote (Called (Ask.Prepare tid ps part) (Say.Done reads)) e = record { tid = tid; participants = ps; part = part; reads = reads; is = refl }
yes_vote what e = absurd (not_false e)

record Voter (start : Start) (past : List Entry) (c : ClientNo) : Type 0 where
  at : OwnAt past c
  list : client_entries c past ≡ at.entry ∷ client_entries c at.before
  vote : YesVote at.entry.what
  node : NodeNo
  here : at.entry.node ≡ Some node
  low : node.0 < start_nodes start
  allows : AllowsPrepare (client_entries c at.before) node vote.tid vote.participants vote.part

sent_at : (es : List Entry) (o : Option NodeNo) (tid : Tid) (ps : List NodeNo) (part : List PartItem) → Sends es o (Ask.Prepare tid ps part) → (k : NodeNo) × (o ≡ Some k) × AllowsPrepare es k tid ps part
sent_at es None tid ps part s = absurd s
sent_at es (Some k) tid ps part s = (k, refl, s)

voter : (start : Start) (past : List Entry) (c : ClientNo) → FollowsProtocol start past
    → EndsWithVote (client_entries c past) → Voter start past c
voter start past c run ends = by (client_entries c past) refl ends
  where
    by : (es : List Entry) → client_entries c past ≡ es → EndsWithVote es → Voter start past c
    by [] same v = absurd v
    by (e ∷ es) same v =
        let l : Lifted c past e es = lift c past [] e es same in
        let at : OwnAt past c = record { entry = e; later = l.later; before = l.before; split = l.split; by = l.by } in
        let y = yes_vote e.what v in
        let allowed : ClientAllows c (client_entries c l.before) e.node (Called (Ask.Prepare y.tid y.participants y.part) (Say.Done y.reads)) =
        subst (λ (w : What). ClientAllows c (client_entries c l.before) e.node w) y.is (allowed_at start past c (record { entry = e; later = l.later; before = l.before; split = l.split; by = l.by }) run).1 in
        let s = sent_at (client_entries c l.before) e.node y.tid y.participants y.part allowed in
        let there : AllowedAt start l.before (Some s.0) e.what = subst (λ (o : Option NodeNo). AllowedAt start l.before o e.what) s.1 (keeps_there start past l.later e l.before l.split run).at_node in
        record {
          at = record { entry = e; later = l.later; before = l.before; split = l.split; by = l.by };
          list = same ∙ ap (λ (xs : List Entry). e ∷ xs) (sym l.list);
          vote = y;
          node = s.0;
          here = s.1;
          low = there.0;
          allows = s.2;
        }

told_yes : (k : NodeNo) (tid : Tid) (ps : List NodeNo) (part : List PartItem) (reads : List (List ℕ)) (by : Option ClientNo) (es : List Entry) → has_yes tid k (record { node = Some k; client = by; what = Called (Ask.Prepare tid ps part) (Say.Done reads) } ∷ es) ≡ true
told_yes k tid ps part reads by es =
    let n = same_self k in
    let t = tid_same-refl tid in
    let test : (node_same k k && (tid_same tid tid && true)) ≡ true = cc in
    or_left _ _ (or_left _ _ test)

-- the voter's list has the vote
list_yes : (start : Start) (past : List Entry) (c : ClientNo) (v : Voter start past c)
    → has_yes v.vote.tid v.node (client_entries c past) ≡ true
list_yes start past c v =
    let e = v.at.entry in
    let es = client_entries c v.at.before in
    subst (λ (l : List Entry). has_yes v.vote.tid v.node l ≡ true) (sym v.list)
    (subst (λ (o : Option NodeNo). has_yes v.vote.tid v.node (record { node = o; client = v.at.entry.client; what = v.at.entry.what } ∷ client_entries c v.at.before) ≡ true) (sym v.here)
    (subst (λ (w : What). has_yes v.vote.tid v.node (record { node = Some v.node; client = v.at.entry.client; what = w } ∷ client_entries c v.at.before) ≡ true) (sym v.vote.is)
    (told_yes v.node v.vote.tid v.vote.participants v.vote.part v.vote.reads v.at.entry.client (client_entries c v.at.before))))

-- the minitransaction that it voted for
voted_mini : (start : Start) (past : List Entry) (c : ClientNo) (v : Voter start past c)
    → issue_named v.vote.tid (issues_of (client_entries c past)) ≡ Some v.allows.mini
voted_mini start past c v =
    ap (λ (l : List Entry). issue_named v.vote.tid (issues_of l)) v.list
    ∙ (ap (λ (w : What). issue_named v.vote.tid (issue_in w ++ issues_of (client_entries c v.at.before))) v.vote.is ∙ current_issue (client_entries c v.at.before) v.vote.tid v.allows.mini v.allows.issued)

under_before : (start : Start) (past : List Entry) (c : ClientNo) (d : Begun) (v : Voter start past c) → under_way (client_entries c past) ≡ Some d → under_way (client_entries c v.at.before) ≡ Some d
under_before start past c d v now = sym (ap under_way v.list ∙ ap (λ (w : What). under_way_after w (under_way (client_entries c v.at.before))) v.vote.is) ∙ now

-- The id that was voted for

issue_later : (start : Start) (past later : List Entry) (c : ClientNo) (tid : Tid) (mini : Mini)
    → StartsSound start → FollowsProtocol start (later ++ past)
    → issue_named tid (issues_of (client_entries c past)) ≡ Some mini
    → issue_named tid (issues_of (client_entries c (later ++ past))) ≡ Some mini
issue_later start past [] c tid mini sound run is = is
issue_later start past (e ∷ later) c tid mini sound run is = issue_stays start (later ++ past) e c tid mini (kept_run start (later ++ past) sound run.0) run.1 (issue_later start past later c tid mini sound run.0 is)

lost_later : (start : Start) (past later : List Entry) (tid : Tid) → StartsSound start
    → FollowsProtocol start (later ++ past) → IsLost start past tid
    → IsLost start (later ++ past) tid
lost_later start past [] tid sound run lost = lost
lost_later start past (e ∷ later) tid sound run lost = IsLost_stays start (later ++ past) e tid (kept_run start (later ++ past) sound run.0) run.1 (lost_later start past later tid sound run.0 lost)

-- what is lost, and has several participants, is never committed
lost_never : (start : Start) (past : List Entry) (tid : Tid) (mini : Mini) → StartsSound start
    → FollowsProtocol start past → mini_of past tid ≡ Some mini → 2 ≤ length (participants_of mini)
    → IsLost start past tid → IsNeverCommitted tid past
lost_never start past tid mini sound run is several lost = never_from start past tid sound run backed
  where
    backed : IsBacked start past tid → ⊥
    backed (inl voted) = voted_or_lost start past tid sound (kept_run start past sound run) (inl voted) lost
    backed (inr (k, part, (mini', is', own, alone), was)) =
        let same : mini' ≡ mini = same_mini mini' mini (sym is' ∙ is) in
        let one : length (participants_of mini) ≡ length (k ∷ []) = ap (λ (m : Mini). length (participants_of m)) (sym same) ∙ ap (λ (l : List NodeNo). length l) alone in
        absurd (omega arith)

all_in_log : (start : Start) (past : List Entry) (tid : Tid) (mini : Mini) → Whole start past
    → mini_of past tid ≡ Some mini → (ps : List NodeNo)
    → AllByRecursion (λ k. has_voted (records_of start past k) tid ≡ true) ps
    → AllByRecursion (λ n. has_vote tid n past ≡ true) ps
all_in_log start past tid mini w is [] all = tt
all_in_log start past tid mini w is (p ∷ ps) all = (w.in_log p tid mini is ∙ all.0, all_in_log start past tid mini w is ps all.1)

held_nothing : (tid : Tid) (hs : List HeldPart) (g : HeldPart) → hs ≡ []
    → held_part_of tid hs ≡ Some g → ⊥
held_nothing tid hs g none is = no (ap (held_part_of tid) (sym none) ∙ is)
  where
    no : ◌≡◌ {A = Option HeldPart} None (Some g) → ⊥
    no e = cc

voted_never : (start : Start) (past later : List Entry) (c : ClientNo) → StartsSound start
    → FollowsProtocol start past → FollowsProtocol start (later ++ past)
    → AreFree start past → (v : Voter start past c) → (CommittedIn past v.vote.tid → ⊥)
    → IsNeverCommitted v.vote.tid (later ++ past)
voted_never start past later c sound run run' free v not_yet = by (voted_held tid (records_of start past v.node) voted)
  where
    tid : Tid
    tid = v.vote.tid

    kept : Kept start past
    kept = kept_run start past sound run

    own : tid.client ≡ c
    own = (kept.issued c tid v.allows.mini (voted_mini start past c v)).0

    mine : mini_of past tid ≡ Some v.allows.mini
    mine = subst (λ (d : ClientNo). issue_named tid (issues_of (client_entries d past)) ≡ Some v.allows.mini) (sym own) (voted_mini start past c v)

    later_mine : mini_of (later ++ past) tid ≡ Some v.allows.mini
    later_mine = issue_later start past later tid.client tid v.allows.mini sound run' mine

    voted : has_voted (records_of start past v.node) tid ≡ true
    voted = kept.yes c v.node tid (list_yes start past c v)

    several : 2 ≤ length (participants_of v.allows.mini)
    several = subst (λ (ps : List NodeNo). 2 ≤ length ps) v.allows.all v.allows.several

    committed : AllVoted start past tid → ⊥
    committed (inr old) = new_not_old start past c tid v.allows.mini kept (voted_mini start past c v) (names_old start tid old.0 old.1)
    committed (inl (ps, (mini, is, all), votes)) =
        let same : mini ≡ v.allows.mini = same_mini mini v.allows.mini (sym is ∙ mine) in
        let long : length ps ≡ length (participants_of v.allows.mini) = ap (λ (l : List NodeNo). length l) all ∙ ap (λ (m : Mini). length (participants_of m)) same in
        let some : 2 ≤ length (participants_of v.allows.mini) = several in
        not_yet (votes_commit start past tid ps sound run (omega arith) (λ m m_is. ap participants_of (same_mini m mini (sym m_is ∙ is)) ∙ sym all) (all_in_log start past tid mini (whole_run start past sound run) is ps votes))

    by : ((g : HeldPart) × (held_part_of tid (held_parts (records_of start past v.node)) ≡ Some g))
        ⊎ ((has_decided_yes (records_of start past v.node) tid ≡ true) ⊎ (has_decided_no (records_of start past v.node) tid ≡ true)) → IsNeverCommitted tid (later ++ past)
    by (inl (g, is)) = absurd (held_nothing tid (held_parts (records_of start past v.node)) g (free v.node v.low) is)
    by (inr (inl agreed)) = absurd (committed (decided_yes_voted start past v.node tid (records_of start past v.node) (kept.records v.node) agreed))
    by (inr (inr against)) =
        lost_never start (later ++ past) tid v.allows.mini sound run' later_mine several (lost_later start past later tid sound run' (decided_no_lost start past v.node tid (records_of start past v.node) (kept.records v.node) against))

-- The other issues of its operation are gone

named_all : (P : Issued → Type 0) (tid : Tid) (mini : Mini) (js : List Issued) → AllByRecursion P js
    → issue_named tid js ≡ Some mini → P (record { tid = tid; mini = mini })
named_all P tid mini [] all is = absurd cc
named_all P tid mini (j ∷ js) all is =
    elim (tid_same j.tid tid) as (λ b. tid_same j.tid tid ≡ b → (if b then Some j.mini else issue_named tid js) ≡ Some mini → P (record { tid = tid; mini = mini })) [
      | true ↦ λ same here. subst (λ (t : Tid). P (record { tid = t; mini = mini })) (tid_same-true j.tid tid same) (subst (λ (m : Mini). P (record { tid = j.tid; mini = m })) (same_mini j.mini mini here) all.0)
      | false ↦ λ _ there. named_all P tid mini js all.1 there
    ] refl is

other_gone : (now : List Entry) (tid : Tid) (mini : Mini) (i : Issued) (js : List Issued)
    → AllByRecursion (GoneIn now) (behind js) → (GoneIn now (record { tid = tid; mini = mini }) → ⊥)
    → issue_named tid js ≡ Some mini → (i.tid ≡ tid → ⊥) → Contains js i → GoneIn now i
other_gone now tid mini i [] over stays is differs has = absurd cc
other_gone now tid mini i (j ∷ js) over stays is differs (suc k, in', there) = all_there (GoneIn now) js i over (k, omega arith, there)
other_gone now tid mini i (j ∷ js) over stays is differs (zero, in', there) =
    elim (tid_same j.tid tid) as (λ b. tid_same j.tid tid ≡ b → (if b then Some j.mini else issue_named tid js) ≡ Some mini → GoneIn now i) [
      | true ↦ λ same _. absurd (differs (ap (λ (x : Issued). x.tid) (sym there) ∙ tid_same-true j.tid tid same))
      | false ↦ λ _ rest. absurd (stays (named_all (GoneIn now) tid mini js over rest))
    ] refl is

-- what is voted for is not gone
vote_stays : (start : Start) (past : List Entry) (c : ClientNo) → StartsSound start
    → FollowsProtocol start past → (v : Voter start past c)
    → GoneIn (since_begin (client_entries c v.at.before)) (record { tid = v.vote.tid; mini = v.allows.mini }) → ⊥
vote_stays start past c sound run v gone = by gone
  where
    es : List Entry
    es = client_entries c v.at.before

    before : FollowsProtocol start v.at.before
    before = follows_before start past (v.at.later ++ v.at.entry ∷ []) v.at.before (v.at.split ∙ sym (append_assoc v.at.later (v.at.entry ∷ []) v.at.before)) run

    several : 2 ≤ length (participants_of v.allows.mini)
    several = subst (λ (ps : List NodeNo). 2 ≤ length ps) v.allows.all v.allows.several

    by : GoneIn (since_begin (client_entries c v.at.before)) (record { tid = v.vote.tid; mini = v.allows.mini }) → ⊥
    by (inl abandoned) = clash _ (since_abandoned (client_entries c v.at.before) v.vote.tid abandoned) v.allows.open_still
    by (inr (inl refused)) =
        let told = since_told (λ (call : Call). is_exec v.vote.tid call.request && is_refused call.reply) (client_entries c v.at.before) refused in
        let to = some_to_one c v.at.before v.vote.tid (calls_of (client_entries c v.at.before)) (once_run start v.at.before c v.vote.tid sound before).0 (asked_some v.vote.tid is_refused (calls_of (client_entries c v.at.before)) told) in
        let same : to.1 ≡ v.allows.mini = same_mini to.1 v.allows.mini (sym to.2 ∙ current_issue (client_entries c v.at.before) v.vote.tid v.allows.mini v.allows.issued) in
        let one : length (participants_of v.allows.mini) ≡ length (to.0 ∷ []) = ap (λ (m : Mini). length (participants_of m)) (sym same) ∙ ap (λ (l : List NodeNo). length l) to.3 in
        let many : 2 ≤ length (participants_of v.allows.mini) = several in
        absurd (omega arith)
    by (inr (inr read)) =
        let few = read_alone v.allows.mini.nodes v.allows.mini.items read in
        let many : 2 ≤ length (participants_of v.allows.mini) = several in
        absurd (omega arith)

-- an issue of the client stands before its last step
issue_lower : (start : Start) (past : List Entry) (c : ClientNo) (v : Voter start past c) (b : Begun) (i : Issued) (x : IssueAt past c b i) → length x.at.before < length v.at.before
issue_lower start past c v b i x = by (ordered (length x.at.before) (length v.at.before))
  where
    no_issue : (what : What) → issue_in what ≡ i ∷ [] → (q : Request) (r : NodeReply)
        → what ≡ Called q r → ⊥
    no_issue what is q r w = let none : [] ≡ i ∷ [] = ap issue_in (sym w) ∙ is in cc

    by : (length x.at.before < length v.at.before)
        ⊎ ((length x.at.before ≡ length v.at.before) ⊎ (length v.at.before < length x.at.before))
        → length x.at.before < length v.at.before
    by (inl less) = less
    by (inr (inl equal)) =
        let here : SameSplit x.at.entry v.at.entry x.at.before v.at.before = same_split x.at.later v.at.later x.at.entry v.at.entry x.at.before v.at.before (sym x.at.split ∙ v.at.split) equal in
        absurd (no_issue v.at.entry.what (subst (λ (y : Entry). issue_in y.what ≡ i ∷ []) here.here x.issues) (Ask.Prepare v.vote.tid v.vote.participants v.vote.part) (Say.Done v.vote.reads) v.vote.is)
    by (inr (inr more)) =
        let inner = older_own past c v.at x.at more in
        let whole = client_split c past x.at.later x.at.entry x.at.before x.at.split (is_own c x.at.entry x.at.by) in
        let one : length (client_entries c past) ≡ suc (length (client_entries c v.at.before)) = ap (λ (l : List Entry). length l) v.list in
        let two : length (client_entries c past) ≡ length (client_entries c x.at.later ++ x.at.entry ∷ client_entries c x.at.before) = ap (λ (l : List Entry). length l) whole in
        let three : length (client_entries c x.at.later ++ x.at.entry ∷ client_entries c x.at.before) ≡ length (client_entries c x.at.later) + suc (length (client_entries c x.at.before)) = length-append (client_entries c x.at.later) (x.at.entry ∷ client_entries c x.at.before) in
        let four : length (client_entries c x.at.before) ≡ length (inner.between ++ v.at.entry ∷ client_entries c v.at.before) = ap (λ (l : List Entry). length l) inner.split in
        let five : length (inner.between ++ v.at.entry ∷ client_entries c v.at.before) ≡ length inner.between + suc (length (client_entries c v.at.before)) = length-append inner.between (v.at.entry ∷ client_entries c v.at.before) in
        absurd (omega arith)

other_never : (start : Start) (past later : List Entry) (c : ClientNo) (d : Begun)
    → StartsSound start → FollowsProtocol start past → FollowsProtocol start (later ++ past)
    → under_way (client_entries c past) ≡ Some d → (v : Voter start past c)
    → (b : Begun) (i : Issued) (x : IssueAt past c b i) → b.number ≡ d.number
    → is_read i.mini.items ≡ false → (i.tid ≡ v.vote.tid → ⊥)
    → IsNeverCommitted i.tid (later ++ past)
other_never start past later c d sound run run' now v b i x same not_read differs =
    let since = issued_since start past c b d i x run v.at (issue_lower start past c v b i x) (under_before start past c d v now) same in
    let over = all_over c (client_entries c v.at.before) (allowed_at start past c v.at run).0 in
    let gone : GoneIn (since_begin (client_entries c v.at.before)) i =
    other_gone (since_begin (client_entries c v.at.before)) v.vote.tid v.allows.mini i (issues_of (since_begin (client_entries c v.at.before))) over (vote_stays start past c sound run v) v.allows.issued differs since.there in
    let split : later ++ past ≡ (later ++ (v.at.later ++ v.at.entry ∷ [])) ++ v.at.before =
    ap (λ (l : List Entry). later ++ l) (v.at.split ∙ sym (append_assoc v.at.later (v.at.entry ∷ []) v.at.before)) ∙ sym (append_assoc later (v.at.later ++ v.at.entry ∷ []) v.at.before) in
    subst (IsNeverCommitted i.tid) (sym split) (gone_never start v.at.before (later ++ (v.at.later ++ v.at.entry ∷ [])) c i sound (subst (FollowsProtocol start) split run') (gone_since (client_entries c v.at.before) i gone) not_read)

-- The operation

-- no issue stands in what no step of its client is in
issue_old : (past later : List Entry) (c : ClientNo) (b : Begun) (i : Issued)
    → client_entries c later ≡ [] → IssueAt (later ++ past) c b i → IssueAt past c b i
issue_old past later c b i quiet x = by (where_is later past x.at.later x.at.entry x.at.before x.at.split)
  where
    no_more : (xs : List Entry) (y : Entry) (ys : List Entry) → [] ≡ xs ++ y ∷ ys → ⊥
    no_more [] y ys e = cc
    no_more (x ∷ xs) y ys e = cc

    by : InOlder past x.at.entry x.at.before ⊎ InLater past later x.at.entry x.at.before
        → IssueAt past c b i
    by (inl old) = record { at = record { entry = x.at.entry; later = old.later; before = x.at.before; split = old.split; by = x.at.by }; issues = x.issues; of = x.of }
    by (inr new) = absurd (no_more (client_entries c new.newer) x.at.entry (client_entries c new.older) (sym quiet ∙ client_split c later new.newer x.at.entry new.older new.split (is_own c x.at.entry x.at.by)))

pub left_settled : (start : Start) (store : Store) (past : List Entry) (placed : List Placed)
    → HistoryRun start store past placed → AreFree start past → LeftAreSettled start past placed
left_settled start store past placed h free c number (op, now, ends) = by (stands_or_not c number placed)
  where
    run : FollowsProtocol start past
    run = runs_follow_protocol start past h.opened.run

    v : Voter start past c
    v = voter start past c run ends

    effect : (s : Stands placed c number) → Origin past s.p → TookEffect past placed c number
    effect s (by_plan a) = took_effect start past placed c number s a
    effect s (by_answer r) =
        let e = answer_as past s.p c number s.of.0 s.of.1 r in
        let list = client_split c past e.at.later e.at.entry e.at.before e.at.split (is_own c e.at.entry e.at.by) in
        let higher : number < number =
        behind_answer c (client_entries c e.at.later) e.at.entry (client_entries c e.at.before) number (Replied s.p.past.reply) (record { number = number; op = op }) (subst (Allowed c) list (client_allowed start past c run)) e.answers (ap under_way (sym list) ∙ now) in
        absurd (omega arith)

    never : StandsNowhere placed c number → IsNeverAlone start past c number
    never none later place quiet run' plan =
        let l = commits_later start store past placed h later run' c number none place plan in
        never_later past later c number l (which l (tid_same l.x.issued.tid v.vote.tid) refl)
      where
        which : (l : CommitsLater past later c number) (b : Bool)
            → tid_same l.x.issued.tid v.vote.tid ≡ b
            → IsNeverCommitted l.x.issued.tid (later ++ past)
        which l true same =
            let eq : l.x.issued.tid ≡ v.vote.tid = tid_same-true l.x.issued.tid v.vote.tid same in
            subst (λ (t : Tid). IsNeverCommitted t (later ++ past)) (sym eq)
            (voted_never start past later c h.opened.opened.sound run run' free v (subst (λ (t : Tid). CommittedIn past t → ⊥) eq l.not_yet))
        which l false other =
            other_never start past later c (record { number = number; op = op }) h.opened.opened.sound run run' now v (record { number = number; op = l.x.op }) l.x.issued (issue_old past later c (record { number = number; op = l.x.op }) l.x.issued quiet l.x.issue) refl l.x.no_read
            (λ eq. clash (tid_same l.x.issued.tid v.vote.tid) (subst (λ (t : Tid). tid_same l.x.issued.tid t ≡ true) eq (tid_same-refl l.x.issued.tid)) other)

    by : Stands placed c number ⊎ StandsNowhere placed c number
        → TookEffect past placed c number
        ⊎ (StandsNowhere placed c number × IsNeverAlone start past c number)
    by (inl s) = inl (effect s (origin_of start past placed s.p h.opened.run h.history s.there))
    by (inr none) = inr (none, never none)
