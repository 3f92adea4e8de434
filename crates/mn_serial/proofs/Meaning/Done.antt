-- A minitransaction that was done at each of its participants is committed.
use Rattle.std.proofs.Common.{◌≡◌, ◌≤◌, ◌⊎◌, inl, inr, Bool, true, false, ◌&&◌, ◌||◌, List, [], ◌∷◌, ◌++◌, length, Option, Some, None, refl, subst, sym, ap, ◌∙◌, arith, if◌then◌else◌}
use Rattle.std.specs.List.{AllByRecursion, list_any, list_all}
use Rattle.std.proofs.lemmas.List.Folds.{list_any-append}
use Rattle.mn_base.specs.Ids.{node_same}
use Rattle.mn_base.specs.declared.ids.NodeNo.{NodeNo}
use Rattle.mn_base.specs.declared.ids.ClientNo.{ClientNo}
use Rattle.mn_base.specs.declared.ids.Tid.{Tid}
use Rattle.mn_base.proofs.Booleans.{left_true, or_cases, or_left, or_right, right_true}
use Rattle.mn_mini.specs.declared.record.Record.{Record}
use Rattle.mn_mini.specs.declared.request.Request.{Request}
use Rattle.mn_mini.specs.declared.request.Request.TheVariants as Ask
use Rattle.mn_mini.specs.declared.reply.NodeReply.{NodeReply}
use Rattle.mn_mini.specs.declared.reply.NodeReply.TheVariants as Say
use Rattle.mn_mini.specs.Mini.{Mini, participants_of}
use Rattle.mn_mini.specs.Node.{has_voted}
use Rattle.mn_runs.specs.declared.entry.Entry.{Entry}
use Rattle.mn_runs.specs.declared.entry.What.{What}
use Rattle.mn_runs.specs.declared.entry.What.TheVariants.{Begin, Issue, Called, Stopped, Restarted, Abandoned, Answered}
use Rattle.mn_runs.specs.Calls.{Call, Issued, is_at, is_by, is_prepare, is_exec, is_force, is_yes, is_done, is_try, was_told, was_done, node_entries, client_entries, call_in, calls_of}
use Rattle.mn_runs.specs.Protocol.{Start, FollowsProtocol, KeepsProtocol, records_of}
use Rattle.mn_runs.specs.Commits.{effect_of, is_vote_effect, has_vote, issued_as, committed_with, committed_by}
use Rattle.mn_votes.specs.Laws.{StartsSound}
use Rattle.mn_runs.proofs.Same.{tid_same-true}
use Rattle.mn_votes.proofs.Unchanged.{issue_stays}
use Rattle.mn_votes.proofs.Backing.{mini_of}
use Rattle.mn_votes.proofs.Preserved.{kept_run}
use Rattle.mn_votes.proofs.Acts.{Act, idle, votes, executes, decides, forces, IsIdle, act_here}
use Rattle.mn_commits.proofs.Commits.Once.{at_some}
use Rattle.mn_commits.proofs.Bytes.Step.{issued_is}
use Rattle.mn_commits.proofs.Bytes.Through.{Whole}
use Rattle.mn_commits.proofs.Bytes.Spaces.{whole_run}
use Rattle.mn_commits.proofs.Bytes.Reads.{execs_are_flat}
use Rattle.mn_votes.proofs.Start.{all_pass}

-- some entry commits the id
pub record CommittedIn (past : List Entry) (tid : Tid) : Type 0 where
  pub entry : Entry
  pub later : List Entry
  pub before : List Entry
  pub issued : Issued
  pub split : past ≡ later ++ entry ∷ before
  pub commits : committed_by before entry ≡ Some issued
  pub same : issued.tid ≡ tid

pub committed_more : (e : Entry) (past : List Entry) (tid : Tid) → CommittedIn past tid
    → CommittedIn (e ∷ past) tid
committed_more e past tid c = record { entry = c.entry; later = e ∷ c.later; before = c.before; issued = c.issued; split = ap (λ (l : List Entry). e ∷ l) c.split; commits = c.commits; same = c.same }

-- By an Exec

exec_call : (start : Start) (past : List Entry) (by : Option ClientNo) (k : NodeNo) (request : Request) (reply : NodeReply) (tid : Tid) → StartsSound start
    → FollowsProtocol start (record { node = Some k; client = by; what = Called request reply } ∷ past) → is_exec tid request ≡ true → is_done reply ≡ true → CommittedIn (record { node = Some k; client = by; what = Called request reply } ∷ past) tid
exec_call start past by k (Ask.Exec t part) (Say.Done reads) tid sound run is done =
    let flat_exec = execs_are_flat start past (record { node = Some k; client = by; what = Called (Ask.Exec t part) (Say.Done reads) }) k t part reads sound run refl refl in
    record { entry = record { node = Some k; client = by; what = Called (Ask.Exec t part) (Say.Done reads) }; later = []; before = past; issued = flat_exec.0; split = refl; commits = flat_exec.3; same = flat_exec.2 ∙ tid_same-true t tid is }
exec_call start past by k (Ask.Prepare t ps part) reply tid sound run is done = absurd cc
exec_call start past by k (Ask.Decide t verdict) reply tid sound run is done = absurd cc
exec_call start past by k (Ask.Force t) reply tid sound run is done = absurd cc
exec_call start past by k Ask.List reply tid sound run is done = absurd cc
exec_call start past by k (Ask.Peek at length) reply tid sound run is done = absurd cc
exec_call start past by k (Ask.Exec t part) (Say.BadLock at length holder) tid sound run is done = absurd cc
exec_call start past by k (Ask.Exec t part) (Say.BadCompare item found) tid sound run is done = absurd cc
exec_call start past by k (Ask.Exec t part) Say.BadForced tid sound run is done = absurd cc
exec_call start past by k (Ask.Exec t part) (Say.Vote vote) tid sound run is done = absurd cc
exec_call start past by k (Ask.Exec t part) Say.Decided tid sound run is done = absurd cc
exec_call start past by k (Ask.Exec t part) (Say.Listed doubts) tid sound run is done = absurd cc
exec_call start past by k (Ask.Exec t part) (Say.Peeked bytes) tid sound run is done = absurd cc
exec_call start past by k (Ask.Exec t part) Say.Down tid sound run is done = absurd cc
exec_call start past by k (Ask.Exec t part) Say.Stopped tid sound run is done = absurd cc
exec_call start past by k (Ask.Exec t part) Say.NoMemory tid sound run is done = absurd cc

abbrev is_exec_done : Tid → Call → Bool
is_exec_done tid c = is_exec tid c.request && is_done c.reply

or_false : (b : Bool) → (b || false) ≡ true → b ≡ true
or_false true e = refl
or_false false e = absurd cc

exec_entry : (start : Start) (past : List Entry) (by : Option ClientNo) (at : Option NodeNo) (what : What) (tid : Tid) → StartsSound start → FollowsProtocol start (record { node = at; client = by; what = what } ∷ past)
    → list_any (is_exec_done tid) (call_in at what) ≡ true
    → CommittedIn (record { node = at; client = by; what = what } ∷ past) tid
exec_entry start past by None what tid sound run any = absurd cc
exec_entry start past by (Some k) (Called request reply) tid sound run any =
    let both = or_false (is_exec tid request && is_done reply) any in
    exec_call start past by k request reply tid sound run (left_true (is_exec tid request) (is_done reply) both) (right_true (is_exec tid request) (is_done reply) both)
exec_entry start past by (Some k) (Stopped (Some request) asked) tid sound run any = absurd (never (right_true (is_exec tid request) false (or_false (is_exec tid request && false) any)))
  where
    never : false ≡ true → ⊥
    never e = cc
exec_entry start past by (Some k) (Stopped None asked) tid sound run any = absurd cc
exec_entry start past by (Some k) (Restarted restored) tid sound run any = absurd cc
exec_entry start past by (Some k) (Begin number op) tid sound run any = absurd cc
exec_entry start past by (Some k) (Issue t mini) tid sound run any = absurd cc
exec_entry start past by (Some k) (Abandoned t) tid sound run any = absurd cc
exec_entry start past by (Some k) (Answered number answer) tid sound run any = absurd cc

exec_done : (start : Start) (past : List Entry) (c : ClientNo) (tid : Tid) → StartsSound start
    → FollowsProtocol start past
    → list_any (is_exec_done tid) (calls_of (client_entries c past)) ≡ true → CommittedIn past tid
exec_done start [] c tid sound run any = absurd cc
exec_done start (e ∷ past) c tid sound run any =
    let older : list_any (is_exec_done tid) (calls_of (client_entries c past)) ≡ true
    → CommittedIn (e ∷ past) tid = λ h. committed_more e past tid (exec_done start past c tid sound run.0 h) in
    elim (is_by c e) as (λ b. list_any (is_exec_done tid) (calls_of (if b then e ∷ client_entries c past else client_entries c past)) ≡ true → CommittedIn (e ∷ past) tid) [
      | true ↦ λ h. by older (or_cases (list_any (is_exec_done tid) (call_in e.node e.what)) (list_any (is_exec_done tid) (calls_of (client_entries c past))) (sym (list_any-append (is_exec_done tid) (call_in e.node e.what) (calls_of (client_entries c past))) ∙ h))
      | false ↦ older
    ] any
  where
    by : (list_any (is_exec_done tid) (calls_of (client_entries c past)) ≡ true → CommittedIn (e ∷ past) tid) → (list_any (is_exec_done tid) (call_in e.node e.what) ≡ true) ⊎ (list_any (is_exec_done tid) (calls_of (client_entries c past)) ≡ true) → CommittedIn (e ∷ past) tid
    by older (inl here) = exec_entry start past e.client e.node e.what tid sound run here
    by older (inr there) = older there

-- By its last vote

vote_not_idle : (tid : Tid) (eff : Option Request) → IsIdle eff → is_vote_effect tid eff ≡ true → ⊥
vote_not_idle tid None none e = cc
vote_not_idle tid (Some (Ask.Prepare t ps part)) none e = none
vote_not_idle tid (Some (Ask.Exec t part)) none e = none
vote_not_idle tid (Some (Ask.Decide t verdict)) none e = cc
vote_not_idle tid (Some (Ask.Force t)) none e = cc
vote_not_idle tid (Some Ask.List) none e = cc
vote_not_idle tid (Some (Ask.Peek at length)) none e = cc

vote_commits : (start : Start) (past : List Entry) (m : NodeNo) (tid : Tid) (ps : List NodeNo) (eff : Option Request) (added : Option Record) → Whole start past → Act start past m eff added → is_vote_effect tid eff ≡ true
    → ((mini : Mini) → mini_of past tid ≡ Some mini → participants_of mini ≡ ps)
    → AllByRecursion (λ n. (node_same n m || has_vote tid n past) ≡ true) ps
    → (i : Issued) × (committed_with past m eff ≡ Some i) × (i.tid ≡ tid)
vote_commits start past m tid ps eff added w (idle q none) vote named all = absurd (vote_not_idle tid q none vote)
vote_commits start past m tid ps eff added w (decides q t verdict none held) vote named all = absurd (vote_not_idle tid q none vote)
vote_commits start past m tid ps eff added w (forces q t none unvoted unforced qs may) vote named all = absurd (vote_not_idle tid q none vote)
vote_commits start past m tid ps eff added w (executes t part free tested first) vote named all = absurd (never vote)
  where
    never : false ≡ true → ⊥
    never e = cc
vote_commits start past m tid ps eff added w (votes t qs part unforced free tested (unvoted, (mini, has, asked), at)) vote named all =
    let same : t ≡ tid = tid_same-true t tid vote in
    let those : qs ≡ ps = asked ∙ named mini (subst (λ (x : Tid). mini_of past x ≡ Some mini) same has) in
    let every : list_all (λ n. node_same n m || has_vote t n past) qs ≡ true =
    all_pass (λ n. node_same n m || has_vote t n past) qs (subst (λ (x : Tid). AllByRecursion (λ n. (node_same n m || has_vote x n past) ≡ true) qs) (sym same) (subst (λ (xs : List NodeNo). AllByRecursion (λ n. (node_same n m || has_vote tid n past) ≡ true) xs) (sym those) all)) in
    (record { tid = t; mini = mini }, ap (λ (b : Bool). if b then issued_as t past else None) every ∙ issued_is start past t mini (w.issued t) has, same)

-- a vote that is new is the entry's
record NewVote (past : List Entry) (e : Entry) (tid : Tid) : Type 0 where
  node : NodeNo
  here : is_at node e ≡ true
  vote : is_vote_effect tid (effect_of (node_entries node past) e.what) ≡ true

old_or_new : (past : List Entry) (e : Entry) (tid : Tid) (ps : List NodeNo)
    → AllByRecursion (λ n. has_vote tid n (e ∷ past) ≡ true) ps
    → AllByRecursion (λ n. has_vote tid n past ≡ true) ps ⊎ NewVote past e tid
old_or_new past e tid [] all = inl tt
old_or_new past e tid (n ∷ ps) all = by (or_cases (is_at n e && is_vote_effect tid (effect_of (node_entries n past) e.what)) (has_vote tid n past) all.0) (old_or_new past e tid ps all.1)
  where
    by : ((is_at n e && is_vote_effect tid (effect_of (node_entries n past) e.what)) ≡ true)
        ⊎ (has_vote tid n past ≡ true)
        → AllByRecursion (λ n. has_vote tid n past ≡ true) ps ⊎ NewVote past e tid
        → AllByRecursion (λ n. has_vote tid n past ≡ true) (n ∷ ps) ⊎ NewVote past e tid
    by (inl new) rest = inr (record { node = n; here = left_true (is_at n e) _ new; vote = right_true (is_at n e) _ new })
    by (inr old) (inl olds) = inl (old, olds)
    by (inr old) (inr new) = inr new

all_at : (past : List Entry) (m : NodeNo) (by : Option ClientNo) (what : What) (tid : Tid) (ps : List NodeNo) → AllByRecursion (λ n. has_vote tid n (record { node = Some m; client = by; what = what } ∷ past) ≡ true) ps → AllByRecursion (λ n. (node_same n m || has_vote tid n past) ≡ true) ps
all_at past m by what tid [] all = tt
all_at past m by what tid (n ∷ ps) all = (one (or_cases (node_same n m && is_vote_effect tid (effect_of (node_entries n past) what)) (has_vote tid n past) all.0), all_at past m by what tid ps all.1)
  where
    one : ((node_same n m && is_vote_effect tid (effect_of (node_entries n past) what)) ≡ true)
        ⊎ (has_vote tid n past ≡ true) → (node_same n m || has_vote tid n past) ≡ true
    one (inl h) = or_left (node_same n m) (has_vote tid n past) (left_true (node_same n m) _ h)
    one (inr h) = or_right (node_same n m) (has_vote tid n past) h

new_vote : (start : Start) (past : List Entry) (by : Option ClientNo) (at : Option NodeNo) (what : What) (m : NodeNo) (tid : Tid) (ps : List NodeNo) → Whole start past → KeepsProtocol start past (record { node = at; client = by; what = what }) → at ≡ Some m
    → is_vote_effect tid (effect_of (node_entries m past) what) ≡ true
    → ((mini : Mini) → mini_of past tid ≡ Some mini → participants_of mini ≡ ps)
    → AllByRecursion (λ n. has_vote tid n (record { node = at; client = by; what = what } ∷ past) ≡ true) ps → CommittedIn (record { node = at; client = by; what = what } ∷ past) tid
new_vote start past by None what m tid ps w keeps here vote named all = absurd (never here)
  where
    never : ◌≡◌ {A = Option NodeNo} None (Some m) → ⊥
    never e = cc
new_vote start past by (Some k) what m tid ps w keeps here vote named all =
    let same : m ≡ k = some here in
    let commits = vote_commits start past k tid ps (effect_of (node_entries k past) what) _ w (act_here start past by k what w.kept w.pending w.once keeps)
    (subst (λ (n : NodeNo). is_vote_effect tid (effect_of (node_entries n past) what) ≡ true) same vote) named (all_at past k by what tid ps all) in
    record { entry = record { node = Some k; client = by; what = what }; later = []; before = past; issued = commits.0; split = refl; commits = commits.1; same = commits.2 }
  where
    some : Some k ≡ Some m → m ≡ k
    some e = cc

some_first : (P : NodeNo → Type 0) (ps : List NodeNo) → 1 ≤ length ps → AllByRecursion P ps
    → (n : NodeNo) × P n
some_first P [] few all = absurd (omega arith)
some_first P (p ∷ ps) few all = (p, all.0)

pub votes_commit : (start : Start) (past : List Entry) (tid : Tid) (ps : List NodeNo)
    → StartsSound start → FollowsProtocol start past → 1 ≤ length ps
    → ((mini : Mini) → mini_of past tid ≡ Some mini → participants_of mini ≡ ps)
    → AllByRecursion (λ n. has_vote tid n past ≡ true) ps → CommittedIn past tid
votes_commit start [] tid ps sound run few named all = absurd (never (some_first (λ n. has_vote tid n [] ≡ true) ps few all).1)
  where
    never : false ≡ true → ⊥
    never e = cc
votes_commit start (e ∷ past) tid ps sound run few named all = by (old_or_new past e tid ps all)
    (λ olds. committed_more e past tid (votes_commit start past tid ps sound run.0 few (λ mini is. named mini (issue_stays start past e tid.client tid mini (kept_run start past sound run.0) run.1 is)) olds))
  where
    by : AllByRecursion (λ n. has_vote tid n past ≡ true) ps ⊎ NewVote past e tid
        → (AllByRecursion (λ n. has_vote tid n past ≡ true) ps → CommittedIn (e ∷ past) tid)
        → CommittedIn (e ∷ past) tid
    by (inl olds) older = older olds
    by (inr new) older =
        new_vote start past e.client e.node e.what new.node tid ps (whole_run start past sound run.0) run.1 (at_some new.node e.node e.client e.what new.here) new.vote
        (λ mini is. named mini (issue_stays start past e tid.client tid mini (kept_run start past sound run.0) run.1 is)) all

-- By what its client was told

told_two : (f g h : Call → Bool) → ((c : Call) → f c ≡ true → (g c ≡ true) ⊎ (h c ≡ true))
    → (cs : List Call) → list_any f cs ≡ true → (list_any g cs ≡ true) ⊎ (list_any h cs ≡ true)
told_two f g h w [] e = absurd cc
told_two f g h w (c ∷ cs) e = by (or_cases (f c) (list_any f cs) e) (told_two f g h w cs)
  where
    here : (g c ≡ true) ⊎ (h c ≡ true) → (list_any g (c ∷ cs) ≡ true) ⊎ (list_any h (c ∷ cs) ≡ true)
    here (inl a) = inl (or_left (g c) (list_any g cs) a)
    here (inr b) = inr (or_left (h c) (list_any h cs) b)

    there : (list_any g cs ≡ true) ⊎ (list_any h cs ≡ true)
        → (list_any g (c ∷ cs) ≡ true) ⊎ (list_any h (c ∷ cs) ≡ true)
    there (inl a) = inl (or_right (g c) (list_any g cs) a)
    there (inr b) = inr (or_right (h c) (list_any h cs) b)

    by : (f c ≡ true) ⊎ (list_any f cs ≡ true)
        → (list_any f cs ≡ true → (list_any g cs ≡ true) ⊎ (list_any h cs ≡ true))
        → (list_any g (c ∷ cs) ≡ true) ⊎ (list_any h (c ∷ cs) ≡ true)
    by (inl a) rest = here (w c a)
    by (inr b) rest = there (rest b)

prepare_or_exec : (tid : Tid) (n : NodeNo) (c : Call)
    → (node_same c.node n && (is_try tid c.request && is_done c.reply)) ≡ true
    → ((node_same c.node n && (is_prepare tid c.request && is_done c.reply)) ≡ true)
    ⊎ (is_exec_done tid c ≡ true)
prepare_or_exec tid n c e = by (node_same c.node n) (is_prepare tid c.request) (is_exec tid c.request) (is_done c.reply) e
  where
    by : (a p q d : Bool) → (a && ((p || q) && d)) ≡ true
        → ((a && (p && d)) ≡ true) ⊎ ((q && d) ≡ true)
    by true true q d e = inl e
    by true false q d e = inr e
    by false p q d e = absurd cc

done_votes : (start : Start) (past : List Entry) (tid : Tid) (mini : Mini) → StartsSound start
    → FollowsProtocol start past → mini_of past tid ≡ Some mini
    → (ps : List NodeNo)
    → AllByRecursion (λ n. was_done tid n (client_entries tid.client past) ≡ true) ps
    → CommittedIn past tid ⊎ AllByRecursion (λ n. has_vote tid n past ≡ true) ps
done_votes start past tid mini sound run is [] all = inr tt
done_votes start past tid mini sound run is (n ∷ ps) all =
    by (told_two (λ c. node_same c.node n && (is_try tid c.request && is_done c.reply)) (λ c. node_same c.node n && (is_prepare tid c.request && is_done c.reply)) (is_exec_done tid) (prepare_or_exec tid n) (calls_of (client_entries tid.client past)) all.0)
    (done_votes start past tid mini sound run is ps all.1)
  where
    by : (was_told (is_prepare tid) is_done n (client_entries tid.client past) ≡ true)
        ⊎ (list_any (is_exec_done tid) (calls_of (client_entries tid.client past)) ≡ true)
        → CommittedIn past tid ⊎ AllByRecursion (λ n. has_vote tid n past ≡ true) ps
        → CommittedIn past tid ⊎ AllByRecursion (λ n. has_vote tid n past ≡ true) (n ∷ ps)
    by (inr exec) rest = inl (exec_done start past tid.client tid sound run exec)
    by (inl prepared) (inl committed) = inl committed
    by (inl prepared) (inr voted) =
        let w = whole_run start past sound run in
        let has : has_voted (records_of start past n) tid ≡ true = w.kept.yes tid.client n tid (or_left (was_told (is_prepare tid) is_done n (client_entries tid.client past)) (was_told (is_force tid) is_yes n (client_entries tid.client past)) prepared) in
        inr (w.in_log n tid mini is ∙ has, voted)

pub done_committed : (start : Start) (past : List Entry) (tid : Tid) (mini : Mini)
    → StartsSound start → FollowsProtocol start past
    → mini_of past tid ≡ Some mini → 1 ≤ length (participants_of mini)
    → AllByRecursion (λ n. was_done tid n (client_entries tid.client past) ≡ true) (participants_of mini) → CommittedIn past tid
done_committed start past tid mini sound run is few all = by (done_votes start past tid mini sound run is (participants_of mini) all)
  where
    same : (a b : Mini) → Some a ≡ Some b → a ≡ b
    same a b e = cc

    by : CommittedIn past tid
        ⊎ AllByRecursion (λ n. has_vote tid n past ≡ true) (participants_of mini)
        → CommittedIn past tid
    by (inl committed) = committed
    by (inr voted) = votes_commit start past tid (participants_of mini) sound run few (λ other other_is. ap participants_of (same other mini (sym other_is ∙ is))) voted
