-- Each operation whose plan is committed, and each one that was replied to, stands in the history.
use Rattle.std.proofs.Common.{◌≡◌, ℕ, zero, suc, ◌+◌, ◌<◌, ◌⊎◌, inl, inr, Bool, true, false, ◌&&◌, ◌||◌, List, [], ◌∷◌, ◌++◌, length, Option, Some, None, refl, subst, sym, ap, ◌∙◌, arith, if◌then◌else◌, Contains}
use Rattle.mn_serial.specs.Meaning.{AnswersOp, StandsAt, HistoryRun, CommittedStands}
use Rattle.std.specs.Prelude.{nat_lt, nat_eq, MatchBool}
use Rattle.std.proofs.lemmas.List.{append_assoc}
use Rattle.std.proofs.lemmas.List.Elements.{All-contains, All-from_recursion, Contains-append_left, Contains-push}
use Rattle.mn_base.specs.Ids.{client_same}
use Rattle.mn_base.specs.Store.{Store}
use Rattle.mn_base.specs.declared.history.Past.{Past}
use Rattle.mn_base.specs.declared.ids.NodeNo.{NodeNo}
use Rattle.mn_base.specs.declared.ids.ClientNo.{ClientNo}
use Rattle.mn_base.specs.declared.op.Op.{Op}
use Rattle.mn_base.specs.declared.reply.Reply.{Reply}
use Rattle.mn_base.specs.declared.answer.Answer.{Answer}
use Rattle.mn_base.specs.declared.answer.Answer.TheVariants.{Replied}
use Rattle.mn_mini.specs.Mini.{is_read}
use Rattle.mn_page.specs.Holds.{Holds}
use Rattle.mn_page.proofs.FrontFields.{is_at}
use Rattle.mn_runs.specs.declared.entry.Entry.{Entry}
use Rattle.mn_runs.specs.declared.entry.What.{What}
use Rattle.mn_runs.specs.declared.entry.What.TheVariants.{Begin, Issue, Called, Stopped, Restarted, Abandoned, Answered}
use Rattle.mn_runs.specs.Calls.{Issued, Begun, issue_in, issues_of, client_entries, under_way}
use Rattle.mn_runs.specs.Clients.{ClientAllows}
use Rattle.mn_law.specs.Answers.{IsPlanBy}
use Rattle.mn_runs.specs.Commits.{committed_at, committed_by}
use Rattle.mn_runs.specs.Protocol.{Start, FollowsProtocol}
use Rattle.mn_law.specs.Run.{IsRun}
use Rattle.mn_votes.specs.Laws.{StartsSound}
use Rattle.mn_serial.specs.History.{Placed, placed_in, PlanOf, ReadPlace, has_past, AnswerPuts, StepPuts, EntryPuts, IsHistory}
use Rattle.mn_runs.specs.Sound.{opened_memory}
use Rattle.mn_runs.proofs.Same.{client_same-true}
use Rattle.mn_law.proofs.MakeRun.{runs_follow_protocol}
use Rattle.mn_serial.proofs.Meaning.Splits.{SameSplit, same_split, shorter_by}
use Rattle.mn_serial.proofs.Meaning.Prefixes.{older_run}
use Rattle.mn_serial.proofs.Meaning.Kept.{Known, some_store}
use Rattle.mn_serial.proofs.Meaning.Legal.{Opens, known_run, plan_acts}
use Rattle.mn_serial.proofs.Meaning.Clients.{Allowed, same_op, serial_of, issues_grow}
use Rattle.mn_serial.proofs.Meaning.Positions.{IssueAt, AnswerAt, allowed_at, older_own, answered_op, answered_once, issue_before_answer, behind_issue, ordered}
use Rattle.mn_serial.proofs.Meaning.Origins.{PlanAt, plan_more, Origin, by_plan, by_answer, Puts, nothing_new, read_new, plan_new, puts_of, origins, issue_of, begun_as}
use Rattle.mn_serial.proofs.Meaning.Plans.{plan_in}
use Rattle.mn_serial.proofs.Meaning.Answered.{plan_replied}
use Rattle.mn_serial.proofs.Meaning.Once.{answer_more}

-- What stands in a list

pub contains_here : {X : Type 0} (x : X) (xs : List X) → Contains (x ∷ xs) x
contains_here x xs = (0, omega arith, refl)

pub contains_more : {X : Type 0} (x : X) (xs : List X) (y : X) → Contains xs y → Contains (x ∷ xs) y
contains_more x xs y (k, in', is) = (suc k, omega arith, is)

put_new : (p : Placed) (ps : List Placed) → Contains (placed_in p ps) p
put_new p [] = contains_here p []
put_new p (x ∷ xs) = by (nat_lt p.place x.place) (put_new p xs)
  where
    by : (b : Bool) → Contains (placed_in p xs) p
        → Contains (if b then p ∷ x ∷ xs else x ∷ placed_in p xs) p
    by true rest = contains_here p (x ∷ xs)
    by false rest = contains_more x (placed_in p xs) p rest

put_old : (p : Placed) (ps : List Placed) (q : Placed) → Contains ps q → Contains (placed_in p ps) q
put_old p [] q (k, in', is) = absurd (omega arith)
put_old p (x ∷ xs) q has = by (nat_lt p.place x.place) has (put_old p xs q)
  where
    by : (b : Bool) → Contains (x ∷ xs) q → (Contains xs q → Contains (placed_in p xs) q)
        → Contains (if b then p ∷ x ∷ xs else x ∷ placed_in p xs) q
    by true h rest = contains_more p (x ∷ xs) q h
    by false (zero, in', is) rest = (zero, omega arith, is)
    by false (suc k, in', is) rest = contains_more x (placed_in p xs) q (rest (k, omega arith, is))

puts_stay : (past : List Entry) (e : Entry) (old new : List Placed) (q : Placed)
    → Puts past e old new → Contains old q → Contains new q
puts_stay past e old new q (nothing_new same) has = subst (λ (l : List Placed). Contains l q) (sym same) has
puts_stay past e old new q (read_new p replied none same) has = subst (λ (l : List Placed). Contains l q) (sym same) (put_old p old q has)
puts_stay past e old new q (plan_new p plan same) has = subst (λ (l : List Placed). Contains l q) (sym same) (Contains-append_left old (record { place = length past; past = p } ∷ []) q has)

-- the history of an older part stays
pub record OlderHistory (before : List Entry) (placed : List Placed) : Type 0 where
  pub older : List Placed
  pub history : IsHistory before older
  pub stays : (q : Placed) → Contains older q → Contains placed q

pub older_history : (start : Start) (later before : List Entry) (placed : List Placed)
    → FollowsProtocol start (later ++ before) → IsHistory (later ++ before) placed
    → OlderHistory before placed
older_history start [] before placed run history = record { older = placed; history = history; stays = λ q h. h }
older_history start (e ∷ later) before placed run history =
    let rest = older_history start later before history.0 run.0 history.1 in
    record { older = rest.older; history = rest.history; stays = λ q h. puts_stay (later ++ before) e history.0 placed q (puts_of start (later ++ before) e placed run history) (rest.stays q h) }

-- A committed plan

issue_client : (at : Option NodeNo) (c : ClientNo) (what : What) (es : List Entry) (j : Issued)
    → ClientAllows c es at what → issue_in what ≡ j ∷ [] → j.tid.client ≡ c
issue_client at c (Issue tid mini) es j a is =
    let same : record { tid = tid; mini = mini } ≡ j = head _ j is in ap (λ (i : Issued). i.tid.client) (sym same) ∙ a.client
  where
    head : (a b : Issued) → a ∷ [] ≡ b ∷ [] → a ≡ b
    head a b e = cc
issue_client at c (Begin number op) es j a is = absurd cc
issue_client at c (Answered number answer) es j a is = absurd cc
issue_client at c (Called request reply) es j a is = absurd cc
issue_client at c (Stopped request asked) es j a is = absurd cc
issue_client at c (Restarted kept) es j a is = absurd cc
issue_client at c (Abandoned tid) es j a is = absurd cc

pub client_of : (start : Start) (past : List Entry) (c : ClientNo) (b : Begun) (i : Issued) (x : IssueAt past c b i) → FollowsProtocol start past → i.tid.client ≡ c
client_of start past c b i x run = issue_client x.at.entry.node c x.at.entry.what (client_entries c x.at.before) i (allowed_at start past c x.at run).1 x.issues

-- an id is issued at one place
pub one_issue : (start : Start) (past : List Entry) (c : ClientNo) (b d : Begun) (i : Issued) (x : IssueAt past c b i) (y : IssueAt past c d i) → FollowsProtocol start past → (length x.at.before ≡ length y.at.before) × (b ≡ d)
one_issue start past c b d i x y run = by (ordered (length x.at.before) (length y.at.before))
  where
    same_begun : (a b : Begun) → Some a ≡ Some b → a ≡ b
    same_begun a b e = cc

    lower : (b d : Begun) (x : IssueAt past c b i) (y : IssueAt past c d i)
        → length x.at.before < length y.at.before → ⊥
    lower b d x y less =
        let inner = older_own past c x.at y.at less in
        let one : i.tid.serial ≡ length (issues_of (client_entries c x.at.before)) + 1 = serial_of c x.at.entry (client_entries c x.at.before) i (allowed_at start past c x.at run) x.issues in
        let two : i.tid.serial ≡ length (issues_of (client_entries c y.at.before)) + 1 = serial_of c y.at.entry (client_entries c y.at.before) i (allowed_at start past c y.at run) y.issues in
        let list : length (issues_of (client_entries c y.at.before)) ≡ length (issues_of (inner.between ++ x.at.entry ∷ client_entries c x.at.before)) = ap (λ (l : List Entry). length (issues_of l)) inner.split in
        let grow = issues_grow inner.between (x.at.entry ∷ client_entries c x.at.before) in
        let more : length (issues_of (x.at.entry ∷ client_entries c x.at.before)) ≡ suc (length (issues_of (client_entries c x.at.before))) = ap (λ (js : List Issued). length (js ++ issues_of (client_entries c x.at.before))) x.issues in
        absurd (omega arith)

    by : (length x.at.before < length y.at.before)
        ⊎ ((length x.at.before ≡ length y.at.before) ⊎ (length y.at.before < length x.at.before))
        → (length x.at.before ≡ length y.at.before) × (b ≡ d)
    by (inl less) = absurd (lower b d x y less)
    by (inr (inr more)) = absurd (lower d b y x more)
    by (inr (inl equal)) =
        let here : SameSplit x.at.entry y.at.entry x.at.before y.at.before = same_split x.at.later y.at.later x.at.entry y.at.entry x.at.before y.at.before (sym x.at.split ∙ y.at.split) equal in
        (equal, same_begun b d (sym x.of ∙ (ap (λ (l : List Entry). under_way (client_entries c l)) here.older ∙ y.of)))

-- two operations with a plan of one id are one
pub one_operation : (start : Start) (past : List Entry) (place place' : ℕ) (p q : Past) (a : PlanAt past place p) (b : PlanAt past place' q) → a.issued ≡ b.issued → FollowsProtocol start past → (p.client ≡ q.client) × (begun_as p ≡ begun_as q)
one_operation start past place place' p q a b same run =
    let x = issue_of past place p a in
    let y = issue_of past place' q b in
    let one = client_of start past p.client (begun_as p) a.issued x run in
    let two = client_of start past q.client (begun_as q) b.issued y run in
    let clients : p.client ≡ q.client = sym one ∙ (ap (λ (i : Issued). i.tid.client) same ∙ two) in
    let y' : IssueAt past p.client (begun_as q) a.issued = subst (λ (c : ClientNo). IssueAt past c (begun_as q) a.issued) (sym clients) (subst (λ (i : Issued). IssueAt past q.client (begun_as q) i) (sym same) y) in
    (clients, (one_issue start past p.client (begun_as p) (begun_as q) a.issued x y' run).1)

pub put_plan : (before : List Entry) (e : Entry) (i : Issued) (old new : List Placed) (o : Option Issued) → o ≡ Some i → is_read i.mini.items ≡ false → EntryPuts before e o old new
    → (p : Past) × PlanOf before i p
    × (new ≡ old ++ record { place = length before; past = p } ∷ [])
put_plan before e i old new None is not_read puts = absurd (none is)
  where
    none : ◌≡◌ {A = Option Issued} None (Some i) → ⊥
    none h = cc
put_plan before e i old new (Some j) is not_read puts = by (is_read j.mini.items) (ap (λ (k : Issued). is_read k.mini.items) same ∙ not_read) puts
  where
    same : j ≡ i
    same = cc

    by : (b : Bool) → b ≡ false
        → MatchBool b (new ≡ old) ((p : Past) × PlanOf before j p × (new ≡ old ++ record { place = length before; past = p } ∷ [])) → (p : Past) × PlanOf before i p × (new ≡ old ++ record { place = length before; past = p } ∷ [])
    by true h m = absurd cc
    by false h (p, plan, is_new) = (p, subst (λ (k : Issued). PlanOf before k p) same plan, is_new)

pub committed_stands : CommittedStands
committed_stands start store past placed place c number h (later, e, before, i, split, is, commits, not_read, (p, plan, client, n)) =
    let run = runs_follow_protocol start past h.opened.run in
    let here : FollowsProtocol start (later ++ e ∷ before) = subst (FollowsProtocol start) split run in
    let older = older_history start later (e ∷ before) placed here (subst (λ (l : List Entry). IsHistory l placed) split h.history) in
    let put = put_plan before e i older.history.0 older.older (committed_by before e) commits not_read older.history.2 in
    let q : Placed = record { place = length before; past = put.0 } in
    let there : Contains older.older (record { place = length before; past = put.0 }) = subst (λ (l : List Placed). Contains l (record { place = length before; past = put.0 })) (sym put.2) (Contains-push older.history.0 (record { place = length before; past = put.0 })) in
    let same = one_operation start past (length before) (length before) put.0 p
    (record { entry = e; later = later; before = before; issued = i; split = split; is_place = refl; commits = commits; no_read = not_read; plan = put.1 })
    (record { entry = e; later = later; before = before; issued = i; split = split; is_place = refl; commits = commits; no_read = not_read; plan = plan }) refl run in
    (record { place = length before; past = put.0 }, older.stays (record { place = length before; past = put.0 }) there, same.0 ∙ client, ap (λ (b : Begun). b.number) same.1 ∙ n, sym is)

-- A reply

answer_commits : (before : List Entry) (at : Option NodeNo) (what : What) (number : ℕ) (answer : Answer) → what ≡ Answered number answer → committed_at before at what ≡ None
answer_commits before at what number answer is = ap (λ (w : What). committed_at before at w) is ∙ none at
  where
    none : (at : Option NodeNo) → committed_at before at (Answered number answer) ≡ None
    none None = refl
    none (Some n) = refl

step_of : (before : List Entry) (e : Entry) (old new : List Placed) (o : Option Issued) → o ≡ None
    → EntryPuts before e o old new → StepPuts before e.client e.what old new
step_of before e old new None none puts = puts
step_of before e old new (Some i) none puts = absurd cc

-- an operation of this number stands there
record SomePast (c : ClientNo) (number : ℕ) (placed : List Placed) : Type 0 where
  past : Placed
  there : Contains placed past
  client : past.past.client ≡ c
  same : past.past.number ≡ number

some_past : (c : ClientNo) (number : ℕ) (placed : List Placed) → has_past c number placed ≡ true
    → SomePast c number placed
some_past c number [] e = absurd cc
some_past c number (q ∷ qs) e = by (client_same q.past.client c && nat_eq q.past.number number) refl e (some_past c number qs)
  where
    both : (a b : Bool) → (a && b) ≡ true → (a ≡ true) × (b ≡ true)
    both true b h = (refl, h)
    both false b h = absurd cc

    by : (b : Bool) → (client_same q.past.client c && nat_eq q.past.number number) ≡ b
        → (b || has_past c number qs) ≡ true → (has_past c number qs ≡ true → SomePast c number qs)
        → SomePast c number (q ∷ qs)
    by true here h rest =
        let parts = both (client_same q.past.client c) (nat_eq q.past.number number) here in
        record { past = q; there = contains_here q qs; client = client_same-true q.past.client c parts.0; same = is_at q.past.number number parts.1 }
    by false here h rest = let r = rest h in record { past = r.past; there = contains_more q qs r.past r.there; client = r.client; same = r.same }

-- the operation that is under way at the answer is the plan's
same_operation : (start : Start) (past : List Entry) (c : ClientNo) (number : ℕ) (answer : Answer) (e : AnswerAt past c number answer) (op op' : Op) (i : Issued) (x : IssueAt past c (record { number = number; op = op }) i) → FollowsProtocol start past
    → under_way (client_entries c e.at.before) ≡ Some (record { number = number; op = op' })
    → op ≡ op'
same_operation start past c number answer e op op' i x run now =
    let less = issue_before_answer start past c (record { number = number; op = op }) i number answer x e run refl in
    let inner = older_own past c x.at e.at less in
    let still = same_op c (record { number = number; op = op }) (record { number = number; op = op' }) inner.between (x.at.entry ∷ client_entries c x.at.before) (subst (Allowed c) inner.split (allowed_at start past c e.at run).0)
    (behind_issue past c (record { number = number; op = op }) i x) (ap under_way (sym inner.split) ∙ now) refl in
    same (sym still.under_way ∙ (ap under_way (sym inner.split) ∙ now))
  where
    same : ◌≡◌ {A = Option Begun} (Some (record { number = number; op = op })) (Some (record { number = number; op = op' })) → op ≡ op'
    same h = ap (λ (b : Begun). b.op) (begun h)
      where
        begun : {a b : Begun} → Some a ≡ Some b → a ≡ b
        begun h = cc

-- the reply of a committed plan is the one that its operation was answered with
plan_reply : (start : Start) (store : Store) (past : List Entry) (e : Entry) (old : List Placed)
    → StartsSound start → Opens start store
    → IsRun start (e ∷ past) → IsHistory past old
    → (place : ℕ) (q : Past) (a : PlanAt past place q) (reply : Reply)
    → AnswerAt (e ∷ past) q.client q.number (Replied reply) → q.reply ≡ reply
plan_reply start store past e old sound opened run history place q a reply answer =
    let follows = runs_follow_protocol start (e ∷ past) run in
    let more = plan_more e past place q a in
    let replied = plan_replied start (e ∷ past) sound run q.client q.number reply answer place (plan_in (e ∷ past) place q (plan_more e past place q a)) in
    let op : q.op ≡ replied.op = same_operation start (e ∷ past) q.client q.number (Replied reply) answer q.op replied.op a.issued (issue_of (e ∷ past) place q (plan_more e past place q a)) follows replied.now in
    let planned : IsPlanBy (client_entries q.client a.plan.before) q.op a.issued.mini reply = subst (λ (o : Op). IsPlanBy (client_entries q.client a.plan.before) o a.issued.mini reply) (sym op) replied.planned in
    let there : past ≡ (a.later ++ a.entry ∷ []) ++ a.before = a.split ∙ sym (append_assoc a.later (a.entry ∷ []) a.before) in
    let older = older_history start (a.later ++ a.entry ∷ []) a.before old (subst (FollowsProtocol start) there follows.0) (subst (λ (l : List Entry). IsHistory l old) there history) in
    let known : Known start store a.before older.older = known_run start store a.before older.older sound opened (older_run start (a.later ++ a.entry ∷ []) a.before (subst (IsRun start) there run.0)) older.history in
    let s = some_store start store a.before older.older known [] a.before refl in
    let commit : FollowsProtocol start (a.entry ∷ a.before) = Rattle.mn_runs.proofs.Prefixes.follows_before start past a.later (a.entry ∷ a.before) a.split follows.0 in
    let one = plan_acts start store a.before a.entry older.older known commit a.issued q a.commits a.plan s.0 s.1 in
    let two = plan_acts start store a.before a.entry older.older known commit a.issued (record { client = q.client; number = q.number; op = q.op; reply = reply }) a.commits
    (record { entry = a.plan.entry; later = a.plan.later; before = a.plan.before; split = a.plan.split; issued = a.plan.issued; by = a.plan.by; of = a.plan.of; planned = planned }) s.0 s.1 in
    one.0 ∙ sym two.0

-- the operation that stands there already has the reply
old_reply : (start : Start) (store : Store) (past : List Entry) (e : Entry) (old : List Placed)
    → StartsSound start → Opens start store
    → IsRun start (e ∷ past) → IsHistory past old → (q : Placed) (reply : Reply)
    → (answer : AnswerAt (e ∷ past) q.past.client q.past.number (Replied reply))
    → length answer.at.before ≡ length past → Origin past q → q.past.reply ≡ reply
old_reply start store past e old sound opened run history q reply answer newest (by_plan a) = plan_reply start store past e old sound opened run history q.place q.past a reply answer
old_reply start store past e old sound opened run history q reply answer newest (by_answer r) =
    let once = answered_once start (e ∷ past) q.past.client q.past.number (Replied reply) (Replied q.past.reply) answer (answer_more e past q.past.client q.past.number (Replied q.past.reply) r.answer) (runs_follow_protocol start (e ∷ past) run) in
    let same : length answer.at.before ≡ length r.answer.at.before = once.0 in
    let low = shorter_by past r.answer.at.later r.answer.at.entry r.answer.at.before r.answer.at.split in absurd (omega arith)

record StandsReplied (c : ClientNo) (number : ℕ) (reply : Reply) (placed : List Placed) : Type 0 where
  past : Placed
  there : Contains placed past
  client : past.past.client ≡ c
  same : past.past.number ≡ number
  replied : past.past.reply ≡ reply

-- the newest entry is the answer
record Newest (past : List Entry) (e : Entry) (c : ClientNo) (number : ℕ) (answer : Answer) : Type 0 where
  at : AnswerAt (e ∷ past) c number answer
  newest : length at.at.before ≡ length past

replied_now : (start : Start) (store : Store) (past : List Entry) (e : Entry) (old new : List Placed) → StartsSound start → Opens start store → IsRun start (e ∷ past) → IsHistory past old → (c : ClientNo) (number : ℕ) (op : Op) (reply : Reply)
    → Newest past e c number (Replied reply)
    → AnswerPuts past c (Some (record { number = number; op = op })) (Replied reply) old new
    → StandsReplied c number reply new
replied_now start store past e old new sound opened run history c number op reply answer puts = by (has_past c number old) refl puts
  where
    at : (q : Placed) → q.past.client ≡ c → q.past.number ≡ number → Origin past q
        → q.past.reply ≡ reply
    at q client is origin =
        let own : Newest past e q.past.client q.past.number (Replied reply) =
        subst (λ (x : ClientNo). Newest past e x q.past.number (Replied reply)) (sym client) (subst (λ (n : ℕ). Newest past e c n (Replied reply)) (sym is) answer) in
        old_reply start store past e old sound opened run history q reply own.at own.newest origin

    by : (b : Bool) → has_past c number old ≡ b
        → MatchBool b (new ≡ old) ((place : ℕ) × ReadPlace c past op reply place × (new ≡ placed_in (record { place = place; past = record { client = c; number = number; op = op; reply = reply } }) old)) → StandsReplied c number reply new
    by true there same =
        let q = some_past c number old there in
        let origin : Origin past q.past = All-contains (Origin past) old q.past (All-from_recursion (Origin past) old (origins start past old (runs_follow_protocol start past run.0) history)) q.there in
        record {
          past = q.past;
          there = subst (λ (l : List Placed). Contains l q.past) (sym same) q.there;
          client = q.client;
          same = q.same;
          replied = at q.past q.client q.same origin;
        }
    by false none (place, read, same) = record {
      past = record { place = place; past = record { client = c; number = number; op = op; reply = reply } };
      there = subst (λ (l : List Placed). Contains l (record { place = place; past = record { client = c; number = number; op = op; reply = reply } })) (sym same) (put_new (record { place = place; past = record { client = c; number = number; op = op; reply = reply } }) old);
      client = refl;
      same = refl;
      replied = refl;
    }

-- each operation that was replied to stands in the history with that reply
abbrev RepliedStands : Type 0
RepliedStands =
    (start : Start) (store : Store) (past : List Entry) (placed : List Placed) (place : ℕ)
    (e : Entry) (c : ClientNo) (number : ℕ) (reply : Reply)
    → HistoryRun start store past placed → StandsAt past place e
    → AnswersOp e c number (Replied reply)
    → (p : Placed) × Contains placed p × (p.past.client ≡ c) × (p.past.number ≡ number)
    × (p.past.reply ≡ reply)

pub replied_stands : RepliedStands
replied_stands start store past placed place e c number reply h (later, before, split, is) answers =
    let run : IsRun start (later ++ e ∷ before) = subst (IsRun start) split h.opened.run in
    let here : IsRun start (e ∷ before) = older_run start later (e ∷ before) run in
    let older = older_history start later (e ∷ before) placed (runs_follow_protocol start (later ++ e ∷ before) run) (subst (λ (l : List Entry). IsHistory l placed) split h.history) in
    let answer : Newest before e c number (Replied reply) = record { at = record { at = record { entry = e; later = []; before = before; split = refl; by = answers.0 }; answers = answers.1 }; newest = refl } in
    let op = answered_op start (e ∷ before) c number (Replied reply) (record { at = record { entry = e; later = []; before = before; split = refl; by = answers.0 }; answers = answers.1 }) (runs_follow_protocol start (e ∷ before) here) in
    let step : StepPuts before e.client e.what older.history.0 older.older = step_of before e older.history.0 older.older (committed_by before e) (answer_commits before e.node e.what number (Replied reply) answers.1) older.history.2 in
    let puts : AnswerPuts before c (under_way (client_entries c before)) (Replied reply) older.history.0 older.older =
    subst (λ (w : What). StepPuts before (Some c) w older.history.0 older.older) answers.1 (subst (λ (o : Option ClientNo). StepPuts before o e.what older.history.0 older.older) answers.0 step) in
    let stands = replied_now start store before e older.history.0 older.older h.opened.opened.sound h.opened.opened here older.history.1 c number op.0 reply answer
    (subst (λ (o : Option Begun). AnswerPuts before c o (Replied reply) older.history.0 older.older) op.1 puts) in
    (stands.past, older.stays stands.past stands.there, stands.client, stands.same, stands.replied)
