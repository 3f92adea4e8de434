-- What a history needs at each entry is there: the issue of a plan that commits, and the place of a
-- reply.
use Rattle.std.proofs.Common.{◌≡◌, ℕ, ◌⊎◌, inl, inr, Bool, true, false, List, [], ◌∷◌, ◌++◌, length, Option, Some, None, refl, subst, sym, ap, ◌∙◌, if◌then◌else◌, Contains}
use Rattle.std.specs.Prelude.{IsTrue}
use Rattle.std.specs.List.{AllByRecursion}
use Rattle.std.proofs.lemmas.List.{append_assoc}
use Rattle.mn_base.specs.Ids.{tid_same}
use Rattle.mn_base.specs.declared.history.Past.{Past}
use Rattle.mn_base.specs.declared.ids.NodeNo.{NodeNo}
use Rattle.mn_base.specs.declared.ids.ClientNo.{ClientNo}
use Rattle.mn_base.specs.declared.ids.Tid.{Tid}
use Rattle.mn_base.specs.declared.op.Op.{Op}
use Rattle.mn_base.specs.declared.reply.Reply.{Reply}
use Rattle.mn_base.specs.declared.reply.Reply.TheVariants as Say
use Rattle.mn_base.proofs.Booleans.{clash}
use Rattle.mn_mini.specs.Mini.{Mini, participants_of, is_read}
use Rattle.mn_mini.specs.declared.item.Item.{Item}
use Rattle.mn_mini.specs.declared.item.Item.TheVariants.{Compare, Read, Write}
use Rattle.mn_runs.specs.declared.entry.Entry.{Entry}
use Rattle.mn_runs.specs.declared.entry.What.{What}
use Rattle.mn_runs.specs.declared.entry.What.TheVariants.{Begin, Issue, Called, Stopped, Restarted, Abandoned, Answered}
use Rattle.mn_runs.specs.Calls.{Issued, issue_in, issues_of, issue_named, Begun, under_way, under_way_after, since_begin, since_begin_after, client_entries, was_done}
use Rattle.mn_runs.specs.Clients.{is_plan}
use Rattle.mn_law.specs.Answers.{IsPlanBy, IsPlanOfOp, LastIssue, all_done}
use Rattle.mn_runs.specs.Commits.{committed_by}
use Rattle.mn_runs.specs.Protocol.{Start, FollowsProtocol, AllowedBy}
use Rattle.mn_law.specs.Run.{IsRun, Means}
use Rattle.mn_votes.specs.Laws.{StartsSound}
use Rattle.mn_serial.specs.History.{Placed, PlanOf, has_past, IsHistory}
use Rattle.mn_runs.proofs.Same.{tid_same-true}
use Rattle.mn_law.proofs.MakeRun.{runs_follow_protocol}
use Rattle.mn_votes.proofs.Unchanged.{issue_stays}
use Rattle.mn_votes.proofs.Backing.{mini_of}
use Rattle.mn_votes.proofs.Preserved.{kept_run}
use Rattle.mn_commits.proofs.Bytes.Spaces.{whole_run}
use Rattle.mn_runs.proofs.Prefixes.{follows_before}
use Rattle.mn_serial.proofs.Meaning.Prefixes.{older_run}
use Rattle.mn_serial.proofs.Meaning.Effects.{committed_named, committed_mini}
use Rattle.mn_serial.proofs.Meaning.Clients.{Allowed, client_allowed, named_below}
use Rattle.mn_serial.proofs.Meaning.Positions.{IssueAt, issue_keeps}
use Rattle.mn_serial.proofs.Meaning.Origins.{begun_as, issue_of}
use Rattle.mn_serial.proofs.Meaning.Done.{CommittedIn, done_committed}
use Rattle.mn_serial.proofs.Meaning.LastPlan.{Lifted, lift}
use Rattle.mn_serial.proofs.Meaning.Answered.{some_participant}
use Rattle.mn_serial.proofs.Meaning.Once.{Differs, none_past}
use Rattle.mn_serial.proofs.Meaning.Stands.{OlderHistory, older_history, put_plan, client_of, one_issue}
use Rattle.mn_votes.proofs.Start.{all_true}

-- The issue of what commits

record IssueEntry (past : List Entry) (i : Issued) : Type 0 where
  entry : Entry
  later : List Entry
  before : List Entry
  split : past ≡ later ++ entry ∷ before
  issues : issue_in entry.what ≡ i ∷ []

entry_more : (e : Entry) (past : List Entry) (i : Issued) → IssueEntry past i
    → IssueEntry (e ∷ past) i
entry_more e past i x = record { entry = x.entry; later = e ∷ x.later; before = x.before; split = ap (λ (l : List Entry). e ∷ l) x.split; issues = x.issues }

find_step : (at : Option NodeNo) (by : Option ClientNo) (what : What) (past : List Entry) (tid : Tid) (mini : Mini) → (issue_named tid (issues_of past) ≡ Some mini → IssueEntry past (record { tid = tid; mini = mini })) → issue_named tid (issue_in what ++ issues_of past) ≡ Some mini
    → IssueEntry (record { node = at; client = by; what = what } ∷ past) (record { tid = tid; mini = mini })
find_step at by (Issue t m) past tid mini older is = here (tid_same t tid) refl is
  where
    some : (a b : Mini) → Some a ≡ Some b → a ≡ b
    some a b e = cc

    same : (t : Tid) (m : Mini) → t ≡ tid → m ≡ mini
        → ◌≡◌ {A = List Issued} (record { tid = t; mini = m } ∷ []) (record { tid = tid; mini = mini } ∷ [])
    same t m e f = λ i. record { tid = e i; mini = f i } ∷ []

    here : (b : Bool) → tid_same t tid ≡ b
        → (if b then Some m else issue_named tid (issues_of past)) ≡ Some mini
        → IssueEntry (record { node = at; client = by; what = Issue t m } ∷ past) (record { tid = tid; mini = mini })
    here true e h = record { entry = record { node = at; client = by; what = Issue t m }; later = []; before = past; split = refl; issues = same t m (tid_same-true t tid e) (some m mini h) }
    here false e h = entry_more (record { node = at; client = by; what = Issue t m }) past (record { tid = tid; mini = mini }) (older h)
find_step at by (Begin number op) past tid mini older is = entry_more (record { node = at; client = by; what = Begin number op }) past (record { tid = tid; mini = mini }) (older is)
find_step at by (Answered number answer) past tid mini older is = entry_more (record { node = at; client = by; what = Answered number answer }) past (record { tid = tid; mini = mini }) (older is)
find_step at by (Called request reply) past tid mini older is = entry_more (record { node = at; client = by; what = Called request reply }) past (record { tid = tid; mini = mini }) (older is)
find_step at by (Stopped request asked) past tid mini older is = entry_more (record { node = at; client = by; what = Stopped request asked }) past (record { tid = tid; mini = mini }) (older is)
find_step at by (Restarted kept) past tid mini older is = entry_more (record { node = at; client = by; what = Restarted kept }) past (record { tid = tid; mini = mini }) (older is)
find_step at by (Abandoned t) past tid mini older is = entry_more (record { node = at; client = by; what = Abandoned t }) past (record { tid = tid; mini = mini }) (older is)

find_issue : (past : List Entry) (tid : Tid) (mini : Mini)
    → issue_named tid (issues_of past) ≡ Some mini
    → IssueEntry past (record { tid = tid; mini = mini })
find_issue [] tid mini is = absurd cc
find_issue (e ∷ past) tid mini is = find_step e.node e.client e.what past tid mini (find_issue past tid mini) is

-- what a run says of the issue of a plan
record IssueFacts (before : List Entry) (by : Option ClientNo) (i : Issued) : Type 0 where
  client : ClientNo
  own : by ≡ Some client
  begun : Begun
  of : under_way (client_entries client before) ≡ Some begun
  reply : Reply
  planned : IsPlanBy (client_entries client before) begun.op i.mini reply

issue_facts : (before : List Entry) (by : Option ClientNo) (at : Option NodeNo) (what : What) (i : Issued) → AllowedBy before by at what → Means before by what → issue_in what ≡ i ∷ [] → is_read i.mini.items ≡ false → IssueFacts before by i
issue_facts before None at (Issue tid mini) i allowed means is not_read = absurd allowed
issue_facts before (Some c) at (Issue tid mini) i allowed means is not_read = kind means.1
  where
    this : record { tid = tid; mini = mini } ≡ i
    this = head is
      where
        head : {a b : Issued} → a ∷ [] ≡ b ∷ [] → a ≡ b
        head e = cc

    by_op : (o : Option Begun) → under_way (client_entries c before) ≡ o
        → IsPlanOfOp (client_entries c before) o mini → IssueFacts before (Some c) i
    by_op None e none = absurd none
    by_op (Some b) e (reply, planned) = record { client = c; own = refl; begun = b; of = e; reply = reply; planned = subst (λ (j : Issued). IsPlanBy (client_entries c before) b.op j.mini reply) this planned }

    kind : IsTrue (is_read mini.items)
        ⊎ IsPlanOfOp (client_entries c before) (under_way (client_entries c before)) mini
        → IssueFacts before (Some c) i
    kind (inl read) = absurd (clash (is_read i.mini.items) (subst (λ (j : Issued). is_read j.mini.items ≡ true) this read) not_read)
    kind (inr plan) = by_op (under_way (client_entries c before)) refl plan
issue_facts before by at (Begin number op) i allowed means is not_read = absurd cc
issue_facts before by at (Answered number answer) i allowed means is not_read = absurd cc
issue_facts before by at (Called request reply) i allowed means is not_read = absurd cc
issue_facts before by at (Stopped request asked) i allowed means is not_read = absurd cc
issue_facts before by at (Restarted kept) i allowed means is not_read = absurd cc
issue_facts before by at (Abandoned tid) i allowed means is not_read = absurd cc

pub plan_exists : (start : Start) (past : List Entry) (e : Entry) (i : Issued) → IsRun start past
    → committed_by past e ≡ Some i → is_read i.mini.items ≡ false → (p : Past) × PlanOf past i p
plan_exists start past e i run is not_read =
    let x : IssueEntry past i = find_issue past i.tid i.mini (committed_named past e i is) in
    let step = (older_run start x.later (x.entry ∷ x.before) (subst (IsRun start) x.split run)).1 in
    let f = issue_facts x.before x.entry.client x.entry.node x.entry.what i step.keeps.by_client step.means x.issues not_read in (
      record { client = f.client; number = f.begun.number; op = f.begun.op; reply = f.reply },
      record { entry = x.entry; later = x.later; before = x.before; split = x.split; issued = x.issues; by = f.own; of = f.of; planned = f.planned },
    )

-- A reply by the last plan: the operation stands there already

last_under_step : (at : Option NodeNo) (by : Option ClientNo) (what : What) (es rest : List Entry) (i : Issued) (earlier : List Issued) → issue_in what ++ issues_of rest ≡ [] → issues_of (since_begin_after what (record { node = at; client = by; what = what }) (since_begin es)) ≡ i ∷ earlier
    → (o : Option Begun)
    → (issues_of rest ≡ [] → issues_of (since_begin es) ≡ i ∷ earlier → under_way es ≡ o)
    → under_way_after what (under_way es) ≡ o
last_under_step at by (Begin number op) es rest i earlier none now o older = absurd cc
last_under_step at by (Answered number answer) es rest i earlier none now o older = absurd cc
last_under_step at by (Issue tid mini) es rest i earlier none now o older = absurd cc
last_under_step at by (Called request reply) es rest i earlier none now o older = older none now
last_under_step at by (Stopped request asked) es rest i earlier none now o older = older none now
last_under_step at by (Restarted kept) es rest i earlier none now o older = older none now
last_under_step at by (Abandoned tid) es rest i earlier none now o older = older none now

last_under : (later : List Entry) (y : Entry) (before : List Entry) (i : Issued) (earlier : List Issued) → issue_in y.what ≡ i ∷ [] → issues_of later ≡ [] → issues_of (since_begin (later ++ y ∷ before)) ≡ i ∷ earlier → under_way (later ++ y ∷ before) ≡ under_way before
last_under [] y before i earlier is none now = issue_keeps y.what i (under_way before) is
last_under (z ∷ later) y before i earlier is none now =
    last_under_step z.node z.client z.what (later ++ y ∷ before) later i earlier none now (under_way before) (λ none' now'. last_under later y before i earlier is none' now')

plan_no_read : (items : List Item) → is_plan items ≡ true → is_read items ≡ false
plan_no_read [] e = refl
plan_no_read (Compare node start bytes ∷ items) e = refl
plan_no_read (Write node start bytes ∷ items) e = refl
plan_no_read (Read node start length ∷ []) e = absurd cc
plan_no_read (Read node start length ∷ (i ∷ items)) e = refl

issue_later : (start : Start) (later before : List Entry) (tid : Tid) (mini : Mini)
    → StartsSound start → FollowsProtocol start (later ++ before) → mini_of before tid ≡ Some mini
    → mini_of (later ++ before) tid ≡ Some mini
issue_later start [] before tid mini sound run is = is
issue_later start (e ∷ later) before tid mini sound run is = issue_stays start (later ++ before) e tid.client tid mini (kept_run start (later ++ before) sound run.0) run.1 (issue_later start later before tid mini sound run.0 is)

pub plan_stands : (start : Start) (past : List Entry) (old : List Placed) → StartsSound start
    → IsRun start past → IsHistory past old
    → (c : ClientNo) (number : ℕ) (op : Op)
    → under_way (client_entries c past) ≡ Some (record { number = number; op = op })
    → (i : Issued) (bef : List Entry)
    → LastIssue (client_entries c past) (since_begin (client_entries c past)) i bef
    → is_plan i.mini.items ≡ true → all_done (client_entries c past) i ≡ true
    → has_past c number old ≡ false → ⊥
plan_stands start past old sound run history c number op now i bef last plan done none =
    differ client number_is
  where
    follows : FollowsProtocol start past
    follows = runs_follow_protocol start past run

    parts : client_entries c past ≡ last.later ++ last.entry ∷ bef
    parts = last.split ∙ append_assoc last.later (last.entry ∷ []) bef

    l : Lifted c past last.entry bef
    l = lift c past last.later last.entry bef parts

    under : under_way bef ≡ Some (record { number = number; op = op })
    under =
        sym (last_under last.later last.entry bef i last.earlier last.here last.none_later (ap (λ (es : List Entry). issues_of (since_begin es)) (sym parts) ∙ last.of_operation)) ∙ (ap under_way (sym parts) ∙ now)

    y : IssueAt past c (record { number = number; op = op }) i
    y = record { at = record { entry = last.entry; later = l.later; before = l.before; split = l.split; by = l.by }; issues = last.here; of = ap under_way l.list ∙ under }

    named : issue_named i.tid (issues_of (client_entries c past)) ≡ Some i.mini
    named = ap (λ (es : List Entry). issue_named i.tid (issues_of es)) parts ∙ named_below c last.later last.entry bef bef i (subst (Allowed c) parts (client_allowed start past c follows)) last.here

    own : i.tid.client ≡ c
    own = client_of start past c (record { number = number; op = op }) i y follows

    mine : mini_of past i.tid ≡ Some i.mini
    mine = subst (λ (d : ClientNo). issue_named i.tid (issues_of (client_entries d past)) ≡ Some i.mini) (sym own) named

    co : CommittedIn past i.tid
    co =
        done_committed start past i.tid i.mini sound follows mine (some_participant start i.mini ((whole_run start past sound follows).even.minis i.tid i.mini mine))
        (subst (λ (d : ClientNo). AllByRecursion (λ n. was_done i.tid n (client_entries d past) ≡ true) (participants_of i.mini)) (sym own) (all_true (λ n. was_done i.tid n (client_entries c past)) (participants_of i.mini) done))

    older_follows : FollowsProtocol start co.before
    older_follows = (follows_before start past co.later (co.entry ∷ co.before) co.split follows).0

    older_mini : mini_of past co.issued.tid ≡ Some co.issued.mini
    older_mini =
        subst (λ (es : List Entry). mini_of es co.issued.tid ≡ Some co.issued.mini) (sym there_split)
        (issue_later start (co.later ++ co.entry ∷ []) co.before co.issued.tid co.issued.mini sound (subst (FollowsProtocol start) there_split follows) (committed_mini start co.before co.entry co.issued (whole_run start co.before sound older_follows) co.commits))
      where
        there_split : past ≡ (co.later ++ co.entry ∷ []) ++ co.before
        there_split = co.split ∙ sym (append_assoc co.later (co.entry ∷ []) co.before)

    same_mini : (a b : Mini) → Some a ≡ Some b → a ≡ b
    same_mini a b e = cc

    minis : co.issued.mini ≡ i.mini
    minis = same_mini co.issued.mini i.mini (sym older_mini ∙ (ap (mini_of past) co.same ∙ mine))

    issued_is : co.issued ≡ i
    issued_is = λ k. record { tid = co.same k; mini = minis k }

    not_read : is_read co.issued.mini.items ≡ false
    not_read = ap (λ (m : Mini). is_read m.items) minis ∙ plan_no_read i.mini.items plan

    older : OlderHistory (co.entry ∷ co.before) old
    older = older_history start co.later (co.entry ∷ co.before) old (subst (FollowsProtocol start) co.split follows) (subst (λ (es : List Entry). IsHistory es old) co.split history)

    put : (p : Past) × PlanOf co.before co.issued p
        × (older.older ≡ older.history.0 ++ record { place = length co.before; past = p } ∷ [])
    put = put_plan co.before co.entry co.issued older.history.0 older.older (committed_by co.before co.entry) co.commits not_read older.history.2

    there : (q : Placed) × Contains old q × (q.past ≡ put.0)
    there = (
      record { place = length co.before; past = put.0 },
      older.stays (record { place = length co.before; past = put.0 }) (subst (λ (ps : List Placed). Contains ps (record { place = length co.before; past = put.0 })) (sym put.2) (Rattle.std.proofs.lemmas.List.Elements.Contains-push older.history.0 (record { place = length co.before; past = put.0 }))),
      refl,
    )

    x : IssueAt past put.0.client (begun_as put.0) co.issued
    x = issue_of past (length co.before) put.0 (record { entry = co.entry; later = co.later; before = co.before; issued = co.issued; split = co.split; is_place = refl; commits = co.commits; no_read = not_read; plan = put.1 })

    client : put.0.client ≡ c
    client = sym (client_of start past put.0.client (begun_as put.0) co.issued x follows) ∙ (ap (λ (j : Issued). j.tid.client) issued_is ∙ own)

    number_is : put.0.number ≡ number
    number_is =
        ap (λ (b : Begun). b.number)
        (one_issue start past c (begun_as put.0) (record { number = number; op = op }) i (subst (λ (j : Issued). IssueAt past c (begun_as put.0) j) issued_is (subst (λ (d : ClientNo). IssueAt past d (begun_as put.0) co.issued) client x)) y follows).1

    differ : Differs there.0 (record { place = 0; past = record { client = c; number = number; op = op; reply = Say.Made } })
    differ =
        Rattle.std.proofs.lemmas.List.Elements.All-contains (λ (q : Placed). Differs q (record { place = 0; past = record { client = c; number = number; op = op; reply = Say.Made } })) old there.0
        (Rattle.std.proofs.lemmas.List.Elements.All-from_recursion (λ (q : Placed). Differs q (record { place = 0; past = record { client = c; number = number; op = op; reply = Say.Made } })) old
        (none_past (record { place = 0; past = record { client = c; number = number; op = op; reply = Say.Made } }) old none)) there.1
