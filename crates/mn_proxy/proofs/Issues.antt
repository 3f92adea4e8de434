-- How the issues of a client's own list go on, entry by entry. Lists stand newest first.
use Rattle.std.proofs.Common.{◌≡◌, ◌⊎◌, inl, inr, ℕ, suc, ◌+◌, ◌<◌, ◌≤◌, Bool, true, false, not, ◌&&◌, ◌||◌, List, [], ◌∷◌, ◌++◌, length, Option, Some, None, refl, sym, ap, subst, ◌∙◌, arith, Contains}
use Rattle.std.specs.Prelude.{nat_eq, if◌then◌else◌, ⊤}
use Rattle.std.specs.List.{AllByRecursion, list_any, list_all}
use Rattle.std.proofs.lemmas.Bool.{ne_eqb}
use Rattle.std.proofs.lemmas.List.{append_assoc, length-append}
use Rattle.std.proofs.lemmas.List.Folds.{list_all-append, list_any-append}
use Rattle.std.proofs.lemmas.List.Elements.{Contains-append_right}
use Rattle.mn_base.specs.Ids.{client_same, node_same, tid_same}
use Rattle.mn_base.specs.declared.ids.ClientNo.{ClientNo}
use Rattle.mn_base.specs.declared.ids.NodeNo.{NodeNo}
use Rattle.mn_base.specs.declared.ids.Tid.{Tid}
use Rattle.mn_base.specs.declared.op.Op.{Op}
use Rattle.mn_base.specs.declared.answer.Answer.{Answer}
use Rattle.mn_base.proofs.Booleans.{and_false, both_parts, both_true, left_true, or_cases, or_left, or_right, or_split, right_true}
use Rattle.mn_mini.specs.declared.reply.NodeReply.{NodeReply}
use Rattle.mn_mini.specs.declared.request.Request.{Request}
use Rattle.mn_mini.specs.declared.request.Request.TheVariants as Ask
use Rattle.mn_mini.specs.Mini.{Mini, participants_of, part_of, is_read}
use Rattle.mn_page.specs.declared.entry.CatEntry.{CatEntry}
use Rattle.mn_runs.specs.declared.entry.Entry.{Entry}
use Rattle.mn_runs.specs.declared.entry.What.{What}
use Rattle.mn_runs.specs.declared.entry.What.TheVariants.{Abandoned, Answered, Begin, Called, Issue, Restarted, Stopped}
use Rattle.mn_law.specs.Answers.{LastIssue, are_given_up, are_settled, is_settled}
use Rattle.mn_runs.specs.Clients.{is_given_up, is_recovery, recovers_nothing, is_over, may_follow}
use Rattle.mn_runs.specs.Calls.{Call, Issued, begun_of, begun_in, call_in, calls_of, is_abandonment, is_decide, is_done, is_down_reply, is_exec, is_prepare, is_refused, is_stopped, is_try, issue_in, issues_of, since_begin, since_begin_after, under_way, under_way_after, was_abandoned, was_decided, was_told, was_told_somewhere}
use Rattle.mn_runs.specs.Seen.{Seen, seen_at, seen_in}
use Rattle.mn_law.specs.Shown.{ShowsCatalog}
use Rattle.mn_law.proofs.Sees.{seen_in-cons}
use Rattle.mn_coord.specs.Coordination.{Coordination, participant, stage_in, step_at, step_of, try_request}
use Rattle.mn_coord.specs.declared.stage.Stage.{Stage}
use Rattle.mn_coord.specs.declared.stage.Stage.TheVariants as At
use Rattle.mn_coord.specs.declared.step.CoordStep.TheVariants.{Send}
use Rattle.mn_coord.specs.Legal.{IsAnswered, IsFresh, names_tid}
use Rattle.mn_proxy.specs.Issues.{AreClosed, AreFresh, AreIssues, are_closed, is_closed, tid_of}

-- Kinds of entries

-- it begins and ends no operation
abbrev pub GoesOn : What → Type 0
GoesOn (Begin number op) = ⊥
GoesOn (Answered number answer) = ⊥
GoesOn what = ⊤

-- such an entry, which issues nothing either
pub record IsLater (what : What) : Type 0 where
  pub goes : GoesOn what
  pub issues : issue_in what ≡ []

-- a call is one, and abandons nothing
called_what : (at : Option NodeNo) (what : What) (call : Call) → call_in at what ≡ call ∷ [] → IsLater what × ((tid : Tid) → is_abandonment tid what ≡ false)
called_what None what call is = absurd cc
called_what (Some n) (Begin number op) call is = absurd cc
called_what (Some n) (Issue tid mini) call is = absurd cc
called_what (Some n) (Called request reply) call is = (record { goes = tt; issues = refl }, λ tid. refl)
called_what (Some n) (Stopped None asked) call is = absurd cc
called_what (Some n) (Stopped (Some request) asked) call is = (record { goes = tt; issues = refl }, λ tid. refl)
called_what (Some n) (Restarted kept) call is = absurd cc
called_what (Some n) (Abandoned tid) call is = absurd cc
called_what (Some n) (Answered number answer) call is = absurd cc

pub called_later : (e : Entry) (n : NodeNo) (request : Request) (reply : NodeReply) → IsAnswered e n request reply → IsLater e.what
called_later e n request reply is = (called_what e.node e.what (record { node = n; request = request; reply = reply }) is).0

pub called_abandons_none : (e : Entry) (n : NodeNo) (request : Request) (reply : NodeReply) → IsAnswered e n request reply → (tid : Tid) → is_abandonment tid e.what ≡ false
called_abandons_none e n request reply is = (called_what e.node e.what (record { node = n; request = request; reply = reply }) is).1

-- so is what is abandoned
pub abandoned_later : (e : Entry) (tid : Tid) → e.what ≡ Abandoned tid → IsLater e.what
abandoned_later e tid is = subst IsLater (sym is) (record { goes = tt; issues = refl })

pub issue_goes_on : (e : Entry) (tid : Tid) (mini : Mini) → e.what ≡ Issue tid mini → GoesOn e.what
issue_goes_on e tid mini is = subst GoesOn (sym is) tt

-- an own entry makes no call
pub own_calls_none : (e : Entry) → e.node ≡ None → call_in e.node e.what ≡ []
own_calls_none e own = ap (λ (o : Option NodeNo). call_in o e.what) own

-- The entries since Begin

pub since_on : (e : Entry) (es : List Entry) → GoesOn e.what → since_begin (e ∷ es) ≡ e ∷ since_begin es
since_on e es goes = by e.what goes
  where
    by : (what : What) → GoesOn what → since_begin_after what e (since_begin es) ≡ e ∷ since_begin es
    by (Begin number op) g = absurd g
    by (Issue tid mini) g = refl
    by (Called request reply) g = refl
    by (Stopped request asked) g = refl
    by (Restarted kept) g = refl
    by (Abandoned tid) g = refl
    by (Answered number answer) g = absurd g

pub since_begun : (e : Entry) (es : List Entry) (number : ℕ) (op : Op) → e.what ≡ Begin number op → since_begin (e ∷ es) ≡ []
since_begun e es number op is = ap (λ (what : What). since_begin_after what e (since_begin es)) is

pub since_answered : (e : Entry) (es : List Entry) (number : ℕ) (answer : Answer) → e.what ≡ Answered number answer → since_begin (e ∷ es) ≡ []
since_answered e es number answer is = ap (λ (what : What). since_begin_after what e (since_begin es)) is

-- the operation under way stays
pub under_way_on : (e : Entry) (es : List Entry) → GoesOn e.what → under_way (e ∷ es) ≡ under_way es
under_way_on e es goes = by e.what goes
  where
    by : (what : What) → GoesOn what → under_way_after what (under_way es) ≡ under_way es
    by (Begin number op) g = absurd g
    by (Issue tid mini) g = refl
    by (Called request reply) g = refl
    by (Stopped request asked) g = refl
    by (Restarted kept) g = refl
    by (Abandoned tid) g = refl
    by (Answered number answer) g = absurd g

-- no operation begins
pub begun_on : (e : Entry) (es : List Entry) → GoesOn e.what → begun_of (e ∷ es) ≡ begun_of es
begun_on e es goes = by e.what goes
  where
    by : (what : What) → GoesOn what → begun_in what ++ begun_of es ≡ begun_of es
    by (Begin number op) g = absurd g
    by (Issue tid mini) g = refl
    by (Called request reply) g = refl
    by (Stopped request asked) g = refl
    by (Restarted kept) g = refl
    by (Abandoned tid) g = refl
    by (Answered number answer) g = absurd g

-- they are the newest of the list
since_step : (e : Entry) (es : List Entry) (what : What) → (older : List Entry) × (since_begin es ++ older ≡ es) → (older : List Entry) × (since_begin_after what e (since_begin es) ++ older ≡ e ∷ es)
since_step e es (Begin number op) rest = (e ∷ es, refl)
since_step e es (Issue tid mini) rest = (rest.0, ap (λ (l : List Entry). e ∷ l) rest.1)
since_step e es (Called request reply) rest = (rest.0, ap (λ (l : List Entry). e ∷ l) rest.1)
since_step e es (Stopped request asked) rest = (rest.0, ap (λ (l : List Entry). e ∷ l) rest.1)
since_step e es (Restarted kept) rest = (rest.0, ap (λ (l : List Entry). e ∷ l) rest.1)
since_step e es (Abandoned tid) rest = (rest.0, ap (λ (l : List Entry). e ∷ l) rest.1)
since_step e es (Answered number answer) rest = (e ∷ es, refl)

pub since_split : (es : List Entry) → (older : List Entry) × (since_begin es ++ older ≡ es)
since_split [] = ([], refl)
since_split (e ∷ es) = since_step e es e.what (since_split es)

pub issues_append : (xs ys : List Entry) → issues_of (xs ++ ys) ≡ issues_of xs ++ issues_of ys
issues_append [] ys = refl
issues_append (x ∷ xs) ys = ap (λ (l : List Issued). issue_in x.what ++ l) (issues_append xs ys) ∙ sym (append_assoc (issue_in x.what) (issues_of xs) (issues_of ys))

-- so are their issues
pub issues_since : (es : List Entry) → (older : List Issued) × (issues_of es ≡ issues_of (since_begin es) ++ older)
issues_since es = let split = since_split es in (issues_of split.0, ap issues_of (sym split.1) ∙ issues_append (since_begin es) split.0)

-- Issues, with one more entry

pub no_issue : (e : Entry) (es : List Entry) → issue_in e.what ≡ [] → issues_of (e ∷ es) ≡ issues_of es
no_issue e es none = ap (λ (l : List Issued). l ++ issues_of es) none

pub one_issue : (e : Entry) (es : List Entry) (tid : Tid) (mini : Mini) → e.what ≡ Issue tid mini → issues_of (e ∷ es) ≡ record { tid = tid; mini = mini } ∷ issues_of es
one_issue e es tid mini is = ap (λ (what : What). issue_in what ++ issues_of es) is

-- those since Begin stay
pub issues_stay : (e : Entry) (es : List Entry) → IsLater e.what → issues_of (since_begin (e ∷ es)) ≡ issues_of (since_begin es)
issues_stay e es later = ap issues_of (since_on e es later.goes) ∙ no_issue e (since_begin es) later.issues

-- or get one more
pub issues_grow : (e : Entry) (es : List Entry) (tid : Tid) (mini : Mini) → e.what ≡ Issue tid mini → issues_of (since_begin (e ∷ es)) ≡ record { tid = tid; mini = mini } ∷ issues_of (since_begin es)
issues_grow e es tid mini is = ap issues_of (since_on e es (issue_goes_on e tid mini is)) ∙ one_issue e (since_begin es) tid mini is

-- Closed issues

-- another one may be issued
pub closed_may_follow : (now : List Entry) (is : List Issued) → are_closed now is ≡ true → may_follow now is ≡ true
closed_may_follow now [] closed = refl
closed_may_follow now (i ∷ is) closed = left_true (is_over now i) _ (left_true (is_closed now i) _ closed)

-- each is a read, or is given up
pub closed_given_up : (now : List Entry) (is : List Issued) → are_closed now is ≡ true → list_all (λ i. is_read i.mini.items || is_given_up now i) is ≡ true
closed_given_up now [] closed = refl
closed_given_up now (i ∷ is) closed =
    let parts = both_parts (is_closed now i) (are_closed now is) closed in
    both_true _ _ (given (or_cases _ _ (right_true (is_over now i) _ parts.0))) (closed_given_up now is parts.1)
  where
    given : (is_read i.mini.items ≡ true) ⊎ ((is_given_up now i && is_settled now i) ≡ true) → (is_read i.mini.items || is_given_up now i) ≡ true
    given (inl read) = or_left _ _ read
    given (inr both) = or_right (is_read i.mini.items) _ (left_true (is_given_up now i) (is_settled now i) both)

-- or is settled
pub closed_settled : (now : List Entry) (is : List Issued) → are_closed now is ≡ true → list_all (λ i. is_read i.mini.items || is_settled now i) is ≡ true
closed_settled now [] closed = refl
closed_settled now (i ∷ is) closed =
    let parts = both_parts (is_closed now i) (are_closed now is) closed in
    both_true _ _ (settled (or_cases _ _ (right_true (is_over now i) _ parts.0))) (closed_settled now is parts.1)
  where
    settled : (is_read i.mini.items ≡ true) ⊎ ((is_given_up now i && is_settled now i) ≡ true) → (is_read i.mini.items || is_settled now i) ≡ true
    settled (inl read) = or_left _ _ read
    settled (inr both) = or_right (is_read i.mini.items) _ (right_true (is_given_up now i) (is_settled now i) both)

-- where all are closed the operation may go on, and may be answered
pub closed_follow : (now : List Entry) → AreClosed now → may_follow now (issues_of now) ≡ true
closed_follow now closed = closed_may_follow now (issues_of now) closed

pub closed_are_given_up : (now : List Entry) → AreClosed now → are_given_up now ≡ true
closed_are_given_up now closed = closed_given_up now (issues_of now) closed

pub closed_are_settled : (now : List Entry) → AreClosed now → are_settled now ≡ true
closed_are_settled now closed = closed_settled now (issues_of now) closed

-- where all but the last are, and the last is a read or is given up, it may be answered
pub last_given_up : (now : List Entry) (i : Issued) (earlier : List Issued) → issues_of now ≡ i ∷ earlier → are_closed now earlier ≡ true → (is_read i.mini.items || is_given_up now i) ≡ true → are_given_up now ≡ true
last_given_up now i earlier are closed last = ap (list_all (λ (j : Issued). is_read j.mini.items || is_given_up now j)) are ∙ both_true _ _ last (closed_given_up now earlier closed)

-- and where the last is a read or is settled
pub last_settled : (now : List Entry) (i : Issued) (earlier : List Issued) → issues_of now ≡ i ∷ earlier → are_closed now earlier ≡ true → (is_read i.mini.items || is_settled now i) ≡ true → are_settled now ≡ true
last_settled now i earlier are closed last = ap (list_all (λ (j : Issued). is_read j.mini.items || is_settled now j)) are ∙ both_true _ _ last (closed_settled now earlier closed)

-- a last one that is given up and settled
pub ended_given_up : (now : List Entry) (i : Issued) (earlier : List Issued) → issues_of now ≡ i ∷ earlier → are_closed now earlier ≡ true → is_given_up now i ≡ true → are_given_up now ≡ true
ended_given_up now i earlier are closed last = last_given_up now i earlier are closed (or_right (is_read i.mini.items) _ last)

pub ended_settled : (now : List Entry) (i : Issued) (earlier : List Issued) → issues_of now ≡ i ∷ earlier → are_closed now earlier ≡ true → is_settled now i ≡ true → are_settled now ≡ true
ended_settled now i earlier are closed last = last_settled now i earlier are closed (or_right (is_read i.mini.items) _ last)

-- a last one that is a read
pub read_given_up : (now : List Entry) (i : Issued) (earlier : List Issued) → issues_of now ≡ i ∷ earlier → are_closed now earlier ≡ true → is_read i.mini.items ≡ true → are_given_up now ≡ true
read_given_up now i earlier are closed read = last_given_up now i earlier are closed (or_left _ _ read)

pub read_settled : (now : List Entry) (i : Issued) (earlier : List Issued) → issues_of now ≡ i ∷ earlier → are_closed now earlier ≡ true → is_read i.mini.items ≡ true → are_settled now ≡ true
read_settled now i earlier are closed read = last_settled now i earlier are closed (or_left _ _ read)

-- the last is closed too: a read that is over, or a plan that is over, given up and settled
pub closed_with : (now : List Entry) (i : Issued) (earlier : List Issued) → issues_of now ≡ i ∷ earlier → are_closed now earlier ≡ true → is_closed now i ≡ true → AreClosed now
closed_with now i earlier are closed last = ap (are_closed now) are ∙ both_true _ _ last closed

pub closed_read : (now : List Entry) (i : Issued) → is_over now i ≡ true → is_read i.mini.items ≡ true → is_closed now i ≡ true
closed_read now i over read = both_true (is_over now i) _ over (or_left _ _ read)

pub closed_plan : (now : List Entry) (i : Issued) → is_over now i ≡ true → is_given_up now i ≡ true → is_settled now i ≡ true → is_closed now i ≡ true
closed_plan now i over given settled = both_true (is_over now i) _ over (or_right (is_read i.mini.items) _ (both_true _ _ given settled))

-- Entries that try none of the issues

-- no call of the entry is a Prepare or an Exec of any of these
abbrev pub TriesNone : Entry → List Issued → Type 0
TriesNone e is = AllByRecursion (λ j. list_any (names_tid j.tid) (call_in e.node e.what) ≡ false) is

none_of : (e : Entry) (is : List Issued) → ((tid : Tid) → list_any (names_tid tid) (call_in e.node e.what) ≡ false) → TriesNone e is
none_of e [] none = tt
none_of e (i ∷ is) none = (none i.tid, none_of e is none)

pub own_tries_none : (e : Entry) (is : List Issued) → e.node ≡ None → TriesNone e is
own_tries_none e is own = none_of e is (λ tid. ap (list_any (names_tid tid)) (own_calls_none e own))

-- a call that names the id
call_names : (e : Entry) (n : NodeNo) (request : Request) (reply : NodeReply) → IsAnswered e n request reply → (tid : Tid) → is_try tid request ≡ false → list_any (names_tid tid) (call_in e.node e.what) ≡ false
call_names e n request reply is tid none = ap (list_any (names_tid tid)) is ∙ ap (λ b. b || false) none

pub peek_tries_none : (e : Entry) (is : List Issued) (n : NodeNo) (start size : ℕ) (reply : NodeReply) → IsAnswered e n (Ask.Peek start size) reply → TriesNone e is
peek_tries_none e is n start size reply a = none_of e is (λ tid. call_names e n (Ask.Peek start size) reply a tid refl)

pub decide_tries_none : (e : Entry) (is : List Issued) (n : NodeNo) (tid : Tid) (verdict : Bool) (reply : NodeReply) → IsAnswered e n (Ask.Decide tid verdict) reply → TriesNone e is
decide_tries_none e is n tid verdict reply a = none_of e is (λ t. call_names e n (Ask.Decide tid verdict) reply a t refl)

pub call_tries_none : (e : Entry) (is : List Issued) (n : NodeNo) (request : Request) (reply : NodeReply) → IsAnswered e n request reply → AllByRecursion (λ j. is_try j.tid request ≡ false) is → TriesNone e is
call_tries_none e [] n request reply a differ = tt
call_tries_none e (i ∷ is) n request reply a differ = (call_names e n request reply a i.tid differ.0, call_tries_none e is n request reply a differ.1)

-- a coordinator calls for its own id alone
pub step_tries_own : (c : Coordination) (n : NodeNo) (request : Request) → step_of c ≡ Send n request → (tid : Tid) → tid_same c.tid tid ≡ false → is_try tid request ≡ false
step_tries_own c n request step tid differ = by (stage_in c) step
  where
    sent : (m : NodeNo) (q : Request) → Send m q ≡ Send n request → q ≡ request
    sent m q e = cc

    asked : (b : Bool) → is_try tid (if b then Ask.Exec c.tid (part_of c.mini (participant c c.done)) else Ask.Prepare c.tid (participants_of c.mini) (part_of c.mini (participant c c.done))) ≡ false
    asked true = differ
    asked false = ap (λ b. b || false) differ

    by : (stage : Stage) → step_at c stage ≡ Send n request → is_try tid request ≡ false
    by At.Ask f = ap (is_try tid) (sym (sent (participant c c.done) (try_request c.tid c.mini (participant c c.done)) f)) ∙ asked (nat_eq (length (participants_of c.mini)) 1)
    by At.Commit f = ap (is_try tid) (sym (sent (participant c c.decided) (Ask.Decide c.tid true) f))
    by At.Cancel f = ap (is_try tid) (sym (sent (participant c c.decided) (Ask.Decide c.tid false) f))
    by At.Abandon f = absurd cc
    by At.Committed f = absurd cc
    by At.Failed f = absurd cc
    by At.Doubt f = absurd cc

pub step_tries_none : (e : Entry) (is : List Issued) (c : Coordination) (n : NodeNo) (request : Request) (reply : NodeReply) → step_of c ≡ Send n request → IsAnswered e n request reply → AllByRecursion (λ j. tid_same c.tid j.tid ≡ false) is → TriesNone e is
step_tries_none e [] c n request reply step a differ = tt
step_tries_none e (i ∷ is) c n request reply step a differ = (call_names e n request reply a i.tid (step_tries_own c n request step i.tid differ.0), step_tries_none e is c n request reply step a differ.1)

-- What they leave as it was

-- a test of tries finds no new call
untried_by : (f : Call → Bool) (tid : Tid) (cs : List Call) → ((c : Call) → is_try tid c.request ≡ false → f c ≡ false) → list_any (names_tid tid) cs ≡ false → list_any f cs ≡ false
untried_by f tid [] only none = refl
untried_by f tid (c ∷ cs) only none =
    let parts = or_split (is_try tid c.request) (list_any (names_tid tid) cs) none in
    ap (λ b. b || list_any f cs) (only c parts.0) ∙ untried_by f tid cs only parts.1

told_same : (f : Call → Bool) (tid : Tid) (e : Entry) (now : List Entry) → ((c : Call) → is_try tid c.request ≡ false → f c ≡ false) → list_any (names_tid tid) (call_in e.node e.what) ≡ false → list_any f (calls_of (e ∷ now)) ≡ list_any f (calls_of now)
told_same f tid e now only none = list_any-append f (call_in e.node e.what) (calls_of now) ∙ ap (λ b. b || list_any f (calls_of now)) (untried_by f tid (call_in e.node e.what) only none)

no_prepare : (tid : Tid) (request : Request) → is_try tid request ≡ false → is_prepare tid request ≡ false
no_prepare tid request none = (or_split (is_prepare tid request) (is_exec tid request) none).0

no_exec : (tid : Tid) (request : Request) → is_try tid request ≡ false → is_exec tid request ≡ false
no_exec tid request none = (or_split (is_prepare tid request) (is_exec tid request) none).1

prepares_same : (say : NodeReply → Bool) (tid : Tid) (e : Entry) (now : List Entry) → list_any (names_tid tid) (call_in e.node e.what) ≡ false → was_told_somewhere (is_prepare tid) say (e ∷ now) ≡ was_told_somewhere (is_prepare tid) say now
prepares_same say tid e now none = told_same (λ (c : Call). is_prepare tid c.request && say c.reply) tid e now (λ c other. ap (λ b. b && say c.reply) (no_prepare tid c.request other)) none

execs_same : (say : NodeReply → Bool) (tid : Tid) (e : Entry) (now : List Entry) → list_any (names_tid tid) (call_in e.node e.what) ≡ false → was_told_somewhere (is_exec tid) say (e ∷ now) ≡ was_told_somewhere (is_exec tid) say now
execs_same say tid e now none = told_same (λ (c : Call). is_exec tid c.request && say c.reply) tid e now (λ c other. ap (λ b. b && say c.reply) (no_exec tid c.request other)) none

votes_same : (n : NodeNo) (tid : Tid) (e : Entry) (now : List Entry) → list_any (names_tid tid) (call_in e.node e.what) ≡ false → was_told (is_prepare tid) is_done n (e ∷ now) ≡ was_told (is_prepare tid) is_done n now
votes_same n tid e now none =
    told_same (λ (c : Call). node_same c.node n && (is_prepare tid c.request && is_done c.reply)) tid e now
    (λ c other. ap (λ b. node_same c.node n && (b && is_done c.reply)) (no_prepare tid c.request other) ∙ and_false (node_same c.node n)) none

-- what was abandoned, and what was decided, stays so
abandoned_stays : (tid : Tid) (e : Entry) (now : List Entry) → was_abandoned tid now ≡ true → was_abandoned tid (e ∷ now) ≡ true
abandoned_stays tid e now was = or_right (is_abandonment tid e.what) _ was

decided_stays : (tid : Tid) (n : NodeNo) (e : Entry) (now : List Entry) → was_decided tid n now ≡ true → was_decided tid n (e ∷ now) ≡ true
decided_stays tid n e now was = list_any-append (λ (c : Call). node_same c.node n && (is_decide tid c.request && true)) (call_in e.node e.what) (calls_of now) ∙ or_right _ _ was

pub over_stays : (e : Entry) (now : List Entry) (i : Issued) → list_any (names_tid i.tid) (call_in e.node e.what) ≡ false → is_over now i ≡ true → is_over (e ∷ now) i ≡ true
over_stays e now i none over = by (or_cases _ _ over)
  where
    last : (was_told_somewhere (is_exec i.tid) is_refused now ≡ true) ⊎ ((is_read i.mini.items && was_told_somewhere (is_exec i.tid) is_done now) ≡ true)
        → (was_told_somewhere (is_exec i.tid) is_refused (e ∷ now) || (is_read i.mini.items && was_told_somewhere (is_exec i.tid) is_done (e ∷ now))) ≡ true
    last (inl refused) = or_left _ _ (execs_same is_refused i.tid e now none ∙ refused)
    last (inr read) = or_right _ _ (ap (λ b. is_read i.mini.items && b) (execs_same is_done i.tid e now none) ∙ read)

    by : ((was_abandoned i.tid now && not (was_told_somewhere (is_prepare i.tid) (λ reply. is_down_reply reply || is_stopped reply) now)) ≡ true)
        ⊎ ((was_told_somewhere (is_exec i.tid) is_refused now || (is_read i.mini.items && was_told_somewhere (is_exec i.tid) is_done now)) ≡ true)
        → is_over (e ∷ now) i ≡ true
    by (inl gone) =
        let parts = both_parts (was_abandoned i.tid now) _ gone in
        or_left _ _ (both_true _ _ (abandoned_stays i.tid e now parts.0) (ap not (prepares_same (λ reply. is_down_reply reply || is_stopped reply) i.tid e now none) ∙ parts.1))
    by (inr told) = or_right _ _ (last (or_cases _ _ told))

pub given_up_stays : (e : Entry) (now : List Entry) (i : Issued) → list_any (names_tid i.tid) (call_in e.node e.what) ≡ false → is_given_up now i ≡ true → is_given_up (e ∷ now) i ≡ true
given_up_stays e now i none given = by (or_cases _ _ given)
  where
    by : (was_abandoned i.tid now ≡ true) ⊎ ((nat_eq (length (participants_of i.mini)) 1 && not (was_told_somewhere (is_exec i.tid) (λ reply. is_done reply || is_stopped reply) now)) ≡ true) → is_given_up (e ∷ now) i ≡ true
    by (inl gone) = or_left _ _ (abandoned_stays i.tid e now gone)
    by (inr alone) =
        or_right _ _ (ap (λ b. nat_eq (length (participants_of i.mini)) 1 && not b) (execs_same (λ reply. is_done reply || is_stopped reply) i.tid e now none) ∙ alone)

settled_all : (e : Entry) (now : List Entry) (tid : Tid) (ns : List NodeNo) → list_any (names_tid tid) (call_in e.node e.what) ≡ false
    → list_all (λ n. not (was_told (is_prepare tid) is_done n now) || was_decided tid n now) ns ≡ true
    → list_all (λ n. not (was_told (is_prepare tid) is_done n (e ∷ now)) || was_decided tid n (e ∷ now)) ns ≡ true
settled_all e now tid [] none all = refl
settled_all e now tid (n ∷ ns) none all =
    let parts = both_parts _ _ all in
    both_true _ _ (by (or_cases _ _ parts.0)) (settled_all e now tid ns none parts.1)
  where
    by : (not (was_told (is_prepare tid) is_done n now) ≡ true) ⊎ (was_decided tid n now ≡ true) → (not (was_told (is_prepare tid) is_done n (e ∷ now)) || was_decided tid n (e ∷ now)) ≡ true
    by (inl absent) = or_left _ _ (ap not (votes_same n tid e now none) ∙ absent)
    by (inr told) = or_right (not (was_told (is_prepare tid) is_done n (e ∷ now))) _ (decided_stays tid n e now told)

pub settled_stays : (e : Entry) (now : List Entry) (i : Issued) → list_any (names_tid i.tid) (call_in e.node e.what) ≡ false → is_settled now i ≡ true → is_settled (e ∷ now) i ≡ true
settled_stays e now i none settled = settled_all e now i.tid (participants_of i.mini) none settled

-- a closed issue stays closed
closed_one : (e : Entry) (now : List Entry) (i : Issued) → list_any (names_tid i.tid) (call_in e.node e.what) ≡ false → is_closed now i ≡ true → is_closed (e ∷ now) i ≡ true
closed_one e now i none closed =
    let parts = both_parts (is_over now i) _ closed in
    both_true _ _ (over_stays e now i none parts.0) (by (or_cases _ _ parts.1))
  where
    by : (is_read i.mini.items ≡ true) ⊎ ((is_given_up now i && is_settled now i) ≡ true) → (is_read i.mini.items || (is_given_up (e ∷ now) i && is_settled (e ∷ now) i)) ≡ true
    by (inl read) = or_left _ _ read
    by (inr both) =
        let inner = both_parts (is_given_up now i) (is_settled now i) both in
        or_right (is_read i.mini.items) _ (both_true _ _ (given_up_stays e now i none inner.0) (settled_stays e now i none inner.1))

pub closed_on : (e : Entry) (now : List Entry) (is : List Issued) → TriesNone e is → are_closed now is ≡ true → are_closed (e ∷ now) is ≡ true
closed_on e now [] none closed = refl
closed_on e now (i ∷ is) none closed =
    let parts = both_parts (is_closed now i) (are_closed now is) closed in
    both_true _ _ (closed_one e now i none.0 parts.0) (closed_on e now is none.1 parts.1)

-- so with an entry of the operation that issues nothing
pub closed_since : (e : Entry) (es : List Entry) (is : List Issued) → GoesOn e.what → TriesNone e is → are_closed (since_begin es) is ≡ true → are_closed (since_begin (e ∷ es)) is ≡ true
closed_since e es is goes none closed = ap (λ (l : List Entry). are_closed l is) (since_on e es goes) ∙ closed_on e (since_begin es) is none closed

pub closed_later : (e : Entry) (es : List Entry) → IsLater e.what → TriesNone e (issues_of (since_begin es)) → AreClosed (since_begin es) → AreClosed (since_begin (e ∷ es))
closed_later e es later none closed =
    ap (are_closed (since_begin (e ∷ es))) (issues_stay e es later) ∙ closed_since e es (issues_of (since_begin es)) later.goes none closed

-- an operation that has just begun, or was answered, has none
pub closed_none : (es : List Entry) → since_begin es ≡ [] → AreClosed (since_begin es)
closed_none es none = ap (λ (l : List Entry). are_closed l (issues_of l)) none

-- Serials

-- ids of other serials differ
pub serials_differ : (a b : Tid) → (a.serial ≡ b.serial → ⊥) → tid_same a b ≡ false
serials_differ a b apart =
    ap (λ t. nat_eq a.run b.run && (client_same a.client b.client && t)) (ne_eqb a.serial b.serial apart)
    ∙ (ap (λ t. nat_eq a.run b.run && t) (and_false (client_same a.client b.client)) ∙ and_false (nat_eq a.run b.run))

-- no issue has a later serial than there are issues
pub serials_below : (client : ClientNo) (run nodes : ℕ) (is : List Issued) (most : ℕ) → length is ≤ most → AreIssues client run nodes is → AllByRecursion (λ j. j.tid.serial ≤ most) is
serials_below client run nodes [] most few are = tt
serials_below client run nodes (i ∷ is) most few are =
    let serial : i.tid.serial ≡ length is + 1 = ap (λ (t : Tid). t.serial) are.0 in
    (omega arith, serials_below client run nodes is most (omega arith) are.2)

-- a last issue has another id than the earlier ones
pub others_differ : (client : ClientNo) (run nodes : ℕ) (i : Issued) (is : List Issued) → AreIssues client run nodes (i ∷ is) → AllByRecursion (λ j. (tid_same j.tid i.tid ≡ false) × (tid_same i.tid j.tid ≡ false)) is
others_differ client run nodes i is are = by is (serials_below client run nodes is (length is) (omega arith) are.2)
  where
    by : (js : List Issued) → AllByRecursion (λ j. j.tid.serial ≤ length is) js → AllByRecursion (λ j. (tid_same j.tid i.tid ≡ false) × (tid_same i.tid j.tid ≡ false)) js
    by [] low = tt
    by (j ∷ js) low =
        let serial : i.tid.serial ≡ length is + 1 = ap (λ (t : Tid). t.serial) are.0 in
        let less = low.0 in
        ((serials_differ j.tid i.tid (λ e. absurd (omega arith)), serials_differ i.tid j.tid (λ e. absurd (omega arith))), by js low.1)

-- also among those since Begin alone
first_of_all : (P : Issued → Type 0) (is more : List Issued) → AllByRecursion P (is ++ more) → AllByRecursion P is
first_of_all P [] more all = tt
first_of_all P (i ∷ is) more all = (all.0, first_of_all P is more all.1)

pub earlier_differ : (client : ClientNo) (run nodes : ℕ) (es : List Entry) (i : Issued) (earlier : List Issued) → AreIssues client run nodes (issues_of es) → issues_of (since_begin es) ≡ i ∷ earlier
    → AllByRecursion (λ j. tid_same i.tid j.tid ≡ false) earlier
earlier_differ client run nodes es i earlier are last =
    let split = issues_since es in
    let whole : issues_of es ≡ i ∷ (earlier ++ split.0) = split.1 ∙ ap (λ (l : List Issued). l ++ split.0) last in
    first_of_all (λ j. tid_same i.tid j.tid ≡ false) earlier split.0
    (seconds (earlier ++ split.0) (others_differ client run nodes i (earlier ++ split.0) (subst (AreIssues client run nodes) whole are)))
  where
    seconds : (js : List Issued) → AllByRecursion (λ j. (tid_same j.tid i.tid ≡ false) × (tid_same i.tid j.tid ≡ false)) js → AllByRecursion (λ j. tid_same i.tid j.tid ≡ false) js
    seconds [] all = tt
    seconds (j ∷ js) all = ((all.0).1, seconds js all.1)

-- the last one has the serial that was given out last
pub last_tid : (client : ClientNo) (run nodes : ℕ) (es : List Entry) (i : Issued) (earlier : List Issued) → AreIssues client run nodes (issues_of es) → issues_of (since_begin es) ≡ i ∷ earlier
    → (i.tid ≡ tid_of client run (length (issues_of es))) × (i.mini.nodes ≡ nodes)
last_tid client run nodes es i earlier are last =
    let split = issues_since es in
    let whole : issues_of es ≡ i ∷ (earlier ++ split.0) = split.1 ∙ ap (λ (l : List Issued). l ++ split.0) last in
    let first = subst (AreIssues client run nodes) whole are in
    let many : length (earlier ++ split.0) + 1 ≡ length (issues_of es) = (let count : length (issues_of es) ≡ suc (length (earlier ++ split.0)) = ap (λ (l : List Issued). length l) whole in omega arith) in
    (first.0 ∙ ap (tid_of client run) many, first.1)

-- an issue of the next serial goes on
pub issues_on : (client : ClientNo) (run nodes : ℕ) (e : Entry) (es : List Entry) (tid : Tid) (mini : Mini) → AreIssues client run nodes (issues_of es) → e.what ≡ Issue tid mini
    → tid ≡ tid_of client run (length (issues_of es) + 1) → mini.nodes ≡ nodes → AreIssues client run nodes (issues_of (e ∷ es))
issues_on client run nodes e es tid mini are is next made = subst (AreIssues client run nodes) (sym (one_issue e es tid mini is)) (next, made, are)

-- so does an entry that issues nothing
pub issues_kept : (client : ClientNo) (run nodes : ℕ) (e : Entry) (es : List Entry) → AreIssues client run nodes (issues_of es) → issue_in e.what ≡ [] → AreIssues client run nodes (issues_of (e ∷ es))
issues_kept client run nodes e es are none = subst (AreIssues client run nodes) (sym (no_issue e es none)) are

-- Serials that were not used

pub fresh_empty : (client : ClientNo) (run : ℕ) → AreFresh client run []
fresh_empty client run serial high = (refl, refl)

pub fresh_next : (client : ClientNo) (run : ℕ) (es : List Entry) → AreFresh client run es → IsFresh (tid_of client run (length (issues_of es) + 1)) es
fresh_next client run es fresh = fresh (length (issues_of es) + 1) (omega arith)

-- an entry that names no later id
pub fresh_on : (client : ClientNo) (run : ℕ) (e : Entry) (es : List Entry) → AreFresh client run es
    → ((tid : Tid) → length (issues_of (e ∷ es)) < tid.serial → (list_any (names_tid tid) (call_in e.node e.what) ≡ false) × (is_abandonment tid e.what ≡ false))
    → AreFresh client run (e ∷ es)
fresh_on client run e es fresh none serial high =
    let parts = length-append (issue_in e.what) (issues_of es) in
    let old = fresh serial (omega arith) in
    let new = none (tid_of client run serial) high in (
      list_any-append (names_tid (tid_of client run serial)) (call_in e.node e.what) (calls_of es)
          ∙ (ap (λ b. b || list_any (names_tid (tid_of client run serial)) (calls_of es)) new.0 ∙ old.0),
      ap (λ b. b || was_abandoned (tid_of client run serial) es) new.1 ∙ old.1,
    )

-- an own entry that abandons nothing
pub fresh_own : (client : ClientNo) (run : ℕ) (e : Entry) (es : List Entry) → AreFresh client run es → e.node ≡ None → ((tid : Tid) → is_abandonment tid e.what ≡ false) → AreFresh client run (e ∷ es)
fresh_own client run e es fresh own keeps = fresh_on client run e es fresh (λ tid high. (ap (list_any (names_tid tid)) (own_calls_none e own), keeps tid))

pub fresh_begun : (client : ClientNo) (run : ℕ) (e : Entry) (es : List Entry) (number : ℕ) (op : Op) → AreFresh client run es → e.node ≡ None → e.what ≡ Begin number op → AreFresh client run (e ∷ es)
fresh_begun client run e es number op fresh own is = fresh_own client run e es fresh own (λ tid. ap (is_abandonment tid) is)

pub fresh_answered : (client : ClientNo) (run : ℕ) (e : Entry) (es : List Entry) (number : ℕ) (answer : Answer) → AreFresh client run es → e.node ≡ None → e.what ≡ Answered number answer → AreFresh client run (e ∷ es)
fresh_answered client run e es number answer fresh own is = fresh_own client run e es fresh own (λ tid. ap (is_abandonment tid) is)

pub fresh_issued : (client : ClientNo) (run : ℕ) (e : Entry) (es : List Entry) (tid : Tid) (mini : Mini) → AreFresh client run es → e.node ≡ None → e.what ≡ Issue tid mini → AreFresh client run (e ∷ es)
fresh_issued client run e es tid mini fresh own is = fresh_own client run e es fresh own (λ t. ap (is_abandonment t) is)

-- an id that was issued is abandoned
pub fresh_abandoned : (client : ClientNo) (run : ℕ) (e : Entry) (es : List Entry) (tid : Tid) → AreFresh client run es → tid.serial ≤ length (issues_of es) → e.node ≡ None → e.what ≡ Abandoned tid → AreFresh client run (e ∷ es)
fresh_abandoned client run e es tid fresh low own is =
    fresh_on client run e es fresh
    (λ t high. (
      ap (list_any (names_tid t)) (own_calls_none e own),
      ap (is_abandonment t) is ∙ serials_differ tid t (λ same. (let more = length-append (issue_in e.what) (issues_of es) in absurd (omega arith))),
    ))

-- a call that tries no later id
pub fresh_called : (client : ClientNo) (run : ℕ) (e : Entry) (es : List Entry) (n : NodeNo) (request : Request) (reply : NodeReply) → AreFresh client run es → IsAnswered e n request reply
    → ((tid : Tid) → length (issues_of es) < tid.serial → is_try tid request ≡ false) → AreFresh client run (e ∷ es)
fresh_called client run e es n request reply fresh a none =
    fresh_on client run e es fresh
    (λ t high. (call_names e n request reply a t (none t (let more = length-append (issue_in e.what) (issues_of es) in omega arith)), called_abandons_none e n request reply a t))

pub fresh_peeked : (client : ClientNo) (run : ℕ) (e : Entry) (es : List Entry) (n : NodeNo) (start size : ℕ) (reply : NodeReply) → AreFresh client run es → IsAnswered e n (Ask.Peek start size) reply → AreFresh client run (e ∷ es)
fresh_peeked client run e es n start size reply fresh a = fresh_called client run e es n (Ask.Peek start size) reply fresh a (λ tid high. refl)

-- a call of a coordinator whose id was issued
pub fresh_step : (client : ClientNo) (run : ℕ) (e : Entry) (es : List Entry) (c : Coordination) (n : NodeNo) (request : Request) (reply : NodeReply) → AreFresh client run es → c.tid.serial ≤ length (issues_of es)
    → step_of c ≡ Send n request → IsAnswered e n request reply → AreFresh client run (e ∷ es)
fresh_step client run e es c n request reply fresh low step a =
    fresh_called client run e es n request reply fresh a (λ tid high. step_tries_own c n request step tid (serials_differ c.tid tid (λ same. absurd (omega arith))))

-- No recovery

pub recovers_on : (e : Entry) (es : List Entry) → list_all (λ call. not (is_recovery call.request)) (call_in e.node e.what) ≡ true → recovers_nothing es ≡ true → recovers_nothing (e ∷ es) ≡ true
recovers_on e es one rest = list_all-append (λ (call : Call). not (is_recovery call.request)) (call_in e.node e.what) (calls_of es) ∙ both_true _ _ one rest

pub own_recovers_none : (e : Entry) (es : List Entry) → e.node ≡ None → recovers_nothing es ≡ true → recovers_nothing (e ∷ es) ≡ true
own_recovers_none e es own rest = recovers_on e es (ap (list_all (λ (call : Call). not (is_recovery call.request))) (own_calls_none e own)) rest

pub call_recovers_none : (e : Entry) (es : List Entry) (n : NodeNo) (request : Request) (reply : NodeReply) → IsAnswered e n request reply → is_recovery request ≡ false → recovers_nothing es ≡ true → recovers_nothing (e ∷ es) ≡ true
call_recovers_none e es n request reply a other rest = recovers_on e es (ap (list_all (λ (call : Call). not (is_recovery call.request))) a ∙ ap (λ b. not b && true) other) rest

pub peek_recovers_none : (e : Entry) (es : List Entry) (n : NodeNo) (start size : ℕ) (reply : NodeReply) → IsAnswered e n (Ask.Peek start size) reply → recovers_nothing es ≡ true → recovers_nothing (e ∷ es) ≡ true
peek_recovers_none e es n start size reply a rest = call_recovers_none e es n (Ask.Peek start size) reply a refl rest

-- a coordinator recovers nothing
pub step_is_no_recovery : (c : Coordination) (n : NodeNo) (request : Request) → step_of c ≡ Send n request → is_recovery request ≡ false
step_is_no_recovery c n request step = by (stage_in c) step
  where
    sent : (m : NodeNo) (q : Request) → Send m q ≡ Send n request → q ≡ request
    sent m q e = cc

    asked : (b : Bool) → is_recovery (if b then Ask.Exec c.tid (part_of c.mini (participant c c.done)) else Ask.Prepare c.tid (participants_of c.mini) (part_of c.mini (participant c c.done))) ≡ false
    asked true = refl
    asked false = refl

    by : (stage : Stage) → step_at c stage ≡ Send n request → is_recovery request ≡ false
    by At.Ask f = ap is_recovery (sym (sent (participant c c.done) (try_request c.tid c.mini (participant c c.done)) f)) ∙ asked (nat_eq (length (participants_of c.mini)) 1)
    by At.Commit f = ap is_recovery (sym (sent (participant c c.decided) (Ask.Decide c.tid true) f))
    by At.Cancel f = ap is_recovery (sym (sent (participant c c.decided) (Ask.Decide c.tid false) f))
    by At.Abandon f = absurd cc
    by At.Committed f = absurd cc
    by At.Failed f = absurd cc
    by At.Doubt f = absurd cc

pub step_recovers_none : (e : Entry) (es : List Entry) (c : Coordination) (n : NodeNo) (request : Request) (reply : NodeReply) → step_of c ≡ Send n request → IsAnswered e n request reply → recovers_nothing es ≡ true → recovers_nothing (e ∷ es) ≡ true
step_recovers_none e es c n request reply step a rest = call_recovers_none e es n request reply a (step_is_no_recovery c n request step) rest

-- The last issue

-- the newest entry is one
pub last_is_new : (e : Entry) (es : List Entry) (tid : Tid) (mini : Mini) → e.what ≡ Issue tid mini
    → (l : LastIssue (e ∷ es) (since_begin (e ∷ es)) (record { tid = tid; mini = mini }) es) × (l.earlier ≡ issues_of (since_begin es))
last_is_new e es tid mini is = (
  record {
    entry = e;
    later = [];
    earlier = issues_of (since_begin es);
    split = refl;
    here = ap issue_in is;
    none_later = refl;
    of_operation = issues_grow e es tid mini is;
  },
  refl,
)

-- it stays the last with an entry that issues nothing
pub last_stays : (e : Entry) (es : List Entry) (i : Issued) (before : List Entry) → IsLater e.what → (l : LastIssue es (since_begin es) i before)
    → (m : LastIssue (e ∷ es) (since_begin (e ∷ es)) i before) × (m.earlier ≡ l.earlier)
last_stays e es i before later l = (
  record {
    entry = l.entry;
    later = e ∷ l.later;
    earlier = l.earlier;
    split = ap (λ (k : List Entry). e ∷ k) l.split;
    here = l.here;
    none_later = no_issue e l.later later.issues ∙ l.none_later;
    of_operation = issues_stay e es later ∙ l.of_operation;
  },
  refl,
)

-- The kept catalog

pub catalog_stays : (e : Entry) (es : List Entry) (entries : List CatEntry) → ShowsCatalog es entries → ShowsCatalog (e ∷ es) entries
catalog_stays e es entries (seen, there, sees) =
    (seen, subst (λ (l : List Seen). Contains l seen) (sym (seen_in-cons e es)) (Contains-append_right (seen_at e) (seen_in es) seen there), sees)
