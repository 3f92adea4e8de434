-- The plans of one operation: at most one is committed, and none where the operation gave them up.
use Rattle.std.proofs.Common.{◌≡◌, ℕ, ◌<◌, ◌⊎◌, inl, inr, Bool, true, false, ◌&&◌, ◌||◌, List, [], ◌∷◌, ◌++◌, length, Some, refl, subst, sym, ap, ◌∙◌}
use Rattle.std.specs.List.{AllByRecursion, list_all}
use Rattle.std.proofs.lemmas.List.{append_assoc}
use Rattle.mn_base.specs.declared.history.Past.{Past}
use Rattle.mn_base.specs.declared.ids.ClientNo.{ClientNo}
use Rattle.mn_base.specs.declared.answer.Answer.{Answer}
use Rattle.mn_runs.specs.declared.entry.Entry.{Entry}
use Rattle.mn_base.specs.declared.op.Op.{Op}
use Rattle.mn_mini.specs.Mini.{is_read}
use Rattle.mn_runs.specs.Calls.{Issued, Begun, issue_in, issues_of, client_entries, since_begin}
use Rattle.mn_runs.specs.Commits.{committed_by}
use Rattle.mn_runs.specs.Clients.{is_given_up}
use Rattle.mn_law.specs.Answers.{are_given_up}
use Rattle.mn_runs.specs.Protocol.{Start, FollowsProtocol}
use Rattle.mn_votes.specs.Laws.{StartsSound}
use Rattle.mn_commits.specs.Laws.{IsNeverCommitted}
use Rattle.mn_commits.proofs.Commits.Never.{given_up_is_never}
use Rattle.mn_commits.proofs.Commits.Once.{commits_once}
use Rattle.mn_plans.proofs.Told.{all_there}
use Rattle.mn_serial.proofs.Meaning.Splits.{SameSplit, same_split}
use Rattle.mn_runs.proofs.Prefixes.{follows_before}
use Rattle.mn_serial.proofs.Meaning.Over.{GoneIn, gone_never, never_there}
use Rattle.mn_serial.proofs.Meaning.Positions.{inner_split, IssueAt, AnswerAt, followed_gone, answered_since, issue_before_answer, ordered}
use Rattle.mn_serial.proofs.Meaning.Origins.{PlanAt, issue_of, issue_low}
use Rattle.mn_serial.proofs.Meaning.Effects.{either}

-- an id is committed at one place
pub one_place : (start : Start) (past : List Entry) → StartsSound start → FollowsProtocol start past
    → (later : List Entry) (e : Entry) (before : List Entry) (i : Issued) (later' : List Entry) (f : Entry) (before' : List Entry) (j : Issued)
    → past ≡ later ++ e ∷ before → past ≡ later' ++ f ∷ before' → committed_by before e ≡ Some i
    → committed_by before' f ≡ Some j → i.tid ≡ j.tid → length before ≡ length before'
one_place start past sound run later e before i later' f before' j split split' is is' same = by (ordered (length before) (length before'))
  where
    by : (length before < length before')
        ⊎ ((length before ≡ length before') ⊎ (length before' < length before))
        → length before ≡ length before'
    by (inl less) =
        let inner = inner_split later later' e f before before' (sym split ∙ split') less in
        absurd (never_there j.tid before' inner.between e before i (commits_once start before' f j sound (follows_before start past later' (f ∷ before') split' run) is') inner.split is same)
    by (inr (inl equal)) = equal
    by (inr (inr more)) =
        let inner = inner_split later' later f e before' before (sym split' ∙ split) more in
        absurd (never_there i.tid before inner.between f before' j (commits_once start before e i sound (follows_before start past later (e ∷ before) split run) is) inner.split is' (sym same))

-- a plan of an operation, with its commit and its issue
pub record PlanIn (past : List Entry) (place : ℕ) (c : ClientNo) (number : ℕ) : Type 0 where
  pub entry : Entry
  pub later : List Entry
  pub before : List Entry
  pub issued : Issued
  pub split : past ≡ later ++ entry ∷ before
  pub is_place : place ≡ length before
  pub commits : committed_by before entry ≡ Some issued
  pub no_read : is_read issued.mini.items ≡ false
  pub op : Op
  pub issue : IssueAt past c (record { number = number; op = op }) issued
  pub low : length issue.at.before < place

abbrev pub plan_in : (past : List Entry) (place : ℕ) (p : Past) → PlanAt past place p
    → PlanIn past place p.client p.number
plan_in past place p a = record {
  entry = a.entry;
  later = a.later;
  before = a.before;
  issued = a.issued;
  split = a.split;
  is_place = a.is_place;
  commits = a.commits;
  no_read = a.no_read;
  op = p.op;
  issue = issue_of past place p a;
  low = issue_low past place p a;
}

-- what is never committed is no plan that is
never_in : (past : List Entry) (place : ℕ) (c : ClientNo) (number : ℕ) (x : PlanIn past place c number) → IsNeverCommitted x.issued.tid past → ⊥
never_in past place c number x never = never_there x.issued.tid past x.later x.entry x.before x.issued never x.split x.commits refl

older_part : (past later : List Entry) (x : Entry) (before : List Entry)
    → past ≡ later ++ x ∷ before → past ≡ (later ++ x ∷ []) ++ before
older_part past later x before split = split ∙ sym (append_assoc later (x ∷ []) before)

-- an issue that another one of its operation follows is committed nowhere
pub followed_never : (start : Start) (past : List Entry) → StartsSound start
    → FollowsProtocol start past
    → (c : ClientNo) (number : ℕ) (a : ℕ) (x : PlanIn past a c number) (d : Begun) (j : Issued) (y : IssueAt past c d j) → number ≡ d.number
    → length x.issue.at.before < length y.at.before → ⊥
followed_never start past sound run c number a x d j y same less =
    let split = older_part past y.at.later y.at.entry y.at.before y.at.split in
    let gone : GoneIn (client_entries c y.at.before) x.issued = followed_gone start past c (record { number = number; op = x.op }) d x.issued j x.issue y run less same in
    never_in past a c number x (subst (IsNeverCommitted x.issued.tid) (sym split) (gone_never start y.at.before (y.at.later ++ y.at.entry ∷ []) c x.issued sound (subst (FollowsProtocol start) split run) gone x.no_read))

same_issue : (i j : Issued) → i ∷ [] ≡ j ∷ [] → i ≡ j
same_issue i j e = cc

-- two committed plans of one operation are one
pub record SamePlan (past : List Entry) (a b : ℕ) (c : ClientNo) (number : ℕ) (x : PlanIn past a c number) (y : PlanIn past b c number) : Type 0 where
  pub places : a ≡ b
  pub issues : x.issued ≡ y.issued
  pub issued_at : length x.issue.at.before ≡ length y.issue.at.before

pub one_plan : (start : Start) (past : List Entry) → StartsSound start → FollowsProtocol start past
    → (c : ClientNo) (number : ℕ) (a b : ℕ) (x : PlanIn past a c number) (y : PlanIn past b c number) → SamePlan past a b c number x y
one_plan start past sound run c number a b x y = by (ordered (length x.issue.at.before) (length y.issue.at.before))
  where
    by : (length x.issue.at.before < length y.issue.at.before)
        ⊎ ((length x.issue.at.before ≡ length y.issue.at.before) ⊎ (length y.issue.at.before < length x.issue.at.before)) → SamePlan past a b c number x y
    by (inl less) = absurd (followed_never start past sound run c number a x (record { number = number; op = y.op }) y.issued y.issue refl less)
    by (inr (inr more)) = absurd (followed_never start past sound run c number b y (record { number = number; op = x.op }) x.issued x.issue refl more)
    by (inr (inl equal)) =
        let here : SameSplit x.issue.at.entry y.issue.at.entry x.issue.at.before y.issue.at.before =
        same_split x.issue.at.later y.issue.at.later x.issue.at.entry y.issue.at.entry x.issue.at.before y.issue.at.before (sym x.issue.at.split ∙ y.issue.at.split) equal in
        let same : x.issued ≡ y.issued = same_issue x.issued y.issued (sym x.issue.issues ∙ (ap (λ (e : Entry). issue_in e.what) here.here ∙ y.issue.issues)) in
        let place = one_place start past sound run x.later x.entry x.before x.issued y.later y.entry y.before y.issued x.split y.split x.commits y.commits (ap (λ (i : Issued). i.tid) same) in
        record { places = x.is_place ∙ (place ∙ sym y.is_place); issues = same; issued_at = equal }

-- An answer that gave up its plans

given_up_all : (now : List Entry) (is : List Issued)
    → list_all (λ i. is_read i.mini.items || is_given_up now i) is ≡ true
    → AllByRecursion (λ i. (is_read i.mini.items || is_given_up now i) ≡ true) is
given_up_all now [] e = tt
given_up_all now (i ∷ is) e = (first (is_read i.mini.items || is_given_up now i) _ e, given_up_all now is (second (is_read i.mini.items || is_given_up now i) _ e))
  where
    first : (a b : Bool) → (a && b) ≡ true → a ≡ true
    first true b h = refl
    first false b h = absurd cc

    second : (a b : Bool) → (a && b) ≡ true → b ≡ true
    second true b h = h
    second false b h = absurd cc

-- no plan of the operation is committed, before or after
pub given_up_none : (start : Start) (past : List Entry) → StartsSound start
    → FollowsProtocol start past
    → (c : ClientNo) (number : ℕ) (answer : Answer) (e : AnswerAt past c number answer)
    → are_given_up (since_begin (client_entries c e.at.before)) ≡ true
    → (a : ℕ) → PlanIn past a c number → ⊥
given_up_none start past sound run c number answer e given_up a x =
    let less = issue_before_answer start past c (record { number = number; op = x.op }) x.issued number answer x.issue e run refl in
    let since = answered_since start past c (record { number = number; op = x.op }) x.issued number answer x.issue e run less refl in
    let now = since_begin (client_entries c e.at.before) in
    let gone : is_given_up (since_begin (client_entries c e.at.before)) x.issued ≡ true =
    either (is_read x.issued.mini.items) (is_given_up (since_begin (client_entries c e.at.before)) x.issued)
    (all_there (λ i. (is_read i.mini.items || is_given_up (since_begin (client_entries c e.at.before)) i) ≡ true) (issues_of (since_begin (client_entries c e.at.before))) x.issued (given_up_all (since_begin (client_entries c e.at.before)) (issues_of (since_begin (client_entries c e.at.before))) given_up) since.there) x.no_read in
    never_in past a c number x (subst (IsNeverCommitted x.issued.tid) (sym e.at.split) (given_up_is_never start e.at.before e.at.later e.at.entry c number answer x.issued sound (subst (FollowsProtocol start) e.at.split run) e.at.by e.answers since.named gone))
