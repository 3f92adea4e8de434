-- What an answer says of its operation's plans.
use Rattle.std.proofs.Common.{◌≡◌, ℕ, ◌<◌, ◌≤◌, inl, inr, Bool, true, ◌||◌, List, [], ◌∷◌, ◌++◌, length, Option, Some, refl, subst, sym, ap, ◌∙◌, arith}
use Rattle.std.specs.List.{AllByRecursion, list_any}
use Rattle.std.proofs.lemmas.List.{append_assoc}
use Rattle.mn_base.specs.declared.ids.NodeNo.{NodeNo}
use Rattle.mn_base.specs.declared.ids.ClientNo.{ClientNo}
use Rattle.mn_base.specs.declared.op.Op.{Op}
use Rattle.mn_base.specs.declared.reply.Reply.{Reply}
use Rattle.mn_base.specs.declared.answer.Answer.{Answer}
use Rattle.mn_base.specs.declared.answer.Answer.TheVariants.{Replied, Busy as GaveUp, Down, InDoubt, Full, Worn, NoMemory}
use Rattle.mn_base.specs.Ids.{node_same}
use Rattle.mn_mini.specs.declared.item.Item.{Item}
use Rattle.mn_mini.specs.Mini.{Mini, item_node, participants_of}
use Rattle.mn_mini.proofs.Parts.{same_self}
use Rattle.mn_runs.specs.declared.entry.Entry.{Entry}
use Rattle.mn_runs.specs.declared.entry.What.{What}
use Rattle.mn_runs.specs.declared.entry.What.TheVariants.{Answered}
use Rattle.mn_runs.specs.Calls.{Issued, Begun, issues_of, issue_named, was_done, client_entries, since_begin, under_way}
use Rattle.mn_law.specs.Answers.{ShowsAnswer, IsShownFor, IsPlanBy, are_given_up, all_done, MeansBy}
use Rattle.mn_runs.specs.Protocol.{Start, FollowsProtocol}
use Rattle.mn_law.specs.Run.{IsRun, Means}
use Rattle.mn_votes.specs.Laws.{StartsSound}
use Rattle.mn_serial.specs.Meaning.{MeansNoEffect}
use Rattle.mn_law.proofs.MakeRun.{runs_follow_protocol}
use Rattle.mn_votes.proofs.Backing.{mini_of}
use Rattle.mn_votes.proofs.Preserved.{kept_run}
use Rattle.mn_commits.proofs.Bytes.Step.{IsMade, named_part}
use Rattle.mn_commits.proofs.Bytes.Spaces.{whole_run}
use Rattle.mn_serial.proofs.Meaning.Splits.{shorter}
use Rattle.mn_serial.proofs.Meaning.Prefixes.{older_run}
use Rattle.mn_runs.proofs.Prefixes.{follows_before}
use Rattle.mn_serial.proofs.Meaning.Clients.{Allowed, named_below, client_allowed}
use Rattle.mn_serial.proofs.Meaning.Positions.{AnswerAt, older_own, answered_op, issue_before_answer}
use Rattle.mn_serial.proofs.Meaning.Done.{CommittedIn, done_committed}
use Rattle.mn_serial.proofs.Meaning.Plans.{PlanIn, one_place, given_up_none}
use Rattle.mn_serial.proofs.Meaning.LastPlan.{IsLast, last_is}
use Rattle.mn_votes.proofs.Start.{all_true}

-- what shows an answer
pub record ShownAnswer (past : List Entry) (c : ClientNo) (number : ℕ) (answer : Answer) (e : AnswerAt past c number answer) : Type 0 where
  pub op : Op
  pub now : under_way (client_entries c e.at.before) ≡ Some (record { number = number; op = op })
  pub shows : ShowsAnswer (client_entries c e.at.before) (since_begin (client_entries c e.at.before)) op answer

pub shown_answer : (start : Start) (past : List Entry) (c : ClientNo) (number : ℕ) (answer : Answer) (e : AnswerAt past c number answer) → IsRun start past → ShownAnswer past c number answer e
shown_answer start past c number answer e run = record { op = op.0; now = op.1; shows = subst (λ (o : Option Begun). IsShownFor (client_entries c e.at.before) o answer) op.1 means.1 }
  where
    op : (op : Op)
        × (under_way (client_entries c e.at.before) ≡ Some (record { number = number; op = op }))
    op = answered_op start past c number answer e (runs_follow_protocol start past run)

    step : Means e.at.before e.at.entry.client e.at.entry.what
    step = (older_run start e.at.later (e.at.entry ∷ e.at.before) (subst (IsRun start) e.at.split run)).1.means

    means : MeansBy (client_entries c e.at.before) (Answered number answer)
    means = subst (λ (w : What). MeansBy (client_entries c e.at.before) w) e.answers (subst (λ (o : Option ClientNo). Means e.at.before o e.at.entry.what) e.at.by step)

-- neither a reply nor a doubt: the plans are given up
pub gives_up : (es now : List Entry) (op : Op) (answer : Answer) → MeansNoEffect answer
    → ShowsAnswer es now op answer → are_given_up now ≡ true
gives_up es now op (Replied reply) means shows = absurd means
gives_up es now op (InDoubt tid n) means shows = absurd means
gives_up es now op (GaveUp busy) means shows = shows.0
gives_up es now op (Down n) means shows = shows.0
gives_up es now op (Full need free) means shows = shows.0
gives_up es now op (Worn n place) means shows = shows.0
gives_up es now op NoMemory means shows = shows

-- the committed plan of an operation that was replied to is committed before the answer, and its
-- reply is by a plan of that issue
pub record PlanReplied (past : List Entry) (a : ℕ) (c : ClientNo) (number : ℕ) (reply : Reply) (e : AnswerAt past c number (Replied reply)) (x : PlanIn past a c number) : Type 0 where
  pub before : a < length e.at.before
  pub op : Op
  pub now : under_way (client_entries c e.at.before) ≡ Some (record { number = number; op = op })
  pub planned : IsPlanBy (client_entries c x.issue.at.before) op x.issued.mini reply

first_named : (items : List Item) → 1 ≤ length items
    → (n : NodeNo) × (list_any (λ i. node_same (item_node i) n) items ≡ true)
first_named [] few = absurd (omega arith)
first_named (i ∷ items) few = (item_node i, ap (λ (b : Bool). b || list_any (λ j. node_same (item_node j) (item_node i)) items) (same_self (item_node i)))

any_some : (ps : List NodeNo) (n : NodeNo) → list_any (λ m. node_same m n) ps ≡ true → 1 ≤ length ps
any_some [] n e = absurd cc
any_some (p ∷ ps) n e = omega arith

pub some_participant : (start : Start) (mini : Mini) → IsMade start mini
    → 1 ≤ length (participants_of mini)
some_participant start mini made =
    let first = first_named mini.items made.1.some in
    any_some (participants_of mini) first.0 (named_part start mini first.0 made first.1)

pub plan_replied : (start : Start) (past : List Entry) → StartsSound start
    → IsRun start past
    → (c : ClientNo) (number : ℕ) (reply : Reply) (e : AnswerAt past c number (Replied reply)) (a : ℕ) (x : PlanIn past a c number)
    → PlanReplied past a c number reply e x
plan_replied start past sound run c number reply e a x = by s.shows
  where
    follows : FollowsProtocol start past
    follows = runs_follow_protocol start past run

    s : ShownAnswer past c number (Replied reply) e
    s = shown_answer start past c number (Replied reply) e run

    given : are_given_up (since_begin (client_entries c e.at.before)) ≡ true → ⊥
    given up = given_up_none start past sound follows c number (Replied reply) e up a x

    before : FollowsProtocol start e.at.before
    before = follows_before start past (e.at.later ++ e.at.entry ∷ []) e.at.before (e.at.split ∙ sym (append_assoc e.at.later (e.at.entry ∷ []) e.at.before)) follows

    -- the plan's minitransaction, as the client's list has it at the answer
    named : issue_named x.issued.tid (issues_of (client_entries c e.at.before)) ≡ Some x.issued.mini
    named =
        let inner = older_own past c x.issue.at e.at (issue_before_answer start past c (record { number = number; op = x.op }) x.issued number (Replied reply) x.issue e follows refl) in
        ap (λ (l : List Entry). issue_named x.issued.tid (issues_of l)) inner.split
        ∙ named_below c inner.between x.issue.at.entry (client_entries c x.issue.at.before) (client_entries c x.issue.at.before) x.issued (subst (Allowed c) inner.split (client_allowed start e.at.before c before)) x.issue.issues

    own : x.issued.tid.client ≡ c
    own = ((kept_run start e.at.before sound before).issued c x.issued.tid x.issued.mini named).0

    mine : mini_of e.at.before x.issued.tid ≡ Some x.issued.mini
    mine = subst (λ (d : ClientNo). issue_named x.issued.tid (issues_of (client_entries d e.at.before)) ≡ Some x.issued.mini) (sym own) named

    committed : all_done (client_entries c e.at.before) x.issued ≡ true
        → CommittedIn e.at.before x.issued.tid
    committed done =
        let made = (whole_run start e.at.before sound before).even.minis x.issued.tid x.issued.mini mine in
        done_committed start e.at.before x.issued.tid x.issued.mini sound before mine (some_participant start x.issued.mini made)
        (subst (λ (d : ClientNo). AllByRecursion (λ n. was_done x.issued.tid n (client_entries d e.at.before) ≡ true) (participants_of x.issued.mini)) (sym own)
        (all_true (λ n. was_done x.issued.tid n (client_entries c e.at.before)) (participants_of x.issued.mini) done))

    low : CommittedIn e.at.before x.issued.tid → a < length e.at.before
    low co =
        let there : past ≡ (e.at.later ++ (e.at.entry ∷ co.later)) ++ co.entry ∷ co.before =
        e.at.split ∙ (ap (λ (l : List Entry). e.at.later ++ e.at.entry ∷ l) co.split ∙ sym (append_assoc e.at.later (e.at.entry ∷ co.later) (co.entry ∷ co.before))) in
        let same : length x.before ≡ length co.before = one_place start past sound follows x.later x.entry x.before x.issued (e.at.later ++ (e.at.entry ∷ co.later)) co.entry co.before co.issued x.split there x.commits co.commits (sym co.same) in
        let place : a ≡ length x.before = x.is_place in
        let less = shorter e.at.before co.later (co.entry ∷ co.before) co.split in omega arith

    by : ShowsAnswer (client_entries c e.at.before) (since_begin (client_entries c e.at.before)) s.op (Replied reply) → PlanReplied past a c number reply e x
    by (inr (inl (up, shown))) = absurd (given up)
    by (inr (inr (up, scanned))) = absurd (given up)
    by (inl (i, bef, last, plan, planned, done)) =
        let is : IsLast past a c number x i bef = last_is start past sound follows c number (Replied reply) e a x i bef last in
        record {
          before = low (committed (subst (λ (j : Issued). all_done (client_entries c e.at.before) j ≡ true) (sym is.issued) done));
          op = s.op;
          now = s.now;
          planned = subst (λ (j : Issued). IsPlanBy (client_entries c x.issue.at.before) s.op j.mini reply) (sym is.issued) (subst (λ (l : List Entry). IsPlanBy l s.op i.mini reply) (sym is.list) planned);
        }
