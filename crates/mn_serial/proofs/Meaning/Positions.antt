-- Issues, answers and Begins of one operation, by their places in the log.
use Rattle.std.proofs.Common.{◌≡◌, ℕ, suc, ◌<◌, ◌⊎◌, inl, inr, Bool, true, cond, List, [], ◌∷◌, ◌++◌, length, Option, Some, refl, subst, sym, ap, ◌∙◌, arith, Contains}
use Rattle.std.proofs.lemmas.List.{length-append, append_assoc}
use Rattle.std.proofs.lemmas.List.Elements.{filter-append}
use Rattle.mn_base.specs.declared.ids.NodeNo.{NodeNo}
use Rattle.mn_base.specs.declared.ids.ClientNo.{ClientNo}
use Rattle.mn_base.specs.declared.op.Op.{Op}
use Rattle.mn_base.specs.declared.answer.Answer.{Answer}
use Rattle.mn_runs.specs.declared.entry.Entry.{Entry}
use Rattle.mn_runs.specs.declared.entry.What.{What}
use Rattle.mn_runs.specs.declared.entry.What.TheVariants.{Begin, Issue, Called, Stopped, Restarted, Abandoned, Answered}
use Rattle.mn_runs.specs.Calls.{Issued, issue_in, issues_of, issue_named, Begun, under_way, under_way_after, since_begin, since_begin_after, is_by, client_entries}
use Rattle.mn_runs.specs.Clients.{ClientAllows}
use Rattle.mn_runs.specs.Protocol.{Start, FollowsProtocol, AllowedBy}
use Rattle.mn_runs.proofs.Same.{client_same-refl}
use Rattle.mn_plans.proofs.Told.{all_there}
use Rattle.mn_serial.proofs.Meaning.Splits.{SameSplit, same_split}
use Rattle.mn_runs.proofs.Prefixes.{follows_before}
use Rattle.mn_serial.proofs.Meaning.Prefixes.{keeps_there}
use Rattle.mn_serial.proofs.Meaning.Clients.{Allowed, client_allowed, same_op, behind_answer, begin_higher, named_below}
use Rattle.mn_serial.proofs.Meaning.Over.{GoneIn, issue_allows, issue_there, gone_since}

-- Places

-- of two places the lower one stands in what is older than the higher one
pub record Inner {X : Type 0} (x : X) (before older : List X) : Type 0 where
  pub between : List X
  pub split : older ≡ between ++ x ∷ before

pub inner_split : {X : Type 0} (later later' : List X) (x y : X) (before before' : List X)
    → later ++ x ∷ before ≡ later' ++ y ∷ before' → length before < length before'
    → Inner x before before'
inner_split [] later' x y before before' same less =
    let all : suc (length before) ≡ length (later' ++ y ∷ before') = ap (λ l. length l) same in
    let parts = length-append later' (y ∷ before') in
    absurd (omega arith)
inner_split {X} (w ∷ later) [] x y before before' same less = record { between = later; split = rest }
  where
    rest : before' ≡ later ++ x ∷ before
    rest = cc
inner_split {X} (w ∷ later) (z ∷ later') x y before before' same less = inner_split later later' x y before before' rest less
  where
    rest : later ++ x ∷ before ≡ later' ++ y ∷ before'
    rest = cc

-- Lists of clients

pub client_append : (c : ClientNo) (later before : List Entry)
    → client_entries c (later ++ before) ≡ client_entries c later ++ client_entries c before
client_append c later before = filter-append (is_by c) later before

pub client_split : (c : ClientNo) (past later : List Entry) (x : Entry) (before : List Entry)
    → past ≡ later ++ x ∷ before → is_by c x ≡ true
    → client_entries c past ≡ client_entries c later ++ x ∷ client_entries c before
client_split c past later x before split by =
    ap (client_entries c) split ∙ (client_append c later (x ∷ before) ∙ ap (λ (b : Bool). client_entries c later ++ cond b (x ∷ client_entries c before) (client_entries c before)) by)

pub is_own : (c : ClientNo) (x : Entry) → x.client ≡ Some c → is_by c x ≡ true
is_own c x is = ap (λ (o : Option ClientNo). is_by c (record { node = x.node; client = o; what = x.what })) is ∙ client_same-refl c

own_allowed : (before : List Entry) (c : ClientNo) (by : Option ClientNo) (at : Option NodeNo) (what : What) → by ≡ Some c → AllowedBy before by at what → ClientAllows c (client_entries c before) at what
own_allowed before c by at what is allowed = subst (λ (o : Option ClientNo). AllowedBy before o at what) is allowed

-- an entry of a client at its place
pub record OwnAt (past : List Entry) (c : ClientNo) : Type 0 where
  pub entry : Entry
  pub later : List Entry
  pub before : List Entry
  pub split : past ≡ later ++ entry ∷ before
  pub by : entry.client ≡ Some c

pub allowed_at : (start : Start) (past : List Entry) (c : ClientNo) (at : OwnAt past c)
    → FollowsProtocol start past → Allowed c (at.entry ∷ client_entries c at.before)
allowed_at start past c at run = (
  client_allowed start at.before c (follows_before start past (at.later ++ at.entry ∷ []) at.before (at.split ∙ sym (append_assoc at.later (at.entry ∷ []) at.before)) run),
  own_allowed at.before c at.entry.client at.entry.node at.entry.what at.by (keeps_there start past at.later at.entry at.before at.split run).by_client,
)

-- an older entry of the client stands in the list that the newer one has before it
pub older_own : (past : List Entry) (c : ClientNo) (one other : OwnAt past c)
    → length one.before < length other.before
    → Inner one.entry (client_entries c one.before) (client_entries c other.before)
older_own past c one other less =
    let i = inner_split one.later other.later one.entry other.entry one.before other.before (sym one.split ∙ other.split) less in
    record { between = client_entries c i.between; split = client_split c other.before i.between one.entry one.before i.split (is_own c one.entry one.by) }

-- Issues

pub record IssueAt (past : List Entry) (c : ClientNo) (b : Begun) (i : Issued) : Type 0 where
  pub at : OwnAt past c
  pub issues : issue_in at.entry.what ≡ i ∷ []
  pub of : under_way (client_entries c at.before) ≡ Some b

pub issue_keeps : (what : What) (i : Issued) (o : Option Begun) → issue_in what ≡ i ∷ []
    → under_way_after what o ≡ o
issue_keeps (Issue tid mini) i o is = refl
issue_keeps (Begin number op) i o is = absurd cc
issue_keeps (Answered number answer) i o is = absurd cc
issue_keeps (Called request reply) i o is = refl
issue_keeps (Stopped request asked) i o is = refl
issue_keeps (Restarted kept) i o is = refl
issue_keeps (Abandoned tid) i o is = refl

issue_since : (what : What) (i : Issued) (e : Entry) (es : List Entry) → issue_in what ≡ i ∷ []
    → since_begin_after what e es ≡ e ∷ es
issue_since (Issue tid mini) i e es is = refl
issue_since (Begin number op) i e es is = absurd cc
issue_since (Answered number answer) i e es is = absurd cc
issue_since (Called request reply) i e es is = refl
issue_since (Stopped request asked) i e es is = refl
issue_since (Restarted kept) i e es is = refl
issue_since (Abandoned tid) i e es is = refl

-- the operation of an issue is under way behind it
pub behind_issue : (past : List Entry) (c : ClientNo) (b : Begun) (i : Issued) (x : IssueAt past c b i) → under_way (x.at.entry ∷ client_entries c x.at.before) ≡ Some b
behind_issue past c b i x = issue_keeps x.at.entry.what i (under_way (client_entries c x.at.before)) x.issues ∙ x.of

-- as long as an operation of its number is under way, an issue is one of those since Begin
pub record IssuedSince (es : List Entry) (i : Issued) : Type 0 where
  pub there : Contains (issues_of (since_begin es)) i
  pub named : issue_named i.tid (issues_of (since_begin es)) ≡ Some i.mini

pub issued_since : (start : Start) (past : List Entry) (c : ClientNo) (b d : Begun) (i : Issued) (x : IssueAt past c b i) → FollowsProtocol start past → (y : OwnAt past c) → length x.at.before < length y.before → under_way (client_entries c y.before) ≡ Some d → b.number ≡ d.number
    → IssuedSince (client_entries c y.before) i
issued_since start past c b d i x run y less now same =
    let inner = older_own past c x.at y less in
    let allowed : Allowed c (inner.between ++ x.at.entry ∷ client_entries c x.at.before) = subst (Allowed c) inner.split (allowed_at start past c y run).0 in
    let still = same_op c b d inner.between (x.at.entry ∷ client_entries c x.at.before) allowed (behind_issue past c b i x) (ap under_way (sym inner.split) ∙ now) same in
    let since : since_begin (client_entries c y.before) ≡ inner.between ++ x.at.entry ∷ since_begin (client_entries c x.at.before) =
    ap since_begin inner.split ∙ (still.since ∙ ap (λ (l : List Entry). inner.between ++ l) (issue_since x.at.entry.what i x.at.entry (since_begin (client_entries c x.at.before)) x.issues)) in
    record {
      there = subst (λ (l : List Entry). Contains (issues_of l) i) (sym since) (issue_there inner.between x.at.entry (since_begin (client_entries c x.at.before)) i x.issues);
      named = ap (λ (l : List Entry). issue_named i.tid (issues_of l)) since ∙ named_below c inner.between x.at.entry (client_entries c x.at.before) (since_begin (client_entries c x.at.before)) i allowed x.issues;
    }

-- an issue that another one of its operation follows is gone
pub followed_gone : (start : Start) (past : List Entry) (c : ClientNo) (b d : Begun) (i j : Issued) (x : IssueAt past c b i) (y : IssueAt past c d j) → FollowsProtocol start past → length x.at.before < length y.at.before → b.number ≡ d.number → GoneIn (client_entries c y.at.before) i
followed_gone start past c b d i j x y run less same =
    let since = issued_since start past c b d i x run y.at less y.of same in
    let allowed = allowed_at start past c y.at run in
    gone_since (client_entries c y.at.before) i (all_there (GoneIn (since_begin (client_entries c y.at.before))) (issues_of (since_begin (client_entries c y.at.before))) i (issue_allows y.at.entry.node c y.at.entry.what (client_entries c y.at.before) j allowed.0 allowed.1 y.issues) since.there)

-- Answers

pub record AnswerAt (past : List Entry) (c : ClientNo) (number : ℕ) (answer : Answer) : Type 0 where
  pub at : OwnAt past c
  pub answers : at.entry.what ≡ Answered number answer

answer_allowed : (start : Start) (past : List Entry) (c : ClientNo) (number : ℕ) (answer : Answer) (e : AnswerAt past c number answer) → FollowsProtocol start past → ClientAllows c (client_entries c e.at.before) e.at.entry.node (Answered number answer)
answer_allowed start past c number answer e run = subst (λ (w : What). ClientAllows c (client_entries c e.at.before) e.at.entry.node w) e.answers (allowed_at start past c e.at run).1

pub answered_op : (start : Start) (past : List Entry) (c : ClientNo) (number : ℕ) (answer : Answer) (e : AnswerAt past c number answer) → FollowsProtocol start past
    → (op : Op) × (under_way (client_entries c e.at.before) ≡ Some (record { number = number; op = op }))
answered_op start past c number answer e run = let a = answer_allowed start past c number answer e run in (a.0, a.1)

-- an issue of the answered operation, older than the answer, is one of those since Begin
pub answered_since : (start : Start) (past : List Entry) (c : ClientNo) (b : Begun) (i : Issued) (number : ℕ) (answer : Answer) (x : IssueAt past c b i) (e : AnswerAt past c number answer) → FollowsProtocol start past → length x.at.before < length e.at.before → b.number ≡ number
    → IssuedSince (client_entries c e.at.before) i
answered_since start past c b i number answer x e run less same =
    let op = answered_op start past c number answer e run in
    issued_since start past c b (record { number = number; op = op.0 }) i x run e.at less op.1 same

-- behind an answer no operation of its number is under way
pub answer_ends : (start : Start) (past : List Entry) (c : ClientNo) (number : ℕ) (answer : Answer) (e : AnswerAt past c number answer) → FollowsProtocol start past → (y : OwnAt past c) → length e.at.before < length y.before → (d : Begun) → under_way (client_entries c y.before) ≡ Some d → number < d.number
answer_ends start past c number answer e run y less d now =
    let inner = older_own past c e.at y less in
    behind_answer c inner.between e.at.entry (client_entries c e.at.before) number answer d (subst (Allowed c) inner.split (allowed_at start past c y run).0) e.answers (ap under_way (sym inner.split) ∙ now)

pub ordered : (a b : ℕ) → (a < b) ⊎ ((a ≡ b) ⊎ (b < a))
ordered a b = grind arith

-- an answered issue stands before the answer
pub issue_before_answer : (start : Start) (past : List Entry) (c : ClientNo) (b : Begun) (i : Issued) (number : ℕ) (answer : Answer) (x : IssueAt past c b i) (e : AnswerAt past c number answer) → FollowsProtocol start past → b.number ≡ number → length x.at.before < length e.at.before
issue_before_answer start past c b i number answer x e run same = by (ordered (length x.at.before) (length e.at.before))
  where
    not_both : (what : What) → issue_in what ≡ i ∷ [] → what ≡ Answered number answer → ⊥
    not_both what is w = let none : [] ≡ i ∷ [] = ap issue_in (sym w) ∙ is in absurd cc

    by : (length x.at.before < length e.at.before)
        ⊎ ((length x.at.before ≡ length e.at.before) ⊎ (length e.at.before < length x.at.before))
        → length x.at.before < length e.at.before
    by (inl less) = less
    by (inr (inl equal)) =
        let here : SameSplit x.at.entry e.at.entry x.at.before e.at.before = same_split x.at.later e.at.later x.at.entry e.at.entry x.at.before e.at.before (sym x.at.split ∙ e.at.split) equal in
        absurd (not_both e.at.entry.what (subst (λ (y : Entry). issue_in y.what ≡ i ∷ []) here.here x.issues) e.answers)
    by (inr (inr more)) = let higher : number < b.number = answer_ends start past c number answer e run x.at more b x.of in absurd (omega arith)

-- an operation is answered once
pub answered_once : (start : Start) (past : List Entry) (c : ClientNo) (number : ℕ) (one other : Answer) (e : AnswerAt past c number one) (f : AnswerAt past c number other) → FollowsProtocol start past → (length e.at.before ≡ length f.at.before) × (one ≡ other)
answered_once start past c number one other e f run = by (ordered (length e.at.before) (length f.at.before))
  where
    same_answer : Answered number one ≡ Answered number other → one ≡ other
    same_answer h = cc

    by : (length e.at.before < length f.at.before)
        ⊎ ((length e.at.before ≡ length f.at.before) ⊎ (length f.at.before < length e.at.before))
        → (length e.at.before ≡ length f.at.before) × (one ≡ other)
    by (inl less) =
        let op = answered_op start past c number other f run in
        let higher : number < number = answer_ends start past c number one e run f.at less (record { number = number; op = op.0 }) op.1 in absurd (omega arith)
    by (inr (inl equal)) =
        let here : SameSplit e.at.entry f.at.entry e.at.before f.at.before = same_split e.at.later f.at.later e.at.entry f.at.entry e.at.before f.at.before (sym e.at.split ∙ f.at.split) equal in
        (equal, same_answer (sym e.answers ∙ (ap (λ (y : Entry). y.what) here.here ∙ f.answers)))
    by (inr (inr more)) =
        let op = answered_op start past c number one e run in
        let higher : number < number = answer_ends start past c number other f run e.at more (record { number = number; op = op.0 }) op.1 in absurd (omega arith)

-- Begins

pub record BeginAt (past : List Entry) (c : ClientNo) (number : ℕ) (op : Op) : Type 0 where
  pub at : OwnAt past c
  pub begins : at.entry.what ≡ Begin number op

-- the Begin of an operation that is under way stands before
pub begin_before : (start : Start) (past : List Entry) (c : ClientNo) (number : ℕ) (op : Op) (f : BeginAt past c number op) (y : OwnAt past c) (b : Begun) → FollowsProtocol start past → under_way (client_entries c y.before) ≡ Some b → b.number ≡ number
    → (y.entry.what ≡ Begin number op → ⊥) → length f.at.before < length y.before
begin_before start past c number op f y b run now same not_begin = by (ordered (length f.at.before) (length y.before))
  where
    allowed : ClientAllows c (client_entries c f.at.before) f.at.entry.node (Begin number op)
    allowed = subst (λ (w : What). ClientAllows c (client_entries c f.at.before) f.at.entry.node w) f.begins (allowed_at start past c f.at run).1

    by : (length f.at.before < length y.before)
        ⊎ ((length f.at.before ≡ length y.before) ⊎ (length y.before < length f.at.before))
        → length f.at.before < length y.before
    by (inl less) = less
    by (inr (inl equal)) =
        let here : SameSplit f.at.entry y.entry f.at.before y.before = same_split f.at.later y.later f.at.entry y.entry f.at.before y.before (sym f.at.split ∙ y.split) equal in
        absurd (not_begin (subst (λ (z : Entry). z.what ≡ Begin number op) here.here f.begins))
    by (inr (inr more)) =
        let inner = older_own past c y f.at more in
        let list : Allowed c ((inner.between ++ y.entry ∷ []) ++ client_entries c y.before) = subst (Allowed c) (inner.split ∙ sym (append_assoc inner.between (y.entry ∷ []) (client_entries c y.before))) (allowed_at start past c f.at run).0 in
        let begins : ClientAllows c ((inner.between ++ y.entry ∷ []) ++ client_entries c y.before) f.at.entry.node (Begin number op) =
        subst (λ (es : List Entry). ClientAllows c es f.at.entry.node (Begin number op)) (inner.split ∙ sym (append_assoc inner.between (y.entry ∷ []) (client_entries c y.before))) allowed in
        let higher : b.number < number = begin_higher c (inner.between ++ y.entry ∷ []) (client_entries c y.before) f.at.entry.node number op b list now begins in absurd (omega arith)
