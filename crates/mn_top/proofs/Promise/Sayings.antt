-- What a log says of each operation, and the places of its Begin and its answer.
use Rattle.std.proofs.Common.{◌≡◌, ℕ, ◌<◌, ◌≤◌, ◌⊎◌, inl, inr, Bool, true, false, List, [], ◌∷◌, ◌++◌, length, Option, Some, refl, subst, sym, ap, ◌∙◌, arith, if◌then◌else◌, ◌&&◌, nat_eq}
use Rattle.std.proofs.lemmas.Bool.{eqb-true}
use Rattle.mn_base.proofs.Booleans.{both_parts, clash}
use Rattle.mn_base.specs.declared.answer.Answer.{Answer}
use Rattle.mn_base.specs.declared.ids.ClientNo.{ClientNo}
use Rattle.mn_base.specs.declared.ids.NodeNo.{NodeNo}
use Rattle.mn_base.specs.declared.op.Op.{Op}
use Rattle.mn_hist.specs.Audit.{said_after, said_by, said_in}
use Rattle.mn_promise.specs.Promise.{ClientsTakeTurns, IsAnswered, IsBegun, Times}
use Rattle.mn_report.specs.declared.lines.LineAnswer.{LineAnswer}
use Rattle.mn_report.specs.declared.lines.LineAnswer.TheVariants.{Answered as Told, Died, Never}
use Rattle.mn_runs.proofs.NewCalls.{by_of}
use Rattle.mn_runs.proofs.Same.{client_same-refl, nat_eq-refl}
use Rattle.mn_runs.specs.declared.entry.Entry.{Entry}
use Rattle.mn_runs.specs.declared.entry.What.{What}
use Rattle.mn_runs.specs.declared.entry.What.TheVariants.{Begin, Issue, Called, Stopped, Restarted, Abandoned, Answered}
use Rattle.mn_runs.specs.Calls.{Begun, begun_in, begun_of, client_entries, is_by, under_way, under_way_after}
use Rattle.mn_runs.specs.Clients.{ClientAllows, last_number}
use Rattle.mn_runs.specs.Protocol.{FollowsProtocol, Start}
use Rattle.mn_serial.proofs.Meaning.Clients.{Allowed, client_allowed, numbered, numbers_rise, same_begun}
use Rattle.mn_serial.proofs.Meaning.Positions.{AnswerAt, BeginAt, OwnAt, allowed_at, answered_op, older_own, ordered}
use Rattle.mn_serial.proofs.Meaning.Splits.{SameSplit, same_split}

-- Places

abbrev pub is_begin : ℕ → What → Bool
is_begin number (Begin n op) = nat_eq n number
is_begin number what = false

abbrev pub is_answer : ℕ → What → Bool
is_answer number (Answered n answer) = nat_eq n number
is_answer number what = false

-- the place of the newest entry of the client that passes the test, or 0
abbrev pub place_by : (What → Bool) → ClientNo → List Entry → ℕ
place_by test c [] = 0
place_by test c (e ∷ past) = if is_by c e && test e.what then length past else place_by test c past

-- the clock of a log
abbrev pub times_by : List Entry → Times
times_by past = record { begun = λ c n. place_by (is_begin n) c past; answered = λ c n. place_by (is_answer n) c past }

-- Answers

-- an answer of the operation stands where the clock says
pub record AnswerThere (past : List Entry) (c : ClientNo) (n : ℕ) (answer : Answer) : Type 0 where
  pub it : AnswerAt past c n answer
  pub place : length it.at.before ≡ place_by (is_answer n) c past

abbrev own_more : (e : Entry) (past : List Entry) (c : ClientNo) → OwnAt past c → OwnAt (e ∷ past) c
own_more e past c at = record { entry = at.entry; later = e ∷ at.later; before = at.before; split = ap (λ (l : List Entry). e ∷ l) at.split; by = at.by }

answer_more : (e : Entry) (past : List Entry) (c : ClientNo) (n : ℕ) (answer : Answer) → (is_by c e && is_answer n e.what) ≡ false → AnswerThere past c n answer → AnswerThere (e ∷ past) c n answer
answer_more e past c n answer other there = record {
  it = record { at = own_more e past c there.it.at; answers = there.it.answers };
  place = there.place ∙ ap (λ (b : Bool). if b then length past else place_by (is_answer n) c past) (sym other);
}

answer_here : (e : Entry) (past : List Entry) (c : ClientNo) (n : ℕ) (answer : Answer) → is_by c e ≡ true → e.what ≡ Answered n answer → AnswerThere (e ∷ past) c n answer
answer_here e past c n answer by is = record {
  it = record { at = record { entry = e; later = []; before = past; split = refl; by = by_of c e.client e.node e.what by }; answers = is };
  place = ap (λ (b : Bool). if b then length past else place_by (is_answer n) c past) (sym (ap (λ (b : Bool). b && is_answer n e.what) by ∙ (ap (is_answer n) is ∙ nat_eq-refl n)));
}

-- what is said of it after one more entry of its client's
module _ (e : Entry) (past : List Entry) (c : ClientNo) (n : ℕ) (answer : Answer) (by : is_by c e ≡ true) (before : LineAnswer) (older : before ≡ Told answer → AnswerThere past c n answer) where
  passes : (what : What) → e.what ≡ what → is_answer n what ≡ false → before ≡ Told answer → AnswerThere (e ∷ past) c n answer
  passes what is not said = answer_more e past c n answer (ap (λ (w : What). is_by c e && is_answer n w) is ∙ (ap (λ (b : Bool). b && is_answer n what) by ∙ not)) (older said)

  told_step : (what : What) → e.what ≡ what → said_after n what before ≡ Told answer → AnswerThere (e ∷ past) c n answer
  told_step (Begin m op) is said = elim (nat_eq m n) as (λ b. nat_eq m n ≡ b → (if b then Died else before) ≡ Told answer → AnswerThere (e ∷ past) c n answer) [
    | true ↦ λ _ s. absurd cc
    | false ↦ λ _ s. passes (Begin m op) is refl s
  ] refl said
  told_step (Answered m a) is said = elim (nat_eq m n) as (λ b. nat_eq m n ≡ b → (if b then Told a else before) ≡ Told answer → AnswerThere (e ∷ past) c n answer) [
    | true ↦ λ same s.
        let one : a ≡ answer = cc in
        answer_here e past c n answer by (is ∙ (ap (λ (k : ℕ). Answered k a) (eqb-true m n same) ∙ ap (λ (x : Answer). Answered n x) one))
    | false ↦ λ other s. passes (Answered m a) is other s
  ] refl said
  told_step (Issue tid mini) is said = passes (Issue tid mini) is refl said
  told_step (Called request reply) is said = passes (Called request reply) is refl said
  told_step (Stopped request asked) is said = passes (Stopped request asked) is refl said
  told_step (Restarted kept) is said = passes (Restarted kept) is refl said
  told_step (Abandoned tid) is said = passes (Abandoned tid) is refl said

pub told_there : (past : List Entry) (c : ClientNo) (n : ℕ) (answer : Answer) → said_by past c n ≡ Told answer → AnswerThere past c n answer
told_there [] c n answer said = absurd cc
told_there (e ∷ past) c n answer said = elim (is_by c e) as (λ b. is_by c e ≡ b → said_in n (if b then e ∷ client_entries c past else client_entries c past) ≡ Told answer → AnswerThere (e ∷ past) c n answer) [
  | true ↦ λ by s. told_step e past c n answer by (said_by past c n) (told_there past c n answer) e.what refl s
  | false ↦ λ other s. answer_more e past c n answer (ap (λ (b : Bool). b && is_answer n e.what) other) (told_there past c n answer s)
] refl said

-- Begins

-- a Begin of the operation stands where the clock says
pub record BeginThere (past : List Entry) (c : ClientNo) (n : ℕ) : Type 0 where
  pub op : Op
  pub it : BeginAt past c n op
  pub place : length it.at.before ≡ place_by (is_begin n) c past

begin_more : (e : Entry) (past : List Entry) (c : ClientNo) (n : ℕ) → (is_by c e && is_begin n e.what) ≡ false → BeginThere past c n → BeginThere (e ∷ past) c n
begin_more e past c n other there = record {
  op = there.op;
  it = record { at = own_more e past c there.it.at; begins = there.it.begins };
  place = there.place ∙ ap (λ (b : Bool). if b then length past else place_by (is_begin n) c past) (sym other);
}

begin_here : (e : Entry) (past : List Entry) (c : ClientNo) (n : ℕ) (op : Op) → is_by c e ≡ true → e.what ≡ Begin n op → BeginThere (e ∷ past) c n
begin_here e past c n op by is = record {
  op = op;
  it = record { at = record { entry = e; later = []; before = past; split = refl; by = by_of c e.client e.node e.what by }; begins = is };
  place = ap (λ (b : Bool). if b then length past else place_by (is_begin n) c past) (sym (ap (λ (b : Bool). b && is_begin n e.what) by ∙ (ap (is_begin n) is ∙ nat_eq-refl n)));
}

-- some Begin of the operation stands in the log
pub some_begin : (past : List Entry) (c : ClientNo) (n : ℕ) (op : Op) → BeginAt past c n op → BeginThere past c n
some_begin [] c n op b = absurd (none b.at.later b.at.entry b.at.before b.at.split)
  where
    none : (later : List Entry) (e : Entry) (before : List Entry) → [] ≡ later ++ e ∷ before → ⊥
    none [] e before is = cc
    none (x ∷ later) e before is = cc
some_begin (e ∷ past) c n op b = elim (is_by c e && is_begin n e.what) as (λ t. (is_by c e && is_begin n e.what) ≡ t → BeginThere (e ∷ past) c n) [
  | true ↦ λ here. newest e.what refl here
  | false ↦ λ other. begin_more e past c n other (older (some_begin past c n op) other b.at.later b.at.split)
] refl
  where
    newest : (what : What) → e.what ≡ what → (is_by c e && is_begin n e.what) ≡ true → BeginThere (e ∷ past) c n
    newest what is here =
        let parts = both_parts (is_by c e) (is_begin n e.what) here in
        of what is parts.0 (ap (is_begin n) (sym is) ∙ parts.1)
      where
        of : (what : What) → e.what ≡ what → is_by c e ≡ true → is_begin n what ≡ true → BeginThere (e ∷ past) c n
        of (Begin m o) is by same = begin_here e past c n o by (is ∙ ap (λ (k : ℕ). Begin k o) (eqb-true m n same))
        of (Answered m a) is by same = absurd cc
        of (Issue tid mini) is by same = absurd cc
        of (Called request reply) is by same = absurd cc
        of (Stopped request asked) is by same = absurd cc
        of (Restarted kept) is by same = absurd cc
        of (Abandoned tid) is by same = absurd cc

    mine : (x : Entry) → x.client ≡ Some c → x.what ≡ Begin n op → (is_by c x && is_begin n x.what) ≡ true
    mine x by is =
        ap (λ (o : Option ClientNo). is_by c (record { node = x.node; client = o; what = x.what }) && is_begin n x.what) by
        ∙ (ap (λ (t : Bool). t && is_begin n x.what) (client_same-refl c) ∙ (ap (is_begin n) is ∙ nat_eq-refl n))

    older : (BeginAt past c n op → BeginThere past c n) → (is_by c e && is_begin n e.what) ≡ false → (later : List Entry) → e ∷ past ≡ later ++ b.at.entry ∷ b.at.before → BeginThere past c n
    older rest other [] is =
        let same : e ≡ b.at.entry = cc in
        absurd (clash (is_by c e && is_begin n e.what) (mine e (ap (λ (x : Entry). x.client) same ∙ b.at.by) (ap (λ (x : Entry). x.what) same ∙ b.begins)) other)
    older rest other (x ∷ later) is =
        let split : past ≡ later ++ b.at.entry ∷ b.at.before = cc in
        rest (record { at = record { entry = b.at.entry; later = later; before = b.at.before; split = split; by = b.at.by }; begins = b.begins })

-- the operation under way was begun, and not yet answered
under_step : (what : What) (es : List Entry) (b : Begun) → (under_way es ≡ Some b → said_in b.number es ≡ Died) → under_way_after what (under_way es) ≡ Some b → said_after b.number what (said_in b.number es) ≡ Died
under_step (Begin m op) es b older is =
    let same : m ≡ b.number = ap (λ (x : Begun). x.number) (same_begun (record { number = m; op = op }) b is) in
    ap (λ (t : Bool). if t then Died else said_in b.number es) (ap (λ (k : ℕ). nat_eq k b.number) same ∙ nat_eq-refl b.number)
under_step (Answered m a) es b older is = absurd cc
under_step (Issue tid mini) es b older is = older is
under_step (Called request reply) es b older is = older is
under_step (Stopped request asked) es b older is = older is
under_step (Restarted kept) es b older is = older is
under_step (Abandoned tid) es b older is = older is

pub under_way_died : (es : List Entry) (b : Begun) → under_way es ≡ Some b → said_in b.number es ≡ Died
under_way_died [] b is = absurd cc
under_way_died (e ∷ es) b is = under_step e.what es b (under_way_died es b) is

-- an operation that its client came to has a Begin
module _ (e : Entry) (past : List Entry) (c : ClientNo) (n : ℕ) (by : is_by c e ≡ true) (before : LineAnswer) (older : IsBegun before → BeginThere past c n) where
  goes_on : (what : What) → e.what ≡ what → is_begin n what ≡ false → IsBegun before → BeginThere (e ∷ past) c n
  goes_on what is not said = begin_more e past c n (ap (λ (w : What). is_by c e && is_begin n w) is ∙ (ap (λ (b : Bool). b && is_begin n what) by ∙ not)) (older said)

  begun_step : (what : What) → e.what ≡ what → ((a : Answer) → what ≡ Answered n a → IsBegun before) → IsBegun (said_after n what before) → BeginThere (e ∷ past) c n
  begun_step (Begin m op) is ends said = elim (nat_eq m n) as (λ b. nat_eq m n ≡ b → IsBegun (if b then Died else before) → BeginThere (e ∷ past) c n) [
    | true ↦ λ same s. begin_here e past c n op by (is ∙ ap (λ (k : ℕ). Begin k op) (eqb-true m n same))
    | false ↦ λ other s. begin_more e past c n (ap (λ (w : What). is_by c e && is_begin n w) is ∙ (ap (λ (b : Bool). b && nat_eq m n) by ∙ other)) (older s)
  ] refl said
  begun_step (Answered m a) is ends said = elim (nat_eq m n) as (λ b. nat_eq m n ≡ b → IsBegun (if b then Told a else before) → BeginThere (e ∷ past) c n) [
    | true ↦ λ same s. goes_on (Answered m a) is refl (ends a (ap (λ (k : ℕ). Answered k a) (eqb-true m n same)))
    | false ↦ λ other s. goes_on (Answered m a) is refl s
  ] refl said
  begun_step (Issue tid mini) is ends said = goes_on (Issue tid mini) is refl said
  begun_step (Called request reply) is ends said = goes_on (Called request reply) is refl said
  begun_step (Stopped request asked) is ends said = goes_on (Stopped request asked) is refl said
  begun_step (Restarted kept) is ends said = goes_on (Restarted kept) is refl said
  begun_step (Abandoned tid) is ends said = goes_on (Abandoned tid) is refl said

-- behind a Begin an answer
answered_begun : (es : List Entry) (at : Option NodeNo) (c : ClientNo) (n : ℕ) (a : Answer) (what : What) → what ≡ Answered n a → ClientAllows c es at what → IsBegun (said_in n es)
answered_begun es at c n a what is allows =
    let so : (op : Op) × (under_way es ≡ Some (record { number = n; op = op })) = subst (λ (w : What). ClientAllows c es at w) is allows in
    subst IsBegun (sym (under_way_died es (record { number = n; op = so.0 }) so.1)) tt

pub begun_there : (start : Start) (past : List Entry) (c : ClientNo) (n : ℕ) → FollowsProtocol start past → IsBegun (said_by past c n) → BeginThere past c n
begun_there start [] c n run said = absurd said
begun_there start (e ∷ past) c n run said = elim (is_by c e) as (λ b. is_by c e ≡ b → Allowed c (if b then e ∷ client_entries c past else client_entries c past) → IsBegun (said_in n (if b then e ∷ client_entries c past else client_entries c past)) → BeginThere (e ∷ past) c n) [
  | true ↦ λ by allowed s.
      begun_step e past c n by (said_by past c n) (begun_there start past c n run.0) e.what refl
      (λ a is. answered_begun (client_entries c past) e.node c n a e.what is allowed.1) s
  | false ↦ λ other allowed s. begin_more e past c n (ap (λ (b : Bool). b && is_begin n e.what) other) (begun_there start past c n run.0 s)
] refl (client_allowed start (e ∷ past) c run) said

-- One operation after another

-- a Begin of a later number stands behind an answer
pub begins_behind : (start : Start) (past : List Entry) (c : ClientNo) (n m : ℕ) (answer : Answer) (op : Op) → FollowsProtocol start past → (a : AnswerAt past c n answer) (b : BeginAt past c m op) → n < m → length a.at.before < length b.at.before
begins_behind start past c n m answer op run a b less = by (ordered (length a.at.before) (length b.at.before))
  where
    not_both : (what : What) → what ≡ Answered n answer → what ≡ Begin m op → ⊥
    not_both what is w = let both : Answered n answer ≡ Begin m op = sym is ∙ w in cc

    by : (length a.at.before < length b.at.before) ⊎ ((length a.at.before ≡ length b.at.before) ⊎ (length b.at.before < length a.at.before)) → length a.at.before < length b.at.before
    by (inl lower) = lower
    by (inr (inl equal)) =
        let here : SameSplit a.at.entry b.at.entry a.at.before b.at.before = same_split a.at.later b.at.later a.at.entry b.at.entry a.at.before b.at.before (sym a.at.split ∙ b.at.split) equal in
        absurd (not_both b.at.entry.what (subst (λ (y : Entry). y.what ≡ Answered n answer) here.here a.answers) b.begins)
    by (inr (inr more)) =
        let inner = older_own past c b.at a.at more in
        let now = answered_op start past c n answer a run in
        let last : n ≡ last_number (begun_of (client_entries c a.at.before)) = numbered c (client_entries c a.at.before) (record { number = n; op = now.0 }) now.1 in
        let allowed : Allowed c (inner.between ++ b.at.entry ∷ client_entries c b.at.before) = subst (Allowed c) inner.split (allowed_at start past c a.at run).0 in
        let rise : last_number (begun_of (b.at.entry ∷ client_entries c b.at.before)) ≤ last_number (begun_of (inner.between ++ b.at.entry ∷ client_entries c b.at.before)) =
        numbers_rise c inner.between (b.at.entry ∷ client_entries c b.at.before) allowed in
        let first : last_number (begun_of (b.at.entry ∷ client_entries c b.at.before)) ≡ m = ap (λ (w : What). last_number (begun_in w ++ begun_of (client_entries c b.at.before))) b.begins in
        let whole : last_number (begun_of (client_entries c a.at.before)) ≡ last_number (begun_of (inner.between ++ b.at.entry ∷ client_entries c b.at.before)) = ap (λ (es : List Entry). last_number (begun_of es)) inner.split in
        absurd (omega (arith, less, last, rise, first, whole))

-- it was answered
pub answer_of : (said : LineAnswer) → IsAnswered said → (answer : Answer) × (said ≡ Told answer)
answer_of (Told answer) is = (answer, refl)
answer_of Died is = absurd is
answer_of Never is = absurd is

-- what is said alike, by a clock alike
pub record SaysAs (past : List Entry) (said : ClientNo → ℕ → LineAnswer) (times : Times) : Type 0 where
  pub says : (c : ClientNo) (n : ℕ) → said c n ≡ said_by past c n
  pub begun : (c : ClientNo) (n : ℕ) → times.begun c n ≡ place_by (is_begin n) c past
  pub answered : (c : ClientNo) (n : ℕ) → times.answered c n ≡ place_by (is_answer n) c past

pub says_so : (past : List Entry) → SaysAs past (said_by past) (times_by past)
says_so past = record { says = λ c n. refl; begun = λ c n. refl; answered = λ c n. refl }

pub take_turns : (start : Start) (past : List Entry) → FollowsProtocol start past → ClientsTakeTurns (said_by past) (times_by past)
take_turns start past run c n m less answered begun =
    let of = answer_of (said_by past c n) answered in
    let a = told_there past c n of.0 of.1 in
    let b = begun_there start past c m run begun in
    let lower : length a.it.at.before < length b.it.at.before = begins_behind start past c n m of.0 b.op run a.it b.it less in
    omega (arith, lower, a.place, b.place)

-- an operation that was begun is said to be
never_before : (n : ℕ) (what : What) (before : LineAnswer) → said_after n what before ≡ Never → before ≡ Never
never_before n (Begin m op) before said = elim (nat_eq m n) as (λ b. (if b then Died else before) ≡ Never → before ≡ Never) [
  | true ↦ λ s. absurd cc
  | false ↦ λ s. s
] said
never_before n (Answered m a) before said = elim (nat_eq m n) as (λ b. (if b then Told a else before) ≡ Never → before ≡ Never) [
  | true ↦ λ s. absurd cc
  | false ↦ λ s. s
] said
never_before n (Issue tid mini) before said = said
never_before n (Called request reply) before said = said
never_before n (Stopped request asked) before said = said
never_before n (Restarted kept) before said = said
never_before n (Abandoned tid) before said = said

pub not_never : (newer : List Entry) (e : Entry) (older : List Entry) (n : ℕ) (op : Op) → e.what ≡ Begin n op → said_in n (newer ++ e ∷ older) ≡ Never → ⊥
not_never [] e older n op is said =
    let died : said_in n (e ∷ older) ≡ Died = ap (λ (w : What). said_after n w (said_in n older)) is ∙ ap (λ (b : Bool). if b then Died else said_in n older) (nat_eq-refl n) in
    let both : Died ≡ Never = sym died ∙ said in cc
not_never (x ∷ newer) e older n op is said = not_never newer e older n op is (never_before n x.what (said_in n (newer ++ e ∷ older)) said)
