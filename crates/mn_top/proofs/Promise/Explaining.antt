-- The history of a run explains what its log says of the script's operations.
use Rattle.std.proofs.Common.{◌≡◌, ℕ, zero, suc, ◌+◌, ◌<◌, ◌≤◌, Bool, true, false, List, [], ◌∷◌, ◌++◌, length, map, take, reverse, Option, Some, refl, subst, sym, ap, ◌∙◌, arith, ◌&&◌, ◌||◌, nat_eq, Contains, ltb, ltb-true, ltb-false}
use Rattle.std.specs.Prelude.{slice_get}
use Rattle.std.specs.List.{AllByRecursion}
use Rattle.std.proofs.lemmas.Bool.{eqb-true}
use Rattle.std.proofs.lemmas.List.{append_assoc, length-reverse, reverse-append}
use Rattle.mn_base.proofs.Booleans.{both_parts, falsely}
use Rattle.mn_base.proofs.Lists.{before_last, last_at, weaker}
use Rattle.mn_base.specs.Ids.{client_same}
use Rattle.mn_base.specs.Store.{Store}
use Rattle.mn_base.specs.declared.answer.Answer.{Answer}
use Rattle.mn_base.specs.declared.answer.Answer.TheVariants.{Replied, Busy, Down, InDoubt, Full, Worn, NoMemory}
use Rattle.mn_base.specs.declared.history.Past.{Past}
use Rattle.mn_base.specs.declared.ids.ClientNo.{ClientNo}
use Rattle.mn_base.specs.declared.ids.NodeNo.{NodeNo}
use Rattle.mn_base.specs.declared.op.Op.{Op}
use Rattle.mn_base.specs.declared.reply.Reply.{Reply}
use Rattle.mn_callers.specs.Acts.{ops_by}
use Rattle.mn_callers.specs.Trace.{BeginsInOrder}
use Rattle.mn_hist.specs.Audit.{said_by, said_in}
use Rattle.mn_promise.specs.Promise.{AreOnce, Asks, Explains, HasReply, IsReplied, KeepsRealTime, Said, Times, has_no_effect, stands_in}
use Rattle.mn_report.specs.declared.lines.LineAnswer.{LineAnswer}
use Rattle.mn_report.specs.declared.lines.LineAnswer.TheVariants.{Answered as Told, Died, Never}
use Rattle.mn_runs.proofs.Same.{client_same-true}
use Rattle.mn_runs.specs.declared.entry.Entry.{Entry}
use Rattle.mn_runs.specs.declared.entry.What.{What}
use Rattle.mn_runs.specs.declared.entry.What.TheVariants.{Begin, Issue, Called, Stopped, Restarted, Abandoned, Answered}
use Rattle.mn_runs.specs.Calls.{Begun, begun_in, begun_of, client_entries}
use Rattle.mn_runs.specs.Clients.{ClientAllows, last_number}
use Rattle.mn_runs.specs.Protocol.{FollowsProtocol, Start}
use Rattle.mn_script.specs.Script.{Script}
use Rattle.mn_serial.proofs.Meaning.Clients.{Allowed, client_allowed}
use Rattle.mn_serial.proofs.Meaning.Positions.{BeginAt, client_split, is_own}
use Rattle.mn_serial.proofs.Meaning.Stands.{contains_here, contains_more}
use Rattle.mn_serial.specs.History.{Placed, pasts_of}
use Rattle.mn_serial.specs.Meaning.{MeansNoEffect}
use Rattle.mn_serial.specs.Meaning as meaning
use Rattle.mn_serial.specs.OneHistory.{Ascend, IsOneHistory, LiesBetween, StandsNowhere, WasAnswered}
use Rattle.mn_top.proofs.Promise.Sayings.{AnswerThere, SaysAs, not_never, some_begin, told_there}

-- Operations that were begun, by number

-- the numbers count from 1
abbrev pub AreNumbered : List Begun → Type 0
AreNumbered [] = Unit {0}
AreNumbered (b ∷ bs) = (b.number ≡ length bs + 1) × AreNumbered bs

pub last_is : (bs : List Begun) → AreNumbered bs → last_number bs ≡ length bs
last_is [] are = refl
last_is (b ∷ bs) are = let is = are.0 in omega (arith, is)

numbered_step : (c : ClientNo) (what : What) (es : List Entry) (at : Option NodeNo) → ClientAllows c es at what → AreNumbered (begun_of es) → AreNumbered (begun_in what ++ begun_of es)
numbered_step c (Begin number op) es at a are = (let next = a.1 in let last = last_is (begun_of es) are in omega (arith, next, last), are)
numbered_step c (Answered number answer) es at a are = are
numbered_step c (Issue tid mini) es at a are = are
numbered_step c (Called request reply) es at a are = are
numbered_step c (Stopped request asked) es at a are = are
numbered_step c (Restarted kept) es at a are = are
numbered_step c (Abandoned tid) es at a are = are

pub numbered_all : (c : ClientNo) (es : List Entry) → Allowed c es → AreNumbered (begun_of es)
numbered_all c [] a = tt
numbered_all c (e ∷ es) a = numbered_step c e.what es e.node a.1 (numbered_all c es a.0)

-- a place of a list that is turned round
turned_at : (bs : List Begun) (b : Begun) → AreNumbered bs → (newer older : List Begun) → bs ≡ newer ++ b ∷ older → (b.number ≡ length older + 1) × (slice_get (reverse bs) (length older) ≡ Some b)
turned_at bs b are [] older is = (
  (subst AreNumbered is are).0,
  ap (λ (l : List Begun). slice_get (reverse l) (length older)) is ∙ (ap (λ (l : List Begun). slice_get l (length older)) (reverse-append (b ∷ []) older)
      ∙ (ap (slice_get (reverse older ++ b ∷ [])) (sym (length-reverse older)) ∙ last_at (reverse older) b)),
)
turned_at bs b are (x ∷ newer) older is =
    let rest : List Begun = newer ++ b ∷ older in
    let one = turned_at rest b (subst AreNumbered is are).1 newer older refl in
    let low : length older < length rest = longer newer in (
      one.0,
      ap (λ (l : List Begun). slice_get (reverse l) (length older)) is
          ∙ (ap (λ (l : List Begun). slice_get l (length older)) (reverse-append (x ∷ []) rest)
          ∙ (before_last (reverse rest) (x ∷ []) (length older) (subst (λ (k : ℕ). length older < k) (sym (length-reverse rest)) low) ∙ one.1)),
    )
  where
    longer : (newer : List Begun) → length older < length (newer ++ b ∷ older)
    longer [] = omega arith
    longer (y ∷ newer) = let more = longer newer in omega (arith, more)

taken_at : {X : Type 0} (xs : List X) (k i : ℕ) (x : X) → slice_get (take k xs) i ≡ Some x → slice_get xs i ≡ Some x
taken_at [] zero i x is = absurd cc
taken_at [] (suc k) i x is = absurd cc
taken_at (y ∷ xs) zero i x is = absurd cc
taken_at (y ∷ xs) (suc k) zero x is = is
taken_at (y ∷ xs) (suc k) (suc i) x is = taken_at xs k i x is

mapped_at : {X Y : Type 0} (f : X → Y) (xs : List X) (i : ℕ) (x : X) → slice_get xs i ≡ Some x → slice_get (map f xs) i ≡ Some (f x)
mapped_at f [] i x is = absurd cc
mapped_at f (y ∷ xs) zero x is = let same : y ≡ x = cc in ap (λ z. Some (f z)) same
mapped_at f (y ∷ xs) (suc i) x is = mapped_at f xs i x is

begun_split : (newer : List Entry) (e : Entry) (older : List Entry) (b : Begun) → begun_in e.what ≡ b ∷ [] → (front : List Begun) × (begun_of (newer ++ e ∷ older) ≡ front ++ b ∷ begun_of older)
begun_split [] e older b is = ([], ap (λ (l : List Begun). l ++ begun_of older) is)
begun_split (x ∷ newer) e older b is = let rest = begun_split newer e older b is in (begun_in x.what ++ rest.0, ap (λ (l : List Begun). begun_in x.what ++ l) rest.1 ∙ sym (append_assoc (begun_in x.what) rest.0 (b ∷ begun_of older)))

-- an operation that was begun is the one that the client has there
pub begun_as_asked : (start : Start) (script : Script) (past : List Entry) → FollowsProtocol start past → BeginsInOrder script past → (c : ClientNo) (n : ℕ) (op : Op) → BeginAt past c n op → Asks script c n op
begun_as_asked start script past run order c n op at =
    let es : List Entry = client_entries c past in
    let whole = client_split c past at.at.later at.at.entry at.at.before at.at.split (is_own c at.at.entry at.at.by) in
    let b : Begun = record { number = n; op = op } in
    let split = begun_split (client_entries c at.at.later) at.at.entry (client_entries c at.at.before) b (ap begun_in at.begins) in
    let all : begun_of es ≡ split.0 ++ b ∷ begun_of (client_entries c at.at.before) = ap begun_of whole ∙ split.1 in
    let there = turned_at (begun_of es) b (numbered_all c es (client_allowed start past c run)) split.0 (begun_of (client_entries c at.at.before)) all in
    let k : ℕ = length (begun_of (client_entries c at.at.before)) in (
      k,
      there.0,
      taken_at (ops_by script.clients c) (length (begun_of es)) k op
          (ap (λ (l : List Op). slice_get l k) (sym (order c)) ∙ mapped_at (λ (x : Begun). x.op) (reverse (begun_of es)) k b there.1),
    )

-- Lists of operations with their places

abbrev past_of : Placed → Past
past_of p = p.past

all_mapped : {X Y : Type 0} (P : Y → Type 0) (f : X → Y) (xs : List X) → AllByRecursion (λ x. P (f x)) xs → AllByRecursion P (map f xs)
all_mapped P f [] all = tt
all_mapped P f (x ∷ xs) all = (all.0, all_mapped P f xs all.1)

once_mapped : (placed : List Placed) → meaning.AreOnce placed → AreOnce (pasts_of placed)
once_mapped [] once = tt
once_mapped (p ∷ placed) once = (all_mapped (λ (q : Past). q.client ≡ p.past.client → q.number ≡ p.past.number → ⊥) past_of placed once.0, once_mapped placed once.1)

there_mapped : {X Y : Type 0} (f : X → Y) (xs : List X) (x : X) → Contains xs x → Contains (map f xs) (f x)
there_mapped f [] x there = absurd (let low = there.1 in omega (arith, low))
there_mapped f (y ∷ xs) x (zero, in', is) = (0, omega arith, ap f is)
there_mapped f (y ∷ xs) x (suc k, in', is) = contains_more (f y) (map f xs) (f x) (there_mapped f xs x (k, omega (arith, in'), is))

-- an operation that stands nowhere
none_stands : (placed : List Placed) (c : ClientNo) (n : ℕ) → StandsNowhere placed c n → stands_in (pasts_of placed) c n ≡ false
none_stands [] c n none = refl
none_stands (p ∷ placed) c n none =
    ap (λ (b : Bool). b || stands_in (pasts_of placed) c n) (falsely (client_same p.past.client c && nat_eq p.past.number n) (λ both.
    let parts = both_parts (client_same p.past.client c) (nat_eq p.past.number n) both in none.0 (client_same-true p.past.client c parts.0) (eqb-true p.past.number n parts.1)))
    ∙ none_stands placed c n none.1

-- What is said

no_effect : (answer : Answer) → has_no_effect (Told answer) ≡ true → MeansNoEffect answer
no_effect (Replied reply) e = absurd cc
no_effect (Busy cause) e = tt
no_effect (Down node) e = tt
no_effect (InDoubt tid n) e = absurd cc
no_effect (Full need free) e = tt
no_effect (Worn node start) e = tt
no_effect NoMemory e = tt

told_reply : (said : LineAnswer) (reply : Reply) → HasReply said reply → said ≡ Told (Replied reply)
told_reply (Told (Replied r)) reply is = ap (λ (x : Reply). Told (Replied x)) is
told_reply (Told (Busy cause)) reply is = absurd is
told_reply (Told (Down node)) reply is = absurd is
told_reply (Told (InDoubt tid n)) reply is = absurd is
told_reply (Told (Full need free)) reply is = absurd is
told_reply (Told (Worn node start)) reply is = absurd is
told_reply (Told NoMemory) reply is = absurd is
told_reply Died reply is = absurd is
told_reply Never reply is = absurd is

some_reply : (said : LineAnswer) → IsReplied said → (reply : Reply) × (said ≡ Told (Replied reply))
some_reply (Told (Replied r)) is = (r, refl)
some_reply (Told (Busy cause)) is = absurd is
some_reply (Told (Down node)) is = absurd is
some_reply (Told (InDoubt tid n)) is = absurd is
some_reply (Told (Full need free)) is = absurd is
some_reply (Told (Worn node start)) is = absurd is
some_reply (Told NoMemory) is = absurd is
some_reply Died is = absurd is
some_reply Never is = absurd is

module _ (start : Start) (store : Store) (script : Script) (past : List Entry) (placed : List Placed) (run : FollowsProtocol start past) (order : BeginsInOrder script past) (one : IsOneHistory start store past placed)
    (said : Said) (times : Times) (so : SaysAs past said times) where
  -- the Begin of an operation of the history
  begin_of : (p : Placed) → LiesBetween past p → BeginAt past p.past.client p.past.number p.past.op
  begin_of p lies = record {
    at = record { entry = lies.entry; later = lies.stands.0; before = lies.stands.1; split = lies.stands.2; by = lies.begins.0 };
    begins = lies.begins.1;
  }

  asked : AllByRecursion (λ p. Asks script p.client p.number p.op) (pasts_of placed)
  asked =
      all_mapped (λ (p : Past). Asks script p.client p.number p.op) past_of placed
      (weaker (LiesBetween past) (λ p. Asks script p.past.client p.past.number p.past.op) (λ p lies. begun_as_asked start script past run order p.past.client p.past.number p.past.op (begin_of p lies)) placed one.between)

  was_answered : (c : ClientNo) (n : ℕ) (answer : Answer) → AnswerThere past c n answer → WasAnswered past c n answer
  was_answered c n answer there = (length there.it.at.before, there.it.at.entry, (there.it.at.later, there.it.at.before, there.it.at.split, refl), (there.it.at.by, there.it.answers))

  replied : (c : ClientNo) (n : ℕ) (reply : Reply) → HasReply (said c n) reply → (p : Past) × Contains (pasts_of placed) p × (p.client ≡ c) × (p.number ≡ n) × (p.reply ≡ reply)
  replied c n reply has =
      let is : said_by past c n ≡ Told (Replied reply) = sym (so.says c n) ∙ told_reply (said c n) reply has in
      let stands = one.replied c n reply (was_answered c n (Replied reply) (told_there past c n (Replied reply) is)) in
      (stands.0.past, there_mapped past_of placed stands.0 stands.1, stands.2.0, stands.2.1, stands.3)

  -- what was never begun stands nowhere
  never_stands : (c : ClientNo) (n : ℕ) → said_by past c n ≡ Never → StandsNowhere placed c n
  never_stands c n never = weaker (LiesBetween past) (λ p. p.past.client ≡ c → p.past.number ≡ n → ⊥) none placed one.between
    where
      of : (d : ClientNo) (m : ℕ) (op : Op) → BeginAt past d m op → said_by past d m ≡ Never → ⊥
      of d m op at is =
          not_never (client_entries d at.at.later) at.at.entry (client_entries d at.at.before) m op at.begins
          (sym (ap (said_in m) (client_split d past at.at.later at.at.entry at.at.before at.at.split (is_own d at.at.entry at.at.by))) ∙ is)

      none : (p : Placed) → LiesBetween past p → p.past.client ≡ c → p.past.number ≡ n → ⊥
      none p lies same number = of p.past.client p.past.number p.past.op (begin_of p lies) (ap (λ (d : ClientNo). said_by past d p.past.number) same ∙ (ap (said_by past c) number ∙ never))

  others : (c : ClientNo) (n : ℕ) → has_no_effect (said c n) ≡ true → stands_in (pasts_of placed) c n ≡ false
  others c n none = none_stands placed c n (by (said_by past c n) refl (ap has_no_effect (sym (so.says c n)) ∙ none))
    where
      by : (l : LineAnswer) → said_by past c n ≡ l → has_no_effect l ≡ true → StandsNowhere placed c n
      by (Told answer) is e = (one.others c n answer (was_answered c n answer (told_there past c n answer is)) (no_effect answer e)).0
      by Died is e = absurd cc
      by Never is e = never_stands c n is

  -- Real time

  -- one whose Begin stands behind the answer of another has the higher place
  in_time : (q p : Placed) → Contains placed p → Contains placed q → LiesBetween past q → q.place < p.place → IsReplied (said p.past.client p.past.number) → times.begun q.past.client q.past.number ≤ times.answered p.past.client p.past.number
  in_time q p has_p has_q lies below is =
      let reply = some_reply (said p.past.client p.past.number) is in
      let a = told_there past p.past.client p.past.number (Replied reply.0) (sym (so.says p.past.client p.past.number) ∙ reply.1) in
      let b = some_begin past q.past.client q.past.number q.past.op (begin_of q lies) in
      let answered = so.answered p.past.client p.past.number in
      let begun = so.begun q.past.client q.past.number in
      elim (ltb (length a.it.at.before) (length b.it.at.before)) as (λ t. ltb (length a.it.at.before) (length b.it.at.before) ≡ t → times.begun q.past.client q.past.number ≤ times.answered p.past.client p.past.number) [
        | true ↦ λ less.
            let lower = ltb-true (length a.it.at.before) (length b.it.at.before) less in
            let wrong : p.place < q.place =
            one.after_seen p q (length a.it.at.before) (length b.it.at.before) a.it.at.entry b.it.at.entry reply.0 b.op has_p has_q (a.it.at.later, a.it.at.before, a.it.at.split, refl) (a.it.at.by, a.it.answers)
            (b.it.at.later, b.it.at.before, b.it.at.split, refl) (b.it.at.by, b.it.begins) lower in
            absurd (omega (arith, wrong, below))
        | false ↦ λ more.
            let upper : length b.it.at.before ≤ length a.it.at.before = ltb-false (length a.it.at.before) (length b.it.at.before) more in
            let pa = a.place in let pb = b.place in
            omega (arith, upper, pa, pb, answered, begun)
      ] refl

  all_in_time : (q : Placed) → Contains placed q → LiesBetween past q → (ps : List Placed) → ((p : Placed) → Contains ps p → Contains placed p) → AllByRecursion (λ p. q.place < p.place) ps
      → AllByRecursion (λ p. IsReplied (said p.client p.number) → times.begun q.past.client q.past.number ≤ times.answered p.client p.number) (pasts_of ps)
  all_in_time q has lies [] within above = tt
  all_in_time q has lies (p ∷ ps) within above = (
    in_time q p (within p (contains_here p ps)) has lies above.0,
    all_in_time q has lies ps (λ x there. within x (contains_more p ps x there)) above.1,
  )

  real_time : (ps : List Placed) → ((p : Placed) → Contains ps p → Contains placed p) → Ascend ps → AllByRecursion (LiesBetween past) ps → KeepsRealTime said times (pasts_of ps)
  real_time [] within ascend lie = tt
  real_time (q ∷ ps) within ascend lie =
      let rest : (p : Placed) → Contains ps p → Contains placed p = λ x there. within x (contains_more q ps x there) in (
        all_in_time q (within q (contains_here q ps)) lie.0 ps rest ascend.0,
        real_time ps rest ascend.1 lie.1,
      )

  pub explained : Explains script store said times (pasts_of placed)
  explained = record {
    asked = asked;
    once = once_mapped placed one.once;
    legal = one.legal;
    replied = replied;
    others = others;
    real_time = real_time placed (λ p there. there) one.ascending one.between;
    frozen = one.frozen;
  }
