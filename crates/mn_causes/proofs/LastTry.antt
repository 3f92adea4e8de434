-- The last try of an operation that was busy: its entries in the log.
use Rattle.std.proofs.Common.{◌≡◌, ℕ, ◌<◌, List, [], ◌∷◌, ◌++◌, length, Option, Some, refl, sym, ap, ◌∙◌, arith}
use Rattle.std.specs.List.{flat_map}
use Rattle.std.proofs.lemmas.List.{append_assoc, append_cancel_left}
use Rattle.mn_base.specs.declared.ids.NodeNo.{NodeNo}
use Rattle.mn_base.specs.declared.ids.ClientNo.{ClientNo}
use Rattle.mn_base.specs.declared.answer.Busy.{Busy}
use Rattle.mn_base.specs.declared.answer.Answer.TheVariants.{Busy as GaveUp}
use Rattle.mn_runs.specs.declared.entry.Entry.{Entry}
use Rattle.mn_runs.specs.declared.entry.What.{What}
use Rattle.mn_runs.specs.declared.entry.What.TheVariants.{Begin, Issue, Called, Stopped, Restarted, Abandoned, Answered}
use Rattle.mn_runs.specs.Calls.{client_entries, since_begin, since_begin_after, under_way, under_way_after}
use Rattle.mn_runs.specs.Protocol.{Start}
use Rattle.mn_law.specs.Run.{IsRun}
use Rattle.mn_serial.specs.Meaning.{StandsAt, AnswersOp}
use Rattle.mn_causes.specs.Causes.{BusyTries, IsInLast}
use Rattle.mn_runs.proofs.NewCalls.{by_of}
use Rattle.mn_serial.proofs.Meaning.Splits.{shorter_by}
use Rattle.mn_serial.proofs.Meaning.Positions.{client_split, is_own}
use Rattle.mn_serial.proofs.Meaning.Answered.{ShownAnswer, shown_answer}
use Rattle.mn_serial.proofs.Meaning.Once.{answer_at}
use Rattle.mn_serial.proofs.Meaning.Exists.{SinceSplit, since_split, LiftedPart, lift_part}

-- the operation of an entry since Begin is the one under way
pub since_under : (newer : List Entry) (y : Entry) (before older : List Entry)
    → since_begin (newer ++ y ∷ before) ≡ newer ++ y ∷ older
    → under_way (newer ++ y ∷ before) ≡ under_way before
since_under [] y before older same = step y.node y.client y.what same
  where
    none : [] ≡ y ∷ older → ⊥
    none e = cc

    step : (at : Option NodeNo) (by : Option ClientNo) (what : What)
        → since_begin_after what (record { node = at; client = by; what = what }) (since_begin before) ≡ y ∷ older → under_way_after what (under_way before) ≡ under_way before
    step at by (Begin number op) e = absurd (none e)
    step at by (Answered number answer) e = absurd (none e)
    step at by (Issue tid mini) e = refl
    step at by (Called request reply) e = refl
    step at by (Stopped request asked) e = refl
    step at by (Restarted kept) e = refl
    step at by (Abandoned tid) e = refl
since_under (z ∷ newer) y before older same = step z.node z.client z.what same (since_under newer y before older)
  where
    none : [] ≡ z ∷ (newer ++ y ∷ older) → ⊥
    none e = cc

    rest : (e : Entry) → e ∷ since_begin (newer ++ y ∷ before) ≡ z ∷ (newer ++ y ∷ older)
        → since_begin (newer ++ y ∷ before) ≡ newer ++ y ∷ older
    rest e h = cc

    step : (at : Option NodeNo) (by : Option ClientNo) (what : What)
        → since_begin_after what (record { node = at; client = by; what = what }) (since_begin (newer ++ y ∷ before)) ≡ z ∷ (newer ++ y ∷ older)
        → (since_begin (newer ++ y ∷ before) ≡ newer ++ y ∷ older → under_way (newer ++ y ∷ before) ≡ under_way before) → under_way_after what (under_way (newer ++ y ∷ before)) ≡ under_way before
    step at by (Begin number op) e deeper = absurd (none e)
    step at by (Answered number answer) e deeper = absurd (none e)
    step at by (Issue tid mini) e deeper = deeper (rest (record { node = at; client = by; what = Issue tid mini }) e)
    step at by (Called request reply) e deeper = deeper (rest (record { node = at; client = by; what = Called request reply }) e)
    step at by (Stopped request asked) e deeper = deeper (rest (record { node = at; client = by; what = Stopped request asked }) e)
    step at by (Restarted kept) e deeper = deeper (rest (record { node = at; client = by; what = Restarted kept }) e)
    step at by (Abandoned tid) e deeper = deeper (rest (record { node = at; client = by; what = Abandoned tid }) e)

-- The tries of an answer

pub busy_tries : (start : Start) (past : List Entry) → IsRun start past
    → (c : ClientNo) (number place : ℕ) (busy : Busy) (e : Entry) → StandsAt past place e
    → AnswersOp e c number (GaveUp busy) → BusyTries past c number place busy
busy_tries start past run c number place busy e stands answers =
    let s : ShownAnswer past c number (GaveUp busy) (answer_at past place e c number (GaveUp busy) stands answers) =
    shown_answer start past c number (GaveUp busy) (answer_at past place e c number (GaveUp busy) stands answers) run in
    record {
      answer = e;
      later = stands.0;
      before = stands.1;
      split = stands.2;
      is_place = stands.3;
      answers = answers;
      op = s.op;
      of = s.now;
      failed = s.shows.1;
    }

-- the tries before the last one
abbrev pub tries_before : {past : List Entry} {c : ClientNo} {number place : ℕ} {busy : Busy}
    → BusyTries past c number place busy → List Entry
tries_before t = flat_map (λ try. try) t.failed.middle ++ (t.failed.first ++ t.failed.taken)

assoc_four : (a b m f t : List Entry) → a ++ b ++ m ++ f ++ t ≡ a ++ (b ++ (m ++ (f ++ t)))
assoc_four a b m f t = append_assoc (a ++ b ++ m) f t ∙ (append_assoc (a ++ b) m (f ++ t) ∙ append_assoc a b (m ++ (f ++ t)))

pub since_whole : {past : List Entry} {c : ClientNo} {number place : ℕ} {busy : Busy} (t : BusyTries past c number place busy) (newer : List Entry) (y : Entry) (older : List Entry)
    → t.failed.last ≡ newer ++ y ∷ older
    → since_begin (client_entries c t.before) ≡ (t.failed.rest ++ newer) ++ y ∷ (older ++ tries_before t)
since_whole t newer y older is =
    t.failed.split ∙ (assoc_four t.failed.rest t.failed.last (flat_map (λ try. try) t.failed.middle) t.failed.first t.failed.taken
    ∙ (ap (λ (l : List Entry). t.failed.rest ++ (l ++ tries_before t)) is
    ∙ (ap (λ (l : List Entry). t.failed.rest ++ l) (append_assoc newer (y ∷ older) (tries_before t)) ∙ sym (append_assoc t.failed.rest newer (y ∷ (older ++ tries_before t))))))

-- an entry of the last try in the log, with the newer and the older ones of the try
pub record InLast {past : List Entry} {c : ClientNo} {number place : ℕ} {busy : Busy} (t : BusyTries past c number place busy) (newer : List Entry) (y : Entry) (older : List Entry)
    : Type 0 where
  pub later : List Entry
  pub before : List Entry
  pub split : t.before ≡ later ++ y ∷ before
  pub client : y.client ≡ Some c
  pub in_try : t.failed.last ≡ newer ++ y ∷ older
  pub behind : client_entries c later ≡ t.failed.rest ++ newer
  pub since : since_begin (client_entries c before) ≡ older ++ tries_before t
  pub of : under_way (client_entries c before) ≡ Some (record { number = number; op = t.op })

pub in_last : {past : List Entry} {c : ClientNo} {number place : ℕ} {busy : Busy} (t : BusyTries past c number place busy) (newer : List Entry) (y : Entry) (older : List Entry)
    → t.failed.last ≡ newer ++ y ∷ older → InLast t newer y older
in_last {past} {c} {number} {place} {busy} t newer y older is = record {
  later = l.later;
  before = l.before;
  split = l.split;
  client = by_of c y.client y.node y.what l.by;
  in_try = is;
  behind = l.own;
  since = ap since_begin l.list ∙ sym s.rest;
  of = ap under_way l.list ∙ (sym (since_under (t.failed.rest ++ newer) y s.before (older ++ tries_before t) (ap since_begin (sym s.split) ∙ whole)) ∙ (ap under_way (sym s.split) ∙ t.of));
}
  where
    whole : since_begin (client_entries c t.before) ≡ (t.failed.rest ++ newer) ++ y ∷ (older ++ tries_before t)
    whole = since_whole t newer y older is

    s : SinceSplit (client_entries c t.before) (t.failed.rest ++ newer) y (older ++ tries_before t)
    s = since_split (client_entries c t.before) (t.failed.rest ++ newer) y (older ++ tries_before t) whole

    l : LiftedPart c t.before (t.failed.rest ++ newer) y s.before
    l = lift_part c t.before (t.failed.rest ++ newer) y s.before s.split

-- an older entry of the try, with the log between the two
pub record Deeper {past : List Entry} {c : ClientNo} {number place : ℕ} {busy : Busy} (t : BusyTries past c number place busy) (newer : List Entry) (y : Entry) (older : List Entry)
    (i : InLast t newer y older) (next : List Entry) (z : Entry) (oldest : List Entry) : Type 0 where
  pub between : List Entry
  pub is : InLast t (newer ++ y ∷ next) z oldest
  pub split : i.before ≡ between ++ z ∷ is.before
  pub own : client_entries c between ≡ next

pub deeper : {past : List Entry} {c : ClientNo} {number place : ℕ} {busy : Busy} (t : BusyTries past c number place busy) (newer : List Entry) (y : Entry) (older : List Entry)
    (i : InLast t newer y older) (next : List Entry) (z : Entry) (oldest : List Entry)
    → older ≡ next ++ z ∷ oldest → Deeper t newer y older i next z oldest
deeper {past} {c} {number} {place} {busy} t newer y older i next z oldest is = record {
  between = l.later;
  is = record {
    later = i.later ++ y ∷ l.later;
    before = l.before;
    split = i.split ∙ (ap (λ (es : List Entry). i.later ++ y ∷ es) l.split ∙ sym (append_assoc i.later (y ∷ l.later) (z ∷ l.before)));
    client = by_of c z.client z.node z.what l.by;
    in_try = i.in_try ∙ (ap (λ (es : List Entry). newer ++ y ∷ es) is ∙ sym (append_assoc newer (y ∷ next) (z ∷ oldest)));
    behind = client_split c (i.later ++ y ∷ l.later) i.later y l.later refl (is_own c y i.client) ∙ ((λ j. i.behind j ++ y ∷ l.own j) ∙ append_assoc t.failed.rest newer (y ∷ next));
    since = ap since_begin l.list ∙ sym s.rest;
    of = ap under_way l.list ∙ (sym (since_under next z s.before (oldest ++ tries_before t) (ap since_begin (sym s.split) ∙ whole)) ∙ (ap under_way (sym s.split) ∙ i.of));
  };
  split = l.split;
  own = l.own;
}
  where
    whole : since_begin (client_entries c i.before) ≡ next ++ z ∷ (oldest ++ tries_before t)
    whole = i.since ∙ (ap (λ (l : List Entry). l ++ tries_before t) is ∙ append_assoc next (z ∷ oldest) (tries_before t))

    s : SinceSplit (client_entries c i.before) next z (oldest ++ tries_before t)
    s = since_split (client_entries c i.before) next z (oldest ++ tries_before t) whole

    l : LiftedPart c i.before next z s.before
    l = lift_part c i.before next z s.before s.split

-- as the definition has it
abbrev pub as_in_last : {past : List Entry} {c : ClientNo} {number place : ℕ} {busy : Busy} (t : BusyTries past c number place busy) (newer : List Entry) (y : Entry) (older : List Entry)
    (i : InLast t newer y older) → IsInLast t (length i.before) y
as_in_last t newer y older i = record {
  later = i.later;
  before = i.before;
  split = i.split;
  is_place = refl;
  client = i.client;
  newer = newer;
  older = older;
  in_try = i.in_try;
  behind = i.behind;
  of = i.of;
}

pub since_is : {past : List Entry} {c : ClientNo} {number place at : ℕ} {busy : Busy} {y : Entry} (t : BusyTries past c number place busy) (i : IsInLast t at y)
    → since_begin (client_entries c i.before) ≡ i.older ++ tries_before t
since_is {past} {c} {number} {place} {at} {busy} {y} t i = ap since_begin same ∙ sym s.rest
  where
    list : client_entries c t.before ≡ (t.failed.rest ++ i.newer) ++ y ∷ client_entries c i.before
    list = client_split c t.before i.later y i.before i.split (is_own c y i.client) ∙ ap (λ (l : List Entry). l ++ y ∷ client_entries c i.before) i.behind

    s : SinceSplit (client_entries c t.before) (t.failed.rest ++ i.newer) y (i.older ++ tries_before t)
    s = since_split (client_entries c t.before) (t.failed.rest ++ i.newer) y (i.older ++ tries_before t) (since_whole t i.newer y i.older i.in_try)

    tails : (x z : Entry) (xs zs : List Entry) → x ∷ xs ≡ z ∷ zs → xs ≡ zs
    tails x z xs zs e = cc

    same : client_entries c i.before ≡ s.before
    same = tails y y (client_entries c i.before) s.before (append_cancel_left (t.failed.rest ++ i.newer) (y ∷ client_entries c i.before) (y ∷ s.before) (sym list ∙ s.split))

abbrev pub from_is : {past : List Entry} {c : ClientNo} {number place at : ℕ} {busy : Busy} {y : Entry} (t : BusyTries past c number place busy) (i : IsInLast t at y) → InLast t i.newer y i.older
from_is t i = record {
  later = i.later;
  before = i.before;
  split = i.split;
  client = i.client;
  in_try = i.in_try;
  behind = i.behind;
  since = since_is t i;
  of = i.of;
}

-- In the log

pub in_log : {past : List Entry} {c : ClientNo} {number place at : ℕ} {busy : Busy} {y : Entry} (t : BusyTries past c number place busy) (i : IsInLast t at y)
    → past ≡ (t.later ++ (t.answer ∷ i.later)) ++ y ∷ i.before
in_log {y = y} t i = t.split ∙ (ap (λ (es : List Entry). t.later ++ t.answer ∷ es) i.split ∙ sym (append_assoc t.later (t.answer ∷ i.later) (y ∷ i.before)))

pub before_answer : {past : List Entry} {c : ClientNo} {number place at : ℕ} {busy : Busy} {y : Entry} (t : BusyTries past c number place busy) (i : IsInLast t at y) → at < place
before_answer {y = y} t i =
    let less = shorter_by t.before i.later y i.before i.split in
    let one = i.is_place in
    let other = t.is_place in
    omega arith
