-- An answer puts an operation into the history, at the place of a read.
use Rattle.std.proofs.Common.{◌≡◌, ℕ, zero, suc, ◌<◌, ◌≤◌, Bool, true, false, ◌&&◌, ◌||◌, List, [], ◌∷◌, ◌++◌, length, map, Option, Some, None, refl, subst, sym, ap, ◌∙◌, arith, if◌then◌else◌}
use Rattle.std.specs.Prelude.{nat_eq, nat_lt, slice_get, slice_index_or, take, insert, MatchBool, Result, Ok, Err, OnErr, OnOk}
use Rattle.std.specs.List.{AllByRecursion}
use Rattle.mn_base.specs.declared.error.NoMemory.{NoMemory}
use Rattle.std.proofs.lemmas.Option.{same_Some}
use Rattle.mn_base.specs.Ids.{client_same}
use Rattle.mn_base.specs.declared.answer.Answer.{Answer}
use Rattle.mn_base.specs.declared.answer.Answer.TheVariants.{Replied}
use Rattle.mn_base.specs.declared.ids.ClientNo.{ClientNo}
use Rattle.mn_base.specs.declared.reply.Reply.{Reply}
use Rattle.mn_base.proofs.Naturals.{lt_true}
use Rattle.mn_runs.specs.declared.entry.Entry.{Entry}
use Rattle.mn_runs.specs.Calls.{Begun, client_entries, under_way}
use Rattle.mn_serial.specs.History.{Placed, ReadPlace, placed_in, has_past, AnswerPuts}
use Rattle.mn_serial.specs.OneHistory.{Ascend}
use Rattle.mn_hist.specs.declared.acts.PlacedAct.{PlacedAct}
use Rattle.mn_hist.specs.History.{placed_act, caller_state, AreActsOf, HasNoPlace, IsNotedPlace, IsPutInto, IsIndexIn, NoneStandsAt, StandsInSet, AnswerIsInHistory, AnswerHasPlace, stands}
use Rattle.mn_hist.proofs.Noted.{begun_is, no_place, noted_place}
use Rattle.mn_hist.proofs.Planning.{or_swap}

-- Where it is put in

lt_false : (a b : ℕ) → b < a → nat_lt a b ≡ false
lt_false a b lt = grind (arith)

above_at : (m : ℕ) (placed : List Placed) (i : ℕ) (x : PlacedAct) → AllByRecursion (λ (q : Placed). m < q.place) placed → i < length (map placed_act placed) → x ≡ slice_index_or (map placed_act placed) i x → m < x.place
above_at m [] i x all lt is = absurd (omega (arith, lt))
above_at m (q ∷ qs) zero x all lt is =
    let here : x.place ≡ q.place = ap (λ (y : PlacedAct). y.place) is in
    let high : m < q.place = all.0 in omega (arith, here, high)
above_at m (q ∷ qs) (suc i) x all lt is = above_at m qs i x all.1 (omega (arith, lt)) is

lower : (placed : List Placed) (i : ℕ) (x : PlacedAct) (n : ℕ) → Ascend placed → i < length (map placed_act placed) → x ≡ slice_index_or (map placed_act placed) i x → x.place < n
    → AllByRecursion (λ (a : PlacedAct). a.place < n) (take (suc i) (map placed_act placed))
lower [] i x n up lt is less = absurd (omega (arith, lt))
lower (q ∷ qs) zero x n up lt is less =
    let here : x.place ≡ q.place = ap (λ (y : PlacedAct). y.place) is in
    (omega (arith, here, less), tt)
lower (q ∷ qs) (suc i) x n up lt is less =
    let low : q.place < x.place = above_at q.place qs i x up.0 (omega (arith, lt)) is in
    (omega (arith, low, less), lower qs i x n up.1 (omega (arith, lt)) is less)

-- those up to one of a lower place have lower ones
pub lower_ones : (acts : List PlacedAct) (placed : List Placed) (i : ℕ) (x : PlacedAct) (n : ℕ) → Ascend placed → AreActsOf acts placed → i < length acts → x ≡ slice_index_or acts i x → x.place < n
    → AllByRecursion (λ (a : PlacedAct). a.place < n) (take (suc i) acts)
lower_ones acts placed i x n up are lt is less =
    subst (λ (l : List PlacedAct). AllByRecursion (λ (a : PlacedAct). a.place < n) (take (suc i) l)) (sym are)
    (lower placed i x n up (subst (λ (l : List PlacedAct). i < length l) are lt) (subst (λ (l : List PlacedAct). x ≡ slice_index_or l i x) are is) less)

free : (placed : List Placed) (i : ℕ) (x : PlacedAct) (n : ℕ) → NoneStandsAt n placed → i < length (map placed_act placed) → x ≡ slice_index_or (map placed_act placed) i x → x.place ≡ n → ⊥
free [] i x n none lt is same = absurd (omega (arith, lt))
free (q ∷ qs) zero x n none lt is same = none.0 (sym (ap (λ (y : PlacedAct). y.place) is) ∙ same)
free (q ∷ qs) (suc i) x n none lt is same = free qs i x n none.1 (omega (arith, lt)) is same

-- one that doesn't stand higher stands lower
pub below_free : (acts : List PlacedAct) (placed : List Placed) (i : ℕ) (x : PlacedAct) (n : ℕ) → AreActsOf acts placed → NoneStandsAt n placed → i < length acts → x ≡ slice_index_or acts i x → x.place ≤ n → x.place < n
below_free acts placed i x n are none lt is le =
    lower' x.place n le (free placed i x n none (subst (λ (l : List PlacedAct). i < length l) are lt) (subst (λ (l : List PlacedAct). x ≡ slice_index_or l i x) are is))
  where
    lower' : (a b : ℕ) → a ≤ b → (a ≡ b → ⊥) → a < b
    lower' a b le other = by (nat_lt a b) refl
      where
        by : (t : Bool) → nat_lt a b ≡ t → a < b
        by true is = grind (arith)
        by false is = absurd (other (grind (arith)))

has_it : (P : Placed → Type 0) (p : Placed) (placed : List Placed) → AllByRecursion P (placed_in p placed) → P p
has_it P p [] all = all.0
has_it P p (q ∷ qs) all = by (nat_lt p.place q.place) all (has_it P p qs)
  where
    by : (b : Bool) → AllByRecursion P (if b then p ∷ q ∷ qs else q ∷ placed_in p qs) → (AllByRecursion P (placed_in p qs) → P p) → P p
    by true all rest = all.0
    by false all rest = rest all.1

above_all : (m : ℕ) (placed : List Placed) → AllByRecursion (λ (q : Placed). m < q.place) placed → NoneStandsAt m placed
above_all m [] all = tt
above_all m (q ∷ qs) all = (λ same. let high : m < q.place = all.0 in absurd (omega (arith, high, same)), above_all m qs all.1)

-- where all are in order with it, none stands at its place
pub none_stands : (p : Placed) (placed : List Placed) → Ascend (placed_in p placed) → NoneStandsAt p.place placed
none_stands p [] up = tt
none_stands p (q ∷ qs) up = by (nat_lt p.place q.place) up (none_stands p qs)
  where
    by : (b : Bool) → Ascend (if b then p ∷ q ∷ qs else q ∷ placed_in p qs) → (Ascend (placed_in p qs) → NoneStandsAt p.place qs) → NoneStandsAt p.place (q ∷ qs)
    by true up rest = above_all p.place (q ∷ qs) up.0
    by false up rest =
        let low : q.place < p.place = has_it (λ (r : Placed). q.place < r.place) p qs up.0 in
        (λ same. absurd (omega (arith, low, same)), rest up.1)

put_acts : (p : Placed) (placed : List Placed) (at : ℕ) → IsIndexIn (map placed_act placed) p.place at → insert (map placed_act placed) at (placed_act p) ≡ map placed_act (placed_in p placed)
put_acts p [] zero index = refl
put_acts p [] (suc at) index = refl
put_acts p (q ∷ qs) zero index = ap (λ t. map placed_act (if t then p ∷ q ∷ qs else q ∷ placed_in p qs)) (sym (lt_true p.place q.place index.1.0))
put_acts p (q ∷ qs) (suc at) index =
    ap (λ l. placed_act q ∷ l) (put_acts p qs at (index.0.1, index.1))
    ∙ ap (λ t. map placed_act (if t then p ∷ q ∷ qs else q ∷ placed_in p qs)) (sym (lt_false p.place q.place index.0.0))

pub acts_more : (old new : List PlacedAct) (placed : List Placed) (p : Placed) → AreActsOf old placed → IsPutInto old (placed_act p) new → AreActsOf new (placed_in p placed)
acts_more old new placed p are (at, index, is) =
    is
    ∙ (ap (λ (l : List PlacedAct). insert l at (placed_act p)) are
    ∙ put_acts p placed at (subst (λ (l : List PlacedAct). IsIndexIn l p.place at) are index))

insert_last : (acts : List PlacedAct) (x : PlacedAct) → insert acts (length acts) x ≡ acts ++ x ∷ []
insert_last [] x = refl
insert_last (a ∷ acts) x = ap (λ (l : List PlacedAct). a ∷ l) (insert_last acts x)

-- behind all others
pub put_last : (old new : List PlacedAct) (x : PlacedAct) (at : ℕ) → at ≤ length old → length old ≤ at → IsIndexIn old x.place at → new ≡ old ++ x ∷ [] → IsPutInto old x new
put_last old new x at within last index push =
    let end : at ≡ length old = omega (arith, within, last) in
    (at, index, push ∙ (sym (insert_last old x) ∙ ap (λ (n : ℕ). insert old n x) (sym end)))

-- What stands

past_more : (c : ClientNo) (n : ℕ) (p : Placed) (placed : List Placed) → has_past c n (placed_in p placed) ≡ ((client_same p.past.client c && nat_eq p.past.number n) || has_past c n placed)
past_more c n p [] = refl
past_more c n p (q ∷ qs) = by (nat_lt p.place q.place) (past_more c n p qs)
  where
    by : (b : Bool) → has_past c n (placed_in p qs) ≡ ((client_same p.past.client c && nat_eq p.past.number n) || has_past c n qs)
        → has_past c n (if b then p ∷ q ∷ qs else q ∷ placed_in p qs) ≡ ((client_same p.past.client c && nat_eq p.past.number n) || has_past c n (q ∷ qs))
    by true rest = refl
    by false rest = ap (λ t. (client_same q.past.client c && nat_eq q.past.number n) || t) rest ∙ or_swap (client_same q.past.client c && nat_eq q.past.number n) (client_same p.past.client c && nat_eq p.past.number n) (has_past c n qs)

-- An answer

-- that puts nothing there
pub puts_none : (past : List Entry) (c : ClientNo) (answer : Answer) (placed : List Placed) (standing : List (List Bool)) (acts : List PlacedAct) → AnswerPuts past c (under_way (client_entries c past)) answer placed placed → StandsInSet standing placed → AreActsOf acts placed → AnswerIsInHistory past c answer placed standing acts
puts_none past c answer placed standing acts puts st are = record { next = placed; puts = puts; stands = st; are = are }

not_under_way : (past : List Entry) (c : ClientNo) (answer : Answer) (placed : List Placed) (o : Option Begun) → o ≡ None → AnswerPuts past c o answer placed placed
not_under_way past c answer placed None e = refl
not_under_way past c answer placed (Some b) e = absurd cc

pub idle_puts : (past : List Entry) (c : ClientNo) (answer : Answer) (placed : List Placed) → (caller_state c past).begun ≡ None → AnswerPuts past c (under_way (client_entries c past)) answer placed placed
idle_puts past c answer placed idle = not_under_way past c answer placed (under_way (client_entries c past)) (sym (begun_is c past) ∙ idle)

standing_puts : (past : List Entry) (c : ClientNo) (begun : Begun) (reply : Reply) (placed : List Placed) (b : Bool) → has_past c begun.number placed ≡ b → b ≡ true → AnswerPuts past c (Some begun) (Replied reply) placed placed
standing_puts past c begun reply placed b is true' = subst (λ t. MatchBool t (placed ≡ placed) ((place : ℕ) × ReadPlace c past begun.op reply place × (placed ≡ placed_in (record { place = place; past = record { client = c; number = begun.number; op = begun.op; reply = reply } }) placed))) (sym (is ∙ true')) refl

pub stands_already : (past : List Entry) (c : ClientNo) (begun : Begun) (reply : Reply) (placed : List Placed) → (caller_state c past).begun ≡ Some begun → has_past c begun.number placed ≡ true → AnswerPuts past c (under_way (client_entries c past)) (Replied reply) placed placed
stands_already past c begun reply placed is has = subst (λ o. AnswerPuts past c o (Replied reply) placed placed) (sym is ∙ begun_is c past) (standing_puts past c begun reply placed (has_past c begun.number placed) refl has)

-- the operation at this place
abbrev op_at : ClientNo → Begun → Reply → ℕ → Placed
op_at c begun reply place = record { place = place; past = record { client = c; number = begun.number; op = begun.op; reply = reply } }

-- what puts it there
puts_at : (past : List Entry) (c : ClientNo) (begun : Begun) (reply : Reply) (placed : List Placed) (place : ℕ) → (caller_state c past).begun ≡ Some begun → has_past c begun.number placed ≡ false → ReadPlace c past begun.op reply place
    → AnswerPuts past c (under_way (client_entries c past)) (Replied reply) placed (placed_in (op_at c begun reply place) placed)
puts_at past c begun reply placed place is none read =
    subst (λ o. AnswerPuts past c o (Replied reply) placed (placed_in (op_at c begun reply place) placed)) (sym is ∙ begun_is c past)
    (subst (λ t. MatchBool t (placed_in (op_at c begun reply place) placed ≡ placed) ((p : ℕ) × ReadPlace c past begun.op reply p × (placed_in (op_at c begun reply place) placed ≡ placed_in (op_at c begun reply p) placed))) (sym none) (place, read, refl))

-- some read tells its place
some_place : (past : List Entry) (c : ClientNo) (begun : Begun) (reply : Reply) (placed : List Placed) → (caller_state c past).begun ≡ Some begun → has_past c begun.number placed ≡ false → AnswerHasPlace past c (Replied reply) placed
    → (p : ℕ) × ReadPlace c past begun.op reply p
some_place past c begun reply placed is none has =
    let here : AnswerPuts past c (Some begun) (Replied reply) placed has.next = subst (λ o. AnswerPuts past c o (Replied reply) placed has.next) (sym (begun_is c past) ∙ is) has.puts in
    let found : (p : ℕ) × ReadPlace c past begun.op reply p × (has.next ≡ placed_in (op_at c begun reply p) placed) =
    subst (λ t. MatchBool t (has.next ≡ placed) ((p : ℕ) × ReadPlace c past begun.op reply p × (has.next ≡ placed_in (op_at c begun reply p) placed))) none here in
    (found.0, found.1)

-- so the reads that were noted do
pub some_read : (past : List Entry) (c : ClientNo) (begun : Begun) (reply : Reply) (placed : List Placed) → (caller_state c past).begun ≡ Some begun → has_past c begun.number placed ≡ false → AnswerHasPlace past c (Replied reply) placed
    → HasNoPlace (caller_state c past).notes begun.op reply → ⊥
some_read past c begun reply placed is none has lacks = no_place c past begun.op reply begun has.serve is (some_place past c begun reply placed is none has) lacks

pub puts_read : (past : List Entry) (c : ClientNo) (begun : Begun) (reply : Reply) (placed : List Placed) (old standing : List (List Bool)) (acts new : List PlacedAct) (place : ℕ)
    → (caller_state c past).begun ≡ Some begun → has_past c begun.number placed ≡ false → IsNotedPlace (caller_state c past).notes begun.op reply place
    → AnswerHasPlace past c (Replied reply) placed
    → StandsInSet old placed → AreActsOf acts placed → (NoneStandsAt place placed → IsPutInto acts (record { place = place; act = record { client = c; number = begun.number; op = begun.op } }) new)
    → ((d : ClientNo) (n : ℕ) → stands standing d n ≡ ((client_same c d && nat_eq begun.number n) || stands old d n))
    → AnswerIsInHistory past c (Replied reply) placed standing new
puts_read past c begun reply placed old standing acts new place is none at has st are put more =
    let read = noted_place c past begun.op reply place begun has.serve is (some_place past c begun reply placed is none has) at in
    let puts = puts_at past c begun reply placed place is none read in
    record {
      next = placed_in (op_at c begun reply place) placed;
      puts = puts;
      stands = λ d n. more d n ∙ (ap (λ t. (client_same c d && nat_eq begun.number n) || t) (st d n) ∙ sym (past_more d n (op_at c begun reply place) placed));
      are = acts_more acts new placed (op_at c begun reply place) are (put (none_stands (op_at c begun reply place) placed (has.ascends (placed_in (op_at c begun reply place) placed) puts)));
    }

-- What a program finds

pub on_ok : {A B : Type 0} (r : Result (Unit {0}) NoMemory) → OnOk r A → (A → B) → OnOk r B
on_ok (Ok u) a to = to a
on_ok (Err e) a to = tt

pub on_both : (A B : Type 0) (r : Result (Unit {0}) NoMemory) → OnOk r A → OnOk r B → OnOk r (A × B)
on_both A B (Ok u) a b = (a, b)
on_both A B (Err e) a b = tt

pub on_err : {A B : Type 0} (r : Result (Unit {0}) NoMemory) → OnErr r A → (A → B) → OnErr r B
on_err (Ok u) a to = tt
on_err (Err e) a to = to a

pub at_index : {X : Type 0} (xs : List X) (i : ℕ) (x s : X) → x ≡ slice_index_or xs i x → slice_get xs i ≡ Some s → x ≡ s
at_index [] i x s is there = absurd cc
at_index (a ∷ xs) zero x s is there = is ∙ same_Some _ _ there
at_index (a ∷ xs) (suc i) x s is there = at_index xs i x s is there
