-- On threads the clients go by their marks: what one has done before another begins.
use Rattle.std.proofs.Common.{◌≡◌, ℕ, zero, suc, ◌+◌, ◌<◌, ◌≤◌, ◌⊎◌, inl, inr, Bool, true, false, List, [], ◌∷◌, ◌++◌, length, Option, refl, subst, sym, ap, ◌∙◌, arith, MatchBool, ltb, ltb-true, ltb-false}
use Rattle.std.specs.List.{range_with_len}
use Rattle.std.specs.Option.{option_map_or}
use Rattle.std.proofs.lemmas.Bool.{ne_eqb}
use Rattle.std.proofs.lemmas.List.{append_assoc, length-append}
use Rattle.std.proofs.lemmas.Option.{slice_get_within}
use Rattle.mn_base.proofs.Booleans.{clash}
use Rattle.mn_base.specs.declared.ids.ClientNo.{ClientNo}
use Rattle.mn_callers.specs.Acts.{has_work, role_of}
use Rattle.mn_callers.specs.Plays.{caller_at}
use Rattle.mn_cluster.specs.Follows.{DoesAllAlone, DoesIfMarked, GoInTurn, IsRunThrough, TakeTurns}
use Rattle.mn_cluster.specs.Marks.{has_mark, is_marked}
use Rattle.mn_hist.specs.Audit.{said_by}
use Rattle.mn_promise.specs.Promise.{GoesBefore, GoesByMarks}
use Rattle.mn_runs.specs.declared.entry.Entry.{Entry}
use Rattle.mn_runs.specs.Calls.{client_entries, is_by}
use Rattle.mn_runs.specs.Protocol.{FollowsProtocol, Start}
use Rattle.mn_script.specs.declared.elements.Mark.{Mark}
use Rattle.mn_script.specs.declared.elements.Mark.TheVariants.{Plain, First, Last}
use Rattle.mn_script.specs.declared.elements.ScriptClient.{ScriptClient}
use Rattle.mn_script.specs.Script.{Script}
use Rattle.mn_serial.proofs.Meaning.Positions.{OwnAt, client_append, client_split, is_own}
use Rattle.mn_top.proofs.Promise.Played.{Goes, from_led, from_met, goes_both, in_turn_ends, not_at_once, of_another, of_closer, opened_none, settle_goes, turn_ends, turns_go}
use Rattle.mn_top.proofs.Promise.Sayings.{answer_of, begun_there, times_by, told_there}

-- One client before another

-- a part of the log with all that the one client does, and nothing that the other does
pub record Parted (past : List Entry) (c d : ClientNo) : Type 0 where
  pub newer : List Entry
  pub older : List Entry
  pub split : past ≡ newer ++ older
  pub before : client_entries c past ≡ client_entries c older
  pub after : client_entries d older ≡ []

-- an entry stands in the one part of a list or in the other
pub where_in : (later before newer older : List Entry) (e : Entry) → later ++ e ∷ before ≡ newer ++ older
    → ((between : List Entry) × (older ≡ between ++ e ∷ before)) ⊎ ((between : List Entry) × (newer ≡ later ++ e ∷ between) × (before ≡ between ++ older))
where_in later before [] older e same = inl (later, sym same)
where_in [] before (x ∷ newer) older e same =
    let first : x ≡ e = cc in
    let rest : before ≡ newer ++ older = cc in
    inr (newer, ap (λ (y : Entry). y ∷ newer) first, rest)
where_in (y ∷ later) before (x ∷ newer) older e same =
    let first : x ≡ y = cc in
    let rest : later ++ e ∷ before ≡ newer ++ older = cc in
    elim (where_in later before newer older e rest) as (λ _. ((between : List Entry) × (older ≡ between ++ e ∷ before)) ⊎ ((between : List Entry) × (x ∷ newer ≡ (y ∷ later) ++ e ∷ between) × (before ≡ between ++ older))) [
      | inl low ↦ inl low
      | inr high ↦ inr (high.0, ap (λ (z : Entry). z ∷ newer) first ∙ ap (λ (l : List Entry). y ∷ l) high.1, high.2)
    ]

pub some_entry : (c : ClientNo) (past later before : List Entry) (e : Entry) → past ≡ later ++ e ∷ before → is_by c e ≡ true → 0 < length (client_entries c past)
some_entry c past later before e split by =
    let whole : length (client_entries c past) ≡ length (client_entries c later) + length (e ∷ client_entries c before) =
    ap (λ (l : List Entry). length l) (client_split c past later e before split by) ∙ length-append (client_entries c later) (e ∷ client_entries c before) in
    omega (arith, whole)

-- what the one does has lower places than what the other does
parted_order : (past : List Entry) (c d : ClientNo) → Parted past c d → (x : OwnAt past c) (y : OwnAt past d) → length x.before < length y.before
parted_order past c d parted x y = by (where_in x.later x.before parted.newer parted.older x.entry (sym x.split ∙ parted.split)) (where_in y.later y.before parted.newer parted.older y.entry (sym y.split ∙ parted.split))
  where
    by : ((between : List Entry) × (parted.older ≡ between ++ x.entry ∷ x.before)) ⊎ ((between : List Entry) × (parted.newer ≡ x.later ++ x.entry ∷ between) × (x.before ≡ between ++ parted.older))
        → ((between : List Entry) × (parted.older ≡ between ++ y.entry ∷ y.before)) ⊎ ((between : List Entry) × (parted.newer ≡ y.later ++ y.entry ∷ between) × (y.before ≡ between ++ parted.older))
        → length x.before < length y.before
    by (inl low) (inr high) =
        let one : length parted.older ≡ length low.0 + length (x.entry ∷ x.before) = ap (λ (l : List Entry). length l) low.1 ∙ length-append low.0 (x.entry ∷ x.before) in
        let two : length y.before ≡ length high.0 + length parted.older = ap (λ (l : List Entry). length l) high.2 ∙ length-append high.0 parted.older in
        omega (arith, one, two)
    by (inl low) (inl lower) =
        let some = some_entry d parted.older lower.0 y.before y.entry lower.1 (is_own d y.entry y.by) in
        let none : length (client_entries d parted.older) ≡ 0 = ap (λ (l : List Entry). length l) parted.after in
        absurd (omega (arith, some, none))
    by (inr high) other =
        let some = some_entry c parted.newer x.later high.0 x.entry high.1 (is_own c x.entry x.by) in
        let both : length (client_entries c past) ≡ length (client_entries c parted.newer) + length (client_entries c parted.older) =
        ap (λ (l : List Entry). length (client_entries c l)) parted.split ∙ (ap (λ (l : List Entry). length l) (client_append c parted.newer parted.older) ∙ length-append (client_entries c parted.newer) (client_entries c parted.older)) in
        let same : length (client_entries c past) ≡ length (client_entries c parted.older) = ap (λ (l : List Entry). length l) parted.before in
        absurd (omega (arith, some, both, same))

-- Turns

-- a log that goes on
abbrev pub Grows : List Entry → List Entry → Type 0
Grows old new = (later : List Entry) × (new ≡ later ++ old)

pub grows_both : (old now new : List Entry) → Grows old now → Grows now new → Grows old new
grows_both old now new one two = (two.0 ++ one.0, two.1 ∙ (ap (λ (l : List Entry). two.0 ++ l) one.1 ∙ sym (append_assoc two.0 one.0 old)))

module _ (script : Script) (mark : Mark) where
  turn_grows : (d : ClientNo) (old new : List Entry) → DoesIfMarked script mark d old new → Grows old new
  turn_grows d old new does = by (is_marked mark script d) does
    where
      by : (b : Bool) → MatchBool b (DoesAllAlone script d old new) (new ≡ old) → Grows old new
      by true alone = (alone.past.own, alone.past.past_is)
      by false same = ([], same)

  turns_grow : (ks : List ℕ) (old new : List Entry) → TakeTurns script mark ks old new → Grows old new
  turns_grow [] old new same = ([], same)
  turns_grow (k ∷ ks) old new turns = grows_both old turns.0 new (turn_grows (caller_at k) old turns.0 turns.1) (turns_grow ks turns.0 new turns.2)

  -- a turn of another client
  turn_other : (d : ClientNo) (k : ℕ) (old new : List Entry) → (d.0 ≡ k → ⊥) → DoesIfMarked script mark (caller_at k) old new → client_entries d new ≡ client_entries d old
  turn_other d k old new other does = by (is_marked mark script (caller_at k)) does
    where
      by : (b : Bool) → MatchBool b (DoesAllAlone script (caller_at k) old new) (new ≡ old) → client_entries d new ≡ client_entries d old
      by true alone = of_another d (caller_at k) (ne_eqb d.0 k other) old new alone.past
      by false same = ap (client_entries d) same

  -- a client that doesn't have the mark has no turn
  turn_unmarked : (d : ClientNo) → is_marked mark script d ≡ false → (k : ℕ) (old new : List Entry) → DoesIfMarked script mark (caller_at k) old new → client_entries d new ≡ client_entries d old
  turn_unmarked d unmarked k old new does = by (is_marked mark script (caller_at k)) refl does
    where
      by : (b : Bool) → is_marked mark script (caller_at k) ≡ b → MatchBool b (DoesAllAlone script (caller_at k) old new) (new ≡ old) → client_entries d new ≡ client_entries d old
      by true marked alone = of_another d (caller_at k) (ne_eqb d.0 k (λ same. clash (is_marked mark script (caller_at k)) marked (ap (λ (j : ℕ). is_marked mark script (caller_at j)) (sym same) ∙ unmarked))) old new alone.past
      by false _ same = ap (client_entries d) same

  turns_unmarked : (d : ClientNo) → is_marked mark script d ≡ false → (ks : List ℕ) (old new : List Entry) → TakeTurns script mark ks old new → client_entries d new ≡ client_entries d old
  turns_unmarked d unmarked [] old new same = ap (client_entries d) same
  turns_unmarked d unmarked (k ∷ ks) old new turns = turns_unmarked d unmarked ks turns.0 new turns.2 ∙ turn_unmarked d unmarked k old turns.0 turns.1

  -- of two clients that have the mark the one has had its turn, and the other not yet
  pub record Between (c d : ClientNo) (small : c.0 < 16) (old new : List Entry) : Type 0 where
    pub now : List Entry
    pub from : Grows old now
    pub to : Grows now new
    pub done : has_work (role_of script c) (client_entries c now) ≡ false
    pub goes : Goes script c small now new
    pub yet : client_entries d now ≡ client_entries d old

  between : (c d : ClientNo) (small : c.0 < 16) → c.0 < d.0 → is_marked mark script c ≡ true → (a n : ℕ) (old new : List Entry) → a ≤ c.0 → c.0 < a + n → TakeTurns script mark (range_with_len a n) old new → Between c d small old new
  between c d small less marked a zero old new low high turns = absurd (omega (arith, low, high))
  between c d small less marked a (suc n) old new low high turns = elim (ltb a c.0) as (λ b. ltb a c.0 ≡ b → Between c d small old new) [
    | true ↦ λ below.
        let lower = ltb-true a c.0 below in
        let rest = between c d small less marked (a + 1) n turns.0 new (omega (arith, lower)) (omega (arith, high)) turns.2 in
        record {
          now = rest.now;
          from = grows_both old turns.0 rest.now (turn_grows (caller_at a) old turns.0 turns.1) rest.from;
          to = rest.to;
          done = rest.done;
          goes = rest.goes;
          yet = rest.yet ∙ turn_other d a old turns.0 (λ same. omega (arith, same, lower, less)) turns.1;
        }
    | false ↦ λ above.
        let upper = ltb-false a c.0 above in
        let same : a ≡ c.0 = omega (arith, low, upper) in
        record {
          now = turns.0;
          from = turn_grows (caller_at a) old turns.0 turns.1;
          to = turns_grow (range_with_len (a + 1) n) turns.0 new turns.2;
          done = turn_ends script c small mark old turns.0 marked (subst (λ (k : ℕ). DoesIfMarked script mark (caller_at k) old turns.0) same turns.1);
          goes = turns_go script c small mark (range_with_len (a + 1) n) turns.0 new turns.2;
          yet = turn_other d a old turns.0 (λ is. omega (arith, is, same, less)) turns.1;
        }
  ] refl

  pub between_turns : (c d : ClientNo) (small : c.0 < 16) → c.0 < d.0 → is_marked mark script c ≡ true → c.0 < length script.clients → (old new : List Entry) → GoInTurn script mark old new → Between c d small old new
  between_turns c d small less marked among old new turns = between c d small less marked 0 (length script.clients) old new (omega arith) (omega (arith, among)) turns

-- A run on threads

module _ (script : Script) (opens closes : List Entry → Type 0) (past : List Entry) (run : IsRunThrough opens closes script past) (few : length script.clients ≤ 16) (c d : ClientNo) (among : c.0 < length script.clients) (among' : d.0 < length script.clients) where
  small : c.0 < 16
  small = omega (arith, among, few)

  small' : d.0 < 16
  small' = omega (arith, among', few)

  from_closed : Grows run.closed past
  from_closed = grows_both run.closed run.followed past (turns_grow script Last _ run.closed run.followed run.last) (run.ending.own, run.ending.past_is)

  met_grows : Grows run.met past
  met_grows = grows_both run.met run.closed past (run.closing.own, run.closing.past_is) from_closed

  led_grows : Grows run.led past
  led_grows = grows_both run.led run.met past (run.middle.own, run.middle.past_is) met_grows

  part : (older : List Entry) → Grows older past → has_work (role_of script c) (client_entries c older) ≡ false → Goes script c small older past → client_entries d older ≡ [] → Parted past c d
  part older grows done goes none = record { newer = grows.0; older = older; split = grows.1; before = goes.rest done; after = none }

  none_opened : client_entries d run.opened ≡ []
  none_opened = opened_none d small' run.opened run.opening

  none_led : is_marked First script d ≡ false → client_entries d run.led ≡ []
  none_led unmarked = turns_unmarked script First d unmarked _ run.opened run.led run.first ∙ none_opened

  none_met : is_marked First script d ≡ false → is_marked Plain script d ≡ false → client_entries d run.met ≡ []
  none_met unmarked other = not_at_once script d small' run.led run.met other run.middle ∙ none_led unmarked

  none_closed : is_marked First script d ≡ false → is_marked Plain script d ≡ false → client_entries d run.closed ≡ []
  none_closed unmarked other = ap (client_entries d) run.closing.past_is ∙ (of_closer d small' run.closing.own run.met run.closing.of_closer ∙ none_met unmarked other)

  led_first : is_marked First script c ≡ true → is_marked First script d ≡ false → Parted past c d
  led_first marked unmarked = part run.led led_grows (in_turn_ends script c small First run.opened run.led among marked run.first) (from_led script c small opens closes past run) (none_led unmarked)

  parted : (one other : Mark) → ((mark : Mark) → is_marked mark script c ≡ has_mark mark one) → ((mark : Mark) → is_marked mark script d ≡ has_mark mark other) → GoesBefore one c.0 other d.0 → Parted past c d
  parted First First is is' less =
      let b = between_turns script First c d small less (is First) among run.opened run.led run.first in
      part b.now (grows_both b.now run.led past b.to led_grows) b.done (goes_both script c small b.now run.led past b.goes (from_led script c small opens closes past run)) (b.yet ∙ none_opened)
  parted First Plain is is' less = led_first (is First) (is' First)
  parted First Last is is' less = led_first (is First) (is' First)
  parted Plain Last is is' less = part run.met met_grows (run.middle.each c (is Plain)).1 (from_met script c small opens closes past run) (none_met (is' First) (is' Plain))
  parted Last Last is is' less =
      let b = between_turns script Last c d small less (is Last) among run.closed run.followed run.last in
      part b.now (grows_both b.now run.followed past b.to (run.ending.own, run.ending.past_is)) b.done
      (goes_both script c small b.now run.followed past b.goes (settle_goes script c small run.followed past run.ending)) (b.yet ∙ none_closed (is' First) (is' Plain))
  parted Plain First is is' less = absurd less
  parted Plain Plain is is' less = absurd less
  parted Last First is is' less = absurd less
  parted Last Plain is is' less = absurd less

pub by_marks : (start : Start) (script : Script) (opens closes : List Entry → Type 0) (past : List Entry) → FollowsProtocol start past → IsRunThrough opens closes script past → length script.clients ≤ 16 → GoesByMarks script (said_by past) (times_by past)
by_marks start script opens closes past follow run few c d one other n m is is' less answered begun =
    let of = answer_of (said_by past c n) answered in
    let x = told_there past c n of.0 of.1 in
    let y = begun_there start past d m follow begun in
    let lower =
    parted_order past c d
    (parted script opens closes past run few c d (slice_get_within script.clients c.0 one is) (slice_get_within script.clients d.0 other is') one.mark other.mark (λ mark. ap (λ (o : Option ScriptClient). option_map_or (λ k. has_mark mark k.mark) o false) is)
    (λ mark. ap (λ (o : Option ScriptClient). option_map_or (λ k. has_mark mark k.mark) o false) is') less) x.it.at y.it.at in
    let px = x.place in let py = y.place in
    omega (arith, lower, px, py)
