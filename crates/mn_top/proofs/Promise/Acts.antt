-- The clock of a replay goes through its acts: which operations of a client are over, and which have
-- begun, between any two of them.
use Rattle.std.proofs.Common.{◌≡◌, ℕ, suc, ◌+◌, ◌<◌, ◌≤◌, ◌⊎◌, inl, inr, Bool, true, false, not, List, [], ◌∷◌, ◌++◌, length, reverse, Option, Some, None, is_some, refl, subst, sym, ap, ◌∙◌, arith, if◌then◌else◌, ◌&&◌, ◌||◌, nat_lt, MatchBool, ltb, ltb-true, ltb-false, min}
use Rattle.std.proofs.lemmas.List.{append_assoc, length-append, length-map, length-reverse, length-take}
use Rattle.std.proofs.lemmas.Option.{slice_get_within}
use Rattle.mn_base.proofs.Booleans.{and_false, clash, or_split}
use Rattle.mn_base.specs.Ids.{client_same}
use Rattle.mn_base.specs.declared.ids.ClientNo.{ClientNo}
use Rattle.mn_base.specs.declared.ids.NodeNo.{NodeNo}
use Rattle.mn_base.specs.declared.op.Op.{Op}
use Rattle.mn_callers.specs.Acts.{AreOwn, Begins, CallsOnce, CallsOrLacks, CallsUntil, CallsWhile, DoesAll, DoesGo, DoesPlan, DoesStep, IsUnderWay, Role, Works, has_work, is_at_work, is_own, is_plan_due, none, one_more, role_of}
use Rattle.mn_callers.specs.Points.{has_died}
use Rattle.mn_callers.specs.Stages.{Played}
use Rattle.mn_callers.specs.Trace.{BeginsInOrder}
use Rattle.mn_hist.specs.Audit.{said_by}
use Rattle.mn_promise.specs.Promise.{GoesByActs, IsAnswered, IsBegun, acts_of, begun_by, ended_by, ops_of}
use Rattle.mn_replay.proofs.Scheduled.{acts_grow}
use Rattle.mn_replay.specs.Follows.{IsPlayed}
use Rattle.mn_replay.specs.Schedule as schedule
use Rattle.mn_replay.specs.Schedule.{DoesAct, DoesActs}
use Rattle.mn_runs.proofs.Same.{client_same-true}
use Rattle.mn_runs.specs.declared.entry.Entry.{Entry}
use Rattle.mn_runs.specs.declared.entry.What.{What}
use Rattle.mn_runs.specs.declared.entry.What.TheVariants.{Begin, Issue, Called, Stopped, Restarted, Abandoned, Answered}
use Rattle.mn_runs.specs.Calls.{Begun, Call, begun_in, begun_of, call_in, client_entries, under_way, under_way_after}
use Rattle.mn_runs.specs.Clients.{ClientAllows, last_number}
use Rattle.mn_runs.specs.Protocol.{FollowsProtocol, Start}
use Rattle.mn_script.specs.Script.{Script}
use Rattle.mn_script.specs.declared.elements.Act.{Act}
use Rattle.mn_script.specs.declared.elements.Act.TheVariants as acts
use Rattle.mn_serial.proofs.Meaning.Clients.{Allowed, allowed_older, client_allowed, numbered, numbers_rise, same_begun}
use Rattle.mn_serial.proofs.Meaning.Positions.{BeginAt, OwnAt, answered_op, client_append, client_split, is_own as is_own_entry}
use Rattle.mn_top.proofs.Promise.Dying.{asks_among}
use Rattle.mn_top.proofs.Promise.Explaining.{begun_as_asked, last_is, numbered_all}
use Rattle.mn_top.proofs.Promise.Marked.{Grows, grows_both, some_entry, where_in}
use Rattle.mn_top.proofs.Promise.Played.{Goes, act_goes, act_same, acts_go, concerns, goes_both, goes_same, of_closer, opened_none}
use Rattle.mn_top.proofs.Promise.Sayings.{answer_of, begun_there, times_by, told_there}

-- How many operations a client has begun

own_begins : (c : ClientNo) (own es : List Entry) → AreOwn c own → begun_of (own ++ es) ≡ begun_of es
own_begins c [] es steps = refl
own_begins c (e ∷ own) es steps = ap (λ (l : List Begun). l ++ begun_of (own ++ es)) (nothing e.what steps.0.1) ∙ own_begins c own es steps.1
  where
    nothing : (what : What) → is_own what ≡ true → begun_in what ≡ []
    nothing (Begin number op) is = absurd (clash false is refl)
    nothing (Issue tid mini) is = refl
    nothing (Called request reply) is = refl
    nothing (Stopped request asked) is = refl
    nothing (Restarted kept) is = refl
    nothing (Abandoned tid) is = refl
    nothing (Answered number answer) is = refl

call_begins : (at : Option NodeNo) (what : What) (call : Call) → call_in at what ≡ call ∷ [] → begun_in what ≡ []
call_begins None what call is = absurd cc
call_begins (Some n) (Called request reply) call is = refl
call_begins (Some n) (Stopped request asked) call is = refl
call_begins (Some n) (Begin number op) call is = absurd cc
call_begins (Some n) (Issue tid mini) call is = refl
call_begins (Some n) (Restarted kept) call is = refl
call_begins (Some n) (Abandoned tid) call is = refl
call_begins (Some n) (Answered number answer) call is = refl

module _ (a : Role) where
  either_begins : (es new : List Entry) → CallsOrLacks a es new → begun_of new ≡ begun_of es
  either_begins es new (inl calls) =
      ap begun_of calls.new_is ∙ (own_begins a.number calls.own (calls.entry ∷ es) calls.steps
      ∙ ap (λ (l : List Begun). l ++ begun_of es) (call_begins calls.entry.node calls.entry.what calls.call calls.is_call))
  either_begins es new (inr lacks) = ap begun_of lacks.new_is ∙ own_begins a.number (lacks.own ++ lacks.first ∷ []) es lacks.steps

  while_begins : (stop : List Entry → Bool) (es new : List Entry) → CallsWhile a stop es new → begun_of new ≡ begun_of es
  while_begins stop es _ none = refl
  while_begins stop es _ (one_more now new before on does) = either_begins now new does ∙ while_begins stop es now before

  once_begins : (es new : List Entry) → CallsOnce a es new → begun_of new ≡ begun_of es
  once_begins es new once = by (is_at_work a es) once
    where
      by : (b : Bool) → MatchBool b (CallsOrLacks a es new) (new ≡ es) → begun_of new ≡ begun_of es
      by true does = either_begins es new does
      by false same = ap begun_of same

  begins_one : (es now : List Entry) → Begins a es now → last_number (begun_of now) ≡ last_number (begun_of es) + 1
  begins_one es now begins =
      ap (λ (l : List Entry). last_number (begun_of l)) begins.begins.new_is
      ∙ (ap last_number (own_begins a.number begins.begins.own (begins.begins.entry ∷ es) begins.begins.steps)
      ∙ ap (λ (w : What). last_number (begun_in w ++ begun_of es)) begins.begins.begun)

  -- an operation is begun where none is under way
  under_begins : (es now : List Entry) → IsUnderWay a es now
      → ((is_some (under_way es) ≡ true) × (now ≡ es)) ⊎ (last_number (begun_of now) ≡ last_number (begun_of es) + 1)
  under_begins es now is = by (is_some (under_way es)) refl is
    where
      by : (b : Bool) → is_some (under_way es) ≡ b → MatchBool b (now ≡ es) (Begins a es now) → ((is_some (under_way es) ≡ true) × (now ≡ es)) ⊎ (last_number (begun_of now) ≡ last_number (begun_of es) + 1)
      by true under same = inl (under, same)
      by false none_now begins = inr (begins_one es now begins)

  at_most : (es now : List Entry) → IsUnderWay a es now → last_number (begun_of now) ≤ last_number (begun_of es) + 1
  at_most es now is = elim (under_begins es now is) as (λ _. last_number (begun_of now) ≤ last_number (begun_of es) + 1) [
    | inl same ↦ let equal = ap (λ (l : List Entry). last_number (begun_of l)) same.1 in omega (arith, equal)
    | inr more ↦ omega (arith, more)
  ]

  -- each act but `all` begins one at most
  works_begins : (does : List Entry → List Entry → Type 0) → ((now new : List Entry) → does now new → begun_of new ≡ begun_of now) → (es new : List Entry) → Works a does es new → last_number (begun_of new) ≤ last_number (begun_of es) + 1
  works_begins does each es new works = by (has_work a es) works
    where
      by : (b : Bool) → MatchBool b ((now : List Entry) × IsUnderWay a es now × does now new) (new ≡ es) → last_number (begun_of new) ≤ last_number (begun_of es) + 1
      by true so = let most = at_most es so.0 so.1 in let same = ap last_number (each so.0 new so.2) in omega (arith, most, same)
      by false same = let equal = ap (λ (l : List Entry). last_number (begun_of l)) same in omega (arith, equal)

  -- What is over

  -- the operation of this number is over
  pub record IsOver (n : ℕ) (es : List Entry) : Type 0 where
    pub begun : n ≤ last_number (begun_of es)
    pub past_it : (b : Begun) → under_way es ≡ Some b → n < b.number

  -- the client has died, or its first so many operations are over
  abbrev pub AreOver : ℕ → List Entry → Type 0
  AreOver k es = (has_died a.points a.number es ≡ true) ⊎ ((n : ℕ) → n ≤ k → n ≤ length a.ops → IsOver n es)

  fewer : (k j : ℕ) (es : List Entry) → k ≤ j → AreOver j es → AreOver k es
  fewer k j es le (inl dead) = inl dead
  fewer k j es le (inr over) = inr (λ n low inside. over n (omega (arith, low, le)) inside)

  none_is : (o : Option Begun) → is_some o ≡ false → o ≡ None
  none_is None is = refl
  none_is (Some b) is = absurd (clash true refl is)

  -- where no work is left, and the client lives, all are over
  rest_over : (k : ℕ) (es : List Entry) → has_work a es ≡ false → AreOver k es
  rest_over k es idle = by (has_died a.points a.number es) refl
    where
      by : (b : Bool) → has_died a.points a.number es ≡ b → AreOver k es
      by true dead = inl dead
      by false alive = inr over
        where
          parts : (is_some (under_way es) ≡ false) × (nat_lt (last_number (begun_of es)) (length a.ops) ≡ false)
          parts = or_split (is_some (under_way es)) (nat_lt (last_number (begun_of es)) (length a.ops)) (lives (is_some (under_way es) || nat_lt (last_number (begun_of es)) (length a.ops)) (has_died a.points a.number es) alive idle)
            where
              lives : (x d : Bool) → d ≡ false → (x && not d) ≡ false → x ≡ false
              lives true true alive idle = alive
              lives true false alive idle = idle
              lives false d alive idle = refl

          over : (n : ℕ) → n ≤ k → n ≤ length a.ops → IsOver n es
          over n low inside =
              let all = ltb-false (last_number (begun_of es)) (length a.ops) parts.1 in
              record { begun = omega (arith, inside, all); past_it = λ b is. absurd (nothing b (sym (none_is (under_way es) parts.0) ∙ is)) }
            where
              nothing : (b : Begun) → None ≡ Some b → ⊥
              nothing b is = cc

-- An operation that is under way later

later_step : (c : ClientNo) (at : Option NodeNo) (what : What) (l es : List Entry) (b : Begun) → ClientAllows c l at what → last_number (begun_of es) ≤ last_number (begun_of l) → (under_way l ≡ Some b → (under_way es ≡ Some b) ⊎ (last_number (begun_of es) < b.number))
    → under_way_after what (under_way l) ≡ Some b → (under_way es ≡ Some b) ⊎ (last_number (begun_of es) < b.number)
later_step c at (Begin m op) l es b allows rise older is =
    let number : m ≡ b.number = ap (λ (x : Begun). x.number) (same_begun (record { number = m; op = op }) b is) in
    let next = allows.1 in
    inr (omega (arith, rise, next, number))
later_step c at (Answered m x) l es b allows rise older is = absurd cc
later_step c at (Issue tid mini) l es b allows rise older is = older is
later_step c at (Called request reply) l es b allows rise older is = older is
later_step c at (Stopped request asked) l es b allows rise older is = older is
later_step c at (Restarted kept) l es b allows rise older is = older is
later_step c at (Abandoned tid) l es b allows rise older is = older is

-- it was under way, or has a number above those that had begun
later_under : (c : ClientNo) (more es : List Entry) (b : Begun) → Allowed c (more ++ es) → under_way (more ++ es) ≡ Some b → (under_way es ≡ Some b) ⊎ (last_number (begun_of es) < b.number)
later_under c [] es b allowed is = inl is
later_under c (x ∷ more) es b allowed is = later_step c x.node x.what (more ++ es) es b allowed.1 (numbers_rise c more es allowed.0) (later_under c more es b allowed.0) is

module _ (a : Role) where
  over_later : (n : ℕ) (more es : List Entry) → Allowed a.number (more ++ es) → IsOver a n es → IsOver a n (more ++ es)
  over_later n more es allowed over = record {
    begun = let rise = numbers_rise a.number more es allowed in let low = over.begun in omega (arith, rise, low);
    past_it = λ b is. elim (later_under a.number more es b allowed is) as (λ _. n < b.number) [
      | inl still ↦ over.past_it b still
      | inr above ↦ let low = over.begun in omega (arith, above, low)
    ];
  }

  -- after a `go` one more is over
  go_over : (k : ℕ) (more es new : List Entry) → new ≡ more ++ es → Allowed a.number new → DoesGo a es new → (has_died a.points a.number es ≡ true → new ≡ es) → AreOver a k es → AreOver a (k + 1) new
  go_over k more es new grows allowed does stays (inl dead) = inl (ap (has_died a.points a.number) (stays dead) ∙ dead)
  go_over k more es new grows allowed does stays (inr over) = by (has_work a es) refl does
    where
      allowed_all : Allowed a.number (more ++ es)
      allowed_all = subst (Allowed a.number) grows allowed

      by : (b : Bool) → has_work a es ≡ b → MatchBool b ((now : List Entry) × IsUnderWay a es now × CallsUntil a (λ l. not (is_at_work a l)) now new) (new ≡ es) → AreOver a (k + 1) new
      by false idle same = subst (AreOver a (k + 1)) (sym same) (rest_over a (k + 1) es idle)
      by true work so = ends (has_died a.points a.number new) refl
        where
          ends : (d : Bool) → has_died a.points a.number new ≡ d → AreOver a (k + 1) new
          ends true dead = inl dead
          ends false alive = inr all
            where
              idle : (o : Option Begun) (d : Bool) → d ≡ false → not (is_some o && not d) ≡ true → o ≡ None
              idle None d lives stops = refl
              idle (Some b) true lives stops = absurd (clash true refl lives)
              idle (Some b) false lives stops = absurd (clash false stops refl)

              nothing : under_way new ≡ None
              nothing = idle (under_way new) (has_died a.points a.number new) alive so.2.1

              same : last_number (begun_of new) ≡ last_number (begun_of so.0)
              same = ap last_number (while_begins a (λ l. not (is_at_work a l)) so.0 new so.2.0)

              none_some : (b : Begun) → None ≡ Some b → ⊥
              none_some b is = cc

              -- the operation that was under way, or was begun, has a number above those that were over
              above : (b : Begun) → under_way es ≡ Some b → (j : ℕ) → j ≤ k → j ≤ length a.ops → j < b.number
              above b is j low inside = (over j low inside).past_it b is

              some_under : (o : Option Begun) → is_some o ≡ true → (b : Begun) × (o ≡ Some b)
              some_under None is = absurd (clash false is refl)
              some_under (Some b) is = (b, refl)

              reached : suc k ≤ length a.ops → suc k ≤ last_number (begun_of new)
              reached inside = elim (under_begins a es so.0 so.1) as (λ _. suc k ≤ last_number (begun_of new)) [
                | inl still ↦
                    let b = some_under (under_way es) still.0 in
                    let up = above b.0 b.1 k (omega arith) (omega (arith, inside)) in
                    let number = numbered a.number es b.0 b.1 in
                    let equal = ap (λ (l : List Entry). last_number (begun_of l)) still.1 in
                    omega (arith, up, number, equal, same)
                | inr one ↦ let low = (over k (omega arith) (omega (arith, inside))).begun in omega (arith, low, one, same)
              ]

              all : (n : ℕ) → n ≤ k + 1 → n ≤ length a.ops → IsOver a n new
              all n low inside = elim (ltb k n) as (λ t. ltb k n ≡ t → IsOver a n new) [
                | true ↦ λ less.
                    let up = ltb-true k n less in
                    let here = reached (omega (arith, up, inside)) in
                    record { begun = omega (arith, low, here); past_it = λ b is. absurd (none_some b (sym nothing ∙ is)) }
                | false ↦ λ more_than.
                    let down = ltb-false k n more_than in
                    subst (IsOver a n) (sym grows) (over_later n more es allowed_all (over n down inside))
              ] refl

-- Acts

-- acts in two parts
acts_split : (script : Script) (front back : List Act) (old new : Played) → DoesActs script (front ++ back) old new → (now : Played) × DoesActs script front old now × DoesActs script back now new
acts_split script [] back old new does = (old, refl, does)
acts_split script (act ∷ front) back old new does =
    let rest = acts_split script front back does.0 new does.2 in (rest.0, (does.0, does.1, rest.1), rest.2)

module _ (start : Start) (script : Script) (past : List Entry) (run : FollowsProtocol start past) (order : BeginsInOrder script past) (c : ClientNo) (small : c.0 < 16) where
  abbrev a : Role
  a = role_of script c

  abbrev of : List Entry → List Entry
  of l = client_entries c l

  -- the list of the client at an earlier place
  older_list : (l : List Entry) (grows : Grows l past) → client_entries c past ≡ of grows.0 ++ of l
  older_list l grows = ap (client_entries c) grows.1 ∙ client_append c grows.0 l

  older_allowed : (l : List Entry) → Grows l past → Allowed c (of l)
  older_allowed l grows = allowed_older c (of grows.0) (of l) (subst (Allowed c) (older_list l grows) (client_allowed start past c run))

  -- no more have begun than there are
  bound : (l : List Entry) → Grows l past → last_number (begun_of (of l)) ≤ length a.ops
  bound l grows =
      let es : List Entry = client_entries c past in
      let counted = last_is (begun_of es) (numbered_all c es (client_allowed start past c run)) in
      let whole : length (begun_of es) ≡ min (length (begun_of es)) (length a.ops) =
      sym (length-map (reverse (begun_of es)) (λ b. b.op) ∙ length-reverse (begun_of es)) ∙ (ap (λ (l : List Op). length l) (order c) ∙ length-take (length (begun_of es)) a.ops) in
      let rise = numbers_rise c (of grows.0) (of l) (subst (Allowed c) (older_list l grows) (client_allowed start past c run)) in
      let equal : last_number (begun_of es) ≡ last_number (begun_of (of grows.0 ++ of l)) = ap (λ (l : List Entry). last_number (begun_of l)) (older_list l grows) in
      omega (arith, counted, whole, rise, equal)

  abbrev last : Played → ℕ
  last p = last_number (begun_of (of p.past))

  abbrev all : ℕ
  all = length (ops_of script c)

  grown : (todo : List Act) (old new : Played) → DoesActs script todo old new → Grows old.past new.past
  grown todo old new does = let g = acts_grow script todo old new does in (g.later, g.is)

  mine : (d : ClientNo) (does : Role → List Entry → List Entry → Type 0) (old new : Played) → client_same d c ≡ true → does (role_of script d) (client_entries d old.past) (client_entries d new.past) → does a (of old.past) (of new.past)
  mine d does old new is so = subst (λ (x : ClientNo). does (role_of script x) (client_entries x old.past) (client_entries x new.past)) (client_same-true d c is) so

  -- Begun

  begun_other : (act : Act) (rest : List Act) (old now new : Played) → concerns script c small act ≡ false → DoesAct script act old now → last new ≤ last now + begun_by all c rest → last new ≤ last old + begun_by all c rest
  begun_other act rest old now new other does le =
      let same : last now ≡ last old = ap (λ (l : List Entry). last_number (begun_of l)) (act_same script c small act old now other does) in omega (arith, same, le)

  begun_step : (act : Act) (b : Bool) (rest : List Act) (old now new : Played) → concerns script c small act ≡ b → (b ≡ true → last now ≤ last old + 1) → DoesAct script act old now → last new ≤ last now + begun_by all c rest
      → last new ≤ last old + (if b then begun_by all c rest + 1 else begun_by all c rest)
  begun_step act true rest old now new is one does le = let more = one refl in omega (arith, more, le)
  begun_step act false rest old now new is one does le = begun_other act rest old now new is does le

  begun_all : (act : Act) (b : Bool) (rest : List Act) (old now new : Played) → concerns script c small act ≡ b → last new ≤ all → DoesAct script act old now → last new ≤ last now + begun_by all c rest → last new ≤ last old + (if b then all else begun_by all c rest)
  begun_all act true rest old now new is most does le = omega (arith, most)
  begun_all act false rest old now new is most does le = begun_other act rest old now new is does le

  acts_begun : (todo : List Act) (old new : Played) → DoesActs script todo old new → Grows new.past past → last new ≤ last old + begun_by all c todo
  acts_begun [] old new does grows = let same = ap last does in omega (arith, same)
  acts_begun (acts.Step d ∷ todo) old new does grows =
      begun_step (acts.Step d) (client_same d c) todo old does.0 new refl (λ is. works_begins a (CallsOnce a) (once_begins a) (of old.past) (of does.0.past) (mine d DoesStep old does.0 is does.1.so)) does.1 (acts_begun todo does.0 new does.2 grows)
  acts_begun (acts.Plan d ∷ todo) old new does grows =
      begun_step (acts.Plan d) (client_same d c) todo old does.0 new refl
      (λ is. works_begins a (CallsUntil a (λ l. not (is_at_work a l) || is_plan_due l)) (λ now later until. while_begins a (λ l. not (is_at_work a l) || is_plan_due l) now later until.0) (of old.past) (of does.0.past) (mine d DoesPlan old does.0 is does.1.so))
      does.1 (acts_begun todo does.0 new does.2 grows)
  acts_begun (acts.Go d ∷ todo) old new does grows =
      begun_step (acts.Go d) (client_same d c) todo old does.0 new refl
      (λ is. works_begins a (CallsUntil a (λ l. not (is_at_work a l))) (λ now later until. while_begins a (λ l. not (is_at_work a l)) now later until.0) (of old.past) (of does.0.past) (mine d DoesGo old does.0 is does.1.so)) does.1
      (acts_begun todo does.0 new does.2 grows)
  acts_begun (acts.All d ∷ todo) old new does grows = begun_all (acts.All d) (client_same d c) todo old does.0 new refl (bound new.past grows) does.1 (acts_begun todo does.0 new does.2 grows)
  acts_begun (acts.Halt n ∷ todo) old new does grows = begun_other (acts.Halt n) todo old does.0 new refl does.1 (acts_begun todo does.0 new does.2 grows)
  acts_begun (acts.Restart n ∷ todo) old new does grows = begun_other (acts.Restart n) todo old does.0 new refl does.1 (acts_begun todo does.0 new does.2 grows)
  acts_begun (acts.Rstep r d ∷ todo) old new does grows = begun_other (acts.Rstep r d) todo old does.0 new refl does.1 (acts_begun todo does.0 new does.2 grows)
  acts_begun (acts.Recover r d ∷ todo) old new does grows = begun_other (acts.Recover r d) todo old does.0 new refl does.1 (acts_begun todo does.0 new does.2 grows)

  -- Over

  dead_idle : (es : List Entry) → has_died a.points a.number es ≡ true → has_work a es ≡ false
  dead_idle es dead = ap (λ (b : Bool). (is_some (under_way es) || nat_lt (last_number (begun_of es)) (length a.ops)) && not b) dead ∙ and_false (is_some (under_way es) || nat_lt (last_number (begun_of es)) (length a.ops))

  own_more : (old now : List Entry) (more : Grows old now) → of now ≡ of more.0 ++ of old
  own_more old now more = ap (client_entries c) more.1 ∙ client_append c more.0 old

  -- what is over stays so
  stays_over : (k : ℕ) (old now : List Entry) → Grows old now → Grows now past → Goes script c small old now → AreOver a k (of old) → AreOver a k (of now)
  stays_over k old now more grows goes (inl dead) = inl (ap (has_died a.points a.number) (goes.rest (dead_idle (of old) dead)) ∙ dead)
  stays_over k old now more grows goes (inr over) =
      inr (λ n low inside.
      subst (IsOver a n) (sym (own_more old now more)) (over_later a n (of more.0) (of old) (subst (Allowed c) (own_more old now more) (older_allowed now grows)) (over n low inside)))

  act_grown : (act : Act) (old now : Played) → DoesAct script act old now → Grows old.past now.past
  act_grown act old now does = grown (act ∷ []) old now (now, does, refl)

  over_other : (act : Act) (rest : List Act) (k : ℕ) (old now new : Played) → DoesAct script act old now → Grows now.past past → AreOver a k (of old.past)
      → (AreOver a k (of now.past) → AreOver a (k + ended_by all c rest) (of new.past)) → AreOver a (k + ended_by all c rest) (of new.past)
  over_other act rest k old now new does grows over onward = onward (stays_over k old.past now.past (act_grown act old now does) grows (act_goes script c small act old now does) over)

  over_go : (d : ClientNo) (b : Bool) (rest : List Act) (k : ℕ) (old now new : Played) → client_same d c ≡ b → DoesAct script (acts.Go d) old now → Grows now.past past → AreOver a k (of old.past)
      → ((j : ℕ) → AreOver a j (of now.past) → AreOver a (j + ended_by all c rest) (of new.past)) → AreOver a (k + (if b then ended_by all c rest + 1 else ended_by all c rest)) (of new.past)
  over_go d true rest k old now new is does grows over onward =
      let more = act_grown (acts.Go d) old now does in
      let goes = act_goes script c small (acts.Go d) old now does in
      fewer a (k + (ended_by all c rest + 1)) ((k + 1) + ended_by all c rest) (of new.past) (omega arith)
      (onward (k + 1) (go_over a k (of more.0) (of old.past) (of now.past) (own_more old.past now.past more) (older_allowed now.past grows) (mine d DoesGo old now is does.so) (λ dead. goes.rest (dead_idle (of old.past) dead)) over))
  over_go d false rest k old now new is does grows over onward = over_other (acts.Go d) rest k old now new does grows over (onward k)

  over_all : (d : ClientNo) (b : Bool) (rest : List Act) (k : ℕ) (old now new : Played) → client_same d c ≡ b → DoesAct script (acts.All d) old now → Grows now.past past → AreOver a k (of old.past)
      → ((j : ℕ) → AreOver a j (of now.past) → AreOver a (j + ended_by all c rest) (of new.past)) → AreOver a (k + (if b then all else ended_by all c rest)) (of new.past)
  over_all d true rest k old now new is does grows over onward =
      fewer a (k + all) ((k + all) + ended_by all c rest) (of new.past) (omega arith) (onward (k + all) (rest_over a (k + all) (of now.past) (mine d DoesAll old now is does.so).1))
  over_all d false rest k old now new is does grows over onward = over_other (acts.All d) rest k old now new does grows over (onward k)

  over_by : (act : Act) (rest : List Act) (k : ℕ) (old now new : Played) → DoesAct script act old now → Grows now.past past → AreOver a k (of old.past) → ((j : ℕ) → AreOver a j (of now.past) → AreOver a (j + ended_by all c rest) (of new.past))
      → AreOver a (k + ended_by all c (act ∷ rest)) (of new.past)
  over_by (acts.Go d) rest k old now new does grows over onward = over_go d (client_same d c) rest k old now new refl does grows over onward
  over_by (acts.All d) rest k old now new does grows over onward = over_all d (client_same d c) rest k old now new refl does grows over onward
  over_by (acts.Step d) rest k old now new does grows over onward = over_other (acts.Step d) rest k old now new does grows over (onward k)
  over_by (acts.Plan d) rest k old now new does grows over onward = over_other (acts.Plan d) rest k old now new does grows over (onward k)
  over_by (acts.Halt n) rest k old now new does grows over onward = over_other (acts.Halt n) rest k old now new does grows over (onward k)
  over_by (acts.Restart n) rest k old now new does grows over onward = over_other (acts.Restart n) rest k old now new does grows over (onward k)
  over_by (acts.Rstep r d) rest k old now new does grows over onward = over_other (acts.Rstep r d) rest k old now new does grows over (onward k)
  over_by (acts.Recover r d) rest k old now new does grows over onward = over_other (acts.Recover r d) rest k old now new does grows over (onward k)

  acts_over : (todo : List Act) (k : ℕ) (old new : Played) → DoesActs script todo old new → Grows new.past past → AreOver a k (of old.past) → AreOver a (k + ended_by all c todo) (of new.past)
  acts_over [] k old new does grows over = subst (λ (p : Played). AreOver a (k + 0) (of p.past)) (sym does) (fewer a (k + 0) k (of old.past) (omega arith) over)
  acts_over (act ∷ todo) k old new does grows over =
      over_by act todo k old does.0 new does.1 (grows_both does.0.past new.past past (grown todo does.0 new does.2) grows) over (λ j so. acts_over todo j does.0 new does.2 grows so)

  -- Between two acts

  module _ (now : Played) (grows : Grows now.past past) (goes : Goes script c small now.past past) where
    -- an answer of what is over stands before
    answer_before : (n : ℕ) (x : OwnAt past c) → AreOver a n (of now.past) → n ≤ all → (op : Op) × (under_way (client_entries c x.before) ≡ Some (record { number = n; op = op })) → length x.before < length now.past
    answer_before n x over inside under = by (where_in x.later x.before grows.0 now.past x.entry (sym x.split ∙ grows.1))
      where
        by : ((between : List Entry) × (now.past ≡ between ++ x.entry ∷ x.before)) ⊎ ((between : List Entry) × (grows.0 ≡ x.later ++ x.entry ∷ between) × (x.before ≡ between ++ now.past)) → length x.before < length now.past
        by (inl low) =
            let whole : length now.past ≡ length low.0 + length (x.entry ∷ x.before) = ap (λ (l : List Entry). length l) low.1 ∙ length-append low.0 (x.entry ∷ x.before) in
            omega (arith, whole)
        by (inr high) = absurd (elim over as (λ _. ⊥) [
          | inl dead ↦
              let some = some_entry c grows.0 x.later high.0 x.entry high.1 (is_own_entry c x.entry x.by) in
              let both : length (client_entries c past) ≡ length (of grows.0) + length (of now.past) = ap (λ (l : List Entry). length l) (older_list now.past grows) ∙ length-append (of grows.0) (of now.past) in
              let same : length (client_entries c past) ≡ length (of now.past) = ap (λ (l : List Entry). length l) (goes.rest (dead_idle (of now.past) dead)) in
              omega (arith, some, both, same)
          | inr each ↦
              let so = each n (omega arith) inside in
              let list : client_entries c x.before ≡ of high.0 ++ of now.past = ap (client_entries c) high.2 ∙ client_append c high.0 now.past in
              let allowed : Allowed c (of high.0 ++ of now.past) = subst (Allowed c) list (older_allowed x.before (x.later ++ x.entry ∷ [], x.split ∙ sym (append_assoc x.later (x.entry ∷ []) x.before))) in
              let b : Begun = record { number = n; op = under.0 } in
              elim (later_under c (of high.0) (of now.past) b allowed (ap under_way (sym list) ∙ under.1)) as (λ _. ⊥) [
                | inl still ↦ let less : n < n = so.past_it b still in omega (arith, less)
                | inr above ↦ let low = so.begun in let up : last_number (begun_of (of now.past)) < n = above in omega (arith, low, up)
              ]
        ])

    -- a Begin of what hasn't begun stands behind
    begin_behind : (n : ℕ) (op : Op) (y : BeginAt past c n op) → last now < n → length now.past ≤ length y.at.before
    begin_behind n op y less = by (where_in y.at.later y.at.before grows.0 now.past y.at.entry (sym y.at.split ∙ grows.1))
      where
        by : ((between : List Entry) × (now.past ≡ between ++ y.at.entry ∷ y.at.before)) ⊎ ((between : List Entry) × (grows.0 ≡ y.at.later ++ y.at.entry ∷ between) × (y.at.before ≡ between ++ now.past)) → length now.past ≤ length y.at.before
        by (inr high) =
            let whole : length y.at.before ≡ length high.0 + length now.past = ap (λ (l : List Entry). length l) high.2 ∙ length-append high.0 now.past in
            omega (arith, whole)
        by (inl low) =
            let list = client_split c now.past low.0 y.at.entry y.at.before low.1 (is_own_entry c y.at.entry y.at.by) in
            let rise = numbers_rise c (of low.0) (y.at.entry ∷ of y.at.before) (subst (Allowed c) list (older_allowed now.past grows)) in
            let equal : last now ≡ last_number (begun_of (of low.0 ++ y.at.entry ∷ of y.at.before)) = ap (λ (l : List Entry). last_number (begun_of l)) list in
            let first : last_number (begun_of (y.at.entry ∷ of y.at.before)) ≡ n = ap (λ (w : What). last_number (begun_in w ++ begun_of (of y.at.before))) y.begins in
            absurd (omega (arith, less, rise, equal, first))

module _ (start : Start) (script : Script) (past : List Entry) (run : FollowsProtocol start past) (order : BeginsInOrder script past) (few : length script.clients ≤ 16) (ended : List Entry → Type 0) (played : IsPlayed ended script past) where
  module _ (front back : List Act) (split : acts_of script ≡ front ++ back) where
    parts : (now : Played) × DoesActs script front (schedule.played_from played.opening) now × DoesActs script back now (record { past = played.played; works = played.works })
    parts = acts_split script front back (schedule.played_from played.opening) (record { past = played.played; works = played.works })
        (subst (λ (l : List Act). DoesActs script l (schedule.played_from played.opening) (record { past = played.played; works = played.works })) split played.acts)

    abbrev now : Played
    now = parts.0

    grows : Grows now.past past
    grows =
        let g = acts_grow script back now (record { past = played.played; works = played.works }) parts.2 in
        grows_both now.past played.played past (g.later, g.is) (played.closing, played.past_is)

    module _ (c : ClientNo) (small : c.0 < 16) where
      goes : Goes script c small now.past past
      goes =
          goes_both script c small now.past played.played past (acts_go script c small back now (record { past = played.played; works = played.works }) parts.2)
          (goes_same script c small played.played past (ap (client_entries c) played.past_is ∙ of_closer c small played.closing played.played played.closed))

      nothing : client_entries c played.opening ≡ []
      nothing = opened_none c small played.opening played.opened

      none_under : (b : Begun) → under_way [] ≡ Some b → ⊥
      none_under b is = cc

      none_over : AreOver (role_of script c) 0 (client_entries c played.opening)
      none_over = subst (AreOver (role_of script c) 0) (sym nothing) (inr (λ n low inside. record { begun = omega (arith, low); past_it = λ b is. absurd (none_under b is) }))

      over : (n : ℕ) → n ≤ ended_by (length (ops_of script c)) c front → AreOver (role_of script c) n (client_entries c now.past)
      over n low =
          fewer (role_of script c) n (0 + ended_by (length (ops_of script c)) c front) (client_entries c now.past) (omega (arith, low))
          (acts_over start script past run order c small front 0 (schedule.played_from played.opening) now parts.1 grows none_over)

      most : last_number (begun_of (client_entries c now.past)) ≤ begun_by (length (ops_of script c)) c front
      most =
          let all = acts_begun start script past run order c small front (schedule.played_from played.opening) now parts.1 grows in
          let none_yet : last_number (begun_of (client_entries c played.opening)) ≡ 0 = ap (λ (l : List Entry). last_number (begun_of l)) nothing in
          omega (arith, all, none_yet)

    -- a client whose operation is begun is one of the script
    small_of : (c : ClientNo) (n : ℕ) → IsBegun (said_by past c n) → c.0 < 16
    small_of c n said =
        let there = begun_there start past c n run said in
        let among = asks_among script c n there.op (begun_as_asked start script past run order c n there.op there.it) in
        omega (arith, among, few)

    ended_before : (c : ClientNo) (n : ℕ) → IsAnswered (said_by past c n) → n ≤ ended_by (length (ops_of script c)) c front → (times_by past).answered c n < length now.past
    ended_before c n answered low =
        let of = answer_of (said_by past c n) answered in
        let x = told_there past c n of.0 of.1 in
        let begun : IsBegun (said_by past c n) = subst IsBegun (sym of.1) tt in
        let small = small_of c n begun in
        let there = begun_there start past c n run begun in
        let asks = begun_as_asked start script past run order c n there.op there.it in
        let inside = slice_get_within (ops_of script c) asks.0 there.op asks.2 in
        let number = asks.1 in
        let before = answer_before start script past run order c small now grows (goes c small) n x.it.at (over c small n low) (omega (arith, inside, number)) (answered_op start past c n of.0 x.it run) in
        let place = x.place in
        omega (arith, before, place)

    begun_behind : (c : ClientNo) (n : ℕ) → IsBegun (said_by past c n) → begun_by (length (ops_of script c)) c front < n → length now.past ≤ (times_by past).begun c n
    begun_behind c n said less =
        let small = small_of c n said in
        let y = begun_there start past c n run said in
        let up = most c small in
        let behind = begin_behind start script past run order c small now grows (goes c small) n y.op y.it (omega (arith, up, less)) in
        let place = y.place in
        omega (arith, behind, place)

  pub by_acts : GoesByActs script (said_by past) (times_by past)
  by_acts front back split = record { moment = length (now front back split).past; ended = ended_before front back split; begun = begun_behind front back split }
