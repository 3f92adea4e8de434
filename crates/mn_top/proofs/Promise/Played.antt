-- What the list of each client of a script comes to, act after act or, on threads, phase after phase:
-- in the end no work is left.
use Rattle.std.proofs.Common.{◌≡◌, ℕ, zero, suc, ◌+◌, ◌<◌, ◌≤◌, ◌⊎◌, inl, inr, ⊎_elim, Bool, true, false, List, [], ◌∷◌, ◌++◌, length, map, Option, Some, None, refl, subst, sym, ap, ◌∙◌, arith, if◌then◌else◌, MatchBool, zero-add}
use Rattle.std.specs.Prelude.{slice_get}
use Rattle.std.specs.List.{AllByRecursion, range_with_len}
use Rattle.std.specs.Option.{option_map_or}
use Rattle.std.proofs.lemmas.Bool.{ne_eqb}
use Rattle.std.proofs.lemmas.List.{append-nil}
use Rattle.mn_base.proofs.Booleans.{clash, falsely}
use Rattle.mn_base.proofs.Lists.{range_at, weaker}
use Rattle.mn_base.specs.Ids.{client_same}
use Rattle.mn_base.specs.declared.ids.ClientNo.{ClientNo}
use Rattle.mn_callers.specs.Acts.{DoesAll, DoesGo, DoesPlan, DoesStep, Role, has_work, role_of}
use Rattle.mn_callers.specs.Closing.{AreOfCloser, IsCallOrRestart}
use Rattle.mn_callers.specs.Desks.{recoverer}
use Rattle.mn_callers.specs.Failed.{closer}
use Rattle.mn_callers.specs.Plays.{caller_at}
use Rattle.mn_callers.specs.Points.{has_died, is_kill_of, is_some_met}
use Rattle.mn_callers.specs.Stages.{GoesOnBy, Played}
use Rattle.mn_cell.specs.Calls.{entry_at}
use Rattle.mn_cluster.specs.Follows.{DoesAllAlone, DoesIfMarked, GoAtOnce, IsOfPlain, IsOfRecoverer, IsRunThrough, Settle, TakeTurns}
use Rattle.mn_cluster.specs.Marks.{has_mark, is_marked}
use Rattle.mn_replay.specs.Follows.{IsPlayed}
use Rattle.mn_replay.specs.Schedule.{DoesAct, DoesActs, acts_of, all_of, last_acts, with_entry}
use Rattle.mn_runs.proofs.Same.{client_same-refl, client_same-true}
use Rattle.mn_runs.specs.declared.entry.Entry.{Entry}
use Rattle.mn_runs.specs.declared.entry.What.TheVariants.{Restarted, Stopped}
use Rattle.mn_runs.specs.Calls.{client_entries, is_by, node_entries}
use Rattle.mn_runs.specs.Nodes.{is_down}
use Rattle.mn_script.specs.declared.elements.Act.{Act}
use Rattle.mn_script.specs.declared.elements.Act.TheVariants as acts
use Rattle.mn_script.specs.declared.elements.Mark.{Mark}
use Rattle.mn_script.specs.declared.elements.Mark.TheVariants.{Plain, First, Last}
use Rattle.mn_script.specs.declared.elements.Point.{Point}
use Rattle.mn_script.specs.declared.elements.ScriptClient.{ScriptClient}
use Rattle.mn_script.specs.Script.{Script}
use Rattle.mn_top.proofs.Gets.{mapped_at, there_at}
use Rattle.mn_top.proofs.Promise.Deaths.{DiesInIt, all_fine, all_rest, go_fine, go_rest, plan_fine, plan_rest, step_fine, step_rest}

-- Entries of others

pub others_same : (c : ClientNo) (own past : List Entry) → AllByRecursion (λ e. is_by c e ≡ false) own → client_entries c (own ++ past) ≡ client_entries c past
others_same c [] past others = refl
others_same c (e ∷ own) past others = ap (λ (b : Bool). if b then e ∷ client_entries c (own ++ past) else client_entries c (own ++ past)) others.0 ∙ others_same c own past others.1

not_by : (c d : ClientNo) (e : Entry) → client_same c d ≡ false → e.client ≡ Some d → is_by c e ≡ false
not_by c d e other is = ap (λ (o : Option ClientNo). option_map_or (client_same c) o false) is ∙ other

pub of_another : (c d : ClientNo) → client_same c d ≡ false → (old new : List Entry) → GoesOnBy d old new → client_entries c new ≡ client_entries c old
of_another c d other old new goes = ap (client_entries c) goes.past_is ∙ others_same c goes.own old (weaker (λ e. e.client ≡ Some d) (λ e. is_by c e ≡ false) (λ e is. not_by c d e other is) goes.own goes.by)

below : (c : ClientNo) (n : ℕ) → c.0 < 16 → 16 ≤ n → client_same c (record { 0 = n }) ≡ false
below c n small large = ne_eqb c.0 n (λ same. absurd (omega (arith, small, large, same)))

pub of_closer : (c : ClientNo) → c.0 < 16 → (own past : List Entry) → AreOfCloser own → client_entries c (own ++ past) ≡ client_entries c past
of_closer c small own past are = others_same c own past (weaker (λ e. (e.client ≡ Some closer) × IsCallOrRestart e.what) (λ e. is_by c e ≡ false) (λ e is. not_by c closer e (below c 16 small (omega arith)) is.0) own are)

pub opened_none : (c : ClientNo) → c.0 < 16 → (opening : List Entry) → AreOfCloser opening → client_entries c opening ≡ []
opened_none c small opening are = ap (client_entries c) (sym (append-nil opening)) ∙ of_closer c small opening [] are

behind : {X : Type 0} (xs ys : List X) (k : ℕ) → slice_get (xs ++ ys) (length xs + k) ≡ slice_get ys k
behind [] ys k = ap (slice_get ys) (zero-add k)
behind (x ∷ xs) ys k = ap (slice_get (x ∷ (xs ++ ys))) (more (length xs) k) ∙ behind xs ys k
  where
    more : (n k : ℕ) → suc n + k ≡ suc (n + k)
    more n k = omega arith

-- before its first entry no client has died
none_dies : (test : Point → Bool) (points : List Point) → is_some_met test points (map (λ p. false) points) ≡ false
none_dies test [] = refl
none_dies test (p ∷ ps) = none_dies test ps

module _ (script : Script) (c : ClientNo) (small : c.0 < 16) where
  abbrev a : Role
  a = role_of script c

  abbrev of : List Entry → List Entry
  of past = client_entries c past

  -- the client's list goes on: a death stays one in the operation under way, and where no work is
  -- left nothing is done
  pub record Goes (old new : List Entry) : Type 0 where
    pub fine : DiesInIt a (client_entries c old) → DiesInIt a (client_entries c new)
    pub rest : has_work a (client_entries c old) ≡ false → client_entries c new ≡ client_entries c old

  pub goes_same : (old new : List Entry) → of new ≡ of old → Goes old new
  goes_same old new same = record { fine = λ f. subst (DiesInIt a) (sym same) f; rest = λ _. same }

  pub goes_both : (old now new : List Entry) → Goes old now → Goes now new → Goes old new
  goes_both old now new one two = record {
    fine = λ f. two.fine (one.fine f);
    rest = λ idle. let same = one.rest idle in two.rest (ap (has_work a) same ∙ idle) ∙ same;
  }

  still_done : (old new : List Entry) → Goes old new → has_work a (of old) ≡ false → has_work a (of new) ≡ false
  still_done old new goes idle = ap (has_work a) (goes.rest idle) ∙ idle

  -- what a client does, this one or another
  client_goes : (does : Role → List Entry → List Entry → Type 0) → ((es new : List Entry) → does a es new → DiesInIt a es → DiesInIt a new) → ((es new : List Entry) → has_work a es ≡ false → does a es new → new ≡ es)
      → (d : ClientNo) (old new : List Entry) → GoesOnBy d old new → does (role_of script d) (client_entries d old) (client_entries d new) → Goes old new
  client_goes does fine rest d old new goes so = by (client_same c d) refl
    where
      by : (b : Bool) → client_same c d ≡ b → Goes old new
      by true is =
          let mine : does a (of old) (of new) = subst (λ (x : ClientNo). does (role_of script x) (client_entries x old) (client_entries x new)) (sym (client_same-true c d is)) so in
          record { fine = fine (of old) (of new) mine; rest = λ idle. rest (of old) (of new) idle mine }
      by false other = goes_same old new (of_another c d other old new goes)

  -- Acts

  -- it is an act of this client's
  abbrev pub concerns : Act → Bool
  concerns (acts.Step d) = client_same d c
  concerns (acts.Plan d) = client_same d c
  concerns (acts.Go d) = client_same d c
  concerns (acts.All d) = client_same d c
  concerns act = false

  turned : (d : ClientNo) → client_same d c ≡ false → client_same c d ≡ false
  turned d other = falsely (client_same c d) (λ same. clash (client_same d c) (ap (λ (x : ClientNo). client_same d x) (client_same-true c d same) ∙ client_same-refl d) other)

  halt_same : (old new : Played) (e : Entry) → e.client ≡ Some closer → new ≡ with_entry e old → of new.past ≡ of old.past
  halt_same old new e by is = ap (λ (p : Played). of p.past) is ∙ others_same c (e ∷ []) old.past (not_by c closer e (below c 16 small (omega arith)) by, tt)

  -- any other act leaves the client's list as it was
  pub act_same : (act : Act) (old new : Played) → concerns act ≡ false → DoesAct script act old new → of new.past ≡ of old.past
  act_same (acts.Step d) old new other does = of_another c d (turned d other) old.past new.past does.past
  act_same (acts.Plan d) old new other does = of_another c d (turned d other) old.past new.past does.past
  act_same (acts.Go d) old new other does = of_another c d (turned d other) old.past new.past does.past
  act_same (acts.All d) old new other does = of_another c d (turned d other) old.past new.past does.past
  act_same (acts.Rstep r d) old new other does = of_another c (recoverer r) (below c (16 + r) small (omega arith)) old.past new.past does.past
  act_same (acts.Recover r d) old new other does = of_another c (recoverer r) (below c (16 + r) small (omega arith)) old.past new.past does.past
  act_same (acts.Halt n) old new other does = by (is_down (node_entries n old.past)) does
    where
      by : (b : Bool) → MatchBool b (new ≡ old) (new ≡ with_entry (entry_at n closer (Stopped None None)) old) → of new.past ≡ of old.past
      by true same = ap (λ (p : Played). of p.past) same
      by false more = halt_same old new (entry_at n closer (Stopped None None)) refl more
  act_same (acts.Restart n) old new other does = by (is_down (node_entries n old.past)) does
    where
      by : (b : Bool) → MatchBool b ((new ≡ old) ⊎ ((kept : Bool) × (new ≡ with_entry (entry_at n closer (Restarted kept)) old))) (new ≡ old) → of new.past ≡ of old.past
      by true so = ⊎_elim (λ same. ap (λ (p : Played). of p.past) same) (λ more. halt_same old new (entry_at n closer (Restarted more.0)) refl more.1) so
      by false same = ap (λ (p : Played). of p.past) same

  pub act_goes : (act : Act) (old new : Played) → DoesAct script act old new → Goes old.past new.past
  act_goes (acts.Step d) old new does = client_goes DoesStep (step_fine a) (step_rest a) d old.past new.past does.past does.so
  act_goes (acts.Plan d) old new does = client_goes DoesPlan (plan_fine a) (plan_rest a) d old.past new.past does.past does.so
  act_goes (acts.Go d) old new does = client_goes DoesGo (go_fine a) (go_rest a) d old.past new.past does.past does.so
  act_goes (acts.All d) old new does = client_goes DoesAll (all_fine a) (all_rest a) d old.past new.past does.past does.so
  act_goes (acts.Rstep r d) old new does = goes_same old.past new.past (act_same (acts.Rstep r d) old new refl does)
  act_goes (acts.Recover r d) old new does = goes_same old.past new.past (act_same (acts.Recover r d) old new refl does)
  act_goes (acts.Halt n) old new does = goes_same old.past new.past (act_same (acts.Halt n) old new refl does)
  act_goes (acts.Restart n) old new does = goes_same old.past new.past (act_same (acts.Restart n) old new refl does)

  pub acts_go : (todo : List Act) (old new : Played) → DoesActs script todo old new → Goes old.past new.past
  acts_go [] old new does = goes_same old.past new.past (ap (λ (p : Played). of p.past) does)
  acts_go (act ∷ todo) old new does = goes_both old.past does.0.past new.past (act_goes act old does.0 does.1) (acts_go todo does.0 new does.2)

  -- behind an `all` of the client
  acts_end : (todo : List Act) (k : ℕ) (old new : Played) → slice_get todo k ≡ Some (acts.All c) → DoesActs script todo old new → has_work a (of new.past) ≡ false
  acts_end [] k old new is does = absurd cc
  acts_end (act ∷ todo) zero old new is does =
      let same : act ≡ acts.All c = cc in
      let all : DoesAct script (acts.All c) old does.0 = subst (λ (x : Act). DoesAct script x old does.0) same does.1 in
      still_done does.0.past new.past (acts_go todo does.0 new does.2) all.so.1
  acts_end (act ∷ todo) (suc k) old new is does = acts_end todo k does.0 new is does.2

  -- the client's list in the end
  pub record Ended (past : List Entry) : Type 0 where
    pub fine : DiesInIt a (client_entries c past)
    pub done : has_work a (client_entries c past) ≡ false

  first_fine : (past : List Entry) → of past ≡ [] → DiesInIt a (of past)
  first_fine past none dead = absurd (clash (has_died a.points c (of past)) dead (ap (has_died a.points c) none ∙ none_dies (is_kill_of c) a.points))

  all_there : c.0 < length script.clients → slice_get (acts_of script) (length script.schedule + c.0) ≡ Some (acts.All c)
  all_there among =
      behind script.schedule (last_acts script) c.0
      ∙ (mapped_at all_of (range_with_len 0 (length script.clients)) c.0 (0 + c.0) (range_at 0 (length script.clients) c.0 among) ∙ ap (λ (k : ℕ). Some (all_of k)) (zero-add c.0))

  pub played_ends : (ended : List Entry → Type 0) (past : List Entry) → IsPlayed ended script past → c.0 < length script.clients → Ended past
  played_ends ended past played among =
      let closes = ap of played.past_is ∙ of_closer c small played.closing played.played played.closed in
      record {
        fine = subst (DiesInIt a) (sym closes) ((acts_go (acts_of script) _ _ played.acts).fine (first_fine played.opening (opened_none c small played.opening played.opened)));
        done = ap (has_work a) closes ∙ acts_end (acts_of script) (length script.schedule + c.0) _ _ (all_there among) played.acts;
      }

  -- Phases

  turn_goes : (mark : Mark) (d : ClientNo) (old new : List Entry) → DoesIfMarked script mark d old new → Goes old new
  turn_goes mark d old new does = by (is_marked mark script d) does
    where
      by : (b : Bool) → MatchBool b (DoesAllAlone script d old new) (new ≡ old) → Goes old new
      by true alone = client_goes DoesAll (all_fine a) (all_rest a) d old new alone.past alone.so
      by false same = goes_same old new (ap of same)

  pub turn_ends : (mark : Mark) (old new : List Entry) → is_marked mark script c ≡ true → DoesIfMarked script mark c old new → has_work a (of new) ≡ false
  turn_ends mark old new marked does = let alone : DoesAllAlone script c old new = subst (λ (b : Bool). MatchBool b (DoesAllAlone script c old new) (new ≡ old)) marked does in alone.so.1

  pub turns_go : (mark : Mark) (ks : List ℕ) (old new : List Entry) → TakeTurns script mark ks old new → Goes old new
  turns_go mark [] old new same = goes_same old new (ap of same)
  turns_go mark (k ∷ ks) old new turns = goes_both old turns.0 new (turn_goes mark (caller_at k) old turns.0 turns.1) (turns_go mark ks turns.0 new turns.2)

  turns_end : (mark : Mark) (ks : List ℕ) (k : ℕ) (old new : List Entry) → is_marked mark script c ≡ true → slice_get ks k ≡ Some c.0 → TakeTurns script mark ks old new → has_work a (of new) ≡ false
  turns_end mark [] k old new marked is turns = absurd cc
  turns_end mark (j ∷ ks) zero old new marked is turns =
      let same : j ≡ c.0 = cc in
      still_done turns.0 new (turns_go mark ks turns.0 new turns.2) (turn_ends mark old turns.0 marked (subst (λ (i : ℕ). DoesIfMarked script mark (caller_at i) old turns.0) same turns.1))
  turns_end mark (j ∷ ks) (suc k) old new marked is turns = turns_end mark ks k turns.0 new marked is turns.2

  pub in_turn_ends : (mark : Mark) (old new : List Entry) → c.0 < length script.clients → is_marked mark script c ≡ true → TakeTurns script mark (range_with_len 0 (length script.clients)) old new → has_work a (of new) ≡ false
  in_turn_ends mark old new among marked turns = turns_end mark (range_with_len 0 (length script.clients)) c.0 old new marked (range_at 0 (length script.clients) c.0 among ∙ ap Some (zero-add c.0)) turns

  -- a client with a mark does nothing at once with the others
  pub not_at_once : (old new : List Entry) → is_marked Plain script c ≡ false → GoAtOnce script old new → of new ≡ of old
  not_at_once old new unmarked goes = ap of goes.past_is ∙ others_same c goes.own old (weaker (λ e. IsOfPlain script e ⊎ IsOfRecoverer script e) (λ e. is_by c e ≡ false) each goes.own goes.whose)
    where
      each : (e : Entry) → IsOfPlain script e ⊎ IsOfRecoverer script e → is_by c e ≡ false
      each e (inl plain) = not_by c plain.0 e (other (client_same c plain.0) refl) plain.2
        where
          other : (b : Bool) → client_same c plain.0 ≡ b → b ≡ false
          other true same = absurd (clash (is_marked Plain script c) (ap (is_marked Plain script) (client_same-true c plain.0 same) ∙ plain.1) unmarked)
          other false not_same = refl
      each e (inr recovers) = not_by c (recoverer recovers.0) e (below c (16 + recovers.0) small (omega arith)) recovers.3

  pub at_once_goes : (old new : List Entry) → GoAtOnce script old new → Goes old new
  at_once_goes old new goes = by (is_marked Plain script c) refl
    where
      by : (b : Bool) → is_marked Plain script c ≡ b → Goes old new
      by true marked =
          let all = goes.each c marked in
          record { fine = all_fine a (of old) (of new) all; rest = λ idle. all_rest a (of old) (of new) idle all }
      by false unmarked = goes_same old new (not_at_once old new unmarked goes)

  pub settle_goes : (old new : List Entry) → Settle old new → Goes old new
  settle_goes old new settle = goes_same old new (ap of settle.past_is ∙ of_closer c small settle.own old settle.of_closer)

  module _ (opens closes : List Entry → Type 0) (past : List Entry) (run : IsRunThrough opens closes script past) where
    pub from_met : Goes run.met past
    from_met =
        goes_both run.met run.closed past (settle_goes run.met run.closed run.closing)
        (goes_both run.closed run.followed past (turns_go Last _ run.closed run.followed run.last) (settle_goes run.followed past run.ending))

    pub from_led : Goes run.led past
    from_led = goes_both run.led run.met past (at_once_goes run.led run.met run.middle) from_met

    from_opened : Goes run.opened past
    from_opened = goes_both run.opened run.led past (turns_go First _ run.opened run.led run.first) from_led

    pub run_ends : c.0 < length script.clients → Ended past
    run_ends among = record {
      fine = from_opened.fine (first_fine run.opened (opened_none c small run.opened run.opening));
      done = by client.0.mark (ap (λ (o : Option ScriptClient). option_map_or (λ k. has_mark Plain k.mark) o false) client.1) (ap (λ (o : Option ScriptClient). option_map_or (λ k. has_mark First k.mark) o false) client.1)
          (ap (λ (o : Option ScriptClient). option_map_or (λ k. has_mark Last k.mark) o false) client.1);
    }
      where
        client : (k : ScriptClient) × (slice_get script.clients c.0 ≡ Some k)
        client = there_at script.clients c.0 among

        by : (mark : Mark) → is_marked Plain script c ≡ has_mark Plain mark → is_marked First script c ≡ has_mark First mark → is_marked Last script c ≡ has_mark Last mark → has_work a (of past) ≡ false
        by First plain first last = still_done run.led past from_led (in_turn_ends First run.opened run.led among first run.first)
        by Plain plain first last = still_done run.met past from_met (run.middle.each c plain).1
        by Last plain first last = still_done run.followed past (settle_goes run.followed past run.ending) (in_turn_ends Last run.closed run.followed among last run.last)
