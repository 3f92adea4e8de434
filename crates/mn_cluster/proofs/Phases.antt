-- How the log of a run on threads goes on, phase after phase.
use Rattle.std.proofs.Common.{◌≡◌, ℕ, ◌+◌, zero-add, Bool, true, false, List, [], ◌∷◌, ◌++◌, MatchBool, Result, Ok, Err, OnOk, is_err, refl, sym, ap, ◌∙◌, subst, inl, inr}
use Rattle.std.specs.List.{range_with_len}
use Rattle.std.proofs.lemmas.List.FromFn.{map-range_with_len_more}
use Rattle.std.proofs.lemmas.List.{append-nil, map-id}
use Rattle.mn_script.specs.declared.elements.Mark.{Mark}
use Rattle.mn_script.specs.declared.elements.Mark.TheVariants.{First, Last}
use Rattle.mn_script.specs.Script.{Script}
use Rattle.mn_runs.specs.declared.entry.Entry.{Entry}
use Rattle.mn_commits.specs.Laws.{RecordsStaySound}
use Rattle.mn_runs.specs.Protocol.{AreUp, Start}
use Rattle.mn_law.specs.Run.{IsRun, RunsFollowProtocol}
use Rattle.mn_callers.proofs.Played.{Grows, free_in, goes_as_both, grows_both}
use Rattle.mn_callers.specs.Acts.{DoesAll, role_of}
use Rattle.mn_callers.specs.Closing.{AreOfCloser}
use Rattle.mn_callers.specs.Logs.{HasLog, IsFresh}
use Rattle.mn_callers.specs.Plays.{PlayState, caller_at}
use Rattle.mn_callers.specs.Stages.{AreFreeIfSound, GoesAs, IsOfClient, Settles}
use Rattle.mn_cluster.specs.Follows.{DoesIfMarked, FollowsOnThreads, FollowsToClosing, GoAtOnce, GoInTurn, IsRunThrough, IsRunToClosing, Settle, TakeTurns}
use Rattle.mn_cluster.specs.Marks.{is_marked}
use Rattle.mn_cluster.specs.Runs.{GoFirst, RunsThrough, RunsToClosing, on_past}

pub not_err : {E : Type 0} (r : Result (Unit {0}) E) (P : Type 0) → is_err r ≡ false → OnOk r P → P
not_err (Ok u) P is p = p
not_err (Err e) P is p = absurd cc

-- One turn

module _ {D : Type 0} (script : Script) (mark : Mark) (k : ℕ) where
  pub no_turn : (p : PlayState D) → is_marked mark script (caller_at k) ≡ false → GoesAs (on_past (DoesIfMarked script mark (caller_at k))) p p
  no_turn p is past log = (past, log, subst (λ (b : Bool). MatchBool b (Rattle.mn_cluster.specs.Follows.DoesAllAlone script (caller_at k) past past) (past ≡ past)) (sym is) refl)

  pub one_turn : (p q : PlayState D) → is_marked mark script (caller_at k) ≡ true → GoesAs (IsOfClient (caller_at k) (DoesAll (role_of script (caller_at k)))) p q → GoesAs (on_past (DoesIfMarked script mark (caller_at k))) p q
  one_turn p q is goes past log =
      let done = goes past log in (
        done.0,
        done.1,
        subst (λ (b : Bool). MatchBool b (Rattle.mn_cluster.specs.Follows.DoesAllAlone script (caller_at k) past done.0) (done.0 ≡ past)) (sym is) (record { past = done.2.past; so = done.2.so }),
      )

-- One turn after another

pub range_more : (k : ℕ) → range_with_len 0 (k + 1) ≡ range_with_len 0 k ++ k ∷ []
range_more k = sym (map-id (range_with_len 0 (k + 1))) ∙ (map-range_with_len_more (λ (j : ℕ). j) 0 k k (zero-add k) ∙ ap (λ (l : List ℕ). l ++ k ∷ []) (map-id (range_with_len 0 k)))

pub turns_more : (script : Script) (mark : Mark) (ks : List ℕ) (k : ℕ) (old now new : List Entry) → TakeTurns script mark ks old now → DoesIfMarked script mark (caller_at k) now new → TakeTurns script mark (ks ++ k ∷ []) old new
turns_more script mark [] k old now new turns one = (new, subst (λ (l : List Entry). DoesIfMarked script mark (caller_at k) l new) turns one, refl)
turns_more script mark (j ∷ ks) k old now new turns one = (turns.0, turns.1, turns_more script mark ks k turns.0 now new turns.2 one)

module _ {D : Type 0} (does rest both : List Entry → List Entry → Type 0) where
  -- a run that goes on so, and then so
  pub goes_both : (p q r : PlayState D) → ((old now new : List Entry) → does old now → rest now new → both old new) → GoesAs (on_past does) p q → GoesAs (on_past rest) q r → GoesAs (on_past both) p r
  goes_both p q r join one other = goes_as_both (on_past does) (on_past rest) (on_past both) p q r (λ old now new a b. join old.past now.past new.past a b) one other

pub no_turns : {D : Type 0} (script : Script) (mark : Mark) (p : PlayState D) → GoesAs (on_past (TakeTurns script mark [])) p p
no_turns script mark p past log = (past, log, refl)

pub first_both : {D : Type 0} (script : Script) (p q r : PlayState D) → GoesAs (on_past (GoInTurn script First)) p q → GoesAs (on_past (GoAtOnce script)) q r → GoesAs (on_past (GoFirst script)) p r
first_both script p q r one other = goes_both (GoInTurn script First) (GoAtOnce script) (GoFirst script) p q r (λ old now new a b. (now, a, b)) one other

-- The whole

settled : {D : Type 0} (p q : PlayState D) (past : List Entry) → GoesAs Settles p q → HasLog p past → (later : List Entry) × HasLog q later × Settle past later
settled p q past goes log = let done = goes past log in (done.0, done.1, record { own = done.2.own; past_is = done.2.past_is; of_closer = done.2.of_closer })

pub run_whole : {D : Type 0} (start : Start) (script : Script) (p opened met closed followed ended : PlayState D) → IsFresh p
    → GoesAs Settles p opened → ((past : List Entry) → HasLog opened past → AreFreeIfSound start past)
    → GoesAs (on_past (GoFirst script)) opened met
    → GoesAs Settles met closed → ((past : List Entry) → HasLog closed past → AreFreeIfSound start past) → ((past : List Entry) → HasLog closed past → AreUp start past)
    → GoesAs (on_past (GoInTurn script Last)) closed followed → GoesAs Settles followed ended → (past : List Entry) × HasLog ended past × RunsThrough start script past
run_whole start script p opened met closed followed ended fresh opens free goes closes free_then up lasts ends =
    let one = opens [] fresh.log in
    let two = goes one.0 one.1 in
    let three = settled met closed two.0 closes two.1 in
    let four = lasts three.0 three.1 in
    let five = settled followed ended four.0 ends four.1 in (
      five.0,
      five.1,
      record {
        opened = one.0;
        opening = subst AreOfCloser (sym (one.2.past_is ∙ append-nil one.2.own)) one.2.of_closer;
        opened_so = free one.0 one.1;
        led = two.2.0;
        first = two.2.1;
        met = two.0;
        middle = two.2.2;
        closed = three.0;
        closing = three.2;
        closed_so = (up three.0 three.1, free_then three.0 three.1);
        followed = four.0;
        last = four.2;
        ending = five.2;
      },
    )

-- what it is up to the first closing
pub run_to_closing : {D : Type 0} (start : Start) (script : Script) (p opened met closed : PlayState D) → IsFresh p
    → GoesAs Settles p opened → ((past : List Entry) → HasLog opened past → AreFreeIfSound start past)
    → GoesAs (on_past (GoFirst script)) opened met → GoesAs Settles met closed → (past : List Entry) × HasLog closed past × IsRunToClosing (AreFreeIfSound start) script past
run_to_closing start script p opened met closed fresh opens free goes closes =
    let one = opens [] fresh.log in
    let two = goes one.0 one.1 in
    let three = settled met closed two.0 closes two.1 in (
      three.0,
      three.1,
      record {
        opened = one.0;
        opening = subst AreOfCloser (sym (one.2.past_is ∙ append-nil one.2.own)) one.2.of_closer;
        opened_so = free one.0 one.1;
        led = two.2.0;
        first = two.2.1;
        met = two.0;
        middle = two.2.2;
        closing = three.2;
      },
    )

-- Each phase's log goes on from the one before

turns_grow : (script : Script) (mark : Mark) (ks : List ℕ) (old new : List Entry) → TakeTurns script mark ks old new → Grows old new
turns_grow script mark [] old new turns = record { later = []; is = turns }
turns_grow script mark (k ∷ ks) old new turns = grows_both old turns.0 new (by (is_marked mark script (caller_at k)) turns.1) (turns_grow script mark ks turns.0 new turns.2)
  where
    by : (b : Bool) → MatchBool b (Rattle.mn_cluster.specs.Follows.DoesAllAlone script (caller_at k) old turns.0) (turns.0 ≡ old) → Grows old turns.0
    by true does = record { later = does.past.own; is = does.past.past_is }
    by false same = record { later = []; is = same }

-- the log of a run follows the script
pub follows_script : (start : Start) (script : Script) (past : List Entry) → RunsFollowProtocol → RecordsStaySound → IsRun start past → RunsThrough start script past → FollowsOnThreads start script past
follows_script start script past follow stay run through = record {
  opened = through.opened;
  opening = through.opening;
  opened_so = free_in start through.opened past follow stay run from_opened through.opened_so;
  led = through.led;
  first = through.first;
  met = through.met;
  middle = through.middle;
  closed = through.closed;
  closing = through.closing;
  closed_so = (through.closed_so.0, free_in start through.closed past follow stay run from_closed through.closed_so.1);
  followed = through.followed;
  last = through.last;
  ending = through.ending;
}
  where
    from_closed : Grows through.closed past
    from_closed = grows_both through.closed through.followed past (turns_grow script Last _ through.closed through.followed through.last) (record { later = through.ending.own; is = through.ending.past_is })

    from_opened : Grows through.opened past
    from_opened =
        grows_both through.opened through.led past (turns_grow script First _ through.opened through.led through.first)
        (grows_both through.led through.met past (record { later = through.middle.own; is = through.middle.past_is })
        (grows_both through.met through.closed past (record { later = through.closing.own; is = through.closing.past_is }) from_closed))

-- the log of one that failed at a closing follows it up to there
pub follows_to : (start : Start) (script : Script) (past : List Entry) → RunsFollowProtocol → RecordsStaySound → IsRun start past → RunsToClosing start script past → FollowsToClosing start script past
follows_to start script past follow stay run (inr through) = inr (follows_script start script past follow stay run through)
follows_to start script past follow stay run (inl first) =
    inl (record {
      opened = first.opened;
      opening = first.opening;
      opened_so = free_in start first.opened past follow stay run grows first.opened_so;
      led = first.led;
      first = first.first;
      met = first.met;
      middle = first.middle;
      closing = first.closing;
    })
  where
    grows : Grows first.opened past
    grows =
        grows_both first.opened first.led past (turns_grow script First _ first.opened first.led first.first)
        (grows_both first.led first.met past (record { later = first.middle.own; is = first.middle.past_is })
        (record { later = first.closing.own; is = first.closing.past_is }))
