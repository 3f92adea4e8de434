-- How the log of a schedule goes on, act after act.
use Rattle.std.proofs.Common.{◌≡◌, ◌⊎◌, ⊎_elim, MatchBool, ℕ, ◌-◌, Bool, true, false, Option, Some, None, List, [], ◌∷◌, ◌++◌, replicate, refl, sym, ap, ◌∙◌, subst}
use Rattle.std.specs.Prelude.{slice_index_or, slice_set}
use Rattle.std.specs.List.{AllByRecursion}
use Rattle.std.proofs.lemmas.List.{append-nil}
use Rattle.mn_recov.specs.Recovery.{Recovery}
use Rattle.mn_script.specs.declared.elements.Act.{Act}
use Rattle.mn_script.specs.declared.elements.Act.TheVariants as acts
use Rattle.mn_script.specs.Script.{Script}
use Rattle.mn_runs.specs.declared.entry.Entry.{Entry}
use Rattle.mn_runs.specs.Calls.{client_entries, node_entries}
use Rattle.mn_runs.specs.declared.entry.What.TheVariants.{Restarted, Stopped}
use Rattle.mn_commits.specs.Laws.{RecordsStaySound}
use Rattle.mn_runs.specs.Nodes.{is_down}
use Rattle.mn_runs.specs.Protocol.{AreFree, Start, entries_of}
use Rattle.mn_law.specs.Run.{IsRun, RunsFollowProtocol}
use Rattle.mn_cell.specs.Calls.{entry_at}
use Rattle.mn_callers.specs.Failed.{closer}
use Rattle.mn_replay.specs.Follows.{Follows, IsPlayed}
use Rattle.mn_callers.specs.Logs.{HasLog, IsFresh, works_of}
use Rattle.mn_callers.specs.Plays.{PlayState}
use Rattle.mn_callers.specs.Recoveries.{Bench}
use Rattle.mn_callers.specs.Closing.{AreOfCloser}
use Rattle.mn_callers.specs.Desks.{recoverer}
use Rattle.mn_callers.specs.Stages.{AreFreeIfSound, GoesAs, Played, Settles, played_by}
use Rattle.mn_callers.specs.Trace.{StartsSound}
use Rattle.mn_callers.specs.Turn.{past_in, trail_by}
use Rattle.mn_callers.proofs.Played.{Grows, free_in, goes_by, grows_both, played_at}
use Rattle.mn_callers.proofs.Trails.{list_of_client}
use Rattle.mn_replay.specs.Schedule.{DoesAct, DoesActs, IsOfRecoverer, acts_of, played_from, with_entry}

-- One act after another

pub acts_both : (script : Script) (front back : List Act) (old now new : Played) → DoesActs script front old now → DoesActs script back now new → DoesActs script (front ++ back) old new
acts_both script [] back old now new one other = subst (λ (p : Played). DoesActs script back p new) one other
acts_both script (act ∷ front) back old now new one other = (one.0, one.1, acts_both script front back one.0 now new one.2 other)

pub acts_more : (script : Script) (front : List Act) (act : Act) (old now new : Played) → DoesActs script front old now → DoesAct script act now new → DoesActs script (front ++ act ∷ []) old new
acts_more script front act old now new one does = acts_both script front (act ∷ []) old now new one (new, does, refl)

pub no_acts : {D : Type 0} (script : Script) (p : PlayState D) → GoesAs (DoesActs script []) p p
no_acts script p past log = (past, log, refl)

-- each act's log goes on from the one before

act_grows : (script : Script) (act : Act) (old new : Played) → DoesAct script act old new → Grows old.past new.past
act_grows script (acts.Step c) old new does = record { later = does.past.own; is = does.past.past_is }
act_grows script (acts.Plan c) old new does = record { later = does.past.own; is = does.past.past_is }
act_grows script (acts.Go c) old new does = record { later = does.past.own; is = does.past.past_is }
act_grows script (acts.All c) old new does = record { later = does.past.own; is = does.past.past_is }
act_grows script (acts.Rstep r c) old new does = record { later = does.past.own; is = does.past.past_is }
act_grows script (acts.Recover r c) old new does = record { later = does.past.own; is = does.past.past_is }
act_grows script (acts.Halt n) old new does = by (is_down (node_entries n old.past)) does
  where
    by : (b : Bool) → MatchBool b (new ≡ old) (new ≡ with_entry (entry_at n closer (Stopped None None)) old) → Grows old.past new.past
    by true same = record { later = []; is = ap (λ (p : Played). p.past) same }
    by false more = record { later = entry_at n closer (Stopped None None) ∷ []; is = ap (λ (p : Played). p.past) more }
act_grows script (acts.Restart n) old new does = by (is_down (node_entries n old.past)) does
  where
    by : (b : Bool) → MatchBool b ((new ≡ old) ⊎ ((kept : Bool) × (new ≡ with_entry (entry_at n closer (Restarted kept)) old))) (new ≡ old) → Grows old.past new.past
    by true so = ⊎_elim (λ same. record { later = []; is = ap (λ (p : Played). p.past) same })
        (λ more. record { later = entry_at n closer (Restarted more.0) ∷ []; is = ap (λ (p : Played). p.past) more.1 }) so
    by false same = record { later = []; is = ap (λ (p : Played). p.past) same }

pub acts_grow : (script : Script) (todo : List Act) (old new : Played) → DoesActs script todo old new → Grows old.past new.past
acts_grow script [] old new does = record { later = []; is = ap (λ (p : Played). p.past) does }
acts_grow script (act ∷ todo) old new does = grows_both old.past does.0.past new.past (act_grows script act old does.0 does.1) (acts_grow script todo does.0 new does.2)

-- opening, acts and closing make the whole
pub played_whole : {D : Type 0} (start : Start) (script : Script) (p opened played closed : PlayState D) → IsFresh p → GoesAs Settles p opened → ((past : List Entry) → HasLog opened past → AreFreeIfSound start past)
    → GoesAs (DoesActs script (acts_of script)) opened played → GoesAs Settles played closed → (past : List Entry) × HasLog closed past × IsPlayed (AreFreeIfSound start) script past
played_whole start script p opened played closed fresh opens free acts closes =
    let one = opens [] fresh.log in
    let two = acts one.0 one.1 in
    let three = closes two.0 two.1 in
    let works : works_of opened.callers ≡ replicate 4 None = one.2.works ∙ fresh.idle in (
      three.0,
      three.1,
      record {
        opening = one.0;
        opened = subst AreOfCloser (sym (one.2.past_is ∙ append-nil one.2.own)) one.2.of_closer;
        opened_so = free one.0 one.1;
        played = two.0;
        works = works_of played.callers;
        acts = subst (λ (ws : List (Option Recovery)). DoesActs script (acts_of script) (record { past = one.0; works = ws }) (played_by played two.0)) works two.2;
        closing = three.2.own;
        past_is = three.2.past_is;
        closed = three.2.of_closer;
      },
    )

-- what is so of the opening may be said otherwise, by the whole log
pub played_so : (says tells : List Entry → Type 0) (script : Script) (past : List Entry) → IsPlayed says script past
    → ((opening : List Entry) → Grows opening past → says opening → tells opening) → IsPlayed tells script past
played_so says tells script past played turn = record {
  opening = played.opening;
  opened = played.opened;
  opened_so = turn played.opening
      (grows_both played.opening played.played past (acts_grow script (acts_of script) (played_from played.opening) (record { past = played.played; works = played.works }) played.acts)
      (record { later = played.closing; is = played.past_is })) played.opened_so;
  played = played.played;
  works = played.works;
  acts = played.acts;
  closing = played.closing;
  past_is = played.past_is;
  closed = played.closed;
}

-- the log of a run whose opening leaves nothing held, if its records fit together
pub follows_script : (start : Start) (script : Script) (past : List Entry) → RunsFollowProtocol → RecordsStaySound → IsRun start past
    → IsPlayed (AreFreeIfSound start) script past → Follows start script past
follows_script start script past follow stay run played =
    played_so (AreFreeIfSound start) (λ opening. StartsSound start → AreFree start opening) script past played
    (λ opening grows free sound. free_in start opening past follow stay run grows free sound)

-- a recovery coordinator's own list and its work before and after its act
pub recoverer_acts : (number : ℕ) (does : Bench → Bench → Type 0) (own t old new : List (ℕ × Entry)) (works : List (Option Recovery)) (work : Option Recovery)
    → old ≡ trail_by (recoverer number) t → new ≡ trail_by (recoverer number) (own ++ t) → AllByRecursion (λ (p : ℕ × Entry). p.1.client ≡ Some (recoverer number)) own
    → does (record { list = entries_of old; work = slice_index_or works (number - 1) None }) (record { list = entries_of new; work = work })
    → IsOfRecoverer number does (played_at t works) (played_at (own ++ t) (slice_set works (number - 1) work))
recoverer_acts number does own t old new works work was is all so = record {
  past = goes_by (recoverer number) own t all;
  work = work;
  so = subst (λ (l : List Entry). does (record { list = l; work = slice_index_or works (number - 1) None }) (record { list = client_entries (recoverer number) (past_in (own ++ t)); work = work }))
      (ap entries_of was ∙ list_of_client (recoverer number) t)
      (subst (λ (l : List Entry). does (record { list = entries_of old; work = slice_index_or works (number - 1) None }) (record { list = l; work = work })) (ap entries_of is ∙ list_of_client (recoverer number) (own ++ t)) so);
  works = refl;
}
