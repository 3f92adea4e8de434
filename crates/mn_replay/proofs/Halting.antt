-- Halts and restarts between two turns.
use Rattle.std.proofs.Common.{◌≡◌, ℕ, ◌⊎◌, Bool, true, false, Some, List, [], ◌∷◌, ◌++◌, reverse, MatchBool, Result, Ok, Err, IsOk, OnErr, OnOk, None, refl, sym, ap, ◌∙◌, subst, inl, inr, ⊎_elim}
use Rattle.std.specs.Prelude.{slice_get}
use Rattle.std.specs.List.{AllByRecursion}
use Rattle.std.proofs.lemmas.List.{append-nil, append_cancel_left, reverse-reverse}
use Rattle.mn_base.specs.declared.ids.ClientNo.{ClientNo}
use Rattle.mn_base.specs.declared.ids.NodeNo.{NodeNo}
use Rattle.mn_base.specs.declared.ids.Tid.{Tid}
use Rattle.mn_cell.specs.Calls.{entry_at}
use Rattle.mn_cell.specs.Runs.{IsIssueOf}
use Rattle.mn_cell.specs.Station.{StationState}
use Rattle.mn_cell.proofs.Owed.{newest_entry}
use Rattle.mn_runs.specs.declared.entry.Entry.{Entry}
use Rattle.mn_runs.specs.declared.entry.What.{What}
use Rattle.mn_runs.specs.declared.entry.What.TheVariants.{Stopped, Restarted}
use Rattle.mn_runs.specs.Calls.{Begun, begun_in, begun_of, call_in, is_in_doubt, node_entries}
use Rattle.mn_runs.specs.Lists.{ClientState}
use Rattle.mn_runs.specs.Nodes.{is_down}
use Rattle.mn_runs.specs.Protocol.{IsOfRun, Start, entries_of}
use Rattle.mn_callers.specs.Desks.{DoubtsNothing, IsOfRecovery}
use Rattle.mn_callers.specs.Doings.{Halts, Restarts}
use Rattle.mn_callers.specs.Failed.{closer}
use Rattle.mn_callers.specs.Logs.{works_of}
use Rattle.mn_callers.specs.Plays.{HasTrail, PlayState}
use Rattle.mn_callers.specs.Stages.{Played, played_by}
use Rattle.mn_callers.specs.Steps.{Adds, KeepsList}
use Rattle.mn_callers.specs.Turn.{past_in}
use Rattle.mn_callers.proofs.Doings.{went_either_way}
use Rattle.mn_callers.proofs.Played.{Makes}
use Rattle.mn_callers.proofs.Recovering.{recovery_keeps, recovery_restarts}
use Rattle.mn_callers.proofs.Resting.{IsAfter}
use Rattle.mn_callers.proofs.Trails.{list_of_node}
use Rattle.mn_replay.specs.Schedule.{HaltsNode, RestartsNode, with_entry}

-- The list of the coordinator that opens and closes

-- a step at a node that is no call
adds_recovery : (start : Start) (old new : ClientState) (n : NodeNo) (what : What) → IsOfRun start what → call_in (Some n) what ≡ [] → begun_in what ≡ [] → Adds (entry_at n old.client what) old new → IsOfRecovery start old → IsOfRecovery start new
adds_recovery start old new n what of_run none begins adds of =
    let e = entry_at n old.client what in
    let entries : entries_of new.entries ≡ e ∷ entries_of old.entries = ap (λ (l : List (ℕ × Entry)). entries_of l) adds.ends ∙ newest_entry old.entries adds.place e in
    record {
      own = subst (λ (c : ClientNo). AllByRecursion (λ e. e.client ≡ Some c) (entries_of new.entries)) (sym adds.client)
          (subst (λ (es : List Entry). AllByRecursion (λ e. e.client ≡ Some old.client) es) (sym entries) (refl, of.own));
      of_run = subst (λ (es : List Entry). AllByRecursion (IsIssueOf start) es) (sym entries) (of_run, of.of_run);
      begins_none = ap begun_of entries ∙ (ap (λ (bs : List Begun). bs ++ begun_of (entries_of old.entries)) begins ∙ of.begins_none);
      free = subst (λ (es : List Entry). DoubtsNothing es) (sym entries) (λ tid. doubts tid (entries_of old.entries) (of.free tid));
    }
  where
    doubts : (tid : Tid) (es : List Entry) → is_in_doubt tid es ≡ false → is_in_doubt tid (entry_at n old.client what ∷ es) ≡ false
    doubts tid es is = rw none is

pub halt_recovery : {D E : Type 0} {stations : List (StationState D)} (start : Start) (old new : ClientState) (n : NodeNo) (r : Result (Unit {0}) E) → Halts n stations r old new → OnErr r (KeepsList old new) → IsOfRecovery start old → IsOfRecovery start new
halt_recovery start old new n (Ok u) halts none of = ⊎_elim (λ keeps. recovery_keeps start old new of keeps) (λ adds. adds_recovery start old new n (Stopped None None) tt refl refl adds of) (went_either_way n _ halts)
halt_recovery start old new n (Err e) halts none of = recovery_keeps start old new of none

pub restart_recovery : {D E : Type 0} {stations : List (StationState D)} (start : Start) (old new : ClientState) (n : NodeNo) (r : Result (Unit {0}) E) → Restarts n stations r old new → OnErr r (KeepsList old new) → IsOfRecovery start old → IsOfRecovery start new
restart_recovery start old new n (Ok u) restarts none of =
    ⊎_elim (λ adds. recovery_restarts start old new of n adds.0 adds.1) (λ keeps. recovery_keeps start old new of keeps) (went_either_way n _ restarts)
restart_recovery start old new n (Err e) restarts none of = recovery_keeps start old new of none

-- What its entries make of the log

-- something is so where there is a result
pub done_so : {E : Type 0} (r : Result (Unit {0}) E) (P : Type 0) → (IsOk r → P) → OnOk r P
done_so (Ok u) P f = f refl
done_so (Err e) P f = tt

pub told_so : {E : Type 0} (r : Result (Unit {0}) E) (P : Type 0) → IsOk r → OnOk r P → P
told_so (Ok u) P done so = so
told_so (Err e) P done so = absurd cc

turned : {X : Type 0} (xs ys : List X) → reverse xs ≡ ys → xs ≡ reverse ys
turned xs ys is = sym (reverse-reverse xs) ∙ ap reverse is

-- a restart that is none, or has failed
same_restart : (n : NodeNo) (p : Played) → RestartsNode n p p
same_restart n p = by (is_down (node_entries n p.past))
  where
    by : (b : Bool) → MatchBool b ((p ≡ p) ⊎ ((kept : Bool) × (p ≡ with_entry (entry_at n closer (Restarted kept)) p))) (p ≡ p)
    by true = inl refl
    by false = refl

restarted : (n : NodeNo) (p q : Played) → true ≡ is_down (node_entries n p.past) → (q ≡ p) ⊎ ((kept : Bool) × (q ≡ with_entry (entry_at n closer (Restarted kept)) p)) → RestartsNode n p q
restarted n p q is so = subst (λ (b : Bool). MatchBool b ((q ≡ p) ⊎ ((kept : Bool) × (q ≡ with_entry (entry_at n closer (Restarted kept)) p))) (q ≡ p)) is so

module _ {D : Type 0} (p q : PlayState D) (old new : ClientState) (before : HasTrail p.stations p.view.known p.callers) (after : IsAfter p q closer old.entries new.entries before) where
  keeps_log : KeepsList old new → after.own ≡ []
  keeps_log keeps = turned after.own [] (sym (append_cancel_left old.entries [] (reverse after.own) (append-nil old.entries ∙ (sym keeps.entries ∙ after.list_is))))

  adds_log : (e : Entry) (adds : Adds e old new) → after.own ≡ (adds.place, e) ∷ []
  adds_log e adds = turned after.own ((adds.place, e) ∷ []) (sym (append_cancel_left old.entries ((adds.place, e) ∷ []) (reverse after.own) (sym adds.ends ∙ after.list_is)))

  abbrev So : (Played → Played → Type 0) → List (ℕ × Entry) → Type 0
  So does own = Makes does (works_of p.callers) before.trail own

  -- the node is down in the log where it is by its station's list
  down_in : (n : NodeNo) (s : StationState D) → slice_get p.stations n.0 ≡ Some s → is_down (entries_of s.list) ≡ is_down (node_entries n (past_in before.trail))
  down_in n s there = ap (λ (l : List (ℕ × Entry)). is_down (entries_of l)) (before.is.at_nodes n.0 s there) ∙ ap is_down (list_of_node n.0 before.trail)

  pub halts_log : {E : Type 0} (n : NodeNo) (r : Result (Unit {0}) E) → old.client ≡ closer → Halts n p.stations r old new → OnOk r (So (HaltsNode n) after.own)
  halts_log n (Err e) client halts = tt
  halts_log n (Ok u) client halts = by (is_down (entries_of halts.station.list)) (down_in n halts.station halts.at) halts.so
    where
      now : Played
      now = played_by p (past_in before.trail)

      by : (b : Bool) → b ≡ is_down (node_entries n (past_in before.trail)) → MatchBool b (KeepsList old new) (Adds (entry_at n old.client (Stopped None None)) old new) → So (HaltsNode n) after.own
      by true is keeps =
          let none : after.own ≡ [] = keeps_log keeps in
          subst (λ (own : List (ℕ × Entry)). So (HaltsNode n) own) (sym none)
          (subst (λ (b : Bool). MatchBool b (now ≡ now) (now ≡ with_entry (entry_at n closer (Stopped None None)) now)) is refl)
      by false is adds =
          let e = entry_at n old.client (Stopped None None) in
          let one : after.own ≡ (adds.place, e) ∷ [] = adds_log e adds in
          subst (λ (own : List (ℕ × Entry)). So (HaltsNode n) own) (sym one)
          (subst (λ (b : Bool). MatchBool b (with_entry e now ≡ now) (with_entry e now ≡ with_entry (entry_at n closer (Stopped None None)) now)) is
          (ap (λ (c : ClientNo). with_entry (entry_at n c (Stopped None None)) now) client))

  pub restarts_log : {E : Type 0} (n : NodeNo) (r : Result (Unit {0}) E) → old.client ≡ closer → Restarts n p.stations r old new → OnErr r (KeepsList old new) → So (RestartsNode n) after.own
  restarts_log n (Err e) client restarts none =
      let none' : after.own ≡ [] = keeps_log none in
      subst (λ (own : List (ℕ × Entry)). So (RestartsNode n) own) (sym none') (same_restart n (played_by p (past_in before.trail)))
  restarts_log n (Ok u) client restarts none = by (is_down (entries_of restarts.station.list)) (down_in n restarts.station restarts.at) restarts.so
    where
      now : Played
      now = played_by p (past_in before.trail)

      by : (b : Bool) → b ≡ is_down (node_entries n (past_in before.trail)) → MatchBool b ((kept : Bool) × Adds (entry_at n old.client (Restarted kept)) old new) (KeepsList old new) → So (RestartsNode n) after.own
      by true is adds =
          let e = entry_at n old.client (Restarted adds.0) in
          let one : after.own ≡ (adds.1.place, e) ∷ [] = adds_log e adds.1 in
          let so : with_entry e now ≡ with_entry (entry_at n closer (Restarted adds.0)) now = ap (λ (c : ClientNo). with_entry (entry_at n c (Restarted adds.0)) now) client in
          subst (λ (own : List (ℕ × Entry)). So (RestartsNode n) own) (sym one) (restarted n now (with_entry e now) is (inr (adds.0, so)))
      by false is keeps =
          let none' : after.own ≡ [] = keeps_log keeps in
          subst (λ (own : List (ℕ × Entry)). So (RestartsNode n) own) (sym none') (same_restart n now)
