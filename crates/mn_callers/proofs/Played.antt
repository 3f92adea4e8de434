-- What the entries of one actor make of the log.
use Rattle.std.proofs.Common.{◌≡◌, ℕ, Option, Some, List, [], ◌∷◌, ◌++◌, Result, Ok, Err, IfErr, IfOk, IsOk, OnOk, refl, sym, ap, ◌∙◌, subst}
use Rattle.std.specs.List.{AllByRecursion}
use Rattle.std.proofs.lemmas.List.{append_assoc, map-append}
use Rattle.mn_base.specs.declared.ids.ClientNo.{ClientNo}
use Rattle.mn_cell.specs.declared.trace.RunCause.{RunCause}
use Rattle.mn_cell.specs.declared.trace.RunCause.TheVariants.{Disk, Damaged, NoMemory}
use Rattle.mn_io.specs.DiskModel.{DiskState}
use Rattle.mn_node.specs.State.{NodeState}
use Rattle.mn_recov.specs.Recovery.{Recovery}
use Rattle.mn_script.specs.Script.{Script}
use Rattle.mn_runs.specs.declared.entry.Entry.{Entry}
use Rattle.mn_runs.specs.Calls.{client_entries}
use Rattle.mn_commits.specs.Laws.{RecordsStaySound}
use Rattle.mn_runs.specs.Protocol.{AreFree, FollowsProtocol, Start, entries_of}
use Rattle.mn_law.specs.Run.{IsRun, RunsFollowProtocol}
use Rattle.mn_callers.specs.Failed.{FailsSo, IsDamage, IsRunOn, TellsRun}
use Rattle.mn_callers.specs.Stages.{AreFreeIfSound, GoesAs, GoesOnBy, IsOfClient, Played, played_by}
use Rattle.mn_callers.specs.Plays.{PlayState}
use Rattle.mn_callers.specs.Trace.{StartsSound, start_on}
use Rattle.mn_callers.specs.Turn.{past_in, trail_by}
use Rattle.mn_callers.proofs.Trails.{list_of_client}

pub by_map : (c : ClientNo) (own : List (ℕ × Entry)) → AllByRecursion (λ (p : ℕ × Entry). p.1.client ≡ Some c) own → AllByRecursion (λ (e : Entry). e.client ≡ Some c) (past_in own)
by_map c [] all = tt
by_map c (p ∷ own) all = (all.0, by_map c own all.1)

pub goes_by : (c : ClientNo) (own t : List (ℕ × Entry)) → AllByRecursion (λ (p : ℕ × Entry). p.1.client ≡ Some c) own → GoesOnBy c (past_in t) (past_in (own ++ t))
goes_by c own t all = record { own = past_in own; past_is = map-append (λ (p : ℕ × Entry). p.1) own t; by = by_map c own all }

abbrev pub played_at : List (ℕ × Entry) → List (Option Recovery) → Played
played_at t works = record { past = past_in t; works = works }

-- what a log was made by these entries
abbrev pub Makes : (Played → Played → Type 0) → List (Option Recovery) → List (ℕ × Entry) → List (ℕ × Entry) → Type 0
Makes does works t own = does (played_at t works) (played_at (own ++ t) works)

-- a client's own list before and after its act
pub client_acts : (c : ClientNo) (does : List Entry → List Entry → Type 0) (own t old new : List (ℕ × Entry)) (works : List (Option Recovery))
    → old ≡ trail_by c t → new ≡ trail_by c (own ++ t) → AllByRecursion (λ (p : ℕ × Entry). p.1.client ≡ Some c) own → does (entries_of old) (entries_of new)
    → IsOfClient c does (played_at t works) (played_at (own ++ t) works)
client_acts c does own t old new works was is all so = record {
  past = goes_by c own t all;
  so = subst (λ (l : List Entry). does l (client_entries c (past_in (own ++ t)))) (ap entries_of was ∙ list_of_client c t)
      (subst (λ (l : List Entry). does (entries_of old) l) (ap entries_of is ∙ list_of_client c (own ++ t)) so);
  works = refl;
}

-- Logs that go on

pub record Grows (old new : List Entry) : Type 0 where
  pub later : List Entry
  pub is : new ≡ later ++ old

pub grows_both : (old now new : List Entry) → Grows old now → Grows now new → Grows old new
grows_both old now new one other = record {
  later = other.later ++ one.later;
  is = other.is ∙ (ap (λ (l : List Entry). other.later ++ l) one.is ∙ sym (append_assoc other.later one.later old));
}

follows_part : (start : Start) (later past : List Entry) → FollowsProtocol start (later ++ past) → FollowsProtocol start past
follows_part start [] past follows = follows
follows_part start (e ∷ later) past follows = follows_part start later past follows.0

-- what begins the log of a run leaves nothing held, if its records fit together
pub free_in : (start : Start) (es past : List Entry) → RunsFollowProtocol → RecordsStaySound → IsRun start past → Grows es past → AreFreeIfSound start es → StartsSound start → AreFree start es
free_in start es past follow stay run grows are sound =
    let whole : FollowsProtocol start (grows.later ++ es) = subst (FollowsProtocol start) grows.is (follow start past run) in
    let part : FollowsProtocol start es = follows_part start grows.later es whole in
    are part (stay start es sound part)

-- where a run is done, what was said of its log is told of the one that is handed back
pub told_as : {X E F : Type 0} (says tells : List Entry → Type 0) (log_in : X → List (ℕ × Entry)) (result : Result X F) (played : Result (Unit {0}) E) (has : List Entry → Type 0) (is : X → Type 0)
    → IfOk result is → ((t : X) → is t → says (entries_of (log_in t)) → tells (entries_of (log_in t)))
    → IfOk result (λ t. IsOk played) → IfOk result (λ t. (past : List Entry) → has past → entries_of (log_in t) ≡ past)
    → OnOk played ((past : List Entry) × has past × says past) → IfOk result (λ t. tells (entries_of (log_in t)))
told_as says tells log_in (Err e) played has is so turn done log told = tt
told_as says tells log_in (Ok t) (Err e) has is so turn done log told = absurd cc
told_as says tells log_in (Ok t) (Ok u) has is so turn done log told = turn t so (subst says (sym (log told.0 told.1)) told.2)

-- a play that goes on so, and then so
pub goes_as_both : {D : Type 0} (does rest both : Played → Played → Type 0) (p q r : PlayState D) → ((old now new : Played) → does old now → rest now new → both old new)
    → GoesAs does p q → GoesAs rest q r → GoesAs both p r
goes_as_both does rest both p q r join one other past log =
    let first = one past log in
    let second = other first.0 first.1 in
    (second.0, second.1, join (played_by p past) (played_by q first.0) (played_by r second.0) first.2 second.2)

-- the log that is told of a run that failed by damage is one
told_run : {D : Type 0} (state : D → DiskState) (faults : D → ℕ) (script : Script) (given left : List (NodeState D)) (log : List (ℕ × Entry)) (cause : RunCause) → IsDamage cause → TellsRun state faults script given left log cause
    → IsRunOn state faults script given left log
told_run state faults script given left log (Damaged n place kept found) damage told = told
told_run state faults script given left log (Disk n) damage told = told
told_run state faults script given left log NoMemory damage told = absurd damage

-- where a run failed by damage, what was said of its log is told of the one that is handed back
module _ {D X : Type 0} (state : D → DiskState) (faults : D → ℕ) (script : Script) (given : List (NodeState D)) (says tells : List Entry → Type 0) (has : List Entry → Type 0)
    (turn : (log : List (ℕ × Entry)) → IsRun (start_on given) (entries_of log) → says (entries_of log) → tells (entries_of log)) where
  pub told_by : {F : Type 0} (left_in : F → List (NodeState D)) (log_in : F → List (ℕ × Entry)) (cause_in : F → RunCause) (result : Result X F) (played : Result (Unit {0}) RunCause)
      → IfErr result (λ f. FailsSo state faults script given (left_in f) (log_in f) (cause_in f))
      → IfErr result (λ f. IsDamage (cause_in f) → (played ≡ Err (cause_in f)) × ((past : List Entry) → has past → entries_of (log_in f) ≡ past))
      → IfErr played (λ cause. IsDamage cause → (past : List Entry) × has past × says past) → IfErr result (λ f. IsDamage (cause_in f) → tells (entries_of (log_in f)))
  told_by left_in log_in cause_in (Ok x) played fails told said = tt
  told_by left_in log_in cause_in (Err f) played fails told said = λ damage.
      let both = told damage in
      let there = subst (λ (r : Result (Unit {0}) RunCause). IfErr r (λ cause. IsDamage cause → (past : List Entry) × has past × says past)) both.0 said damage in
      turn (log_in f) (told_run state faults script given (left_in f) (log_in f) (cause_in f) damage fails.told).0.run (subst says (sym (both.1 there.0 there.1)) there.2)
