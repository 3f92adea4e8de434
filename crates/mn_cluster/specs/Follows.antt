-- What the log of a run on threads has to do with its script. Lists of entries stand newest first;
-- each relation is between the log before and the log after.
use Rattle.std.specs.Prelude.{ℕ, ◌≡◌, ◌≤◌, ◌⊎◌, true, List, [], ◌∷◌, ◌++◌, length, Some, MatchBool}
use Rattle.std.specs.List.{AllByRecursion, range_with_len}
use Rattle.mn_base.specs.declared.ids.ClientNo.{ClientNo}
use Rattle.mn_callers.specs.Acts.{DoesAll, role_of}
use Rattle.mn_callers.specs.Closing.{AreOfCloser}
use Rattle.mn_callers.specs.Desks.{IsRecoveryStep, recoverer}
use Rattle.mn_callers.specs.Plays.{caller_at}
use Rattle.mn_callers.specs.Stages.{GoesOnBy}
use Rattle.mn_callers.specs.Trace.{StartsSound}
use Rattle.mn_cluster.specs.Marks.{is_marked}
use Rattle.mn_script.specs.declared.elements.Mark.{Mark}
use Rattle.mn_script.specs.declared.elements.Mark.TheVariants.{Plain, First, Last}
use Rattle.mn_script.specs.Script.{Script}
use Rattle.mn_runs.specs.declared.entry.Entry.{Entry}
use Rattle.mn_runs.specs.Calls.{client_entries}
use Rattle.mn_runs.specs.Protocol.{AreFree, AreUp, Start}

-- One after another

-- a client does all that it has left, and nobody else does anything
pub record DoesAllAlone (script : Script) (c : ClientNo) (old new : List Entry) : Type 0 where
  pub past : GoesOnBy c old new
  pub so : DoesAll (role_of script c) (client_entries c old) (client_entries c new)

-- where it has the mark; else nothing is done
abbrev pub DoesIfMarked : Script → Mark → ClientNo → List Entry → List Entry → Type 0
DoesIfMarked script mark c old new =
    MatchBool (is_marked mark script c) (DoesAllAlone script c old new) (new ≡ old)

-- those of the clients with these numbers that have the mark, one after another
abbrev pub TakeTurns : Script → Mark → List ℕ → List Entry → List Entry → Type 0
TakeTurns script mark [] old new = new ≡ old
TakeTurns script mark (k ∷ ks) old new =
    (now : List Entry) × DoesIfMarked script mark (caller_at k) old now
    × TakeTurns script mark ks now new

-- all clients that have the mark, in order
abbrev pub GoInTurn : Script → Mark → List Entry → List Entry → Type 0
GoInTurn script mark old new =
    TakeTurns script mark (range_with_len 0 (length script.clients)) old new

-- At once

-- an entry of a recovery coordinator of the script
abbrev pub IsOfRecoverer : Script → Entry → Type 0
IsOfRecoverer script e =
    (number : ℕ) × (1 ≤ number) × (number ≤ script.recoverers)
    × (e.client ≡ Some (recoverer number)) × IsRecoveryStep e.what

-- an entry of a client without a mark
abbrev pub IsOfPlain : Script → Entry → Type 0
IsOfPlain script e =
    (c : ClientNo) × (is_marked Plain script c ≡ true) × (e.client ≡ Some c)

-- The clients without a mark do all that they have left, while nobody else does anything but the
-- recovery coordinators.
pub record GoAtOnce (script : Script) (old new : List Entry) : Type 0 where
  pub own : List Entry
  pub past_is : new ≡ own ++ old
  pub whose : AllByRecursion (λ e. IsOfPlain script e ⊎ IsOfRecoverer script e) own
  pub each : (c : ClientNo) → is_marked Plain script c ≡ true
      → DoesAll (role_of script c) (client_entries c old) (client_entries c new)

-- The whole

-- what opening or closing makes
pub record Settle (old new : List Entry) : Type 0 where
  pub own : List Entry
  pub past_is : new ≡ own ++ old
  pub of_closer : AreOfCloser own

-- The log is what the opening made, which ends so; then the clients marked `first` go in turn; then
-- those without a mark at once, beside the recovery coordinators; then a closing, which ends so;
-- then the clients marked `last` in turn; and then a closing.
pub record IsRunThrough (opens closes : List Entry → Type 0) (script : Script) (past : List Entry)
    : Type 0 where
  pub opened : List Entry
  pub opening : AreOfCloser opened
  pub opened_so : opens opened
  pub led : List Entry
  pub first : GoInTurn script First opened led
  pub met : List Entry
  pub middle : GoAtOnce script led met
  pub closed : List Entry
  pub closing : Settle met closed
  pub closed_so : closes closed
  pub followed : List Entry
  pub last : GoInTurn script Last closed followed
  pub ending : Settle followed past

-- the same up to the first closing, from which on the log has entries of the closing coordinator
-- alone
pub record IsRunToClosing (opens : List Entry → Type 0) (script : Script) (past : List Entry)
    : Type 0 where
  pub opened : List Entry
  pub opening : AreOfCloser opened
  pub opened_so : opens opened
  pub led : List Entry
  pub first : GoInTurn script First opened led
  pub met : List Entry
  pub middle : GoAtOnce script led met
  pub closing : Settle met past

-- a log follows the script on threads: the first closing leaves each node up; the opening and it
-- leave nothing held, if the records with which the run starts fit together
abbrev pub FollowsOnThreads : Start → Script → List Entry → Type 0
FollowsOnThreads start script past =
    IsRunThrough (λ opened. StartsSound start → AreFree start opened)
    (λ closed. AreUp start closed × (StartsSound start → AreFree start closed)) script past

-- a log follows it up to its first closing
abbrev pub FollowsToFirstClosing : Start → Script → List Entry → Type 0
FollowsToFirstClosing start script past =
    IsRunToClosing (λ opened. StartsSound start → AreFree start opened) script past

-- or up to its first or to its last one
abbrev pub FollowsToClosing : Start → Script → List Entry → Type 0
FollowsToClosing start script past =
    FollowsToFirstClosing start script past ⊎ FollowsOnThreads start script past
