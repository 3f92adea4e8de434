-- A stage, and how its log goes on. Lists of entries stand newest first.
use Rattle.std.specs.Prelude.{◌≡◌, List, ◌++◌, Option, Some}
use Rattle.std.specs.List.{AllByRecursion}
use Rattle.mn_base.specs.declared.ids.ClientNo.{ClientNo}
use Rattle.mn_recov.specs.Recovery.{Recovery}
use Rattle.mn_runs.specs.declared.entry.Entry.{Entry}
use Rattle.mn_runs.specs.Calls.{client_entries}
use Rattle.mn_runs.specs.Protocol.{AreFree, FollowsProtocol, Start, records_of, start_nodes}
use Rattle.mn_runs.specs.Sound.{AreSound}
use Rattle.mn_callers.specs.declared.stage.Move.{Move}
use Rattle.mn_callers.specs.declared.stage.Move.TheVariants as moves
use Rattle.mn_callers.specs.declared.stage.Stage.{Stage}
use Rattle.mn_callers.specs.Acts.{Role, DoesStep, DoesPlan, DoesGo, DoesAll}
use Rattle.mn_callers.specs.Closing.{AreOfCloser}
use Rattle.mn_callers.specs.Logs.{HasLog, works_of}
use Rattle.mn_callers.specs.Plays.{PlayState, state_at}

-- what is seen of a stage
abbrev pub state_of : {N D G : _} → Stage N D G → PlayState D
state_of stage = state_at stage.calls.inner stage.rest stage.callers

-- the log so far, and the work of each recovery coordinator
pub record Played : Type 0 where
  pub past : List Entry
  pub works : List (Option Recovery)

abbrev pub played_by : {D : Type 0} → PlayState D → List Entry → Played
played_by p past = record { past = past; works = works_of p.callers }

-- whatever log it had, that has gone on as the relation says
abbrev pub GoesAs : {D : Type 0} → (Played → Played → Type 0) → PlayState D → PlayState D → Type 0
GoesAs does old new = (past : List Entry) → HasLog old past
    → (later : List Entry) × HasLog new later × does (played_by old past) (played_by new later)

-- The log went on

-- by entries of one actor
pub record GoesOnBy (c : ClientNo) (old new : List Entry) : Type 0 where
  pub own : List Entry
  pub past_is : new ≡ own ++ old
  pub by : AllByRecursion (λ e. e.client ≡ Some c) own

-- by entries of a client, which make of its own list what the relation says
pub record IsOfClient (c : ClientNo) (does : List Entry → List Entry → Type 0) (old new : Played)
    : Type 0 where
  pub past : GoesOnBy c old.past new.past
  pub so : does (client_entries c old.past) (client_entries c new.past)
  pub works : new.works ≡ old.works

-- what a client's move makes of its list
abbrev pub DoesMove : Move → Role → List Entry → List Entry → Type 0
DoesMove moves.Step = DoesStep
DoesMove moves.Plan = DoesPlan
DoesMove moves.Go = DoesGo
DoesMove moves.All = DoesAll

-- by what opening or closing makes
pub record Settles (old new : Played) : Type 0 where
  pub own : List Entry
  pub past_is : new.past ≡ own ++ old.past
  pub of_closer : AreOfCloser own
  pub works : new.works ≡ old.works

-- no node holds anything, if the log is that of a run and the records fit together
abbrev pub AreFreeIfSound : Start → List Entry → Type 0
AreFreeIfSound start past =
    FollowsProtocol start past → AreSound (start_nodes start) (records_of start past)
    → AreFree start past
