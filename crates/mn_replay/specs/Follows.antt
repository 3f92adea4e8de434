-- What the log of a replay has to do with its script. Lists of entries stand newest first.
use Rattle.std.specs.Prelude.{◌≡◌, List, ◌++◌, Option}
use Rattle.mn_recov.specs.Recovery.{Recovery}
use Rattle.mn_script.specs.Script.{Script}
use Rattle.mn_runs.specs.declared.entry.Entry.{Entry}
use Rattle.mn_runs.specs.Protocol.{AreFree, Start}
use Rattle.mn_callers.specs.Closing.{AreOfCloser}
use Rattle.mn_replay.specs.Schedule.{DoesActs, acts_of, played_from}
use Rattle.mn_callers.specs.Trace.{StartsSound}

-- the log is what the opening made, which ended so, then what the acts of the schedule made and an
-- `all` of each client, one act after another, and then what the closing made
pub record IsPlayed (ended : List Entry → Type 0) (script : Script) (past : List Entry)
    : Type 0 where
  pub opening : List Entry
  pub opened : AreOfCloser opening
  pub opened_so : ended opening
  pub played : List Entry
  pub works : List (Option Recovery)
  pub acts : DoesActs script (acts_of script) (played_from opening)
      (record { past = played; works = works })
  pub closing : List Entry
  pub past_is : past ≡ closing ++ played
  pub closed : AreOfCloser closing

-- a log follows the script: it is that of its acts, which begin where no node holds anything
abbrev pub Follows : Start → Script → List Entry → Type 0
Follows start script past =
    IsPlayed (λ opening. StartsSound start → AreFree start opening) script past
