-- A run on threads as it goes, and how its log goes on. Lists of entries stand newest first.
use Rattle.std.specs.Prelude.{◌⊎◌, List}
use Rattle.mn_callers.specs.Stages.{AreFreeIfSound, Played}
use Rattle.mn_cluster.specs.Follows.{GoAtOnce, GoInTurn, IsRunThrough, IsRunToClosing}
use Rattle.mn_script.specs.declared.elements.Mark.TheVariants.{First}
use Rattle.mn_script.specs.Script.{Script}
use Rattle.mn_runs.specs.declared.entry.Entry.{Entry}
use Rattle.mn_runs.specs.Protocol.{AreUp, Start}

-- the log went on so, whatever became of the work of recovery coordinators
abbrev pub on_past : (List Entry → List Entry → Type 0) → Played → Played → Type 0
on_past does old new = does old.past new.past

-- the clients marked `first` in turn, and then those without a mark at once
abbrev pub GoFirst : Script → List Entry → List Entry → Type 0
GoFirst script old new =
    (now : List Entry) × GoInTurn script First old now × GoAtOnce script now new

-- the log is one of such a run, whose opening leaves nothing held, and whose first closing leaves
-- each node up and nothing held, if the records fit together
abbrev pub RunsThrough : Start → Script → List Entry → Type 0
RunsThrough start script past =
    IsRunThrough (AreFreeIfSound start) (λ closed. AreUp start closed × AreFreeIfSound start closed)
    script past

-- or it is one up to the first closing
abbrev pub RunsToClosing : Start → Script → List Entry → Type 0
RunsToClosing start script past =
    IsRunToClosing (AreFreeIfSound start) script past ⊎ RunsThrough start script past
