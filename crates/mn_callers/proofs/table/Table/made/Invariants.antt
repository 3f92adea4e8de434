use Rattle.std.proofs.Common.{◌≡◌, ◌<◌, ℕ, Some}
use Rattle.std.specs.Prelude.{slice_get}
use Rattle.mn_runs.specs.Protocol.{start_of}
use Rattle.mn_callers.specs.Ended.{HasMadeList}
use Rattle.mn_callers.proofs.table.Table.made.Given as goal

-- it was asked of each station so far
abbrev pub invariant-loop-station : goal.invariant-loop-station
invariant-loop-station g l = (k : ℕ) (s : _) → k < l.station-index → slice_get l.self.stations.items k ≡ Some s
    → HasMadeList g.D.Disk.state g.D.Disk.faults (start_of g.N.Named.records) g.N.Named.faults g.N.Named.honest s
