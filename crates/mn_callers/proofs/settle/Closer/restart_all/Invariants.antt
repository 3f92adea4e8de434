use Rattle.std.proofs.Common.{ℕ, ◌<◌, false}
use Rattle.mn_cell.specs.Calls.{numbered}
use Rattle.mn_runs.specs.Protocol.{start_of, entries_of}
use Rattle.mn_callers.specs.Closing.{ClosesOn, IsClosing}
use Rattle.mn_callers.specs.Doings.{IsDownAs}
use Rattle.mn_callers.specs.Settled.{AllUp}
use Rattle.mn_callers.specs.Turn.{ExtendsLog, turn_at}
use Rattle.mn_callers.proofs.settle.Closer.restart_all.Given as goal

abbrev pub invariant-loop-number : goal.invariant-loop-number
invariant-loop-number g l = record {
  closing : IsClosing g.N.Named.board (start_of g.N.Named.records) (turn_at l.table l.pass l.self.list);
  goes_on : ExtendsLog (turn_at l.fn.table l.fn.pass l.fn.self.list) (turn_at l.table l.pass l.self.list);
  closes : ClosesOn (entries_of l.fn.self.list.entries) (entries_of l.self.list.entries);
  still : AllUp l.fn.table.stations.items → AllUp l.table.stations.items;
  up : (k : ℕ) → k < l.number → IsDownAs false l.table.stations.items (numbered k);
}
