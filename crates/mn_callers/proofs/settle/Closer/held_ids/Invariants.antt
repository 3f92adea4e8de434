use Rattle.std.proofs.Common.{ℕ, ◌<◌}
use Rattle.std.specs.List.{AllByRecursion}
use Rattle.mn_cell.specs.Calls.{numbered}
use Rattle.mn_mini.specs.RecordGrammar.{IsTid}
use Rattle.mn_runs.specs.Protocol.{start_of, entries_of}
use Rattle.mn_callers.specs.Closing.{AreHeldIn, ClosesOn, IsClosing}
use Rattle.mn_callers.specs.Settled.{AllUp, records_at}
use Rattle.mn_callers.specs.Turn.{ExtendsLog, turn_at}
use Rattle.mn_callers.proofs.settle.Closer.held_ids.Given as goal

abbrev pub invariant-loop-number : goal.invariant-loop-number
invariant-loop-number g l = record {
  closing : IsClosing g.N.Named.board (start_of g.N.Named.records) (turn_at l.table l.pass l.self.list);
  goes_on : ExtendsLog (turn_at l.fn.table l.fn.pass l.fn.self.list) (turn_at l.table l.pass l.self.list);
  closes : ClosesOn (entries_of l.fn.self.list.entries) (entries_of l.self.list.entries);
  up : AllUp l.table.stations.items;
  ids : AllByRecursion IsTid l.tids.items;
  held : (k : ℕ) → k < l.number → AreHeldIn l.tids.items (records_at l.table.stations.items (numbered k));
}
