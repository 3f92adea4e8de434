use Rattle.std.proofs.Common.{◌≡◌, length}
use Rattle.mn_runs.specs.Protocol.{start_of, entries_of}
use Rattle.mn_callers.specs.Closing.{AllExtend, ClosesOn, IsClosing, IsDoneTo, calls_left}
use Rattle.mn_callers.specs.Desks.{IsWork}
use Rattle.mn_callers.specs.Settled.{AllUp, records_at}
use Rattle.mn_callers.specs.Turn.{ExtendsLog, turn_at}
use Rattle.mn_callers.proofs.settle.Closer.recover.Given as goal

abbrev pub invariant-loop-node : goal.invariant-loop-node
invariant-loop-node g l = record {
  closing : IsClosing g.N.Named.board (start_of g.N.Named.records) (turn_at l.table l.pass l.self.list);
  goes_on : ExtendsLog (turn_at l.fn.table l.fn.pass l.fn.self.list) (turn_at l.table l.pass l.self.list);
  closes : ClosesOn (entries_of l.fn.self.list.entries) (entries_of l.self.list.entries);
  up : AllUp l.table.stations.items;
  extends : AllExtend l.fn.table.stations.items l.table.stations.items;
  tid : l.work.tid ≡ l.fn.tid;
  work : IsWork (start_of g.N.Named.records) l.self.list l.work;
  done : IsDoneTo (length g.N.Named.records) l.work.tid (records_at l.table.stations.items) l.work.stage;
}

abbrev pub decreases-loop-node : goal.decreases-loop-node
decreases-loop-node g l = calls_left (length g.N.Named.records) l.work.stage
