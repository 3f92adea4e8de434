use Rattle.std.proofs.Common.{◌≡◌, ◌<◌, ℕ, Some, length, slice_get}
use Rattle.mn_base.specs.declared.ids.Tid.{Tid}
use Rattle.mn_runs.specs.Protocol.{start_of, entries_of}
use Rattle.mn_callers.specs.Closing.{AllExtend, ClosesOn, IsClosing, IsDone}
use Rattle.mn_callers.specs.Settled.{AllUp, records_at}
use Rattle.mn_callers.specs.Turn.{ExtendsLog, turn_at}
use Rattle.mn_callers.proofs.settle.Closer.recover_all.Given as goal

abbrev pub invariant-loop-tid : goal.invariant-loop-tid
invariant-loop-tid g l = record {
  closing : IsClosing g.N.Named.board (start_of g.N.Named.records) (turn_at l.table l.pass l.self.list);
  goes_on : ExtendsLog (turn_at l.fn.table l.fn.pass l.fn.self.list) (turn_at l.table l.pass l.self.list);
  closes : ClosesOn (entries_of l.fn.self.list.entries) (entries_of l.self.list.entries);
  up : AllUp l.table.stations.items;
  extends : AllExtend l.fn.table.stations.items l.table.stations.items;
  done : (k : ℕ) (t : Tid) → k < l.tid-index → slice_get l.tids k ≡ Some t → IsDone (length g.N.Named.records) t (records_at l.table.stations.items);
}
