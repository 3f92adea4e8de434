use Rattle.std.proofs.Common.{◌≡◌, None}
use Rattle.std.specs.List.{AllByRecursion}
use Rattle.mn_mini.specs.RecordGrammar.{IsTid}
use Rattle.mn_runs.specs.Protocol.{entries_of}
use Rattle.mn_callers.specs.Desks.{IsDesk, RecoversOn}
use Rattle.mn_callers.specs.Hands.{HasTurn, MovesOn, hand_of}
use Rattle.mn_callers.proofs.desk.Desk.listed_ids.Given as goal

abbrev pub invariant-loop-number : goal.invariant-loop-number
invariant-loop-number g l = record {
  turn : HasTurn g.X.Transport.board (g.X.Transport.ready l.table) (hand_of l.pass l.self.list);
  goes_on : MovesOn (g.X.Transport.went l.fn.table l.table) (hand_of l.fn.pass l.fn.self.list) (hand_of l.pass l.self.list);
  desk : IsDesk g.X.Transport.start l.self;
  idle : l.self.work ≡ None;
  recovers : RecoversOn (entries_of l.fn.self.list.entries) (entries_of l.self.list.entries);
  ids : AllByRecursion IsTid l.tids.items;
}
