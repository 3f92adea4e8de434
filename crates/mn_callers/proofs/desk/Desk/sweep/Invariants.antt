use Rattle.std.proofs.Common.{◌≡◌, None}
use Rattle.mn_runs.specs.Protocol.{entries_of}
use Rattle.mn_callers.specs.Desks.{IsDesk, RecoversOn}
use Rattle.mn_callers.specs.Hands.{HasTurn, MovesOn, hand_of}
use Rattle.mn_callers.proofs.desk.Desk.sweep.Given as goal

abbrev pub invariant-loop-tid : goal.invariant-loop-tid
invariant-loop-tid g l = record {
  turn : HasTurn g.X.Transport.board (g.X.Transport.ready l.table) (hand_of l.pass l.self.list);
  goes_on : MovesOn (g.X.Transport.went l.fn.table l.table) (hand_of l.fn.pass l.fn.self.list) (hand_of l.pass l.self.list);
  desk : IsDesk g.X.Transport.start l.self;
  idle : l.self.work ≡ None;
  recovers : RecoversOn (entries_of l.fn.self.list.entries) (entries_of l.self.list.entries);
}
