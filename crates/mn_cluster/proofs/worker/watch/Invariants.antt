use Rattle.mn_runs.specs.Protocol.{entries_of}
use Rattle.mn_callers.specs.Desks.{IsDesk, RecoversOn}
use Rattle.mn_callers.specs.Hands.{HasTurn, MovesOn, hand_of}
use Rattle.mn_cluster.proofs.worker.watch.Given as goal

abbrev pub invariant-loop : goal.invariant-loop
invariant-loop g l = record {
  turn : HasTurn g.X.Transport.board (g.X.Transport.ready l.table) (hand_of l.pass l.desk.list);
  goes_on : MovesOn (g.X.Transport.went l.fn.table l.table) (hand_of l.fn.pass l.fn.desk.list) (hand_of l.pass l.desk.list);
  desk : IsDesk g.X.Transport.start l.desk;
  recovers : RecoversOn (entries_of l.fn.desk.list.entries) (entries_of l.desk.list.entries);
}
