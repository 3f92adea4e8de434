use Rattle.std.proofs.Common.{◌≡◌, List}
use Rattle.mn_runs.specs.declared.entry.Entry.{Entry}
use Rattle.mn_runs.specs.Calls.{issues_of}
use Rattle.mn_runs.specs.Protocol.{start_nodes, entries_of}
use Rattle.mn_callers.specs.Clients.{last_shared}
use Rattle.mn_callers.specs.Closing.{calls_of}
use Rattle.mn_callers.specs.Desks.{IsDesk, RecoversOn}
use Rattle.mn_callers.specs.Recoveries.{bench_of}
use Rattle.mn_callers.specs.Hands.{HasTurn, MovesOn, hand_of}
use Rattle.mn_callers.proofs.Recoveries.{HasAsked}
use Rattle.mn_callers.proofs.desk.Desk.recover.Given as goal

abbrev pub invariant-loop-alloc : goal.invariant-loop-alloc
invariant-loop-alloc g l = record {
  turn : HasTurn g.X.Transport.board (g.X.Transport.ready l.table) (hand_of l.pass l.self.list);
  goes_on : MovesOn (g.X.Transport.went l.fn.table l.table) (hand_of l.fn.pass l.fn.self.list) (hand_of l.pass l.self.list);
  does : (es : List Entry) → l.fn.shared ≡ last_shared (issues_of es) → HasAsked (start_nodes g.X.Transport.start) l.fn.self.list.client es (bench_of l.fn.self) (bench_of l.self);
  recovers : RecoversOn (entries_of l.fn.self.list.entries) (entries_of l.self.list.entries);
  desk : IsDesk g.X.Transport.start l.self;
}

abbrev pub decreases-loop-alloc : goal.decreases-loop-alloc
decreases-loop-alloc g l = calls_of l.self.work
