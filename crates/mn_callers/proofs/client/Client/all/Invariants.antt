use Rattle.std.proofs.Common.{length}
use Rattle.mn_callers.specs.Acts.{OperatesOn, as_role}
use Rattle.mn_callers.specs.Clients.{IsClient, past_of}
use Rattle.mn_callers.specs.Going.{KeepsOrder, ops_left}
use Rattle.mn_callers.specs.Hands.{HasTurn, MovesOn, hand_of}
use Rattle.mn_callers.proofs.client.Client.all.Given as goal

-- nothing of its own is left to do, after one operation and another
abbrev pub invariant-loop-alloc : goal.invariant-loop-alloc
invariant-loop-alloc g l = record {
  turn : HasTurn g.X.Transport.board (g.X.Transport.ready l.table) (hand_of l.pass l.self.list);
  goes_on : MovesOn (g.X.Transport.went l.fn.table l.table) (hand_of l.fn.pass l.fn.self.list) (hand_of l.pass l.self.list);
  client : IsClient g.X.Transport.start l.points l.self;
  order : KeepsOrder l.ops (past_of l.fn.self) (past_of l.self);
  operates : OperatesOn (as_role l.points l.fn.self.list.client l.ops) (past_of l.fn.self) (past_of l.self);
}

abbrev pub decreases-loop-alloc : goal.decreases-loop-alloc
decreases-loop-alloc g l = ops_left (length l.ops) l.self
