use Rattle.std.proofs.Common.{not, ◌≡◌}
use Rattle.mn_callers.specs.Acts.{CallsWhile, as_role, is_at_work}
use Rattle.mn_callers.specs.Clients.{IsClient, past_of}
use Rattle.mn_callers.specs.Going.{KeepsOrder, work_left}
use Rattle.mn_callers.specs.Hands.{HasTurn, MovesOn, hand_of}
use Rattle.mn_callers.proofs.client.Client.go.Given as goal

-- nothing of its own is left to do, after calls each of which was to be made
abbrev pub invariant-loop-alloc : goal.invariant-loop-alloc
invariant-loop-alloc g l = record {
  turn : HasTurn g.X.Transport.board (g.X.Transport.ready l.table) (hand_of l.pass l.self.list);
  goes_on : MovesOn (g.X.Transport.went l.fn.table l.table) (hand_of l.fn.pass l.fn.self.list) (hand_of l.pass l.self.list);
  client : IsClient g.X.Transport.start l.points l.self;
  order : KeepsOrder l.ops (past_of l.fn.self) (past_of l.self);
  calls : CallsWhile (as_role l.points l.fn.self.list.client l.ops) (λ now. not (is_at_work (as_role l.points l.fn.self.list.client l.ops) now)) (past_of l.initial.self) (past_of l.self);
  begun : l.self.begun ≡ l.initial.self.begun;
}

abbrev pub decreases-loop-alloc : goal.decreases-loop-alloc
decreases-loop-alloc g l = work_left l.self
