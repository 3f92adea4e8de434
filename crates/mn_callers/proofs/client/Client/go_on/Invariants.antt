use Rattle.std.proofs.Common.{◌≤◌, ◌≡◌, ◌⊎◌}
use Rattle.mn_proxy.specs.Measure.{steps_left}
use Rattle.mn_proxy.specs.Turns.{LacksMemory}
use Rattle.mn_callers.specs.Acts.{GoesByItself}
use Rattle.mn_callers.specs.Clients.{IsAtSteps, past_of}
use Rattle.mn_callers.specs.Going.{IsLonger}
use Rattle.mn_callers.specs.Hands.{HasTurn, MovesOn, hand_of}
use Rattle.mn_callers.proofs.client.Client.go_on.Given as goal

-- its proxy is to be asked again, after steps of its own
abbrev pub invariant-loop : goal.invariant-loop
invariant-loop g l = record {
  turn : HasTurn g.X.Transport.board (g.X.Transport.ready l.table) (hand_of l.pass l.self.list);
  goes_on : MovesOn (g.X.Transport.went l.fn.table l.table) (hand_of l.fn.pass l.fn.self.list) (hand_of l.pass l.self.list);
  steps : IsAtSteps g.X.Transport.start l.points l.self;
  own : GoesByItself l.fn.self.list.client (past_of l.fn.self) (past_of l.self);
  begun : l.self.begun ≡ l.fn.self.begun;
  fewer : steps_left l.self.proxy ≤ steps_left l.fn.self.proxy;
  longer : LacksMemory l.fn.self.proxy → (l.self ≡ l.fn.self) ⊎ IsLonger l.fn.self l.self;
}

abbrev pub decreases-loop : goal.decreases-loop
decreases-loop g l = steps_left l.self.proxy
