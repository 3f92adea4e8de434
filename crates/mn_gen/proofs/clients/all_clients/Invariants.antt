use Rattle.std.proofs.Common.{◌≡◌, ◌∷◌, map}
use Rattle.std.specs.List.{range_with_len}
use Rattle.mn_gen.specs.Generated.{opener, mover, state_at}
use Rattle.mn_gen.proofs.clients.all_clients.Given as goal

abbrev pub invariant-loop-client : goal.invariant-loop-client
invariant-loop-client l = record {
  clients : l.clients.items ≡ opener ∷ map (mover l.number) (range_with_len 0 l.client);
  state : l.state ≡ state_at l.number l.client;
}
