use Rattle.std.proofs.Common.{◌≡◌, vec_len}
use Rattle.mn_callers.specs.Begins.{AreNewClients}
use Rattle.mn_callers.proofs.callers.new_clients.Given as goal

abbrev pub invariant-loop-at : goal.invariant-loop-at
invariant-loop-at l = record {
  count : vec_len l.clients ≡ l.at;
  new : AreNewClients l.run l.script l.clients.items;
}
