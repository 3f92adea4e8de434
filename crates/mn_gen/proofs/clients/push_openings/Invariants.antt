use Rattle.std.proofs.Common.{◌≡◌, ◌++◌, map}
use Rattle.std.specs.List.{range_with_len}
use Rattle.mn_gen.specs.Generated.{opening}
use Rattle.mn_gen.proofs.clients.push_openings.Given as goal

abbrev pub invariant-loop-account : goal.invariant-loop-account
invariant-loop-account l = l.ops.items ≡ l.fn.ops.items ++ map (opening l.client) (range_with_len 0 l.account)
