use Rattle.std.proofs.Common.{◌≡◌, flat_map}
use Rattle.std.specs.List.{range_with_len}
use Rattle.mn_gen.specs.Generated.{openings}
use Rattle.mn_gen.proofs.clients.opener.Given as goal

abbrev pub invariant-loop-client : goal.invariant-loop-client
invariant-loop-client l = l.ops.items ≡ flat_map openings (range_with_len 0 l.client)
