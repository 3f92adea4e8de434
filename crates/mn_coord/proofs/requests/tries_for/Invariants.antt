use Rattle.std.proofs.Common.{◌≡◌, map, take}
use Rattle.mn_coord.specs.Coordination.{try_request}
use Rattle.mn_coord.proofs.requests.tries_for.Given as goal

-- the requests so far
abbrev pub invariant-loop-node : goal.invariant-loop-node
invariant-loop-node l = l.tries.items ≡ map (try_request l.tid l.mini) (take l.node-index l.nodes)
