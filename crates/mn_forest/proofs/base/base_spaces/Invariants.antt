use Rattle.std.proofs.Common.{◌≡◌, map}
use Rattle.std.specs.List.{range_with_len}
use Rattle.mn_page.specs.Base.{base_of}
use Rattle.mn_forest.proofs.base.base_spaces.Given as goal

-- the nodes so far have their base spaces
abbrev pub invariant-loop-node : goal.invariant-loop-node
invariant-loop-node l = l.spaces.items ≡ map (base_of l.nodes) (range_with_len 0 l.node)
