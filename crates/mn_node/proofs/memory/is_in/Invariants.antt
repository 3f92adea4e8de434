use Rattle.std.proofs.Common.{◌≡◌, drop}
use Rattle.mn_node.specs.Memory.{is_among}
use Rattle.mn_node.proofs.memory.is_in.Given as goal

abbrev pub invariant-loop-other : goal.invariant-loop-other
invariant-loop-other l = is_among (drop l.other-index l.tids) l.tid ≡ is_among l.tids l.tid
