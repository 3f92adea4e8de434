use Rattle.std.proofs.Common.{◌≡◌, ◌++◌, map, take}
use Rattle.mn_callers.proofs.settle.add_ids.Given as goal

abbrev pub invariant-loop-doubt : goal.invariant-loop-doubt
invariant-loop-doubt l = l.tids.items ≡ l.initial.tids.items ++ map (λ d. d.tid) (take l.doubt-index l.doubt-items)
