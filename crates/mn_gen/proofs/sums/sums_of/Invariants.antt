use Rattle.std.proofs.Common.{◌≡◌, map, take}
use Rattle.mn_base.specs.Store.{StoreVersion}
use Rattle.mn_gen.specs.Summary.{sum_of}
use Rattle.mn_gen.proofs.sums.sums_of.Given as goal

abbrev pub invariant-loop-at : goal.invariant-loop-at
invariant-loop-at l = l.sums.items ≡ map (λ (v : StoreVersion). sum_of v.pairs) (take l.at l.store)
