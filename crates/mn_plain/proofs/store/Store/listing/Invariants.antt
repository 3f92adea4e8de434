use Rattle.std.proofs.Common.{◌≡◌, map, take}
use Rattle.mn_base.specs.Store.{heads_of, listed}
use Rattle.mn_plain.proofs.store.Store.listing.Given as goal

-- the lines so far
abbrev pub invariant-loop-at : goal.invariant-loop-at
invariant-loop-at l =
    let heads = heads_of l.versions in
    l.lines.items ≡ map (listed heads) (take l.at heads)
