-- Free slots and those given out.
use Rattle.std.proofs.Common.{◌≡◌, ◌+◌, ◌-◌, [], ◌∷◌, arith, sum}
use Rattle.std.proofs.lemmas.List.Sums.{sum_by-cons}
use Rattle.mn_alloc.specs.Plan.{free_slots}
use Rattle.mn_txn.specs.Tries.{FreeSlotsAreLeft}

pub free_slots_are_left : FreeSlotsAreLeft
free_slots_are_left [] all = omega arith
free_slots_are_left (c ∷ counts) all =
    let low = all.0 in
    let rest = free_slots_are_left counts all.1 in
    let more : free_slots (c ∷ counts) ≡ (4096 - c) + free_slots counts = sum_by-cons (λ count. 4096 - count) c counts in
    let total : sum (c ∷ counts) ≡ c + sum counts = sum_by-cons (λ count. count) c counts in
    omega arith
