-- The cells of the nodes are filled.
use Rattle.std.proofs.Common.{◌≡◌, ℕ, ◌<◌, ◌≤◌, Bool, true, Some, length, slice_get, ap, ◌∙◌, arith}
use Rattle.std.proofs.lemmas.Bool.Decides.{nat_tests}
use Rattle.std.proofs.lemmas.List.FromFn.{get_or-map-range_with_len, length-map-range_with_len}
use Rattle.std.specs.Prelude.{nat_lt}
use Rattle.mn_cell.specs.Filled.{filled_to}
use Rattle.mn_callers.proofs.Turns.{got_there}

pub filled_there : (count k : ℕ) → k < count → count ≤ 8 → slice_get (filled_to count) k ≡ Some true
filled_there count k lt few =
    let f = λ (i : ℕ). nat_lt i count in
    let below : nat_lt k count ≡ true = grind (arith, nat_tests) in
    let eight : length (filled_to count) ≡ 8 = length-map-range_with_len f 0 8 in
    got_there (filled_to count) k true (omega (arith, eight))
    ∙ ap (λ (b : Bool). Some b) (get_or-map-range_with_len f 0 8 k k true (omega arith) (omega arith) ∙ below)
