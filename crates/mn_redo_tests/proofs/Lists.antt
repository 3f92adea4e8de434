-- One body more in a list.
use Rattle.std.proofs.Common.{◌≡◌, ◌<◌, ◌^◌, ℕ, ◌+◌, List, [], ◌∷◌, ◌++◌, length, arith}
use Rattle.mn_redo.specs.Grammar.{HaveSizes, total}

pub sizes_more : (bodies : List (List ℕ)) (body : List ℕ) → HaveSizes bodies → length body < 2 ^ 32 → HaveSizes (bodies ++ body ∷ [])
sizes_more [] body sizes size = (size, tt)
sizes_more (b ∷ bodies) body sizes size = (sizes.0, sizes_more bodies body sizes.1 size)

pub total_more : (bodies : List (List ℕ)) (body : List ℕ) → total (bodies ++ body ∷ []) ≡ total bodies + length body
total_more [] body = omega arith
total_more (b ∷ bodies) body = omega (arith, total_more bodies body)
