-- What stands at a place of a list that was written back.
use Rattle.std.proofs.Common.{◌≡◌, ℕ, zero, suc, ◌<◌, List, [], ◌∷◌, ◌++◌, length, get_or, take, slice_get, Some, arith}

-- what is read at a place where this stands
pub read_there : {X : Type 0} (xs : List X) (k : ℕ) (x d : X) → slice_get xs k ≡ Some x → get_or xs k d ≡ x
read_there [] k x d there = absurd cc
read_there (y ∷ xs) zero x d there = cc
read_there (y ∷ xs) (suc k) x d there = read_there xs k x d there

-- the front of a list of which only so many are taken
pub read_front : {X : Type 0} (n k : ℕ) (ys rest : List X) (v d : X) → k < length ys → slice_get (take n (ys ++ rest)) k ≡ Some v → get_or ys k d ≡ v
read_front n k [] rest v d within there = absurd (omega arith)
read_front zero k (y ∷ ys) rest v d within there = absurd cc
read_front (suc n) zero (y ∷ ys) rest v d within there = cc
read_front (suc n) (suc k) (y ∷ ys) rest v d within there = read_front n k ys rest v d (omega arith) there
