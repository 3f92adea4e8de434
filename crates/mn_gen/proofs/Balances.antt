-- Bounds of balances.
use Rattle.std.proofs.Common.{ℕ, zero, suc, ◌+◌, ◌-◌, ◌≤◌, List, [], ◌∷◌, get_or, set, replicate, arith}
use Rattle.mn_gen.specs.declared.draws.Transfer.{Transfer}
use Rattle.mn_gen.specs.Draws.{amount_of, moved}
use Rattle.mn_gen.specs.Work.{AreAtMost}

pub replicate-at_most : (n x k : ℕ) → get_or (replicate n x) k 0 ≤ x
replicate-at_most zero x k = omega arith
replicate-at_most (suc n) x zero = omega arith
replicate-at_most (suc n) x (suc k) = replicate-at_most n x k

pub set-at_most : (xs : List ℕ) (i v most k : ℕ) → AreAtMost most xs → v ≤ most → get_or (set xs i v) k 0 ≤ most
set-at_most [] i v most k all one = omega arith
set-at_most (x ∷ xs) zero v most zero all one = one
set-at_most (x ∷ xs) zero v most (suc k) all one = all (suc k)
set-at_most (x ∷ xs) (suc i) v most zero all one = all zero
set-at_most (x ∷ xs) (suc i) v most (suc k) all one = set-at_most xs i v most k (λ (j : ℕ). all (suc j)) one

pub at_most-more : (xs : List ℕ) (low high : ℕ) → AreAtMost low xs → low ≤ high → AreAtMost high xs
at_most-more xs low high all more k = omega (arith, all k)

pub moved-at_most : (t : Transfer) (xs : List ℕ) (most : ℕ) → AreAtMost most xs → t.amount ≤ 10 → AreAtMost (most + 10) (moved t xs)
moved-at_most t xs most all few k =
    set-at_most (set xs t.from (get_or xs t.from 0 - t.amount)) t.to (get_or xs t.to 0 + t.amount) (most + 10) k
    (λ (j : ℕ). set-at_most xs t.from (get_or xs t.from 0 - t.amount) (most + 10) j (at_most-more xs most (most + 10) all (omega arith)) (omega (arith, all t.from)))
    (omega (arith, all t.to))

pub amount-few : (draw balance : ℕ) → (amount_of draw balance ≤ 10) × (amount_of draw balance ≤ balance)
amount-few draw balance = (omega arith, omega arith)
