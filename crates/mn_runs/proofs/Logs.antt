-- The entries of a log, as they stand in the lists of actors and as a loop over its places meets them.
use Rattle.std.proofs.Common.{◌≡◌, ◌+◌, ◌-◌, ◌<◌, ◌≤◌, ◌∷◌, ◌++◌, ℕ, zero, suc, false, List, [], take, length, map, get_or, nat_eq, refl, sym, ap, subst, ◌∙◌, arith, if◌then◌else◌}
use Rattle.std.proofs.lemmas.Grind.{common_steps}
use Rattle.mn_runs.specs.declared.entry.Entry.{Entry}
use Rattle.mn_runs.specs.declared.log.Spot.{Spot}
use Rattle.mn_runs.specs.Log.{AreSpots, IsSpot, nobody}
use Rattle.mn_runs.specs.Protocol.{entries_of}

-- Images of lists

pub map_long : {A B : Type 0} (f : A → B) (xs : List A) → length (map f xs) ≡ length xs
map_long f [] = refl
map_long f (x ∷ xs) = ap suc (map_long f xs)

pub map_more : {A B : Type 0} (f : A → B) (xs : List A) (x : A) → map f (xs ++ x ∷ []) ≡ map f xs ++ f x ∷ []
map_more f [] x = refl
map_more f (y ∷ xs) x = ap (λ (l : List _). f y ∷ l) (map_more f xs x)

pub map_at : {A B : Type 0} (f : A → B) (xs : List A) (i : ℕ) (x : A) (none : B) → i < length xs → x ≡ get_or xs i x → get_or (map f xs) i none ≡ f x
map_at f [] i x none lt is = absurd (omega (arith, lt))
map_at f (y ∷ xs) zero x none lt is = ap f (sym is)
map_at f (y ∷ xs) (suc i) x none lt is = map_at f xs i x none (omega (arith, lt)) is

-- Spots

not_none : (n : ℕ) → 1 ≤ n → nat_eq n 0 ≡ false
not_none n some = grind (arith)

pub at_place : (l : List (ℕ × Entry)) (n i : ℕ) → n ≡ i + 1 → (if nat_eq n 0 then nobody else get_or l (n - 1) nobody) ≡ get_or l i nobody
at_place l n i is =
    let same : n - 1 ≡ i = omega (arith, is) in
    rw (not_none n (omega (arith, is))) (ap (λ (k : ℕ). get_or l k nobody) same)

-- one spot more
pub spots_more : (lists : List (List (ℕ × Entry))) (order : List Spot) (s : Spot) → AreSpots lists order → IsSpot lists s → AreSpots lists (order ++ s ∷ [])
spots_more lists [] s are is zero t lt at = subst (IsSpot lists) (sym at) is
spots_more lists [] s are is (suc n) t lt at = absurd (omega (arith, lt))
spots_more lists (o ∷ order) s are is zero t lt at = are 0 t (omega arith) at
spots_more lists (o ∷ order) s are is (suc n) t lt at = spots_more lists order s (λ k u low there. are (suc k) u (omega (arith, low)) there) is n t (omega (arith, lt)) at

-- Loops

pub take_more : (log : List (ℕ × Entry)) (i : ℕ) → i < length log → take (i + 1) log ≡ take i log ++ get_or log i nobody ∷ []
take_more log i lt = subst (λ (n : ℕ). take n log ≡ take i log ++ get_or log i nobody ∷ []) (next i) (from log i lt)
  where
    next : (i : ℕ) → suc i ≡ i + 1
    next i = omega arith

    from : (log : List (ℕ × Entry)) (i : ℕ) → i < length log → take (suc i) log ≡ take i log ++ get_or log i nobody ∷ []
    from [] i lt = absurd (omega (arith, lt))
    from (x ∷ log) zero lt = refl
    from (x ∷ log) (suc i) lt = ap (λ (l : List (ℕ × Entry)). x ∷ l) (from log i (omega (arith, lt)))

pub take_all : (log : List (ℕ × Entry)) (i : ℕ) → length log ≤ i → take i log ≡ log
take_all [] zero le = refl
take_all [] (suc i) le = refl
take_all (x ∷ log) zero le = absurd (omega (arith, le))
take_all (x ∷ log) (suc i) le = ap (λ (l : List (ℕ × Entry)). x ∷ l) (take_all log i (omega (arith, le)))

-- what a list has at a place is the same whatever it is said to have behind its end
any_end : (log : List (ℕ × Entry)) (i : ℕ) (a b : ℕ × Entry) → i < length log → get_or log i a ≡ get_or log i b
any_end [] i a b lt = absurd (omega (arith, lt))
any_end (x ∷ log) zero a b lt = refl
any_end (x ∷ log) (suc i) a b lt = any_end log i a b (omega (arith, lt))

one_more : (log : List (ℕ × Entry)) (i : ℕ) (e : ℕ × Entry) → i < length log → e ≡ get_or log i e → entries_of (take (i + 1) log) ≡ e.1 ∷ entries_of (take i log)
one_more log i e here is = grind (arith, common_steps)

-- one more entry is the newest
pub newest : (log : List (ℕ × Entry)) (i : ℕ) (e : Entry) → i < length log → e ≡ (get_or log i nobody).1 → entries_of (take (i + 1) log) ≡ e ∷ entries_of (take i log)
newest log i e here is =
    let x = get_or log i nobody in
    one_more log i x here (any_end log i nobody x here) ∙ ap (λ (f : Entry). f ∷ entries_of (take i log)) (sym is)
