-- The node with the fewest slots given out.
use Rattle.std.proofs.Common.{◌≡◌, ◌⊎◌, ℕ, zero, suc, ◌<◌, ◌≤◌, Bool, true, false, true≢false, List, [], ◌∷◌, length, get_or, nat_eq, ne_eqb, eq-eqb, refl, sym, ◌∙◌, ⊎_elim, arith}
use Rattle.std.specs.List.{position_or_len}
use Rattle.std.proofs.lemmas.Bool.{cases_eq}
use Rattle.std.proofs.lemmas.List.Sums.{passes_at_first, fails_before_first}
use Rattle.mn_alloc.specs.Plan.{fewest, next_node}

fewest_above : (counts : List ℕ) (m : ℕ) → 0 < length counts → ((j : ℕ) → j < length counts → m ≤ get_or counts j 0) → m ≤ fewest counts
fewest_above [] m some h = absurd (omega arith)
fewest_above (c ∷ []) m some h = h 0 (omega arith)
fewest_above (c ∷ (d ∷ counts)) m some h =
    let first : m ≤ c = h 0 (omega arith) in
    let rest : m ≤ fewest (d ∷ counts) = fewest_above (d ∷ counts) m (omega arith) (λ j lt. h (suc j) (omega arith)) in
    omega arith

-- the count that no other is below
fewest_is : (counts : List ℕ) (m k : ℕ) → k < length counts → get_or counts k 0 ≡ m → ((j : ℕ) → j < length counts → m ≤ get_or counts j 0) → fewest counts ≡ m
fewest_is [] m k lt is h = absurd (omega arith)
fewest_is (c ∷ []) m zero lt is h = is
fewest_is (c ∷ []) m (suc k) lt is h = absurd (omega arith)
fewest_is (c ∷ (d ∷ counts)) m zero lt is h =
    let rest : m ≤ fewest (d ∷ counts) = fewest_above (d ∷ counts) m (omega arith) (λ j lt'. h (suc j) (omega arith)) in
    omega arith
fewest_is (c ∷ (d ∷ counts)) m (suc k) lt is h =
    let first : m ≤ c = h 0 (omega arith) in
    let rest : fewest (d ∷ counts) ≡ m = fewest_is (d ∷ counts) m k (omega arith) is (λ j lt'. h (suc j) (omega arith)) in
    omega arith

-- the first place at which a test passes
first_is : (p : ℕ → Bool) (xs : List ℕ) (k : ℕ) → k < length xs → p (get_or xs k 0) ≡ true → ((j : ℕ) → j < k → p (get_or xs j 0) ≡ false) → position_or_len p xs ≡ k
first_is p xs k lt hit before = ⊎_elim
    (λ (e : position_or_len p xs ≡ k). e)
    (λ (ne : position_or_len p xs ≡ k → ⊥). absurd (⊎_elim
    (λ (e : k < position_or_len p xs). true≢false (sym hit ∙ fails_before_first p xs k 0 e))
    (λ (e : position_or_len p xs ≤ k).
    let low : position_or_len p xs < k = omega arith in
    true≢false (sym (passes_at_first p xs 0 (omega arith)) ∙ before (position_or_len p xs) low))
    (below_or k (position_or_len p xs))))
    (cases_eq (position_or_len p xs) k)
  where
    below_or : (m n : ℕ) → (m < n) ⊎ (n ≤ m)
    below_or m n = grind arith

pub next_is : (counts : List ℕ) (k : ℕ) → k < length counts → ((j : ℕ) → j < length counts → get_or counts k 0 ≤ get_or counts j 0) → ((j : ℕ) → j < k → get_or counts k 0 < get_or counts j 0) → k ≡ next_node counts
next_is counts k lt least first =
    let low : fewest counts ≡ get_or counts k 0 = fewest_is counts (get_or counts k 0) k lt refl least in
    sym (first_is (λ count. nat_eq count (fewest counts)) counts k lt (eq-eqb (get_or counts k 0) (fewest counts) (sym low))
    (λ j lt'. let above = first j lt' in ne_eqb (get_or counts j 0) (fewest counts) (λ e. absurd (omega arith))))
