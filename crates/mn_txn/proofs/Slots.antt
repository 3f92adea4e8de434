-- New slots are the next of their nodes.
use Rattle.std.proofs.Common.{◌≡◌, ◌⊎◌, ℕ, zero, suc, ◌+◌, ◌-◌, ◌<◌, ◌≤◌, true≢false, List, [], ◌∷◌, length, get_or, nat_eq, eq-eqb, refl, sym, ◌∙◌, ⊎_elim, arith}
use Rattle.std.proofs.lemmas.Bool.{eqb-true}
use Rattle.std.proofs.lemmas.List.Sums.{sum_by-cons, sum_by-set, passes_at_first, fails_before_first}
use Rattle.mn_alloc.specs.Plan.{fewest, next_node, one_given, free_slots}
use Rattle.mn_txn.specs.Slots.{NewSlotsAreNext}

-- where a slot is free there is a node
some_node : (counts : List ℕ) → 1 ≤ free_slots counts → 0 < length counts
some_node [] free = absurd (omega arith)
some_node (c ∷ counts) free = omega arith

-- where a slot is free, the fewest given out are not all
fewest_below : (counts : List ℕ) → 1 ≤ free_slots counts → fewest counts < 4096
fewest_below [] free = absurd (omega arith)
fewest_below (c ∷ []) free = let all : free_slots (c ∷ []) ≡ (4096 - c) + free_slots [] = sum_by-cons (λ count. 4096 - count) c [] in omega arith
fewest_below (c ∷ (d ∷ counts)) free =
    let all : free_slots (c ∷ (d ∷ counts)) ≡ (4096 - c) + free_slots (d ∷ counts) = sum_by-cons (λ count. 4096 - count) c (d ∷ counts) in
    cases (free_slots (d ∷ counts)) (fewest_below (d ∷ counts)) (omega arith)
  where
    cases : (n : ℕ) → (1 ≤ n → fewest (d ∷ counts) < 4096) → 1 ≤ (4096 - c) + n → fewest (c ∷ (d ∷ counts)) < 4096
    cases zero below some = omega arith
    cases (suc n) below some = let low : fewest (d ∷ counts) < 4096 = below (omega arith) in omega arith

-- some node has the fewest
has_fewest : (counts : List ℕ) → 0 < length counts → (k : ℕ) × (k < length counts) × (get_or counts k 0 ≡ fewest counts)
has_fewest [] some = absurd (omega arith)
has_fewest (c ∷ []) some = (0, omega arith, refl)
has_fewest (c ∷ (d ∷ counts)) some = cases (has_fewest (d ∷ counts) (omega arith)) (below_or c (fewest (d ∷ counts)))
  where
    below_or : (m n : ℕ) → (m ≤ n) ⊎ (n ≤ m)
    below_or m n = grind arith

    cases : (k : ℕ) × (k < length (d ∷ counts)) × (get_or (d ∷ counts) k 0 ≡ fewest (d ∷ counts)) → (c ≤ fewest (d ∷ counts)) ⊎ (fewest (d ∷ counts) ≤ c)
        → (k : ℕ) × (k < length (c ∷ (d ∷ counts))) × (get_or (c ∷ (d ∷ counts)) k 0 ≡ fewest (c ∷ (d ∷ counts)))
    cases h t = ⊎_elim
        (λ (le : c ≤ fewest (d ∷ counts)). (0, omega arith, omega arith))
        (λ (ge : fewest (d ∷ counts) ≤ c).
        let lt : h.0 < length (d ∷ counts) = h.1 in
        let is : get_or (d ∷ counts) h.0 0 ≡ fewest (d ∷ counts) = h.2 in
        let low : fewest (d ∷ counts) ≡ fewest (c ∷ (d ∷ counts)) = omega arith in
        (suc h.0, omega arith, is ∙ low))
        t

-- the next node is there, and has the fewest
next_has_fewest : (counts : List ℕ) → 0 < length counts → (next_node counts < length counts) × (get_or counts (next_node counts) 0 ≡ fewest counts)
next_has_fewest counts some =
    let k = has_fewest counts some in
    let hit = eq-eqb (get_or counts k.0 0) (fewest counts) k.2 in
    let place : next_node counts ≤ k.0 = ⊎_elim
    (λ (e : k.0 < next_node counts). absurd (true≢false (sym hit ∙ fails_before_first (λ count. nat_eq count (fewest counts)) counts k.0 0 e)))
    (λ (e : next_node counts ≤ k.0). e)
    (below_or k.0 (next_node counts)) in
    let lt : k.0 < length counts = k.1 in
    let there : next_node counts < length counts = omega arith in
    (there, eqb-true (get_or counts (next_node counts) 0) (fewest counts) (passes_at_first (λ count. nat_eq count (fewest counts)) counts 0 there))
  where
    below_or : (m n : ℕ) → (m < n) ⊎ (n ≤ m)
    below_or m n = grind arith

-- one less is free when the next slot is given out
one_less : (counts : List ℕ) → next_node counts < length counts → get_or counts (next_node counts) 0 < 4096 → free_slots (one_given counts) + 1 ≡ free_slots counts
one_less counts lt free = let moved = sum_by-set (λ count. 4096 - count) counts (next_node counts) (get_or counts (next_node counts) 0 + 1) 0 lt in omega arith

pub new_slots_are_next : NewSlotsAreNext
new_slots_are_next zero counts free = tt
new_slots_are_next (suc need) counts free =
    let some : 1 ≤ free_slots counts = omega arith in
    let next = next_has_fewest counts (some_node counts some) in
    let below = fewest_below counts some in
    let low : get_or counts (next_node counts) 0 < 4096 = omega (arith, next.1) in
    let left = one_less counts next.0 low in
    (next.0, refl, low, new_slots_are_next need (one_given counts) (omega arith))
