-- What is left when a slot is given out.
use Rattle.std.proofs.Common.{◌≡◌, ℕ, zero, suc, ◌+◌, ◌-◌, ◌<◌, ◌≤◌, List, [], ◌∷◌, ◌++◌, length, get_or, set, All, rules, refl, sym, ap, ◌∙◌, subst, arith, append_assoc}
use Rattle.std.proofs.lemmas.List.Elements.{All-append}
use Rattle.std.proofs.lemmas.List.Sums.{sum_by-set, sum_by-cons}
use Rattle.mn_base.specs.declared.ids.Addr.{Addr}
use Rattle.mn_alloc.specs.Plan.{next_slot, one_given, new_slots, free_slots}

-- where each node has given out all its slots nothing is free
none_free : (counts : List ℕ) → ((j : ℕ) → j < length counts → 4096 ≤ get_or counts j 0) → free_slots counts ≡ 0
none_free [] h = refl
none_free (c ∷ counts) h =
    let first : 4096 ≤ c = h 0 (omega arith) in
    let rest : free_slots counts ≡ 0 = none_free counts (λ j lt. h (suc j) (omega arith)) in
    let both : free_slots (c ∷ counts) ≡ (4096 - c) + free_slots counts = sum_by-cons (λ count. 4096 - count) c counts in
    omega arith

-- where a slot is free, the node with the fewest given out has one
has_free : (counts : List ℕ) (k : ℕ) → 1 ≤ free_slots counts → ((j : ℕ) → j < length counts → get_or counts k 0 ≤ get_or counts j 0) → get_or counts k 0 < 4096
has_free counts k free least = below (get_or counts k 0) (λ full. none_free counts (λ j lt. let le = least j lt in omega arith))
  where
    below : (c : ℕ) → (4096 ≤ c → free_slots counts ≡ 0) → c < 4096
    below c none = grind arith

one_less : (counts : List ℕ) (k : ℕ) → k < length counts → get_or counts k 0 < 4096 → free_slots (set counts k (get_or counts k 0 + 1)) + 1 ≡ free_slots counts
one_less counts k lt free = let moved = sum_by-set (λ count. 4096 - count) counts k (get_or counts k 0 + 1) 0 lt in omega arith

read_is : (counts : List ℕ) (k d : ℕ) → k < length counts → get_or counts k d ≡ get_or counts k 0
read_is [] k d lt = absurd (omega arith)
read_is (c ∷ counts) zero d lt = refl
read_is (c ∷ counts) (suc k) d lt = read_is counts k d (omega arith)

-- where this node has the fewest given out and a slot is free: it has this slot, and one less is
-- free when it is given out
taken : (counts : List ℕ) (k slot : ℕ) → 1 ≤ free_slots counts → k < length counts → ((j : ℕ) → j < length counts → get_or counts k 0 ≤ get_or counts j 0) → slot ≡ get_or counts k slot
    → (k < length counts) × (slot < 4096) × (free_slots (set counts k (slot + 1)) + 1 ≡ free_slots counts)
taken counts k slot free lt least is =
    let same : slot ≡ get_or counts k 0 = is ∙ read_is counts k slot lt in
    let low = has_free counts k free least in
    (lt, omega arith, subst (λ (s : ℕ). free_slots (set counts k (s + 1)) + 1 ≡ free_slots counts) (sym same) (one_less counts k lt low))

-- the same where the node was found in a list that is equal
pub taken_as_seen : (counts seen : List ℕ) (k slot : ℕ) → seen ≡ counts → 1 ≤ free_slots counts → k < length seen → ((j : ℕ) → j < length seen → get_or seen k 0 ≤ get_or seen j 0) → slot ≡ get_or counts k slot
    → (k < length counts) × (slot < 4096) × (free_slots (set counts k (slot + 1)) + 1 ≡ free_slots counts)
taken_as_seen counts seen k slot same free lt least is =
    taken counts k slot free (subst (λ (l : List ℕ). k < length l) same lt) (subst (λ (l : List ℕ). (j : ℕ) → j < length l → get_or l k 0 ≤ get_or l j 0) same least) is

pub more_slots : (slots : List Addr) (counts : List ℕ) (need made : ℕ) → made < need → (slots ++ next_slot counts ∷ []) ++ new_slots (need - (made + 1)) (one_given counts) ≡ slots ++ new_slots (need - made) counts
more_slots slots counts need made lt =
    let left : need - made ≡ suc (need - (made + 1)) = omega arith in
    append_assoc slots (next_slot counts ∷ []) (new_slots (need - (made + 1)) (one_given counts)) ∙ ap (λ (n : ℕ). slots ++ new_slots n counts) (sym left)

-- one slot more keeps the range
pub one_range : (slots : List Addr) (slot : Addr) (nodes : ℕ) → All (λ s. (s.node.0 < nodes) × (s.slot < 4096)) slots → (slot.node.0 < nodes) × (slot.slot < 4096) → All (λ s. (s.node.0 < nodes) × (s.slot < 4096)) (slots ++ slot ∷ [])
one_range slots slot nodes all one = All-append (λ s. (s.node.0 < nodes) × (s.slot < 4096)) slots (slot ∷ []) all (search rules)
