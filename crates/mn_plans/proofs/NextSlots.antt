-- Slots that are each the first free one of their node, once those before them are given out: they
-- are free, and different.
use Rattle.std.proofs.Common.{◌≡◌, ℕ, ◌+◌, ◌<◌, ◌≤◌, ◌⊎◌, inl, inr, Bool, true, false, List, [], ◌∷◌, length, None, refl, subst, sym, ap, ◌∙◌, arith, slice_set, slice_index_or, get_or-set_other, get_or-set_same, if◌then◌else◌}
use Rattle.std.specs.Prelude.{nat_eq}
use Rattle.std.specs.List.{AllByRecursion}
use Rattle.std.proofs.lemmas.Bool.{eqb-true, eq-eqb}
use Rattle.std.proofs.lemmas.List.{length-set}
use Rattle.std.proofs.lemmas.Option.{slice_get_past}
use Rattle.mn_base.specs.declared.ids.Addr.{Addr}
use Rattle.mn_base.proofs.Lists.{all_both, weaker}
use Rattle.mn_page.specs.Forest.{Forest, node_count, page_at}
use Rattle.mn_plans.specs.Growth.{taken_on, AreNextSlots, AreCounts, AreDifferent, NextSlotsAreFree, count_in}
use Rattle.mn_plans.proofs.Spaces.{get_in-index}

pub number_cases : (a b : ℕ) → (a ≡ b) ⊎ (a ≡ b → ⊥)
number_cases a b = cases (nat_eq a b) refl
  where
    cases : (t : Bool) → nat_eq a b ≡ t → (a ≡ b) ⊎ (a ≡ b → ⊥)
    cases true e = inl (eqb-true a b e)
    cases false e = inr (λ same. clash (eq-eqb a b same) e)
      where
        clash : nat_eq a b ≡ true → nat_eq a b ≡ false → ⊥
        clash p q = absurd cc

-- Where the slots stand

-- a slot on a node that is not below the node's count
abbrev pub IsAbove : List ℕ → Addr → Type 0
IsAbove counts s = (s.node.0 < length counts) × (slice_index_or counts s.node.0 0 ≤ s.slot) × (s.slot < 4096)

-- a count that has grown
count_grown : (counts : List ℕ) (n m : ℕ) → n < length counts → slice_index_or counts m 0 ≤ slice_index_or (slice_set counts n (slice_index_or counts n 0 + 1)) m 0
count_grown counts n m in' = elim (number_cases m n) as (λ _. slice_index_or counts m 0 ≤ slice_index_or (slice_set counts n (slice_index_or counts n 0 + 1)) m 0) [
  | inl e ↦
      let now : slice_index_or (slice_set counts n (slice_index_or counts n 0 + 1)) m 0 ≡ slice_index_or counts n 0 + 1 =
      ap (λ k. slice_index_or (slice_set counts n (slice_index_or counts n 0 + 1)) k 0) e ∙ get_or-set_same counts n (slice_index_or counts n 0 + 1) 0 in' in
      let was : slice_index_or counts m 0 ≡ slice_index_or counts n 0 = ap (λ k. slice_index_or counts k 0) e in
      omega arith
  | inr differ ↦
      let now : slice_index_or (slice_set counts n (slice_index_or counts n 0 + 1)) m 0 ≡ slice_index_or counts m 0 = get_or-set_other counts n m (slice_index_or counts n 0 + 1) 0 differ in
      omega arith
]

-- what stands above the counts with one more given out
above_before : (counts : List ℕ) (s t : Addr) → s.node.0 < length counts → slice_index_or counts s.node.0 0 ≡ s.slot → IsAbove (slice_set counts s.node.0 (s.slot + 1)) t → IsAbove counts t
above_before counts s t in' first above =
    let same : length (slice_set counts s.node.0 (s.slot + 1)) ≡ length counts = length-set counts s.node.0 (s.slot + 1) in
    let grown : slice_index_or counts t.node.0 0 ≤ slice_index_or (slice_set counts s.node.0 (s.slot + 1)) t.node.0 0 =
    subst (λ k. slice_index_or counts t.node.0 0 ≤ slice_index_or (slice_set counts s.node.0 (k + 1)) t.node.0 0) first (count_grown counts s.node.0 t.node.0 in') in
    let low = above.1 in
    (subst (λ k. t.node.0 < k) same above.0, omega arith, above.2)

-- next slots stand above the counts
pub slots_above : (counts : List ℕ) (slots : List Addr) → AreNextSlots counts slots → AllByRecursion (IsAbove counts) slots
slots_above counts [] next = tt
slots_above counts (s ∷ slots) next =
    let first = next.1 in (
      (next.0, omega arith, next.2),
      weaker (IsAbove (slice_set counts s.node.0 (s.slot + 1))) (IsAbove counts) (λ t above. above_before counts s t next.0 next.1 above) slots
          (slots_above (slice_set counts s.node.0 (s.slot + 1)) slots next.3),
    )

-- Different slots

-- a later slot stands above each one before it
pub slots_differ : (counts : List ℕ) (slots : List Addr) → AreNextSlots counts slots → AreDifferent slots
slots_differ counts [] next = tt
slots_differ counts (s ∷ slots) next = (
  weaker (IsAbove (slice_set counts s.node.0 (s.slot + 1))) (λ t. t ≡ s → ⊥) later slots (slots_above (slice_set counts s.node.0 (s.slot + 1)) slots next.3),
  slots_differ (slice_set counts s.node.0 (s.slot + 1)) slots next.3,
)
  where
    later : (t : Addr) → IsAbove (slice_set counts s.node.0 (s.slot + 1)) t → t ≡ s → ⊥
    later t above same =
        let here : slice_index_or (slice_set counts s.node.0 (s.slot + 1)) t.node.0 0 ≡ s.slot + 1 =
        ap (λ (x : Addr). slice_index_or (slice_set counts s.node.0 (s.slot + 1)) x.node.0 0) same ∙ get_or-set_same counts s.node.0 (s.slot + 1) 0 next.0 in
        let slots_same : t.slot ≡ s.slot = ap (λ (x : Addr). x.slot) same in
        let low = above.1 in
        absurd (omega arith)

-- Free slots

-- a node with one of the slots gives one
pub taken_more : (s : Addr) (slots : List Addr) (n : ℕ) → (taken_on slots n ≡ 0 → ⊥) → taken_on (s ∷ slots) n ≡ 0 → ⊥
taken_more s slots n some = cases (nat_eq s.node.0 n)
  where
    cases : (t : Bool) → (if t then taken_on slots n + 1 else taken_on slots n) ≡ 0 → ⊥
    cases true e = absurd (omega arith)
    cases false e = some e

-- each slot's node gives one
pub taken_here : (slots : List Addr) → AllByRecursion (λ s. taken_on slots s.node.0 ≡ 0 → ⊥) slots
taken_here [] = tt
taken_here (s ∷ slots) = (first (nat_eq s.node.0 s.node.0) (eq-eqb s.node.0 s.node.0 refl), weaker (λ t. taken_on slots t.node.0 ≡ 0 → ⊥) (λ t. taken_on (s ∷ slots) t.node.0 ≡ 0 → ⊥) (λ t some. taken_more s slots t.node.0 some) slots (taken_here slots))
  where
    first : (t : Bool) → t ≡ true → (if t then taken_on slots s.node.0 + 1 else taken_on slots s.node.0) ≡ 0 → ⊥
    first true same e = absurd (omega arith)
    first false same e = absurd cc

-- no page stands behind those of a node
pub none_past : (f : Forest) (s : Addr) → count_in f s.node.0 ≤ s.slot → page_at f s ≡ None
none_past f s past = sym (get_in-index f.pages s.node.0 s.slot) ∙ slice_get_past (slice_index_or f.pages s.node.0 []) s.slot past

-- next slots have no page
pub slots_free : (f : Forest) → node_count f ≤ 8 → (counts : List ℕ) (slots : List Addr) → AreCounts f counts slots → AreNextSlots counts slots
    → AllByRecursion (λ s. (page_at f s ≡ None) × (s.node.0 < node_count f) × (s.node.0 < 8) × (s.slot < 4096)) slots
slots_free f few counts slots are next =
    all_both (IsAbove counts) (λ s. taken_on slots s.node.0 ≡ 0 → ⊥) (λ s. (page_at f s ≡ None) × (s.node.0 < node_count f) × (s.node.0 < 8) × (s.slot < 4096)) one slots (slots_above counts slots next) (taken_here slots)
  where
    one : (s : Addr) → IsAbove counts s → (taken_on slots s.node.0 ≡ 0 → ⊥) → (page_at f s ≡ None) × (s.node.0 < node_count f) × (s.node.0 < 8) × (s.slot < 4096)
    one s above some =
        let in' : s.node.0 < node_count f = subst (λ k. s.node.0 < k) are.0 above.0 in
        (none_past f s (subst (λ k. k ≤ s.slot) (are.1 s.node.0 some) above.1), in', omega arith, above.2)

pub next_slots_are_free : NextSlotsAreFree
next_slots_are_free memory store holds counts slots are next = (slots_free holds.forest holds.sound.laid.nodes.1 counts slots are next, slots_differ counts slots next)
