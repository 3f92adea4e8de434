-- New slots: which nodes they go to.
use Rattle.std.specs.Prelude.{◌≡◌, ℕ, zero, suc, ◌+◌, ◌-◌, ◌<◌, nat_eq, min, List, [], ◌∷◌, sum_by}
use Rattle.std.specs.Prelude.{slice_index, slice_set}
use Rattle.std.specs.List.{position_or_len}
use Rattle.mn_base.specs.declared.ids.Addr.{Addr}
use Rattle.mn_alloc.specs.declared.error.AllocError.{AllocError}
use Rattle.mn_alloc.specs.declared.error.AllocError.TheVariants.{Full, NoMemory}
use Rattle.mn_alloc.specs.declared.plan.TheConstants.{SLOTS}

-- the fewest slots that a node has given out
abbrev pub fewest : List ℕ → ℕ
fewest [] = 0
fewest (count ∷ []) = count
fewest (count ∷ (next ∷ counts)) = min count (fewest (next ∷ counts))

-- the node with the fewest slots given out, among equals the one with the least number
abbrev pub next_node : List ℕ → ℕ
next_node counts = position_or_len (λ count. nat_eq count (fewest counts)) counts

-- its first slot that is not given out
abbrev pub next_slot : List ℕ → Addr
next_slot counts =
    record { node = record { 0 = next_node counts }; slot = slice_index counts (next_node counts) }

-- the counts when that slot is given out too
abbrev pub one_given : List ℕ → List ℕ
one_given counts = slice_set counts (next_node counts) (slice_index counts (next_node counts) + 1)

-- this many new slots, each by the counts that the ones before it leave
abbrev pub new_slots : ℕ → List ℕ → List Addr
new_slots zero counts = []
new_slots (suc need) counts = next_slot counts ∷ new_slots need (one_given counts)

-- the slots of all nodes together that are not given out
abbrev pub free_slots : List ℕ → ℕ
free_slots counts = sum_by (λ count. SLOTS - count) counts

-- why a plan is refused
abbrev pub RefusesPlan : List ℕ → ℕ → AllocError → Type 0
RefusesPlan counts need (Full n free) = (n ≡ need) × (free ≡ free_slots counts) × (free < need)
RefusesPlan counts need NoMemory = Unit {0}
