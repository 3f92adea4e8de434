-- The order of places in a plan: pages stand before entries, and entries before counts; entries of
-- a lower node come first, and in one node those with a lower number; counts of a lower node come
-- first.
use Rattle.std.proofs.Common.{◌≡◌, ℕ, ◌<◌, Bool, true, false, ◌&&◌, ◌||◌, nat_eq, nat_lt, refl, ap, ◌∙◌}
use Rattle.mn_base.specs.declared.ids.NodeNo.{NodeNo}
use Rattle.mn_page.specs.Space.{count_start, entry_start, slot_start}
use Rattle.mn_law.specs.Planned.{place_rank, may_precede}
use Rattle.mn_plans.proofs.Compares.{page_rank, entry_rank}

by_ranks : (n m : NodeNo) (s t x y : ℕ) → place_rank s ≡ x → place_rank t ≡ y
    → may_precede n s m t ≡ (nat_lt x y || (nat_eq x y && (nat_eq x 0 || (nat_lt n.0 m.0 || (nat_eq n.0 m.0 && nat_lt s t)))))
by_ranks n m s t x y e f = both (place_rank s) (place_rank t) (nat_lt n.0 m.0 || (nat_eq n.0 m.0 && nat_lt s t)) e f
  where
    both : (p q : ℕ) (later : Bool) → p ≡ x → q ≡ y → (nat_lt p q || (nat_eq p q && (nat_eq p 0 || later))) ≡ (nat_lt x y || (nat_eq x y && (nat_eq x 0 || later)))
    both p q later e f = ap (λ k. nat_lt k q || (nat_eq k q && (nat_eq k 0 || later))) e ∙ ap (λ k. nat_lt x k || (nat_eq x k && (nat_eq x 0 || later))) f

-- Kinds

pub pages_as_laid : (n m : NodeNo) (a b : ℕ) → may_precede n (slot_start a) m (slot_start b) ≡ true
pages_as_laid n m a b = by_ranks n m (slot_start a) (slot_start b) 0 0 (page_rank a) (page_rank b)

pub page_before_entry : (n m : NodeNo) (a v : ℕ) → v < 64 → (may_precede n (slot_start a) m (entry_start v) ≡ true) × (may_precede m (entry_start v) n (slot_start a) ≡ false)
page_before_entry n m a v few = (by_ranks n m (slot_start a) (entry_start v) 0 1 (page_rank a) (entry_rank v few), by_ranks m n (entry_start v) (slot_start a) 1 0 (entry_rank v few) (page_rank a))

pub page_before_count : (n m : NodeNo) (a : ℕ) → (may_precede n (slot_start a) m count_start ≡ true) × (may_precede m count_start n (slot_start a) ≡ false)
page_before_count n m a = (by_ranks n m (slot_start a) count_start 0 2 (page_rank a) refl, by_ranks m n count_start (slot_start a) 2 0 refl (page_rank a))

pub entry_before_count : (n m : NodeNo) (v : ℕ) → v < 64 → (may_precede n (entry_start v) m count_start ≡ true) × (may_precede m count_start n (entry_start v) ≡ false)
entry_before_count n m v few = (by_ranks n m (entry_start v) count_start 1 2 (entry_rank v few) refl, by_ranks m n count_start (entry_start v) 2 1 refl (entry_rank v few))

-- Among entries, and among counts

pub entries_by_node : (n m : NodeNo) (v w : ℕ) → v < 64 → w < 64 → may_precede n (entry_start v) m (entry_start w) ≡ (nat_lt n.0 m.0 || (nat_eq n.0 m.0 && nat_lt (entry_start v) (entry_start w)))
entries_by_node n m v w few many = by_ranks n m (entry_start v) (entry_start w) 1 1 (entry_rank v few) (entry_rank w many)

pub counts_by_node : (n m : NodeNo) → may_precede n count_start m count_start ≡ nat_lt n.0 m.0
counts_by_node n m = by_ranks n m count_start count_start 2 2 refl refl ∙ alone (nat_lt n.0 m.0) (nat_eq n.0 m.0)
  where
    alone : (a b : Bool) → (a || (b && false)) ≡ a
    alone true b = refl
    alone false true = refl
    alone false false = refl
