-- The spaces of a memory that records make have their full length.
use Rattle.std.proofs.Common.{◌≡◌, ◌<◌, ◌≤◌, ◌+◌, ◌++◌, ◌∙◌, ℕ, zero, suc, List, [], ◌∷◌, Bool, true, false, length, map, refl, ap, arith, length-append, if◌then◌else◌}
use Rattle.std.specs.List.{AllByRecursion, range_with_len}
use Rattle.std.proofs.lemmas.List.{length-map}
use Rattle.mn_base.specs.Ids.{node_numbers}
use Rattle.mn_base.specs.declared.ids.NodeNo.{NodeNo}
use Rattle.mn_base.specs.declared.ids.Tid.{Tid}
use Rattle.mn_mini.specs.declared.part.PartItem.{PartItem}
use Rattle.mn_mini.specs.declared.part.PartItem.TheVariants.{Compare, Read, Write}
use Rattle.mn_mini.specs.declared.record.Record.{Record}
use Rattle.mn_mini.specs.Flat.{space_after_part}
use Rattle.mn_mini.specs.Mini.{space_size}
use Rattle.mn_mini.specs.Node.{HeldPart, held_parts, space_of, with_held}
use Rattle.mn_mini.proofs.Bytes.{length-overwritten}
use Rattle.mn_mini.proofs.Fits.{length-space_of}
use Rattle.mn_page.specs.Base.{base_catalog, base_count, base_front, base_of, base_slots}
use Rattle.mn_page.specs.Space.{space_length}
use Rattle.mn_page.proofs.Spelled.{length-padded}
use Rattle.mn_runs.specs.Sound.{is_committed, opened_memory}
use Rattle.mn_runs.specs.Protocol.{Start, base_at, start_nodes, start_of, start_records}
use Rattle.mn_runs.proofs.Bases.{base_there}
use Rattle.mn_plans.proofs.Spaces.{front_length}

-- Base spaces

slots_fit : (node : ℕ) → length (base_slots node) ≤ 1024
slots_fit zero = omega arith
slots_fit (suc n) = omega arith

front_is : (nodes node : ℕ) → length (base_front nodes node) ≡ 20480
unfolding base_front
front_is nodes node = front_length nodes node (base_count node) base_catalog (omega arith)

fits : (front slots : List ℕ) → length front ≡ 20480 → length slots ≤ 1024 → length (front ++ slots) ≤ space_length
fits front slots is few = omega (arith, length-append front slots, is, few)

base_whole : (nodes node : ℕ) → length (base_of nodes node) ≡ space_length
unfolding base_of
base_whole nodes node = length-padded space_length (base_front nodes node ++ base_slots node) (fits (base_front nodes node) (base_slots node) (front_is nodes node) (slots_fit node))

-- Parts

length-part : (space : List ℕ) (part : List PartItem) → length (space_after_part space part) ≡ length space
length-part space [] = refl
length-part space (Compare start bytes ∷ part) = length-part space part
length-part space (Read start size ∷ part) = length-part space part
length-part space (Write start bytes ∷ part) = length-part _ part ∙ length-overwritten space start bytes

length-held : (is_so : Tid → Bool) (space : List ℕ) (held : List HeldPart) → length (with_held is_so space held) ≡ length space
length-held is_so space [] = refl
length-held is_so space (h ∷ hs) =
    elim (is_so h.tid) as (λ b. length (if b then space_after_part (with_held is_so space hs) h.part else with_held is_so space hs) ≡ length space) [
      | true ↦ length-part (with_held is_so space hs) h.part ∙ length-held is_so space hs
      | false ↦ length-held is_so space hs
    ]

-- The memory

all_numbers : {X : Type 0} (P : X → Type 0) (f : NodeNo → X) (a n : ℕ) → ((m : NodeNo) → m.0 < a + n → P (f m)) → AllByRecursion P (map f (map (λ k. record { 0 = k }) (range_with_len a n)))
all_numbers P f a zero each = tt
all_numbers P f a (suc n) each = (each (record { 0 = a }) (omega arith), all_numbers P f (a + 1) n (λ m low. each m (omega (arith, low))))

space_whole : (start : Start) (n : NodeNo) → n.0 < start_nodes start
    → length (with_held (is_committed (start_nodes start) (start_records start)) (space_of (base_at start n) (start_records start n)) (held_parts (start_records start n))) ≡ space_length
space_whole start n low =
    length-held (is_committed (start_nodes start) (start_records start)) (space_of (base_at start n) (start_records start n)) (held_parts (start_records start n))
    ∙ length-space_of (base_at start n) (start_records start n) ∙ ap (λ (l : List ℕ). length l) (base_there start n low) ∙ base_whole (start_nodes start) n.0

pub memory_whole : (records : List (List Record)) → AllByRecursion (λ space. length space ≡ space_size) (opened_memory (start_of records))
memory_whole records = all_numbers (λ space. length space ≡ space_size) _ 0 (length records) (λ m low. space_whole (start_of records) m (omega (arith, low)))

pub memory_count : (records : List (List Record)) → length (opened_memory (start_of records)) ≡ length records
memory_count records = length-map (node_numbers (length records)) _ ∙ (length-map (range_with_len 0 (length records)) _ ∙ counted 0 (length records))
  where
    counted : (a n : ℕ) → length (range_with_len a n) ≡ n
    counted a zero = refl
    counted a (suc n) = ap suc (counted (a + 1) n)
