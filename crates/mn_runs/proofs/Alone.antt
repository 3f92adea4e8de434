-- Minitransactions of several nodes have no read items; a part's items.
use Rattle.std.proofs.Common.{◌≡◌, ℕ, zero, suc, ◌+◌, ◌<◌, ◌≤◌, true, false, ◌||◌, List, [], ◌∷◌, length, refl, ap, arith, map}
use Rattle.std.specs.Prelude.{filter, cond}
use Rattle.std.specs.List.{range_with_len}
use Rattle.mn_base.specs.Ids.{node_same}
use Rattle.mn_base.specs.declared.ids.NodeNo.{NodeNo}
use Rattle.mn_mini.specs.declared.item.Item.{Item}
use Rattle.mn_mini.specs.declared.item.Item.TheVariants.{Compare, Read, Write}
use Rattle.mn_mini.specs.Mini.{participants_of, is_read, item_node, IsSoundItem}
use Rattle.mn_mini.proofs.Parts.{same_true}

-- One item names one node

abbrev numbers : ℕ → ℕ → List NodeNo
numbers from count = map (λ k. let r : NodeNo = record { 0 = k } in r) (range_with_len from count)

none_above : (node : NodeNo) (from count : ℕ) → node.0 < from → filter (λ n. node_same node n || false) (numbers from count) ≡ []
none_above node from zero low = refl
none_above node from (suc count) low =
    elim (node_same node (record { 0 = from })) as (λ b. node_same node (record { 0 = from }) ≡ b → cond (b || false) (record { 0 = from } ∷ filter (λ n. node_same node n || false) (numbers (from + 1) count)) (filter (λ n. node_same node n || false) (numbers (from + 1) count)) ≡ []) [
      | true ↦ λ same. let eq : node.0 ≡ from = ap (λ (n : NodeNo). n.0) (same_true node (record { 0 = from }) same) in absurd (omega (arith, eq, low))
      | false ↦ λ _. none_above node (from + 1) count (omega (arith, low))
    ] refl

one_at_most : (node : NodeNo) (from count : ℕ) → length (filter (λ n. node_same node n || false) (numbers from count)) ≤ 1
one_at_most node from zero = omega arith
one_at_most node from (suc count) =
    elim (node_same node (record { 0 = from })) as (λ b. node_same node (record { 0 = from }) ≡ b → length (cond (b || false) (record { 0 = from } ∷ filter (λ n. node_same node n || false) (numbers (from + 1) count)) (filter (λ n. node_same node n || false) (numbers (from + 1) count))) ≤ 1) [
      | true ↦ λ same.
          let eq : node.0 ≡ from = ap (λ (n : NodeNo). n.0) (same_true node (record { 0 = from }) same) in
          let none = none_above node (from + 1) count (omega (arith, eq)) in
          let empty : length (filter (λ n. node_same node n || false) (numbers (from + 1) count)) ≡ 0 = ap (λ (ns : List NodeNo). length ns) none in
          omega (arith, empty)
      | false ↦ λ _. one_at_most node (from + 1) count
    ] refl

-- a read has at most one participant
pub read_alone : (nodes : ℕ) (items : List Item) → is_read items ≡ true → length (participants_of (record { nodes = nodes; items = items })) ≤ 1
read_alone nodes [] e = absurd cc
read_alone nodes (Read node start k ∷ []) e = one_at_most node 0 nodes
read_alone nodes (Read node start k ∷ (i ∷ is)) e = absurd cc
read_alone nodes (Compare node start bytes ∷ is) e = absurd cc
read_alone nodes (Write node start bytes ∷ is) e = absurd cc

-- Minitransactions of the run

pub item_below : (nodes : ℕ) (item : Item) → IsSoundItem nodes item → (item_node item).0 < nodes
item_below nodes (Compare node start bytes) s = (s.0).0
item_below nodes (Read node start n) s = (s.0).0
item_below nodes (Write node start bytes) s = (s.0).0
