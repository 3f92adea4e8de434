-- Minitransactions: their items, and the part of each node.
use Rattle.std.specs.Prelude.{ℕ, ◌+◌, ◌<◌, ◌≤◌, Bool, true, false, ◌&&◌, ◌||◌, List, [], ◌∷◌, ◌++◌}
use Rattle.std.specs.Prelude.{length, filter, if◌then◌else◌}
use Rattle.std.specs.List.{list_any, flat_map, AllByRecursion}
use Rattle.mn_base.specs.Ids.{node_same, node_numbers}
use Rattle.mn_base.specs.Ranges.{ranges_meet}
use Rattle.mn_base.specs.declared.ids.NodeNo.{NodeNo}
use Rattle.mn_base.specs.declared.ids.Range.{Range}
use Rattle.mn_mini.specs.declared.item.Item.{Item}
use Rattle.mn_mini.specs.declared.item.Item.TheVariants.{Compare, Read, Write}
use Rattle.mn_mini.specs.declared.part.PartItem.{PartItem}
use Rattle.mn_mini.specs.declared.part.PartItem.TheVariants as Bare

-- the items in the order given, and the number of nodes that they were made for
pub record Mini : Type 0 where
  pub nodes : ℕ
  pub items : List Item

abbrev pub item_node : Item → NodeNo
item_node (Compare node start bytes) = node
item_node (Read node start length) = node
item_node (Write node start bytes) = node

-- some item is at the node
abbrev pub is_named : List Item → NodeNo → Bool
is_named items node = list_any (λ item. node_same (item_node item) node) items

-- the nodes that some item is at, in order
abbrev pub participants_of : Mini → List NodeNo
participants_of mini = filter (is_named mini.items) (node_numbers mini.nodes)

-- exactly one item, which reads
abbrev pub is_read : List Item → Bool
is_read (Read node start length ∷ []) = true
is_read items = false

-- The part of a node: its compares, then its reads, then its writes, each in the order given

abbrev pub compare_at : NodeNo → Item → List PartItem
compare_at n (Compare node start bytes) =
    if node_same node n then Bare.Compare start bytes ∷ [] else []
compare_at n item = []

abbrev pub read_at : NodeNo → Item → List PartItem
read_at n (Read node start length) = if node_same node n then Bare.Read start length ∷ [] else []
read_at n item = []

abbrev pub write_at : NodeNo → Item → List PartItem
write_at n (Write node start bytes) = if node_same node n then Bare.Write start bytes ∷ [] else []
write_at n item = []

abbrev pub part_of : Mini → NodeNo → List PartItem
part_of mini n =
    flat_map (compare_at n) mini.items ++ flat_map (read_at n) mini.items
    ++ flat_map (write_at n) mini.items

-- Ranges and conflicts

abbrev pub range_of : PartItem → Range
range_of (Bare.Compare start bytes) = record { start = start; length = length bytes }
range_of (Bare.Read start length) = record { start = start; length = length }
range_of (Bare.Write start bytes) = record { start = start; length = length bytes }

abbrev pub is_write : PartItem → Bool
is_write (Bare.Write start bytes) = true
is_write item = false

-- one of the two writes where the other reads, compares or writes
abbrev pub items_conflict : PartItem → PartItem → Bool
items_conflict a b = ranges_meet (range_of a) (range_of b) && (is_write a || is_write b)

abbrev pub item_conflicts_with : PartItem → List PartItem → Bool
item_conflicts_with item part = list_any (items_conflict item) part

-- a write range of one overlaps a range of the other
abbrev pub parts_conflict : List PartItem → List PartItem → Bool
parts_conflict p q = list_any (λ item. item_conflicts_with item q) p

abbrev pub has_write : List PartItem → Bool
has_write part = list_any is_write part

-- Which minitransactions there may be

-- how many bytes the space of a node has
abbrev pub space_size : ℕ
space_size = 4214784

-- 1 to 4,096 bytes inside the space
abbrev pub IsInSpace : ℕ → ℕ → Type 0
IsInSpace start length = (1 ≤ length) × (length ≤ 4096) × (start + length ≤ space_size)

-- the node is one of so many, of which there are at most 8
abbrev pub IsNodeOf : ℕ → NodeNo → Type 0
IsNodeOf nodes node = (node.0 < nodes) × (node.0 < 8)

-- the item is at a range inside the space of one of so many nodes
abbrev pub IsSoundItem : ℕ → Item → Type 0
IsSoundItem nodes (Compare node start bytes) = IsNodeOf nodes node × IsInSpace start (length bytes)
IsSoundItem nodes (Read node start length) = IsNodeOf nodes node × IsInSpace start length
IsSoundItem nodes (Write node start bytes) = IsNodeOf nodes node × IsInSpace start (length bytes)

-- 1 to 1,024 such items
pub record IsSound (mini : Mini) : Type 0 where
  pub some : 1 ≤ length mini.items
  pub few : length mini.items ≤ 1024
  pub inside : AllByRecursion (IsSoundItem mini.nodes) mini.items
