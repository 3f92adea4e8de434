-- The plan of a transaction, and when there is none.
use Rattle.std.specs.Prelude.{◌≡◌, ℕ, ◌+◌, ◌-◌, ◌^◌, Bool, true, false, ◌&&◌, not, nat_eq, nat_le}
use Rattle.std.specs.Prelude.{nat_lt, List, [], ◌∷◌, ◌++◌, length, take, map, Option, Some, None}
use Rattle.std.specs.Prelude.{if◌then◌else◌}
use Rattle.byteorder.specs.Endian.{big_number}
use Rattle.mn_base.specs.declared.ids.NodeNo.{NodeNo}
use Rattle.mn_mini.specs.declared.item.Item.{Item}
use Rattle.mn_mini.specs.declared.item.Item.TheVariants.{Compare, Write}
use Rattle.mn_mini.specs.Mini.{Mini, space_size}
use Rattle.mn_page.specs.Space.{count_start}
use Rattle.mn_law.specs.Places.{number_size}
use Rattle.mn_txn.specs.declared.error.PlanError.{PlanError}
use Rattle.mn_txn.specs.declared.error.PlanError.TheVariants.{Worn, NoMemory}
use Rattle.mn_txn.specs.declared.image.Image.{Image}
use Rattle.mn_txn.specs.State.{State, bytes_at}
use Rattle.mn_txn.specs.Order.{in_item_order}

-- the items of an image: its first 8 bytes are compared, which are the number of a page or an
-- entry, and the whole of a count
abbrev pub compare_of : Image → Item
compare_of i = Compare i.node i.start (take number_size i.bytes)

abbrev pub write_of : Image → Item
write_of i = Write i.node i.start i.bytes

-- the compares of the read set, and then the writes, each in the order of items
abbrev pub plan_of : State → Mini
plan_of t =
    record {
      nodes = t.nodes;
      items = map compare_of (in_item_order t.reads)
          ++ map write_of (in_item_order t.writes);
    }

-- it may be an item's, over so many nodes: 1 to 4,096 bytes inside the space of one of them
abbrev pub is_inside : ℕ → Image → Bool
is_inside nodes i =
    nat_lt i.node.0 nodes && (nat_lt i.node.0 8
    && (nat_le 1 (length i.bytes)
    && (nat_le (length i.bytes) 4096 && nat_le (i.start + length i.bytes) space_size)))

-- all may be items
abbrev pub are_inside : ℕ → List Image → Bool
are_inside nodes [] = true
are_inside nodes (i ∷ is) = is_inside nodes i && are_inside nodes is

-- it gives 1 to 1,024 items, each inside the space
abbrev pub can_plan : State → Bool
can_plan t =
    nat_le 1 (length t.reads + length t.writes)
    && (nat_le (length t.reads + length t.writes) 1024
    && (are_inside t.nodes t.reads && are_inside t.nodes t.writes))

-- bytes that begin with the last sequence number
abbrev pub is_last : List ℕ → Bool
is_last bytes = nat_le 8 (length bytes) && nat_eq (big_number 8 bytes) (2 ^ 64 - 1)

-- the bytes that were read do so; where none were, as otherwise
abbrev pub is_last_read : Option (List ℕ) → Bool → Bool
is_last_read None otherwise = otherwise
is_last_read (Some bytes) otherwise = is_last bytes

-- a page or an entry that was read with the last number: in the read set, or else dirty
abbrev pub is_worn : State → Image → Bool
is_worn t i =
    not (nat_eq i.start count_start)
    && is_last_read (bytes_at i.node i.start t.reads)
    (is_last_read (bytes_at i.node i.start t.dirty) false)

-- where the first of these stands that was read so
abbrev pub first_worn : State → List Image → Option (NodeNo × ℕ)
first_worn t [] = None
first_worn t (i ∷ is) = if is_worn t i then Some (i.node, i.start) else first_worn t is

-- why there is no plan
abbrev pub RefusesPlan : State → PlanError → Type 0
RefusesPlan t (Worn node start) = first_worn t (in_item_order t.writes) ≡ Some (node, start)
RefusesPlan t NoMemory = Unit {0}

-- Inside a transaction

-- one that has read no more than this
abbrev pub only_read : List Image → List Image → State
only_read dirty reads = record { nodes = 0; dirty = dirty; reads = reads; writes = [] }
