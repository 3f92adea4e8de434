-- The laws of plans: that a minitransaction made from what a try read is planned.
use Rattle.std.specs.Prelude.{ℕ, ◌≡◌, ◌+◌, ◌^◌, ◌<◌, ◌≤◌, false, IsTrue, List, [], ◌∷◌, ◌++◌}
use Rattle.std.specs.Prelude.{length, Some, None}
use Rattle.mn_base.specs.Store.{Head, number_named, pairs_with, max_versions}
use Rattle.mn_base.specs.declared.ids.Addr.{Addr}
use Rattle.mn_base.specs.declared.reply.Pair.{Pair}
use Rattle.mn_base.specs.declared.op.Step.TheVariants.{Put}
use Rattle.mn_base.specs.declared.op.Op.TheVariants.{Tx}
use Rattle.mn_base.specs.declared.reply.Reply.TheVariants.{Values}
use Rattle.mn_mini.specs.declared.item.Item.{Item}
use Rattle.mn_mini.specs.declared.item.Item.TheVariants.{Compare, Write}
use Rattle.mn_mini.specs.Mini.{Mini}
use Rattle.mn_page.specs.declared.page.Page.{Page}
use Rattle.byteorder.specs.Endian.{big_bytes}
use Rattle.mn_base.specs.declared.ids.NodeNo.{NodeNo}
use Rattle.mn_page.specs.declared.page.Body.TheVariants.{Leaf, Inner}
use Rattle.mn_page.specs.declared.entry.CatEntry.{CatEntry}
use Rattle.mn_page.specs.Space.{count_start, count_size, entry_start, slot_start, max_slots}
use Rattle.mn_page.specs.Grammar.{page_bytes, entry_bytes, IsPage, IsEntry, IsKey, IsValue}
use Rattle.mn_page.specs.Holds.{page_covers}
use Rattle.mn_runs.specs.declared.entry.Entry.{Entry}
use Rattle.mn_law.specs.Places.{page_place, entry_place, number_size}
use Rattle.mn_law.specs.Shown.{ShowsLast}
use Rattle.mn_law.specs.Planned.{IsPlanned, lesser}

-- Items

-- a page and an entry are compared by their number
abbrev pub compare_page : Addr → Page → Item
compare_page addr p = Compare addr.node (slot_start addr.slot) (big_bytes number_size p.seq)

abbrev pub compare_entry : NodeNo → ℕ → CatEntry → Item
compare_entry n v e = Compare n (entry_start v) (big_bytes number_size e.seq)

-- which the list has shown last with this number
abbrev pub ShowsPage : List Entry → Addr → Page → Type 0
ShowsPage es addr p = ShowsLast es (page_place addr) (big_bytes number_size p.seq) (page_bytes p)

abbrev pub ShowsEntry : List Entry → NodeNo → ℕ → CatEntry → Type 0
ShowsEntry es n v e = ShowsLast es (entry_place n v) (big_bytes number_size e.seq) (entry_bytes e)

abbrev pub write_page : Addr → Page → Item
write_page addr p = Write addr.node (slot_start addr.slot) (page_bytes p)

-- A Put in place

-- the leaf with these pairs, and the next number
abbrev pub next_leaf : Page → List Pair → Page
next_leaf p pairs =
    record {
      seq = p.seq + 1;
      made = p.made;
      copied = p.copied;
      low = p.low;
      high = p.high;
      body = Leaf pairs;
    }

-- the leaf of the key as it was read, made in the version, with room
pub record IsLeafWithRoom (kept : List Head) (nodes : ℕ) (name key value : List ℕ) (v : ℕ)
    (e : CatEntry) (addr : Addr) (p : Page) (pairs : List Pair) : Type 0 where
  pub named : number_named kept name ≡ Some v
  pub few : v < max_versions
  pub entry : IsEntry e
  pub writable : e.frozen ≡ false
  pub node : addr.node.0 < nodes
  pub page : IsPage p
  pub leaf : p.body ≡ Leaf pairs
  pub made : p.made.0 ≡ v
  pub covers : IsTrue (page_covers key p)
  pub is_key : IsKey key
  pub is_value : IsValue value
  pub room : length (pairs_with pairs key value) ≤ 8
  pub number : p.seq + 1 < 2 ^ 64

abbrev pub put_in_place : ℕ → List ℕ → List ℕ → ℕ → CatEntry → Addr → Page → List Pair → Mini
put_in_place nodes key value v e addr p pairs =
    record {
      nodes = nodes;
      items = compare_page addr p ∷ compare_entry addr.node v e
          ∷ write_page addr (next_leaf p (pairs_with pairs key value)) ∷ [];
    }

abbrev pub PutIsPlanned : Type 0
PutIsPlanned =
    (kept : List Head) (nodes : ℕ) (name key value : List ℕ) (v : ℕ) (e : CatEntry) (addr : Addr)
    (p : Page) (pairs : List Pair) → IsLeafWithRoom kept nodes name key value v e addr p pairs
    → (es : List Entry) → ShowsPage es addr p → ShowsEntry es addr.node v e
    → IsPlanned es kept (Tx name (Put key value ∷ []))
    (put_in_place nodes key value v e addr p pairs) (Values [])

-- A Put that splits a root leaf, with both new slots on one node

abbrev pub compare_count : NodeNo → ℕ → Item
compare_count n count = Compare n count_start (big_bytes count_size count)

abbrev pub write_count : NodeNo → ℕ → Item
write_count n count = Write n count_start (big_bytes count_size count)

abbrev pub slot_at : NodeNo → ℕ → Addr
slot_at n slot = record { node = n; slot = slot }

abbrev pub left_half : Page → List Pair → List ℕ → Page
left_half p lows sep =
    record { seq = 1; made = p.made; copied = 0; low = []; high = Some sep; body = Leaf lows }

abbrev pub right_half : Page → List Pair → List ℕ → Page
right_half p highs sep =
    record { seq = 1; made = p.made; copied = 0; low = sep; high = None; body = Leaf highs }

abbrev pub parent_of_halves : Page → List ℕ → Addr → Addr → Page
parent_of_halves p sep left right =
    record {
      seq = p.seq + 1;
      made = p.made;
      copied = p.copied;
      low = [];
      high = None;
      body = Inner 1 left (record { separator = sep; addr = right } ∷ []);
    }

-- the root of the version, a leaf, as it was read, with a node's count; and the leaf's new pairs in
-- two parts
pub record HasSplit (kept : List Head) (nodes : ℕ) (name key value : List ℕ) (v : ℕ) (e : CatEntry)
    (p : Page) (pairs : List Pair) (n : NodeNo) (count : ℕ) (lows : List Pair) (first : Pair)
    (more : List Pair) : Type 0 where
  pub named : number_named kept name ≡ Some v
  pub few : v < max_versions
  pub entry : IsEntry e
  pub writable : e.frozen ≡ false
  pub node : e.root.node.0 < nodes
  pub page : IsPage p
  pub leaf : p.body ≡ Leaf pairs
  pub is_key : IsKey key
  pub is_value : IsValue value
  pub number : p.seq + 1 < 2 ^ 64
  pub parts : pairs_with pairs key value ≡ lows ++ first ∷ more
  pub few_lows : length lows ≤ 8
  pub few_highs : length (first ∷ more) ≤ 8
  pub free_node : n.0 < nodes
  pub room : count + 2 ≤ max_slots

abbrev pub lesser_node : NodeNo → NodeNo → NodeNo
lesser_node n m = record { 0 = lesser n.0 (Some m.0) }

abbrev pub split_items : ℕ → CatEntry → Page → NodeNo → ℕ → List Pair → Pair → List Pair → List Item
split_items v e p n count lows first more =
    compare_page e.root p ∷ compare_entry (lesser_node e.root.node n) v e ∷ compare_count n count
    ∷ write_page e.root (parent_of_halves p first.key (slot_at n count) (slot_at n (count + 1)))
    ∷ write_page (slot_at n count) (left_half p lows first.key)
    ∷ write_page (slot_at n (count + 1)) (right_half p (first ∷ more) first.key)
    ∷ write_count n (count + 2) ∷ []

abbrev pub SplitIsPlanned : Type 0
SplitIsPlanned =
    (kept : List Head) (nodes : ℕ) (name key value : List ℕ) (v : ℕ) (e : CatEntry) (p : Page)
    (pairs : List Pair) (n : NodeNo) (count : ℕ) (lows : List Pair) (first : Pair)
    (more : List Pair)
    → HasSplit kept nodes name key value v e p pairs n count lows first more
    → (es : List Entry) → ShowsPage es e.root p → ShowsEntry es (lesser_node e.root.node n) v e
    → IsPlanned es kept (Tx name (Put key value ∷ []))
    (record { nodes = nodes; items = split_items v e p n count lows first more }) (Values [])
