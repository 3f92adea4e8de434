-- Writes of pages, entries and counts: when they leave the memory of a forest that has grown. What
-- met compares tell of a forest, and which numbers the writes have.
use Rattle.std.specs.Prelude.{ℕ, zero, suc, ◌≡◌, ◌+◌, ◌^◌, ◌<◌, ◌≤◌, not, nat_eq, List, [], ◌∷◌}
use Rattle.std.specs.Prelude.{◌++◌, length, map, filter, replicate, Some, None, ⊤, if◌then◌else◌}
use Rattle.std.specs.Prelude.{Contains, slice_get, slice_set, slice_index_or}
use Rattle.std.specs.List.{AllByRecursion, flat_map, range_with_len}
use Rattle.std.specs.Option.{option_or}
use Rattle.mn_base.specs.Store.{Store, max_versions}
use Rattle.mn_base.specs.declared.ids.Addr.{Addr}
use Rattle.mn_base.specs.declared.ids.NodeNo.{NodeNo}
use Rattle.mn_mini.specs.declared.item.Item.{Item}
use Rattle.mn_mini.specs.declared.item.Item.TheVariants.{Compare, Write}
use Rattle.mn_mini.specs.Flat.{memory_after}
use Rattle.mn_page.specs.declared.page.Page.{Page}
use Rattle.mn_page.specs.declared.entry.CatEntry.{CatEntry}
use Rattle.mn_page.specs.Space.{max_slots, entry_size, entry_start}
use Rattle.mn_page.specs.Grammar.{IsPage, IsEntry, entry_bytes}
use Rattle.mn_page.specs.Forest.{Forest, node_count, page_at}
use Rattle.mn_page.specs.Holds.{PagesAt, Holds, IsTree, ShowsStore}
use Rattle.mn_page.specs.Overlay.{Held, held_at}
use Rattle.mn_runs.specs.declared.entry.Entry.{Entry}
use Rattle.mn_law.specs.Planned.{HasNextNumber, ComparesHold}
use Rattle.mn_law.specs.Places.{catalog_node, entry_place, number_size}
use Rattle.mn_law.specs.Shown.{ShowsLast}
use Rattle.mn_plans.specs.Plans.{compare_page, compare_entry, write_page, compare_count}
use Rattle.mn_plans.specs.Plans.{write_count, ShowsPage, ShowsEntry}

-- Slots

-- how many of the slots are on the node
abbrev pub taken_on : List Addr → ℕ → ℕ
taken_on [] n = 0
taken_on (s ∷ slots) n = if nat_eq s.node.0 n then taken_on slots n + 1 else taken_on slots n

-- each slot is the first free one of its node, once those before it are given out
abbrev pub AreNextSlots : List ℕ → List Addr → Type 0
AreNextSlots counts [] = ⊤
AreNextSlots counts (s ∷ slots) =
    (s.node.0 < length counts) × (slice_index_or counts s.node.0 0 ≡ s.slot) × (s.slot < max_slots)
    × AreNextSlots (slice_set counts s.node.0 (s.slot + 1)) slots

-- the nodes that give slots, by number
abbrev pub giving_nodes : List ℕ → List Addr → List ℕ
giving_nodes counts slots =
    filter (λ n. not (nat_eq (taken_on slots n) 0)) (range_with_len 0 (length counts))

abbrev pub node_no : ℕ → NodeNo
node_no n = record { 0 = n }

-- their counts, as they were and as they are then
abbrev pub count_compares : List ℕ → List Addr → List Item
count_compares counts slots =
    map (λ n. compare_count (node_no n) (slice_index_or counts n 0)) (giving_nodes counts slots)

abbrev pub count_writes : List ℕ → List Addr → List Item
count_writes counts slots =
    map (λ n. write_count (node_no n) (slice_index_or counts n 0 + taken_on slots n))
    (giving_nodes counts slots)

-- the count of a node of the forest
abbrev pub count_in : Forest → ℕ → ℕ
count_in f n = length (slice_index_or f.pages n [])

-- the nodes that give slots have these counts
abbrev pub AreCounts : Forest → List ℕ → List Addr → Type 0
AreCounts f counts slots =
    (length counts ≡ node_count f)
    × ((n : ℕ) → (taken_on slots n ≡ 0 → ⊥) → slice_index_or counts n 0 ≡ count_in f n)

-- the addresses of pages
abbrev pub addrs_of : List Held → List Addr
addrs_of pages = map (λ h. h.addr) pages

-- no address comes twice
abbrev pub AreDifferent : List Addr → Type 0
AreDifferent [] = ⊤
AreDifferent (a ∷ addrs) = AllByRecursion (λ b. b ≡ a → ⊥) addrs × AreDifferent addrs

-- next slots are slots of the forest's nodes, free, and different
abbrev pub NextSlotsAreFree : Type 0
NextSlotsAreFree =
    (memory : List (List ℕ)) (store : Store) (holds : Holds memory store) (counts : List ℕ)
    (slots : List Addr) → AreCounts holds.forest counts slots → AreNextSlots counts slots
    → AllByRecursion (λ s. (page_at holds.forest s ≡ None) × (s.node.0 < node_count holds.forest)
    × (s.node.0 < 8) × (s.slot < max_slots)) slots × AreDifferent slots

-- Writes

-- pages, over those of a memory
abbrev pub over : List Held → PagesAt → PagesAt
over pages at addr = option_or (held_at pages addr) (at addr)

abbrev pub write_held : Held → Item
write_held h = write_page h.addr h.page

-- pages of the memory that are written again, each once, new ones in next slots, and the counts: if
-- the pages over those of the memory are a tree that shows a store, the memory holds it then
abbrev pub WritesLeaveStore : Type 0
WritesLeaveStore =
    (memory : List (List ℕ)) (store after : Store) (holds : Holds memory store)
    (changed new : List Held) (counts : List ℕ)
    → AllByRecursion (λ h. (was : Page) × (page_at holds.forest h.addr ≡ Some was)) changed
    → AreDifferent (addrs_of changed) → AllByRecursion (λ h. IsPage h.page) (changed ++ new)
    → AreCounts holds.forest counts (addrs_of new) → AreNextSlots counts (addrs_of new)
    → IsTree holds.forest.entries (over (changed ++ new) (page_at holds.forest))
    → ShowsStore holds.forest.entries (over (changed ++ new) (page_at holds.forest)) after
    → Holds (memory_after memory (map write_held changed ++ map write_held new
    ++ count_writes counts (addrs_of new))) after

-- Entries

-- an entry with the number of its version
abbrev pub Numbered : Type 0
Numbered = ℕ × CatEntry

abbrev pub write_entry : NodeNo → ℕ → CatEntry → Item
write_entry n v e = Write n (entry_start v) (entry_bytes e)

-- the entries on each of so many nodes, by node and then in their order
abbrev pub write_entries : ℕ → List Numbered → List Item
write_entries nodes entries =
    flat_map (λ n. map (λ w. write_entry (node_no n) w.0 w.1) entries) (range_with_len 0 nodes)

-- the entries with this one in its place, or behind them
abbrev pub entries_with : List CatEntry → ℕ → CatEntry → List CatEntry
entries_with [] v e = e ∷ []
entries_with (d ∷ entries) zero e = e ∷ entries
entries_with (d ∷ entries) (suc v) e = d ∷ entries_with entries v e

-- with these, one after another
abbrev pub entries_after : List CatEntry → List Numbered → List CatEntry
entries_after entries [] = entries
entries_after entries (w ∷ ws) = entries_after (entries_with entries w.0 w.1) ws

-- each is of a version that is there then, or of the next one, for which there is room
abbrev pub AreNextEntries : List CatEntry → List Numbered → Type 0
AreNextEntries entries [] = ⊤
AreNextEntries entries (w ∷ ws) =
    (w.0 ≤ length entries) × (w.0 < max_versions) × IsEntry w.1
    × AreNextEntries (entries_with entries w.0 w.1) ws

-- the same where entries are written on each node between the pages and the counts: if the pages
-- and the entries are a tree then that shows a store, the memory holds it
abbrev pub WritesLeaveVersions : Type 0
WritesLeaveVersions =
    (memory : List (List ℕ)) (store after : Store) (holds : Holds memory store)
    (changed new : List Held) (entries : List Numbered) (counts : List ℕ)
    → AllByRecursion (λ h. (was : Page) × (page_at holds.forest h.addr ≡ Some was)) changed
    → AreDifferent (addrs_of changed) → AllByRecursion (λ h. IsPage h.page) (changed ++ new)
    → AreCounts holds.forest counts (addrs_of new) → AreNextSlots counts (addrs_of new)
    → AreNextEntries holds.forest.entries entries
    → IsTree (entries_after holds.forest.entries entries)
    (over (changed ++ new) (page_at holds.forest))
    → ShowsStore (entries_after holds.forest.entries entries)
    (over (changed ++ new) (page_at holds.forest)) after
    → Holds
    (memory_after memory
    (map write_held changed ++ map write_held new
    ++ write_entries (node_count holds.forest) entries
    ++ count_writes counts (addrs_of new))) after

-- Compares

-- the place of a version that isn't there, and that the list has shown so
abbrev pub compare_unused : ℕ → Item
compare_unused v = Compare catalog_node (entry_start v) (replicate number_size 0)

abbrev pub ShowsUnused : List Entry → ℕ → Type 0
ShowsUnused es v =
    ShowsLast es (entry_place catalog_node v) (replicate number_size 0) (replicate entry_size 0)

-- where a plan's compares hold for a client with this list, the forest has just what the list has
-- shown last with the numbers that they name
pub record AreMet (es : List Entry) (f : Forest) (items : List Item) : Type 0 where
  pub pages : (addr : Addr) (p : Page) → Contains items (compare_page addr p) → ShowsPage es addr p
      → addr.node.0 < node_count f → IsPage p → page_at f addr ≡ Some p
  pub entries : (n : NodeNo) (v : ℕ) (e : CatEntry) → Contains items (compare_entry n v e)
      → ShowsEntry es n v e → n.0 < node_count f → v < max_versions → IsEntry e
      → slice_get f.entries v ≡ Some e
  pub unused : (v : ℕ) → Contains items (compare_unused v) → ShowsUnused es v → v < max_versions
      → length f.entries ≤ v
  pub counts : (n : NodeNo) (count : ℕ) → Contains items (compare_count n count)
      → n.0 < node_count f → count < 2 ^ 64 → count ≡ count_in f n.0

abbrev pub ComparesTell : Type 0
ComparesTell =
    (es : List Entry) (memory : List (List ℕ)) (store : Store) (holds : Holds memory store)
    (items : List Item) → ComparesHold es memory items → AreMet es holds.forest items

-- Numbers

-- a page or an entry with the next number, a new one with the first, and any count
pub record GoOn (f : Forest) (memory : List (List ℕ)) : Type 0 where
  pub changed : (addr : Addr) (was now : Page) → page_at f addr ≡ Some was → IsPage now
      → now.seq ≡ was.seq + 1 → HasNextNumber memory (write_page addr now)
  pub new : (addr : Addr) (now : Page) → page_at f addr ≡ None → addr.node.0 < node_count f
      → addr.slot < max_slots → IsPage now → now.seq ≡ 1
      → HasNextNumber memory (write_page addr now)
  pub entries : (n : NodeNo) (v : ℕ) (was now : CatEntry) → n.0 < node_count f
      → slice_get f.entries v ≡ Some was → IsEntry now → now.seq ≡ was.seq + 1
      → HasNextNumber memory (write_entry n v now)
  pub next : (n : NodeNo) (now : CatEntry) → n.0 < node_count f
      → length f.entries < max_versions → IsEntry now → now.seq ≡ 1
      → HasNextNumber memory (write_entry n (length f.entries) now)
  pub counts : (n : NodeNo) (count : ℕ) → HasNextNumber memory (write_count n count)

abbrev pub NumbersGoOn : Type 0
NumbersGoOn =
    (memory : List (List ℕ)) (store : Store) (holds : Holds memory store) → GoOn holds.forest memory
