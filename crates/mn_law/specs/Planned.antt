-- When a minitransaction is a plan of an operation.
use Rattle.std.specs.Prelude.{ℕ, ◌≡◌, ◌+◌, ◌^◌, ◌<◌, ◌↔◌, ◌⊎◌, Bool, true, false, ◌&&◌, ◌||◌}
use Rattle.std.specs.Prelude.{nat_lt, nat_eq, IsTrue, List, [], ◌∷◌, ◌++◌, length, map, take, Some}
use Rattle.std.specs.Prelude.{None, Option, ⊤, if◌then◌else◌, Contains, slice_get, unwrap_or}
use Rattle.std.specs.List.{list_any, flat_map, AllByRecursion}
use Rattle.byteorder.specs.Endian.{big_bytes}
use Rattle.mn_base.specs.Store.{Head, Store, heads_of, number_named, pairs_named, is_change}
use Rattle.mn_base.specs.Store.{step_key, steps_run, op_version, applied}
use Rattle.mn_base.specs.declared.ids.NodeNo.{NodeNo}
use Rattle.mn_base.specs.declared.ids.Addr.{Addr}
use Rattle.mn_base.specs.declared.op.Step.{Step}
use Rattle.mn_base.specs.declared.op.Op.{Op}
use Rattle.mn_base.specs.declared.op.Op.TheVariants.{Tx, Snapshot, Branch, Scan, Versions}
use Rattle.mn_base.specs.declared.reply.Reply.{Reply}
use Rattle.mn_mini.specs.declared.item.Item.{Item}
use Rattle.mn_mini.specs.declared.item.Item.TheVariants.{Compare, Read, Write}
use Rattle.mn_mini.specs.Mini.{Mini, space_size, item_node}
use Rattle.mn_mini.specs.Flat.{bytes_in, space_in, mismatch_from, memory_after}
use Rattle.mn_page.specs.declared.page.Page.{Page}
use Rattle.mn_page.specs.declared.entry.CatEntry.{CatEntry}
use Rattle.mn_page.specs.Space.{count_start, slots_start, slot_start}
use Rattle.mn_page.specs.Grammar.{height_of, page_bytes, IsPage}
use Rattle.mn_page.specs.Forest.{Forest, page_at}
use Rattle.mn_page.specs.Holds.{Holds, page_covers, page_serves}
use Rattle.mn_page.specs.Overlay.{Held}
use Rattle.mn_page.specs.SlotOrder.{AreInSlotOrder}
use Rattle.mn_runs.specs.declared.entry.Entry.{Entry}
use Rattle.mn_runs.specs.Seen.{Place}
use Rattle.mn_law.specs.Places.{page_place, entry_place, count_place, catalog_node, IsPagePlace}
use Rattle.mn_law.specs.Places.{IsEntryPlace, IsCountPlace, IsNumbered, front_place, content_in}
use Rattle.mn_law.specs.Shown.{ShowsLast, ShowsNumber}

-- Places of items

abbrev pub compare_place : Item → List Place
compare_place (Compare node start bytes) =
    record { node = node; start = start; length = length bytes } ∷ []
compare_place (Read node start length) = []
compare_place (Write node start bytes) = []

abbrev pub write_place : Item → List Place
write_place (Compare node start bytes) = []
write_place (Read node start length) = []
write_place (Write node start bytes) =
    record { node = node; start = start; length = length bytes } ∷ []

abbrev pub compare_places : Mini → List Place
compare_places mini = flat_map compare_place mini.items

abbrev pub write_places : Mini → List Place
write_places mini = flat_map write_place mini.items

-- pages stand before entries, and entries before counts
abbrev pub place_rank : ℕ → ℕ
place_rank start =
    if nat_eq start count_start then 2 else (if nat_lt start slots_start then 1 else 0)

abbrev pub item_start : Item → ℕ
item_start (Compare node start bytes) = start
item_start (Read node start length) = start
item_start (Write node start bytes) = start

-- the nodes that items at pages and counts name
abbrev pub nodes_beside : List Item → List ℕ
nodes_beside [] = []
nodes_beside (i ∷ is) =
    if nat_eq (place_rank (item_start i)) 1 then nodes_beside is
    else (item_node i).0 ∷ nodes_beside is

abbrev pub lesser : ℕ → Option ℕ → ℕ
lesser n None = n
lesser n (Some m) = if nat_lt m n then m else n

-- the least of these numbers
abbrev pub least_of : List ℕ → Option ℕ
least_of [] = None
least_of (n ∷ ns) = Some (lesser n (least_of ns))

-- Which places a plan compares

-- a leaf that serves the version and covers the key of one of these steps
abbrev pub IsLeafOf : Forest → ℕ → List Step → Place → Type 0
IsLeafOf f v steps place =
    (addr : Addr) × (page : Page) × (place ≡ page_place addr) × (page_at f addr ≡ Some page)
    × (height_of page.body ≡ 0)
    × IsTrue (page_serves f.entries v page)
    × IsTrue (list_any (λ step. page_covers (step_key step) page) steps)

-- a page that is there and is written
abbrev pub IsOldPage : Forest → Mini → Place → Type 0
IsOldPage f mini place =
    (addr : Addr) × (page : Page) × (place ≡ page_place addr) × (page_at f addr ≡ Some page)
    × Contains (write_places mini) place

-- a count that is written
abbrev pub IsWrittenCount : Mini → Place → Type 0
IsWrittenCount mini place = IsCountPlace place × Contains (write_places mini) place

-- the node on which a transaction compares its version's entry: the least one that another item
-- names; without another item node 0
abbrev pub entry_node : List Item → NodeNo
entry_node items = record { 0 = unwrap_or (least_of (nodes_beside items)) 0 }

-- the root page of a version
abbrev pub IsRootOf : Forest → ℕ → Place → Type 0
IsRootOf f v place = (e : CatEntry) × (slice_get f.entries v ≡ Some e) × (place ≡ page_place e.root)

abbrev pub IsCompared : Forest → Store → ℕ → Op → Mini → Place → Type 0
IsCompared f store v (Tx version steps) mini place =
    IsLeafOf f v (steps_run (pairs_named store version) steps) place
    ⊎ (IsTrue (list_any is_change steps) × (place ≡ entry_place (entry_node mini.items) v))
    ⊎ IsOldPage f mini place
    ⊎ IsWrittenCount mini place
IsCompared f store v (Snapshot version child) mini place =
    IsRootOf f v place ⊎ (place ≡ entry_place catalog_node v)
    ⊎ (place ≡ entry_place catalog_node (length f.entries)) ⊎ IsWrittenCount mini place
IsCompared f store v (Branch version child) mini place =
    IsRootOf f v place ⊎ (place ≡ entry_place catalog_node v)
    ⊎ (place ≡ entry_place catalog_node (length f.entries)) ⊎ IsWrittenCount mini place
IsCompared f store v (Scan version low high limit) mini place = ⊥
IsCompared f store v Versions mini place = ⊥

-- of just these places the first 8 bytes are compared: the number of a page or an entry, the whole
-- of a count
abbrev pub IsComparedFront : Forest → Store → ℕ → Op → Mini → Place → Type 0
IsComparedFront f store v op mini range =
    (place : Place) × IsCompared f store v op mini place × (range ≡ front_place place)

-- Numbers and order

-- the place's number in the memory is the one before that of the bytes written; a free place has 0
abbrev pub IsNextNumber : List ℕ → List ℕ → Type 0
IsNextNumber old new =
    (k : ℕ) × (k + 1 < 2 ^ 64) × (take 8 old ≡ big_bytes 8 k) × (take 8 new ≡ big_bytes 8 (k + 1))

-- each page or entry that is written has the next number
abbrev pub HasNextNumber : List (List ℕ) → Item → Type 0
HasNextNumber memory (Compare node start bytes) = ⊤
HasNextNumber memory (Read node start length) = ⊤
HasNextNumber memory (Write node start bytes) =
    IsCountPlace (record { node = node; start = start; length = length bytes })
    ⊎ IsNextNumber (bytes_in (space_in memory node) start (length bytes)) bytes

-- pages by WritesPages, entries by node and then by number, counts by node
abbrev pub may_precede : NodeNo → ℕ → NodeNo → ℕ → Bool
may_precede n s m t =
    nat_lt (place_rank s) (place_rank t)
    || (nat_eq (place_rank s) (place_rank t)
    && (nat_eq (place_rank s) 0 || (nat_lt n.0 m.0 || (nat_eq n.0 m.0 && nat_lt s t))))

abbrev pub item_may_precede : Item → Item → Bool
item_may_precede (Compare n s b) (Compare m t c) = may_precede n s m t
item_may_precede (Compare n s b) (Read m t c) = false
item_may_precede (Compare n s b) (Write m t c) = true
item_may_precede (Read n s b) item = false
item_may_precede (Write n s b) (Compare m t c) = false
item_may_precede (Write n s b) (Read m t c) = false
item_may_precede (Write n s b) (Write m t c) = may_precede n s m t

-- the compares, then the writes
abbrev pub are_in_order : List Item → Bool
are_in_order [] = true
are_in_order (i ∷ []) = true
are_in_order (i ∷ (j ∷ is)) = item_may_precede i j && are_in_order (j ∷ is)

abbrev pub page_write : Held → Item
page_write h = Write h.addr.node (slot_start h.addr.slot) (page_bytes h.page)

-- some of the places, in their order
abbrev pub IsPickOf : List Place → List Place → Type 0
IsPickOf [] places = ⊤
IsPickOf (x ∷ xs) [] = ⊥
IsPickOf (x ∷ xs) (place ∷ places) = ((x ≡ place) × IsPickOf xs places) ⊎ IsPickOf (x ∷ xs) places

-- the pages that are written: changed ones in the order of their compares, then new ones in the
-- order in which they get their slots
pub record WritesPages (f : Forest) (mini : Mini) : Type 0 where
  pub changed : List Addr
  pub new : List Held
  pub others : List Place
  pub written : write_places mini ≡ map page_place (changed ++ map (λ h. h.addr) new) ++ others
  pub as_compared : IsPickOf (map (λ addr. front_place (page_place addr)) changed)
      (compare_places mini)
  -- there was no page at the address of a new one, and what is written there is the page
  pub free : AllByRecursion (λ h. page_at f h.addr ≡ None) new
  pub items : AllByRecursion (λ h. IsPage h.page × Contains mini.items (page_write h)) new
  pub in_order : AreInSlotOrder new
  pub no_more : AllByRecursion (λ place. IsPagePlace place → ⊥) others
  -- a count is written where its node gets a new page
  pub counted : AllByRecursion (λ place. (n : NodeNo) → place ≡ count_place n
      → (h : Held) × Contains new h × (h.addr.node ≡ n)) others

-- the range of a whole page, entry or count
abbrev pub IsWholePlace : Place → Type 0
IsWholePlace place = IsPagePlace place ⊎ IsEntryPlace place ⊎ IsCountPlace place

-- no place comes twice
abbrev pub ComeOnce : List Place → Type 0
ComeOnce [] = ⊤
ComeOnce (place ∷ places) = AllByRecursion (λ other. other ≡ place → ⊥) places × ComeOnce places

-- Planned

-- the operations that plans do
abbrev pub HasPlans : Op → Type 0
HasPlans (Scan version low high limit) = ⊥
HasPlans Versions = ⊥
HasPlans op = ⊤

-- the catalog's versions are the first ones, with their names and parents; what it has frozen stays
-- frozen
abbrev pub ContinuesCatalog : List Head → List Head → Type 0
ContinuesCatalog [] heads = ⊤
ContinuesCatalog (k ∷ kept) [] = ⊥
ContinuesCatalog (k ∷ kept) (h ∷ heads) =
    (h.name ≡ k.name) × (h.parent ≡ k.parent) × (k.frozen ≡ true → h.frozen ≡ true)
    × ContinuesCatalog kept heads

-- what a plan does to a memory that holds the store
pub record PlanActs (memory : List (List ℕ)) (store : Store) (holds : Holds memory store) (op : Op)
    (mini : Mini) (reply : Reply) : Type 0 where
  pub effect : Holds (memory_after memory mini.items) (applied store op).store
  pub replies : reply ≡ (applied store op).reply
  pub compares : (v : ℕ) → number_named (heads_of store) (op_version op) ≡ Some v
      → (range : Place)
      → Contains (compare_places mini) range ↔ IsComparedFront holds.forest store v op mini range
  -- where there is no such version it compares nothing
  pub nowhere : number_named (heads_of store) (op_version op) ≡ None → compare_places mini ≡ []
  -- no place is compared twice
  pub apart : ComeOnce (compare_places mini)
  -- each write is of a whole page, entry or count, each of which is written once
  pub wholes : AllByRecursion IsWholePlace (write_places mini)
  pub once : ComeOnce (write_places mini)
  pub numbers : AllByRecursion (HasNextNumber memory) mini.items
  pub pages : WritesPages holds.forest mini

-- where an item compares the first 8 bytes of a page or an entry, this holds of that place and of
-- the item's bytes
abbrev pub OnNumber : (Place → List ℕ → Type 0) → Item → Type 0
OnNumber P (Compare node start bytes) =
    (place : Place) → IsNumbered place
    → front_place place ≡ record { node = node; start = start; length = length bytes }
    → P place bytes
OnNumber P (Read node start length) = ⊤
OnNumber P (Write node start bytes) = ⊤

-- the memory's whole place is as the list showed it last with that number
abbrev pub AgreesWith : List Entry → List (List ℕ) → Place → List ℕ → Type 0
AgreesWith es memory place number =
    ShowsLast es place number (content_in (space_in memory place.node) place)

-- the items' compares hold in the memory, which agrees with this client's list
pub record ComparesHold (es : List Entry) (memory : List (List ℕ)) (items : List Item)
    : Type 0 where
  pub agrees : AllByRecursion (OnNumber (AgreesWith es memory)) items
  pub met : mismatch_from memory 0 items ≡ None

-- of each number that it compares the client's list shows the place; and wherever its compares
-- hold, in a memory that agrees with the list and holds a store that continues the kept catalog, it
-- does what the operation does
pub record IsPlanned (es : List Entry) (kept : List Head) (op : Op) (mini : Mini) (reply : Reply)
    : Type 0 where
  pub shown : AllByRecursion (OnNumber (ShowsNumber es)) mini.items
  pub acts : (memory : List (List ℕ)) (store : Store) → length memory ≡ mini.nodes
      → AllByRecursion (λ space. length space ≡ space_size) memory
      → (holds : Holds memory store) → ContinuesCatalog kept (heads_of store)
      → ComparesHold es memory mini.items
      → PlanActs memory store holds op mini reply
  pub order : IsTrue (are_in_order mini.items)
  pub kind : HasPlans op
