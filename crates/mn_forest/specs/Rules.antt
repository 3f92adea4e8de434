-- The rules of the forest: what must hold of the bytes of all nodes so that they hold a store, each
-- where it is tested.
use Rattle.std.specs.Prelude.{◌≡◌, ℕ, zero, suc, ◌+◌, ◌*◌, ◌<◌, ◌≤◌, ◌⊎◌, Bool, true, false, nat_lt}
use Rattle.std.specs.Prelude.{nat_eq, IsTrue, List, [], ◌∷◌, length, take, replicate, Option}
use Rattle.std.specs.Prelude.{Some, None, is_some, slice_get, slice_index_or, bytes_eq, Contains}
use Rattle.std.specs.List.{list_all, list_any, AllByRecursion}
use Rattle.std.specs.Option.{option_map_or}
use Rattle.byteorder.specs.Endian.{big_number, big_bytes}
use Rattle.mn_base.specs.Store.{max_versions}
use Rattle.mn_base.specs.declared.ids.Addr.{Addr}
use Rattle.mn_base.specs.declared.ids.VersionNo.{VersionNo}
use Rattle.mn_mini.specs.Flat.{bytes_in}
use Rattle.mn_page.specs.declared.entry.CatEntry.{CatEntry}
use Rattle.mn_page.specs.declared.page.Page.{Page}
use Rattle.mn_page.specs.Space.{count_start, count_size, catalog_start, catalog_size, entry_size}
use Rattle.mn_page.specs.Space.{slot_size, max_slots, entry_start, slot_start}
use Rattle.mn_page.specs.Grammar.{SpellsEntry, IsUnused, SpellsPage, IsFree, height_of}
use Rattle.mn_page.specs.Forest.{header_bytes, ChildRange, children_of}
use Rattle.mn_page.specs.Holds.{HasVersions, page_serves}
use Rattle.mn_page.specs.Reading.{addrs_in}
use Rattle.mn_forest.specs.declared.error.Rule.{Rule}
use Rattle.mn_forest.specs.declared.error.Rule.TheVariants as rules

-- What stands in a memory

abbrev pub space_at : List (List ℕ) → ℕ → List ℕ
space_at memory n = slice_index_or memory n []

-- how many slots the node has given out
abbrev pub count_at : List (List ℕ) → ℕ → ℕ
count_at memory n = big_number count_size (bytes_in (space_at memory n) count_start count_size)

abbrev pub entry_place : List (List ℕ) → ℕ → ℕ → List ℕ
entry_place memory n w = bytes_in (space_at memory n) (entry_start w) entry_size

abbrev pub slot_place : List (List ℕ) → ℕ → ℕ → List ℕ
slot_place memory n slot = bytes_in (space_at memory n) (slot_start slot) slot_size

-- a page stands at the address: in a slot below its node's count
abbrev pub StandsAt : List (List ℕ) → Addr → Page → Type 0
StandsAt memory addr p =
    (addr.slot < count_at memory addr.node.0)
    × SpellsPage (slot_place memory addr.node.0 addr.slot) p

unfoldable pub zeros : ℕ → List ℕ
zeros n = replicate n 0

-- What the catalog of node 0 says. A place that is unused or outside the grammar says nothing.

abbrev pub ReadsAs : List ℕ → Option CatEntry → Type 0
ReadsAs place None = (e : CatEntry) → SpellsEntry place e → ⊥
ReadsAs place (Some e) = SpellsEntry place e

pub record Says (memory : List (List ℕ)) (es : List (Option CatEntry)) : Type 0 where
  pub places : length es ≡ max_versions
  pub each : (w : ℕ) (o : Option CatEntry) → slice_get es w ≡ Some o
      → ReadsAs (entry_place memory 0 w) o

-- the entry of a version
abbrev pub entry_of : List (Option CatEntry) → ℕ → Option CatEntry
entry_of es w = slice_index_or es w None

-- the entries up to the first place that says nothing
abbrev pub entries_of : List (Option CatEntry) → List CatEntry
entries_of [] = []
entries_of (None ∷ es) = []
entries_of (Some e ∷ es) = e ∷ entries_of es

-- Header and count

pub record HasHeader (memory : List (List ℕ)) (n : ℕ) : Type 0 where
  pub front : bytes_in (space_at memory n) 0 count_start ≡ header_bytes (length memory) n
  pub behind : bytes_in (space_at memory n) (count_start + count_size) 40 ≡ zeros 40
  pub kept : bytes_in (space_at memory n) (catalog_start + catalog_size) 16320 ≡ zeros 16320

-- the bytes spell a number, which is at most that of the slots
pub record IsCount (bytes : List ℕ) : Type 0 where
  pub spelled : bytes ≡ big_bytes count_size (big_number count_size bytes)
  pub few : big_number count_size bytes ≤ max_slots

abbrev pub HasCount : List (List ℕ) → ℕ → Type 0
HasCount memory n = IsCount (bytes_in (space_at memory n) count_start count_size)

-- Entries

-- version 0 has no parent, each other one a parent of a lower number
abbrev pub parent_fits : ℕ → Option VersionNo → Bool
parent_fits zero None = true
parent_fits zero (Some v) = false
parent_fits (suc w) None = false
parent_fits (suc w) (Some v) = nat_lt v.0 (suc w)

abbrev pub is_named : List ℕ → Option CatEntry → Bool
is_named name o = option_map_or (λ e. bytes_eq e.name name) o false

abbrev pub is_child_of : ℕ → Option CatEntry → Bool
is_child_of v o = option_map_or (λ e. option_map_or (λ p. nat_eq p.0 v) e.parent false) o false

-- An entry: those before it are used, its parent fits, no earlier one has its name, and it is
-- frozen exactly where it has a child. Only the first place must have one.
abbrev pub EntryFits : List (Option CatEntry) → ℕ → Option CatEntry → Type 0
EntryFits es w None = 1 ≤ w
EntryFits es w (Some e) =
    (list_all (λ o. is_some o) (take w es) ≡ true) × (parent_fits w e.parent ≡ true)
    × (list_any (is_named e.name) (take w es) ≡ false) × (e.frozen ≡ list_any (is_child_of w) es)

abbrev pub IsReadable : List ℕ → Type 0
IsReadable place = IsUnused place ⊎ ((e : CatEntry) × SpellsEntry place e)

pub record HasEntry (memory : List (List ℕ)) (es : List (Option CatEntry)) (w : ℕ) : Type 0 where
  pub grammar : IsReadable (entry_place memory 0 w)
  pub fits : EntryFits es w (entry_of es w)

-- on the nodes behind the first it is, byte for byte, that of the first
abbrev pub HasEntryAt : List (List ℕ) → List (Option CatEntry) → ℕ → ℕ → Type 0
HasEntryAt memory es zero w = HasEntry memory es w
HasEntryAt memory es (suc n) w = entry_place memory (suc n) w ≡ entry_place memory 0 w

-- the root of a used entry is a page that was made in its version, without fences
pub record IsRootAt (memory : List (List ℕ)) (w : ℕ) (e : CatEntry) : Type 0 where
  pub page : Page
  pub there : StandsAt memory e.root page
  pub made : page.made.0 ≡ w
  pub low : page.low ≡ []
  pub high : page.high ≡ None

abbrev pub HasRootAt : List (List ℕ) → List (Option CatEntry) → ℕ → ℕ → Type 0
HasRootAt memory es zero w = (e : CatEntry) → entry_of es w ≡ Some e → IsRootAt memory w e
HasRootAt memory es (suc n) w = Unit {0}

-- Pages

-- below the count a slot has a page of the catalog's versions, from there on it is free
pub record HasPage (memory : List (List ℕ)) (entries : List CatEntry) (addr : Addr) : Type 0 where
  pub below : addr.slot < count_at memory addr.node.0 → (p : Page)
      × SpellsPage (slot_place memory addr.node.0 addr.slot) p × HasVersions entries p
  pub behind : count_at memory addr.node.0 ≤ addr.slot
      → IsFree (slot_place memory addr.node.0 addr.slot)

-- a child has just its range, is one height lower, and serves what its parent serves
pub record IsChildAt (memory : List (List ℕ)) (entries : List CatEntry) (p : Page) (c : ChildRange)
    : Type 0 where
  pub page : Page
  pub there : StandsAt memory c.addr page
  pub low : page.low ≡ c.low
  pub high : page.high ≡ c.high
  pub height : height_of page.body + 1 ≡ height_of p.body
  pub serves : (v : ℕ) → v < length entries → IsTrue (page_serves entries v p)
      → IsTrue (page_serves entries v page)

abbrev pub HasChildren : List (List ℕ) → List CatEntry → Addr → Type 0
HasChildren memory entries addr =
    (p : Page) → StandsAt memory addr p
    → AllByRecursion (IsChildAt memory entries p) (children_of p)

-- the address is that of the version's root
abbrev pub IsRootOf : List CatEntry → ℕ → Addr → Type 0
IsRootOf entries v addr = (e : CatEntry) × (slice_get entries v ≡ Some e) × (e.root ≡ addr)

-- the page at `from` has this height, serves the version, and names the address as a child
pub record IsNamedBy (memory : List (List ℕ)) (entries : List CatEntry) (v height : ℕ)
    (addr from : Addr) : Type 0 where
  pub parent : Page
  pub there : StandsAt memory from parent
  pub level : height_of parent.body ≡ height
  pub serves : IsTrue (page_serves entries v parent)
  pub named : Contains (addrs_in parent.body) addr

-- some page does
abbrev pub IsNamedAt : List (List ℕ) → List CatEntry → ℕ → ℕ → Addr → Type 0
IsNamedAt memory entries v height addr = (from : Addr) × IsNamedBy memory entries v height addr from

-- for each version that it serves, a page is the root, or a page one height up that serves the
-- version names it
abbrev pub IsReached : List (List ℕ) → List CatEntry → Addr → Type 0
IsReached memory entries addr =
    (p : Page) → StandsAt memory addr p → (v : ℕ) → v < length entries
    → IsTrue (page_serves entries v p) → IsRootOf entries v addr
    ⊎ IsNamedAt memory entries v (height_of p.body + 1) addr

-- Tests of a node, each a rule where it is tested

pub data Test : Type 0 where
  OfHeader : Test
  OfCount : Test
  OfEntry : (w : ℕ) → Test
  OfRoot : (w : ℕ) → Test
  OfPage : (slot : ℕ) → Test
  OfChildren : (slot : ℕ) → Test
  OfReach : (slot : ℕ) → Test

-- there are so many places for entries, and so many slots
abbrev pub IsTest : Test → Type 0
IsTest (OfEntry w) = w < max_versions
IsTest (OfRoot w) = w < max_versions
IsTest (OfPage slot) = slot < max_slots
IsTest (OfChildren slot) = slot < max_slots
IsTest (OfReach slot) = slot < max_slots
IsTest test = Unit {0}

-- where what is tested begins in the space
abbrev pub start_at : Test → ℕ
start_at OfHeader = 0
start_at OfCount = count_start
start_at (OfEntry w) = entry_start w
start_at (OfRoot w) = entry_start w
start_at (OfPage slot) = slot_start slot
start_at (OfChildren slot) = slot_start slot
start_at (OfReach slot) = slot_start slot

abbrev pub rule_of : Test → Rule
rule_of OfHeader = rules.Header
rule_of OfCount = rules.Count
rule_of (OfEntry w) = rules.Entry
rule_of (OfRoot w) = rules.Root
rule_of (OfPage slot) = rules.Page
rule_of (OfChildren slot) = rules.Child
rule_of (OfReach slot) = rules.Reach

-- the order of the rules at one start
abbrev pub rank_of : Test → ℕ
rank_of OfHeader = 0
rank_of OfCount = 1
rank_of (OfEntry w) = 2
rank_of (OfRoot w) = 3
rank_of (OfPage slot) = 4
rank_of (OfChildren slot) = 5
rank_of (OfReach slot) = 6

-- the test passes on the node
abbrev pub Passes : List (List ℕ) → List (Option CatEntry) → ℕ → Test → Type 0
Passes memory es n OfHeader = HasHeader memory n
Passes memory es n OfCount = HasCount memory n
Passes memory es n (OfEntry w) = HasEntryAt memory es n w
Passes memory es n (OfRoot w) = HasRootAt memory es n w
Passes memory es n (OfPage slot) =
    HasPage memory (entries_of es) (record { node = record { 0 = n }; slot = slot })
Passes memory es n (OfChildren slot) =
    HasChildren memory (entries_of es) (record { node = record { 0 = n }; slot = slot })
Passes memory es n (OfReach slot) =
    IsReached memory (entries_of es) (record { node = record { 0 = n }; slot = slot })

-- the tests go by start, then by rule
abbrev pub order_of : Test → ℕ
order_of t = 8 * start_at t + rank_of t

abbrev pub Precedes : Test → Test → Type 0
Precedes u t = order_of u < order_of t

-- each test of each node passes
abbrev pub AllPass : List (List ℕ) → List (Option CatEntry) → Type 0
AllPass memory es = (n : ℕ) (t : Test) → n < length memory → IsTest t → Passes memory es n t

-- the test does not pass, and each before it does, by node, then by start, then by rule
pub record IsFirstFailed (memory : List (List ℕ)) (es : List (Option CatEntry)) (n : ℕ) (t : Test)
    : Type 0 where
  pub node : n < length memory
  pub test : IsTest t
  pub failed : Passes memory es n t → ⊥
  pub nodes : (m : ℕ) (u : Test) → m < n → IsTest u → Passes memory es m u
  pub before : (u : Test) → IsTest u → Precedes u t → Passes memory es n u
