-- Places in the spaces of nodes: of pages, entries and counts.
use Rattle.std.specs.Prelude.{ℕ, ◌≡◌, ◌<◌, ◌⊎◌, true, List, length, ⊤}
use Rattle.byteorder.specs.Endian.{big_number}
use Rattle.mn_base.specs.Ranges.{ranges_meet}
use Rattle.mn_base.specs.declared.ids.Range.{Range}
use Rattle.mn_base.specs.Store.{max_versions}
use Rattle.mn_base.specs.declared.ids.NodeNo.{NodeNo}
use Rattle.mn_base.specs.declared.ids.Addr.{Addr}
use Rattle.mn_mini.specs.declared.part.PartItem.{PartItem}
use Rattle.mn_mini.specs.declared.part.PartItem.TheVariants.{Compare, Read, Write}
use Rattle.mn_mini.specs.Mini.{range_of}
use Rattle.mn_mini.specs.Flat.{bytes_in}
use Rattle.mn_page.specs.Space.{count_start, count_size, catalog_start, catalog_size, entry_size}
use Rattle.mn_page.specs.Space.{entry_start, slot_size, slot_start, max_slots}
use Rattle.mn_runs.specs.Seen.{Place}

abbrev pub page_place : Addr → Place
page_place addr = record { node = addr.node; start = slot_start addr.slot; length = slot_size }

-- on this node, the entry of the version with this number
abbrev pub entry_place : NodeNo → ℕ → Place
entry_place n v = record { node = n; start = entry_start v; length = entry_size }

abbrev pub count_place : NodeNo → Place
count_place n = record { node = n; start = count_start; length = count_size }

-- the node from which the catalog is read; each node has it
abbrev pub catalog_node : NodeNo
catalog_node = record { 0 = 0 }

-- the same range on that node
abbrev pub at_catalog : Place → Place
at_catalog place = record { node = catalog_node; start = place.start; length = place.length }

abbrev pub catalog_place : Place
catalog_place = record { node = catalog_node; start = catalog_start; length = catalog_size }

abbrev pub IsPagePlace : Place → Type 0
IsPagePlace place = (addr : Addr) × (place ≡ page_place addr)

abbrev pub IsEntryPlace : Place → Type 0
IsEntryPlace place =
    (n : NodeNo) × (v : ℕ) × (v < max_versions) × (place ≡ entry_place n v)

abbrev pub IsCountPlace : Place → Type 0
IsCountPlace place = (n : NodeNo) × (place ≡ count_place n)

-- Numbers

-- what has a sequence number: the place of a page, or of an entry
abbrev pub IsNumbered : Place → Type 0
IsNumbered place =
    ((addr : Addr) × (addr.slot < max_slots) × (place ≡ page_place addr)) ⊎ IsEntryPlace place

-- a page and an entry begin with their number, of so many bytes, the highest first
abbrev pub number_size : ℕ
number_size = 8

abbrev pub number_in : List ℕ → ℕ
number_in bytes = big_number number_size bytes

-- the first 8 bytes of a place: the number of a page or an entry, and the whole of a count
abbrev pub front_place : Place → Place
front_place place = record { node = place.node; start = place.start; length = number_size }

-- Contents

abbrev pub place_range : Place → Range
place_range place = record { start = place.start; length = place.length }

-- the bytes that a space has in a place
abbrev pub content_in : List ℕ → Place → List ℕ
content_in space place = bytes_in space place.start place.length

-- where a write item of a part meets the place it writes the whole of it and nothing else, with
-- bytes that pass
abbrev pub WritesWhole : Place → (List ℕ → Type 0) → PartItem → Type 0
WritesWhole place P (Compare start bytes) = ⊤
WritesWhole place P (Read start length) = ⊤
WritesWhole place P (Write start bytes) =
    ranges_meet (place_range place) (range_of (Write start bytes)) ≡ true
    → (start ≡ place.start) × (length bytes ≡ place.length) × P bytes
