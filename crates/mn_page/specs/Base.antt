-- The space that a fresh node begins with.
use Rattle.std.specs.Prelude.{ℕ, zero, suc, List, [], ◌++◌}
use Rattle.mn_page.specs.Space.{space_length}
use Rattle.mn_page.specs.Grammar.{padded, entry_bytes, page_bytes}
use Rattle.mn_page.specs.Forest.{main_entry, empty_leaf, front_of}

-- Its pieces

-- `main` stands in the catalog of each node
abbrev pub base_catalog : List ℕ
base_catalog = entry_bytes main_entry

-- its empty leaf stands in a slot of node 0, and the other nodes have none
abbrev pub base_slots : ℕ → List ℕ
base_slots zero = page_bytes empty_leaf
base_slots (suc n) = []

abbrev pub base_count : ℕ → ℕ
base_count zero = 1
base_count (suc n) = 0

-- the header, the count and the catalog
unfoldable pub base_front : ℕ → ℕ → List ℕ
base_front nodes node = front_of nodes node (base_count node) base_catalog

-- the base space of a node of so many; proofs see through it only where they say so
unfoldable pub base_of : ℕ → ℕ → List ℕ
base_of nodes node = padded space_length (base_front nodes node ++ base_slots node)
