-- A forest: the catalog's entries and each node's pages; and the memory that spells it.
use Rattle.std.specs.Prelude.{ℕ, false, List, [], ◌∷◌, ◌++◌, length, replicate, map, Option, Some}
use Rattle.std.specs.Prelude.{None, slice_get, slice_index_or, slice_set}
use Rattle.std.specs.List.{flat_map, range_with_len}
use Rattle.std.specs.Option.{option_and_then}
use Rattle.byteorder.specs.Endian.{big_bytes}
use Rattle.mn_base.specs.Store.{Head}
use Rattle.mn_base.specs.declared.ids.Addr.{Addr}
use Rattle.mn_base.specs.declared.ids.VersionNo.{VersionNo}
use Rattle.mn_page.specs.declared.page.Page.{Page}
use Rattle.mn_page.specs.declared.page.Body.{Body}
use Rattle.mn_page.specs.declared.page.Body.TheVariants.{Leaf, Inner}
use Rattle.mn_page.specs.declared.page.Child.{Child}
use Rattle.mn_page.specs.declared.entry.CatEntry.{CatEntry}
use Rattle.mn_page.specs.Space.{count_start, count_size, catalog_start, catalog_size, slots_start}
use Rattle.mn_page.specs.Space.{space_length}
use Rattle.mn_page.specs.Grammar.{padded, page_bytes, entry_bytes}

-- the used entries in order of version, and for each node the pages of its slots below its count
pub record Forest : Type 0 where
  pub entries : List CatEntry
  pub pages : List (List Page)

abbrev pub node_count : Forest → ℕ
node_count f = length f.pages

-- Memories

-- what the spaces of all nodes have: for each node the entries of its catalog, its count and its
-- pages, which need not be as many yet
pub record Laid : Type 0 where
  pub catalogs : List (List CatEntry)
  pub counts : List ℕ
  pub pages : List (List Page)

-- `MINUET`, the format, the number of nodes, the node's number, zeros
abbrev pub header_bytes : ℕ → ℕ → List ℕ
header_bytes nodes n = padded count_start (77 ∷ 73 ∷ 78 ∷ 85 ∷ 69 ∷ 84 ∷ 1 ∷ nodes ∷ n ∷ [])

-- the header and the count
abbrev pub head_of : ℕ → ℕ → ℕ → List ℕ
head_of nodes n count = padded catalog_start (header_bytes nodes n ++ big_bytes count_size count)

-- the bytes below the slots: the head and the catalog
abbrev pub front_of : ℕ → ℕ → ℕ → List ℕ → List ℕ
front_of nodes n count catalog =
    padded slots_start (head_of nodes n count ++ padded catalog_size catalog)

abbrev pub catalog_laid : Laid → ℕ → List ℕ
catalog_laid l n = flat_map entry_bytes (slice_index_or l.catalogs n [])

abbrev pub front_laid : Laid → ℕ → List ℕ
front_laid l n = front_of (length l.pages) n (slice_index_or l.counts n 0) (catalog_laid l n)

-- the space of a node: the front, and the pages in their slots
abbrev pub space_laid : Laid → ℕ → List ℕ
space_laid l n =
    padded space_length (front_laid l n ++ flat_map page_bytes (slice_index_or l.pages n []))

abbrev pub memory_laid : Laid → List (List ℕ)
memory_laid l = map (space_laid l) (range_with_len 0 (length l.pages))

-- a forest: each node has the same catalog, and its count is that of its pages
abbrev pub laid_of : Forest → Laid
laid_of f =
    record {
      catalogs = map (λ pages. f.entries) f.pages;
      counts = map (λ pages. length pages) f.pages;
      pages = f.pages;
    }

-- the memory that spells the forest
abbrev pub memory_of : Forest → List (List ℕ)
memory_of f = memory_laid (laid_of f)

-- Reading a forest

abbrev pub page_at : Forest → Addr → Option Page
page_at f addr =
    option_and_then (λ pages. slice_get pages addr.slot) (slice_get f.pages addr.node.0)

abbrev pub parent_number : Option VersionNo → Option ℕ
parent_number None = None
parent_number (Some v) = Some v.0

abbrev pub entry_head : CatEntry → Head
entry_head e = record { name = e.name; parent = parent_number e.parent; frozen = e.frozen }

abbrev pub heads_in : List CatEntry → List Head
heads_in entries = map entry_head entries

-- a child of a page with its range
pub record ChildRange : Type 0 where
  pub addr : Addr
  pub low : List ℕ
  pub high : Option (List ℕ)

-- the child at addr, which begins at low, and the children after it
abbrev pub ranges_from : Addr → List ℕ → List Child → Option (List ℕ) → List ChildRange
ranges_from addr low [] high = record { addr = addr; low = low; high = high } ∷ []
ranges_from addr low (c ∷ cs) high =
    record { addr = addr; low = low; high = Some c.separator }
    ∷ ranges_from c.addr c.separator cs high

abbrev pub body_children : List ℕ → Option (List ℕ) → Body → List ChildRange
body_children low high (Leaf pairs) = []
body_children low high (Inner height first rest) = ranges_from first low rest high

abbrev pub children_of : Page → List ChildRange
children_of p = body_children p.low p.high p.body

-- What fresh nodes hold

abbrev pub main_entry : CatEntry
main_entry =
    record {
      seq = 1;
      frozen = false;
      parent = None;
      root = record { node = record { 0 = 0 }; slot = 0 };
      name = 109 ∷ 97 ∷ 105 ∷ 110 ∷ [];
    }

abbrev pub empty_leaf : Page
empty_leaf =
    record { seq = 1; made = record { 0 = 0 }; copied = 0; low = []; high = None; body = Leaf [] }

-- `main` with its empty leaf in the first slot of node 0
abbrev pub base_forest : ℕ → Forest
base_forest nodes =
    record { entries = main_entry ∷ []; pages = slice_set (replicate nodes []) 0 (empty_leaf ∷ []) }

abbrev pub base_space : ℕ → ℕ → List ℕ
base_space nodes n = space_laid (laid_of (base_forest nodes)) n
