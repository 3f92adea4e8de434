-- When pages make a tree, and when a memory holds a store. Where a page stands is a function of
-- addresses, so that the pages of a memory and pages that were read share every word.
use Rattle.std.specs.Prelude.{◌≡◌, ℕ, ◌+◌, ◌<◌, ◌≤◌, Bool, IsTrue, List, [], length, filter, Option}
use Rattle.std.specs.Prelude.{Some, None, slice_get}
use Rattle.std.specs.List.{AllByRecursion}
use Rattle.std.specs.Option.{option_map_or, option_and_then}
use Rattle.mn_base.specs.Order.{covers_key}
use Rattle.mn_base.specs.Store.{Store, StoreVersion, heads_of, is_ascending}
use Rattle.mn_base.specs.Tree.{IsVersionTree, parents_of, is_ancestor, versions_in, serves}
use Rattle.mn_base.specs.declared.ids.Addr.{Addr}
use Rattle.mn_base.specs.declared.reply.Pair.{Pair}
use Rattle.mn_page.specs.declared.entry.CatEntry.{CatEntry}
use Rattle.mn_page.specs.declared.page.Page.{Page}
use Rattle.mn_page.specs.declared.page.Body.{Body}
use Rattle.mn_page.specs.declared.page.Body.TheVariants.{Leaf, Inner}
use Rattle.mn_page.specs.Space.{max_slots}
use Rattle.mn_page.specs.Grammar.{IsPage, IsEntry, height_of}
use Rattle.mn_page.specs.Forest.{Forest, node_count, memory_of, page_at, heads_in, ChildRange}
use Rattle.mn_page.specs.Forest.{children_of}

-- the page at each address, or none
abbrev pub PagesAt : Type 0
PagesAt = Addr → Option Page

abbrev pub page_covers : List ℕ → Page → Bool
page_covers key p = covers_key p.low p.high key

abbrev pub page_serves : List CatEntry → ℕ → Page → Bool
page_serves entries v p = serves (parents_of (heads_in entries)) p.made.0 p.copied v

-- the root page of a version
abbrev pub root_page : List CatEntry → PagesAt → ℕ → Option Page
root_page entries at v = option_and_then (λ e. at e.root) (slice_get entries v)

abbrev pub root_height : List CatEntry → PagesAt → ℕ → ℕ
root_height entries at v = option_map_or (λ p. height_of p.body) (root_page entries at v) 0

abbrev pub pairs_in : Body → List Pair
pairs_in (Leaf pairs) = pairs
pairs_in (Inner height first rest) = []

-- Trees

-- the root was made in its version, and has no fences
pub record IsRoot (entries : List CatEntry) (at : PagesAt) (v : ℕ) : Type 0 where
  pub page : Page
  pub there : root_page entries at v ≡ Some page
  pub made : page.made.0 ≡ v
  pub low : page.low ≡ []
  pub high : page.high ≡ None

-- a page's versions are versions, and those that it was copied for descend from the one that it was
-- made in
pub record HasVersions (entries : List CatEntry) (p : Page) : Type 0 where
  pub made : p.made.0 < length entries
  pub copied : AllByRecursion (λ w. (w < length entries)
      × IsTrue (is_ancestor (parents_of (heads_in entries)) p.made.0 w)) (versions_in p.copied)

-- a child has just its range, is one height lower, and serves what its parent serves
pub record IsChild (entries : List CatEntry) (at : PagesAt) (p : Page) (c : ChildRange)
    : Type 0 where
  pub page : Page
  pub there : at c.addr ≡ Some page
  pub low : page.low ≡ c.low
  pub high : page.high ≡ c.high
  pub height : height_of page.body + 1 ≡ height_of p.body
  pub serves : (v : ℕ) → v < length entries → IsTrue (page_serves entries v p)
      → IsTrue (page_serves entries v page)

-- the page at this address serves the version at this height, and covers the key
pub record IsOnPath (entries : List CatEntry) (at : PagesAt) (v height : ℕ) (key : List ℕ)
    (addr : Addr) (page : Page) : Type 0 where
  pub there : at addr ≡ Some page
  pub level : height_of page.body ≡ height
  pub serves : IsTrue (page_serves entries v page)
  pub covers : IsTrue (page_covers key page)

-- just one page does
pub record OneOnPath (entries : List CatEntry) (at : PagesAt) (v height : ℕ) (key : List ℕ)
    : Type 0 where
  pub addr : Addr
  pub page : Page
  pub here : IsOnPath entries at v height key addr page
  pub only : (a : Addr) (p : Page) → IsOnPath entries at v height key a p → a ≡ addr

pub record IsTree (entries : List CatEntry) (at : PagesAt) : Type 0 where
  pub versions : IsVersionTree (heads_in entries)
  pub roots : (v : ℕ) → v < length entries → IsRoot entries at v
  pub pages : (addr : Addr) (p : Page) → at addr ≡ Some p → HasVersions entries p
  -- up to the root's height, each key is covered by exactly one page that serves the version
  pub partition : (v height : ℕ) → v < length entries → height ≤ root_height entries at v
      → (key : List ℕ) → OneOnPath entries at v height key
  pub no_higher : (v : ℕ) (addr : Addr) (p : Page) → v < length entries → at addr ≡ Some p
      → IsTrue (page_serves entries v p) → height_of p.body ≤ root_height entries at v
  pub children : (addr : Addr) (p : Page) → at addr ≡ Some p
      → AllByRecursion (IsChild entries at p) (children_of p)

-- the tree shows the store: its versions, and in each leaf that serves a version just the version's
-- pairs of its range
pub record ShowsStore (entries : List CatEntry) (at : PagesAt) (store : Store) : Type 0 where
  pub heads : heads_of store ≡ heads_in entries
  pub ascending : AllByRecursion (λ v. IsTrue (is_ascending v.pairs)) store
  pub leaves : (v : ℕ) (version : StoreVersion) (addr : Addr) (p : Page)
      → slice_get store v ≡ Some version → at addr ≡ Some p → height_of p.body ≡ 0
      → IsTrue (page_serves entries v p)
      → filter (λ pair. page_covers pair.key p) version.pairs ≡ pairs_in p.body

-- Memories

-- nodes, counts, entries and pages are within their limits and in their grammar
pub record IsLaid (f : Forest) : Type 0 where
  pub nodes : (1 ≤ node_count f) × (node_count f ≤ 8)
  pub counts : AllByRecursion (λ pages. length pages ≤ max_slots) f.pages
  pub entries : AllByRecursion IsEntry f.entries
  pub pages : (addr : Addr) (p : Page) → page_at f addr ≡ Some p → IsPage p

pub record IsForest (f : Forest) : Type 0 where
  pub laid : IsLaid f
  pub tree : IsTree f.entries (page_at f)

pub record Holds (memory : List (List ℕ)) (store : Store) : Type 0 where
  pub forest : Forest
  pub spelled : memory ≡ memory_of forest
  pub sound : IsForest forest
  pub shown : ShowsStore forest.entries (page_at forest) store

-- a memory holds at most one store
abbrev pub HoldsOne : Type 0
HoldsOne =
    (memory : List (List ℕ)) (one other : Store) → Holds memory one → Holds memory other
    → one ≡ other
