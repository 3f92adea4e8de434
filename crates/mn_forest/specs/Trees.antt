-- What the tests of pages keep of the catalog, and of the pages that are named as children.
use Rattle.std.specs.Prelude.{◌≡◌, ℕ, ◌<◌, ◌≤◌, ◌⊎◌, Bool, true, false, ◌&&◌, nat_eq, IsTrue, List}
use Rattle.std.specs.Prelude.{Some, Contains, length, map, slice_get}
use Rattle.std.specs.HashSet.{contains}
use Rattle.std.specs.Option.{option_map_or}
use Rattle.mn_base.specs.Store.{max_versions}
use Rattle.mn_base.specs.Tree.{parents_of}
use Rattle.mn_base.specs.declared.ids.Addr.{Addr}
use Rattle.mn_page.specs.declared.entry.CatEntry.{CatEntry}
use Rattle.mn_page.specs.declared.page.Page.{Page}
use Rattle.mn_page.specs.Grammar.{height_of}
use Rattle.mn_page.specs.Forest.{heads_in}
use Rattle.mn_page.specs.Holds.{page_serves}
use Rattle.mn_page.specs.Reading.{addrs_in}
use Rattle.mn_forest.specs.declared.pages.NameKey.{NameKey}
use Rattle.mn_forest.specs.declared.pages.Names.{Names}
use Rattle.mn_forest.specs.declared.pages.Versions.{Versions}
use Rattle.mn_forest.specs.Rules.{IsNamedBy, IsNamedAt}

-- the tree and the roots are those of the entries
pub record AreVersions (versions : Versions) (entries : List CatEntry) : Type 0 where
  pub few : length entries ≤ max_versions
  pub tree : versions.tree ≡ parents_of (heads_in entries)
  pub roots : versions.roots.items ≡ map (λ e. e.root) entries

abbrev pub same_place : Addr → Addr → Bool
same_place a b = nat_eq a.node.0 b.node.0 && nat_eq a.slot b.slot

-- the address is that of the version's root
abbrev pub is_root_at : List Addr → ℕ → Addr → Bool
is_root_at roots v addr = option_map_or (λ root. same_place root addr) (slice_get roots v) false

-- Pages that are noted as children

abbrev pub name_key : Addr → ℕ → ℕ → NameKey
name_key addr v height =
    record { node = addr.node.0; slot = addr.slot; version = v; height = height }

abbrev pub keys_same : NameKey → NameKey → Bool
keys_same a b =
    nat_eq a.node b.node && (nat_eq a.slot b.slot
    && (nat_eq a.version b.version && nat_eq a.height b.height))

abbrev pub is_noted : Names → Addr → ℕ → ℕ → Bool
is_noted names addr v height = contains keys_same names.named (name_key addr v height)

-- what was noted stays so
abbrev pub KeepsNames : Names → Names → Type 0
KeepsNames old new = (a : Addr) (v h : ℕ) → is_noted old a v h ≡ true → is_noted new a v h ≡ true

-- the page is of this height and serves this version
abbrev pub IsOf : List CatEntry → Page → ℕ → ℕ → Type 0
IsOf entries p v h =
    (h ≡ height_of p.body) × (v < length entries) × IsTrue (page_serves entries v p)

-- a child of the page is noted, besides, for each version below n that the page serves
pub record Notes (old new : Names) (entries : List CatEntry) (p : Page) (child : Addr) (n : ℕ)
    : Type 0 where
  pub keeps : KeepsNames old new
  pub adds : (v : ℕ) → v < n → v < length entries → IsTrue (page_serves entries v p)
      → is_noted new child v (height_of p.body) ≡ true
  pub only : (a : Addr) (v h : ℕ) → is_noted new a v h ≡ true → (is_noted old a v h ≡ true)
      ⊎ ((a ≡ child) × IsOf entries p v h)

-- so many children of the page are
pub record NotesChildren (old new : Names) (entries : List CatEntry) (p : Page) (n : ℕ)
    : Type 0 where
  pub keeps : KeepsNames old new
  pub adds : (i : ℕ) (a : Addr) → i < n → slice_get (addrs_in p.body) i ≡ Some a → (v : ℕ)
      → v < length entries → IsTrue (page_serves entries v p)
      → is_noted new a v (height_of p.body) ≡ true
  pub only : (a : Addr) (v h : ℕ) → is_noted new a v h ≡ true → (is_noted old a v h ≡ true)
      ⊎ (Contains (addrs_in p.body) a × IsOf entries p v h)

-- the address comes before this slot of this node
abbrev pub IsBefore : Addr → ℕ → ℕ → Type 0
IsBefore from n slot = (from.node.0 < n) ⊎ ((from.node.0 ≡ n) × (from.slot < slot))

-- what is noted is named, and what the pages before this place name is noted
pub record AreNamesTo (names : Names) (memory : List (List ℕ)) (entries : List CatEntry)
    (n slot : ℕ) : Type 0 where
  pub sound : (addr : Addr) (v h : ℕ) → v < length entries → is_noted names addr v h ≡ true
      → IsNamedAt memory entries v h addr
  pub whole : (addr from : Addr) (v h : ℕ) → v < length entries → IsBefore from n slot
      → IsNamedBy memory entries v h addr from → is_noted names addr v h ≡ true

-- a page is noted for a version and a height where a page of that height that serves the version
-- names it
pub record AreNames (names : Names) (memory : List (List ℕ)) (entries : List CatEntry)
    : Type 0 where
  pub sound : (addr : Addr) (v height : ℕ) → v < length entries
      → is_noted names addr v height ≡ true → IsNamedAt memory entries v height addr
  pub whole : (addr : Addr) (v height : ℕ) → v < length entries
      → IsNamedAt memory entries v height addr → is_noted names addr v height ≡ true
