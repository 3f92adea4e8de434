-- What a client's list has shown last of what its proxy keeps, and of what a try goes by. A plan
-- compares numbers alone, so it does what its operation does only for a client for whom what has
-- the number is what it goes by.
use Rattle.std.specs.Prelude.{ℕ, ◌≡◌, ◌<◌, List, Option, MatchOption, replicate, slice_get, take, ⊤}
use Rattle.std.specs.List.{AllByRecursion}
use Rattle.std.specs.Option.{option_map_or}
use Rattle.mn_base.specs.Store.{max_versions}
use Rattle.mn_base.specs.declared.ids.Addr.{Addr}
use Rattle.mn_base.specs.declared.ids.NodeNo.{NodeNo}
use Rattle.mn_page.specs.declared.page.Page.{Page}
use Rattle.mn_page.specs.declared.entry.CatEntry.{CatEntry}
use Rattle.mn_page.specs.Grammar.{entry_bytes, page_bytes}
use Rattle.mn_page.specs.Space.{entry_size}
use Rattle.mn_txn.specs.declared.seen.SeenPage.{SeenPage}
use Rattle.mn_runs.specs.declared.entry.Entry.{Entry}
use Rattle.mn_runs.specs.Seen.{Place}
use Rattle.mn_law.specs.Places.{entry_place, number_size, page_place}
use Rattle.mn_law.specs.Shown.{ShowsLast}

-- of the bytes of the place that begin as these do, the list has shown these last
abbrev pub IsLast : List Entry → Place → List ℕ → Type 0
IsLast es place bytes = ShowsLast es place (take number_size bytes) bytes

-- Pages

abbrev pub PageIsLast : List Entry → Addr → Page → Type 0
PageIsLast es addr page = IsLast es (page_place addr) (page_bytes page)

-- those that are cached
abbrev pub CacheIsLast : List Entry → List (Addr × Page) → Type 0
CacheIsLast es pages = AllByRecursion (λ h. PageIsLast es h.0 h.1) pages

-- those that came in, as they were read
abbrev pub PagesAreLast : List Entry → List SeenPage → Type 0
PagesAreLast es pages = AllByRecursion (λ p. IsLast es (page_place p.addr) p.bytes) pages

-- the root page of a child's try, where it came in
abbrev pub RootIsLast : List Entry → Addr → Option Page → Type 0
RootIsLast es addr page = MatchOption page ⊤ (PageIsLast es addr)

-- each page that came in from this address has these bytes
abbrev pub AreReadAs : Addr → List ℕ → List SeenPage → Type 0
AreReadAs addr bytes pages = AllByRecursion (λ p. p.addr ≡ addr → p.bytes ≡ bytes) pages

-- Catalogs

-- what stands in the place of a version, by these entries
abbrev pub bytes_at : List CatEntry → ℕ → List ℕ
bytes_at entries v = option_map_or entry_bytes (slice_get entries v) (replicate entry_size 0)

-- on each node in the place of each version, the unused ones too
abbrev pub CatalogIsLast : List Entry → List CatEntry → Type 0
CatalogIsLast es entries =
    (n : NodeNo) (v : ℕ) → v < max_versions → IsLast es (entry_place n v) (bytes_at entries v)
