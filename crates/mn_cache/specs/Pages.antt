-- The pages that a cache keeps, each with its address, the most recently used first.
use Rattle.std.specs.Prelude.{◌≡◌, ◌≤◌, List, ◌∷◌, length, take, map, Option}
use Rattle.std.specs.List.{AllByRecursion, IsDistinct}
use Rattle.std.specs.Option.{option_map_or}
use Rattle.std.specs.Map.{keys_of, lookup, remove_entry}
use Rattle.mn_base.specs.Ids.{addr_same}
use Rattle.mn_base.specs.declared.ids.Addr.{Addr}
use Rattle.mn_page.specs.declared.page.Page.{Page}
use Rattle.mn_page.specs.Grammar.{page_bytes}
use Rattle.mn_cache.specs.declared.cache.Place.{Place}
use Rattle.mn_cache.specs.declared.cache.Spelled.{Spelled}
use Rattle.mn_cache.specs.declared.cache.TheConstants.{CAPACITY}

-- the page that is kept of an address
abbrev pub page_at : Addr → List (Addr × Page) → Option Page
page_at addr pages = lookup (addr_same addr) pages

-- without the page of an address
abbrev pub pages_without : Addr → List (Addr × Page) → List (Addr × Page)
pages_without addr pages = remove_entry (addr_same addr) pages

-- the page of an address goes first, if one is kept
abbrev pub pages_used : Addr → List (Addr × Page) → List (Addr × Page)
pages_used addr pages =
    option_map_or (λ page. (addr, page) ∷ pages_without addr pages) (page_at addr pages) pages

-- a page goes first, in place of an older one of its address; where there would be too many, the
-- least recently used goes
abbrev pub pages_put : Addr → Page → List (Addr × Page) → List (Addr × Page)
pages_put addr page pages = take CAPACITY ((addr, page) ∷ pages_without addr pages)

-- not too many pages, and no two of one address
abbrev pub AreKept : List (Addr × Page) → Type 0
AreKept pages = (length pages ≤ CAPACITY) × IsDistinct addr_same (keys_of pages)

-- Inside a cache, where each page stands with its bytes

abbrev pub addr_of : Place → Addr
addr_of place = record { node = record { 0 = place.node }; slot = place.slot }

abbrev pub pages_of : List (Place × Spelled) → List (Addr × Page)
pages_of entries = map (λ e. (addr_of e.0, e.1.page)) entries

abbrev pub AreSpelled : List (Place × Spelled) → Type 0
AreSpelled entries = AllByRecursion (λ e. e.1.bytes ≡ page_bytes e.1.page) entries
