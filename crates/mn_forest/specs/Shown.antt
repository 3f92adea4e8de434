-- The store that pages show: each version with the pairs of the leaves under its root.
use Rattle.std.specs.Prelude.{◌≡◌, ℕ, zero, suc, List, [], Some, map}
use Rattle.std.specs.List.{flat_map}
use Rattle.std.specs.Option.{option_map_or}
use Rattle.mn_base.specs.Store.{Store, StoreVersion}
use Rattle.mn_base.specs.declared.ids.Addr.{Addr}
use Rattle.mn_base.specs.declared.reply.Pair.{Pair}
use Rattle.mn_page.specs.declared.entry.CatEntry.{CatEntry}
use Rattle.mn_page.specs.declared.page.Page.{Page}
use Rattle.mn_page.specs.Grammar.{height_of}
use Rattle.mn_page.specs.Forest.{entry_head}
use Rattle.mn_page.specs.Holds.{PagesAt, pairs_in}
use Rattle.mn_page.specs.Reading.{addrs_in}
use Rattle.mn_forest.specs.Rules.{StandsAt}

-- the pages are just those that stand in the memory
pub record ArePages (memory : List (List ℕ)) (at : PagesAt) : Type 0 where
  pub there : (addr : Addr) (p : Page) → at addr ≡ Some p → StandsAt memory addr p
  pub stands : (addr : Addr) (p : Page) → StandsAt memory addr p → at addr ≡ Some p

-- the pairs of the leaves so many heights below the page at an address, in order
abbrev pub pairs_below : PagesAt → ℕ → Addr → List Pair
pairs_below at zero addr = option_map_or (λ p. pairs_in p.body) (at addr) []
pairs_below at (suc height) addr =
    flat_map (pairs_below at height) (option_map_or (λ p. addrs_in p.body) (at addr) [])

-- the height of the page at an address, 0 where there is none
abbrev pub height_there : PagesAt → Addr → ℕ
height_there at addr = option_map_or (λ p. height_of p.body) (at addr) 0

-- the version of an entry
abbrev pub version_shown : PagesAt → CatEntry → StoreVersion
version_shown at e =
    record { head = entry_head e; pairs = pairs_below at (height_there at e.root) e.root }

abbrev pub store_shown : PagesAt → List CatEntry → Store
store_shown at entries = map (version_shown at) entries
