-- The laws of memories that hold a store.
use Rattle.std.specs.Prelude.{◌≡◌, ◌≤◌, ℕ, List, [], ◌∷◌, Some, slice_get}
use Rattle.mn_base.specs.Store.{Store, StoreVersion, heads_of, number_named, value_at, applied}
use Rattle.mn_base.specs.declared.ids.Addr.{Addr}
use Rattle.mn_base.specs.declared.op.Step.TheVariants.{Get}
use Rattle.mn_base.specs.declared.op.Op.TheVariants.{Tx}
use Rattle.mn_base.specs.declared.reply.Reply.TheVariants.{Values}
use Rattle.mn_page.specs.declared.entry.CatEntry.{CatEntry}
use Rattle.mn_page.specs.declared.page.Page.{Page}
use Rattle.mn_page.specs.Grammar.{height_of}
use Rattle.mn_page.specs.Forest.{page_at}
use Rattle.mn_page.specs.Holds.{Holds, PagesAt, IsOnPath, OneOnPath, pairs_in}

-- a leaf that serves the version and covers the key stands at this address
abbrev pub IsLeafFor : List CatEntry → PagesAt → ℕ → List ℕ → Addr → Page → Type 0
IsLeafFor entries at v key addr page = IsOnPath entries at v 0 key addr page

-- for each version and key there is just one such leaf, and the version's value of the key is the
-- leaf's
pub record OneLeaf (entries : List CatEntry) (at : PagesAt) (v : ℕ) (version : StoreVersion)
    (key : List ℕ) : Type 0 where
  pub one : OneOnPath entries at v 0 key
  pub tells : (addr : Addr) (page : Page) → IsLeafFor entries at v key addr page
      → value_at version.pairs key ≡ value_at (pairs_in page.body) key

abbrev pub LeafTells : Type 0
LeafTells =
    (memory : List (List ℕ)) (store : Store) (holds : Holds memory store) (v : ℕ)
    (version : StoreVersion) (key : List ℕ) → slice_get store v ≡ Some version
    → OneLeaf holds.forest.entries (page_at holds.forest) v version key

-- so the leaf tells a lone Get's reply
abbrev pub LeafTellsGet : Type 0
LeafTellsGet =
    (memory : List (List ℕ)) (store : Store) (holds : Holds memory store) (v : ℕ)
    (name key : List ℕ) (addr : Addr) (page : Page) → number_named (heads_of store) name ≡ Some v
    → IsLeafFor holds.forest.entries (page_at holds.forest) v key addr page
    → (applied store (Tx name (Get key ∷ []))).reply
    ≡ Values (value_at (pairs_in page.body) key ∷ [])

-- no page is higher than 14
abbrev pub NoneTooHigh : Type 0
NoneTooHigh =
    (memory : List (List ℕ)) (store : Store) (holds : Holds memory store) (addr : Addr) (p : Page)
    → page_at holds.forest addr ≡ Some p → height_of p.body ≤ 14
