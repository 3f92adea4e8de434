-- A lone Get whose path is current: its proxy has cached all inner pages down to its leaf.
use Rattle.std.specs.Prelude.{ℕ, ◌≡◌, ◌+◌, ◌<◌, ◌≤◌, ◌⊎◌, true, false, List, [], ◌∷◌, Option}
use Rattle.std.specs.Prelude.{Some, None, MatchOption, ⊤}
use Rattle.mn_base.specs.declared.ids.Addr.{Addr}
use Rattle.mn_base.specs.declared.ids.VersionNo.{VersionNo}
use Rattle.mn_base.specs.declared.op.Op.{Op}
use Rattle.mn_base.specs.declared.op.Op.TheVariants.{Tx}
use Rattle.mn_base.specs.declared.op.Step.TheVariants.{Get}
use Rattle.mn_cache.specs.Pages.{page_at}
use Rattle.mn_page.specs.declared.page.Page.{Page}
use Rattle.mn_page.specs.declared.entry.CatEntry.{CatEntry}
use Rattle.mn_path.specs.Walk.{front_of, max_height}
use Rattle.mn_work.specs.declared.get.Descent.{Descent}
use Rattle.mn_work.specs.declared.get.Passed.{Passed}
use Rattle.mn_work.specs.declared.get.Passed.TheVariants as passed
use Rattle.mn_work.specs.declared.known.Known.{Known}
use Rattle.mn_work.specs.declared.next.Next.{Next}
use Rattle.mn_work.specs.declared.work.Job.TheVariants as at
use Rattle.mn_work.specs.declared.work.Work.{Work}
use Rattle.mn_work.specs.Descents.{gone_below, is_on_way}
use Rattle.mn_work.specs.Walks.{Admits}

-- from where it stands the walk for the key goes down these pages to the leaf: each is cached,
-- serves the version, covers the key, is one height below the one before and at most 14 high
abbrev pub WalksDown : List CatEntry → List (Addr × Page) → List ℕ → Descent → List Page → Descent
    → Type 0
WalksDown entries cached key d [] leaf = leaf ≡ d
WalksDown entries cached key d (page ∷ pages) leaf =
    (page_at d.addr cached ≡ Some page) × (is_on_way entries d key (front_of page) ≡ true)
    × WalksDown entries cached key (gone_below d page.body key) pages leaf

-- a leaf stands below a page of height 1; or at the root, of which no inner page is cached
abbrev pub IsAtLeaf : List (Addr × Page) → Descent → Type 0
IsAtLeaf cached d = (d.above ≡ Some 1) ⊎ ((d.above ≡ None) × (page_at d.addr cached ≡ None))

-- by what is kept the walk for the key leads to this leaf, on one of the nodes
pub record LeadsTo (known : Known) (key : List ℕ) (d leaf : Descent) : Type 0 where
  pub entries : List CatEntry
  pub catalog : known.catalog ≡ Some entries
  pub pages : List Page
  pub walks : WalksDown entries known.cache key d pages leaf
  pub at : IsAtLeaf known.cache leaf
  pub there : leaf.addr.node.0 < known.nodes

-- at the root of a version
abbrev pub at_root : VersionNo → Addr → Descent
at_root version root = record { version = version; addr = root; above = None }

-- its version is in the kept catalog, and from the root its walk leads to this leaf
pub record HasCurrentPath (known : Known) (op : Op) (leaf : Descent) : Type 0 where
  pub name : List ℕ
  pub key : List ℕ
  pub get : op ≡ Tx name (Get key ∷ [])
  pub version : VersionNo
  pub root : Addr
  pub leads : LeadsTo known key (at_root version root) leaf
  pub admits : Admits leads.entries op version root

-- What it wants

-- a lone Get of the key stands there
pub record GetsAt (w : Work) (key : List ℕ) (d : Descent) : Type 0 where
  pub name : List ℕ
  pub op_is : w.op ≡ Tx name (Get key ∷ [])
  pub job_is : w.job ≡ at.Get d

-- it has come to its leaf, and wants to read it by an Exec
pub record WantsLeaf (leaf : Descent) (after : Work) (next : Next) : Type 0 where
  pub job_is : after.job ≡ at.Get leaf
  pub next_is : next ≡ Next.Page leaf.addr false

-- Inside

-- it went on to a page that is less than 15 high, and lower than the one before
abbrev pub IsLower : Option ℕ → Option ℕ → Type 0
IsLower before None = ⊥
IsLower before (Some height) = (height ≤ max_height) × MatchOption before ⊤ (λ a. height + 1 ≡ a)

-- what became of the walk to a leaf at a page that it needs: it goes on, or it has come there
abbrev pub PathPasses : Known → List ℕ → Descent → Descent → Descent → Passed → Type 0
PathPasses known key before after leaf passed.On =
    LeadsTo known key after leaf × IsLower before.above after.above
PathPasses known key before after leaf passed.Missing = (leaf ≡ before) × (leaf ≡ after)
PathPasses known key before after leaf (passed.Fault seq) = ⊥
