-- What an operation needs on the pages that a try read: new slots, and the pages and entries that
-- it writes.
use Rattle.std.specs.Prelude.{ℕ, ◌≡◌, ◌⊎◌, List, Some, None, Contains, slice_get}
use Rattle.std.specs.List.{AllByRecursion}
use Rattle.mn_base.specs.Store.{number_named, op_version, refusal}
use Rattle.mn_base.specs.declared.ids.Addr.{Addr}
use Rattle.mn_base.specs.declared.ids.VersionNo.{VersionNo}
use Rattle.mn_base.specs.declared.op.Op.{Op}
use Rattle.mn_base.specs.declared.op.Op.TheVariants.{Snapshot}
use Rattle.mn_page.specs.declared.entry.CatEntry.{CatEntry}
use Rattle.mn_page.specs.Forest.{heads_in}
use Rattle.mn_page.specs.Overlay.{Held, needed_slots, changed_pages}
use Rattle.mn_runs.specs.Seen.{Place, Seen}
use Rattle.mn_law.specs.Places.{page_place, entry_place, catalog_node}
use Rattle.mn_law.specs.Shown.{SeesCatalog, SeesPage, ServesNamed}

-- what a try read of its version: the entry by a catalog that doesn't refuse the operation, and
-- pages at their addresses, which serve the version
pub record ReadsTree (seens : List Seen) (op : Op) : Type 0 where
  pub entries : List CatEntry
  pub catalog : Seen
  pub version : VersionNo
  pub entry : CatEntry
  pub pages : List Held
  pub seen : Contains seens catalog × SeesCatalog catalog entries
  pub named : number_named (heads_in entries) (op_version op) ≡ Some version.0
  pub at : slice_get entries version.0 ≡ Some entry
  pub admitted : refusal (heads_in entries) op ≡ None
  pub read : AllByRecursion (λ h. (seen : Seen) × Contains seens seen × SeesPage seen h.addr h.page
      × ServesNamed entries (op_version op) h.page) pages

-- the splits and copies of the operation on these pages take so many new slots
abbrev pub NeedsSlots : List Seen → Op → ℕ → Type 0
NeedsSlots seens op need =
    (t : ReadsTree seens op) × (needed_slots t.version t.entry.root t.pages op ≡ Some need)

-- a Snapshot writes its version's entry
abbrev pub WritesEntry : Op → ℕ → Place → Type 0
WritesEntry (Snapshot version child) v place = place ≡ entry_place catalog_node v
WritesEntry op v place = ⊥

-- the operation writes an old page or a used entry at this place
abbrev pub WritesOld : List Seen → Op → Place → Type 0
WritesOld seens op place =
    (t : ReadsTree seens op)
    × (((addrs : List Addr) × (addr : Addr)
    × (changed_pages t.version t.entry.root t.pages op ≡ Some addrs) × Contains addrs addr
    × (place ≡ page_place addr)) ⊎ WritesEntry op t.version.0 place)
