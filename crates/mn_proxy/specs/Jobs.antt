-- What the job of an operation has read, as its client's own list shows it. Of a first try only
-- what can't have been kept is shown; of a later one all that it goes by.
use Rattle.std.specs.Prelude.{ℕ, ◌≡◌, ◌⊎◌, Bool, true, false, List, [], ◌∷◌, ◌++◌, Option, Some}
use Rattle.std.specs.Prelude.{None}
use Rattle.std.specs.Prelude.{MatchOption, Contains, slice_get, length, ◌≤◌, ⊤}
use Rattle.std.specs.List.{AllByRecursion}
use Rattle.byteorder.specs.Endian.{big_bytes}
use Rattle.mn_base.specs.Store.{Head, head_named, number_named}
use Rattle.mn_base.specs.Tree.{parents_of}
use Rattle.mn_base.specs.declared.ids.Addr.{Addr}
use Rattle.mn_base.specs.declared.ids.NodeNo.{NodeNo}
use Rattle.mn_base.specs.declared.op.Op.{Op}
use Rattle.mn_base.specs.declared.op.Op.TheVariants.{Tx, Scan}
use Rattle.mn_page.specs.declared.entry.CatEntry.{CatEntry}
use Rattle.mn_page.specs.declared.page.Page.{Page}
use Rattle.mn_page.specs.Forest.{heads_in}
use Rattle.mn_page.specs.Grammar.{page_bytes}
use Rattle.mn_page.specs.Space.{count_size, count_start}
use Rattle.mn_scan.specs.Scan.{ScanState, key_at}
use Rattle.mn_runs.specs.declared.entry.Entry.{Entry}
use Rattle.mn_law.specs.Answers.{IsKeyOf, ShowsBytes}
use Rattle.mn_law.specs.Scans.{HasGathered}
use Rattle.mn_law.specs.Shown.{FirstCatalog, IsCatalogRead, ReachesEnd, SeesCatalog}
use Rattle.mn_runs.specs.Calls.{since_begin}
use Rattle.mn_runs.specs.Seen.{Seen, seen_in}
use Rattle.mn_proxy.specs.Tries.{Origin}
use Rattle.mn_work.specs.declared.known.Known.{Known}
use Rattle.mn_work.specs.declared.work.Job.{Job}
use Rattle.mn_work.specs.declared.work.Job.TheVariants as at
use Rattle.mn_work.specs.declared.work.Work.{Work}
use Rattle.mn_work.specs.Among.{AreBrought}
use Rattle.mn_work.specs.Walks.{Admits, IfLater, WalkComesTo, seen_page}
use Rattle.mn_work.specs.Works.{IsStartable, lone_key}

-- By the kept catalog

-- a later try has read this catalog itself
abbrev pub IsOfTry : ℕ → List Seen → List CatEntry → Type 0
IsOfTry failed seens entries =
    IfLater failed ((seen : Seen) × Contains seens seen × SeesCatalog seen entries)

-- the counts of the first nodes were read
abbrev pub AreCounted : ℕ → List Seen → List ℕ → Type 0
AreCounted failed seens counts =
    IfLater failed ((n : NodeNo) (count : ℕ) → slice_get counts n.0 ≡ Some count
    → ShowsBytes seens n count_start (big_bytes count_size count))

-- the page at this address was read
abbrev pub IsBrought : ℕ → List Seen → Addr → Page → Type 0
IsBrought failed seens addr page =
    IfLater failed (Contains seens (seen_page addr (page_bytes page)))

-- a lone Get has come to the address for its key
abbrev pub GetShows : ℕ → List Seen → Op → List CatEntry → Job → Type 0
GetShows failed seens (Tx name steps) entries (at.Get d) =
    MatchOption (lone_key steps) ⊥
    (λ key. ((root : Addr) × Admits entries (Tx name steps) d.version root)
    × WalkComesTo failed seens (Tx name steps) entries key d.addr d.above)
GetShows failed seens op entries job = ⊥

-- what the job has read by this catalog; a try that hasn't begun though one is kept is the first
abbrev pub ReadsShow : ℕ → List Seen → Op → List CatEntry → Job → Type 0
ReadsShow failed seens op entries at.Start = failed ≡ 0
ReadsShow failed seens op entries (at.Get d) =
    IsOfTry failed seens entries × GetShows failed seens op entries (at.Get d)
ReadsShow failed seens op entries (at.Transaction a) =
    IsOfTry failed seens entries × IfLater failed (AreBrought seens a.pages.items)
    × AreCounted failed seens a.counts.items × Admits entries op a.version a.root
ReadsShow failed seens op entries (at.Child c) =
    IsOfTry failed seens entries × MatchOption c.page ⊤ (IsBrought failed seens c.root)
    × AreCounted failed seens c.counts.items
ReadsShow failed seens op entries (at.Scan s) =
    IsOfTry failed seens entries
    × WalkComesTo failed seens op entries (key_at s) s.needed s.above

-- where none is kept there is only what may begin on a new one
abbrev pub ReadsShowBy : Known → ℕ → List Seen → Op → Job → Type 0
ReadsShowBy known failed seens op job =
    MatchOption known.catalog (IsStartable op job)
    (λ entries. ReadsShow failed seens op entries job)

-- Scans

-- the last of the leaves ends at this key
abbrev pub EndsAt : Option (List ℕ) → List Page → Type 0
EndsAt at [] = ⊥
EndsAt at (p ∷ []) = p.high ≡ at
EndsAt at (p ∷ (q ∷ ps)) = EndsAt at (q ∷ ps)

-- it stands at its lower bound, or where the last leaf ended; behind the last of all it has ended
abbrev pub StandsAtEnd : Bool → Bool → Option (List ℕ) → Option (List ℕ) → List Page → Type 0
StandsAtEnd false ended low at leaves = (leaves ≡ []) × (at ≡ low)
StandsAtEnd true ended low at leaves = EndsAt at leaves × (at ≡ None → ended ≡ true)

-- a scan by the first catalog of its operation, which shows the version as frozen: the leaves that
-- it took since, and their pairs
pub record HasScanned (now : List Entry) (name : List ℕ) (s : ScanState) : Type 0 where
  pub catalog : Seen
  pub later : List Seen
  pub entries : List CatEntry
  pub head : Head
  pub leaves : List Page
  pub first : FirstCatalog (seen_in now) catalog later
  pub sees : SeesCatalog catalog entries
  pub named : number_named (heads_in entries) name ≡ Some s.version.0
  pub head_is : head_named (heads_in entries) name ≡ Some head
  pub frozen : head.frozen ≡ true
  pub parents : s.parents ≡ parents_of (heads_in entries)
  pub gathered : HasGathered entries later name s.low s.high s.limit leaves s.pairs
  pub stands : StandsAtEnd s.began s.ended s.low s.at leaves
  pub ends : s.ended ≡ true
      → (s.began ≡ true) × ((s.limit ≤ length s.pairs) ⊎ ReachesEnd s.high leaves)

-- a scan that has begun, by its own bounds; one that hasn't, nor read a catalog that was none, has
-- read no catalog yet
abbrev pub ScanShown : List Entry → Bool → Op → Job → Type 0
ScanShown now spoiled (Scan name low high limit) (at.Scan s) =
    HasScanned now name s × (s.low ≡ low) × (s.high ≡ high) × (s.limit ≡ limit)
ScanShown now spoiled (Scan name low high limit) at.Start =
    spoiled ≡ false → AllByRecursion (λ seen. IsCatalogRead seen → ⊥) (seen_in now)
ScanShown now spoiled op job = ⊤

-- Where the tries began

-- a scan that hasn't ended stands behind the leaf that it took last; any other job took none
abbrev pub StandsAt : Op → List Entry → Job → Type 0
StandsAt op taken (at.Scan s) = s.ended ≡ false → IsKeyOf op taken (key_at s)
StandsAt op taken job = taken ≡ []

-- a key for which the job walks: where a scan stands, or one of the operation
abbrev pub IsKeyAt : Op → Job → List ℕ → Type 0
IsKeyAt op (at.Scan s) key = (s.ended ≡ false) × (key ≡ key_at s)
IsKeyAt op job key = IsKeyOf op [] key

-- the tries of the operation under way began here
pub record BeganFrom (es : List Entry) (op : Op) (job : Job) : Type 0 where
  pub from : Origin
  pub all : es ≡ since_begin es ++ from.older
  pub place : StandsAt op from.taken job

-- The whole

-- what the job of an operation has read is shown by the entries since its Begin, and by those of
-- its try
abbrev pub JobShows : Known → List Entry → List Entry → Work → Type 0
JobShows known now try w =
    ScanShown now w.spoiled w.op w.job
    × ReadsShowBy known w.failed (seen_in try) w.op w.job
