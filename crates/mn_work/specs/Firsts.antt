-- Why a first try fails, which goes by what is kept. Where a page that it needs isn't kept it asks
-- for it; so it fails at an address on a node that there is not, at a kept page that is at fault
-- where it stands on its way, or where a later try is answered.
use Rattle.std.specs.Prelude.{ℕ, ◌≡◌, ◌⊎◌, ◌++◌, true, false, List, [], ◌∷◌, map, Option, Some}
use Rattle.std.specs.Prelude.{None, ⊤}
use Rattle.std.specs.List.{AllByRecursion}
use Rattle.mn_base.specs.declared.ids.Addr.{Addr}
use Rattle.mn_base.specs.declared.answer.Busy.{Busy}
use Rattle.mn_base.specs.declared.answer.Busy.TheVariants.{Path}
use Rattle.mn_base.specs.declared.op.Op.{Op}
use Rattle.mn_base.specs.declared.op.Step.{Step}
use Rattle.mn_cache.specs.Pages.{page_at}
use Rattle.mn_page.specs.declared.page.Page.{Page}
use Rattle.mn_page.specs.declared.entry.CatEntry.{CatEntry}
use Rattle.mn_page.specs.Overlay.{Held}
use Rattle.mn_path.specs.Walk.{front_of}
use Rattle.mn_scan.specs.Scan.{ScanState, fed, fits}
use Rattle.mn_txn.specs.Seen.{seen_as}
use Rattle.mn_work.specs.declared.attempt.Attempt.{Attempt}
use Rattle.mn_work.specs.declared.attempt.Reached.{Reached}
use Rattle.mn_work.specs.declared.attempt.Reached.TheVariants as reached
use Rattle.mn_work.specs.declared.child.Child.{Child}
use Rattle.mn_work.specs.declared.get.Descent.{Descent}
use Rattle.mn_work.specs.declared.get.Passed.{Passed}
use Rattle.mn_work.specs.declared.get.Passed.TheVariants as passed
use Rattle.mn_work.specs.declared.known.Known.{Known}
use Rattle.mn_work.specs.declared.next.Next.{Next}
use Rattle.mn_work.specs.declared.scan.Passage.{Passage}
use Rattle.mn_work.specs.declared.scan.Passage.TheVariants as passages
use Rattle.mn_work.specs.Attempts as attempts
use Rattle.mn_work.specs.Children as children
use Rattle.mn_work.specs.Descents.{IsFault, IsOffNodes, gone_below, is_on_way}
use Rattle.mn_work.specs.Paths.{WalksDown}
use Rattle.mn_work.specs.Scans.{goes_by_kept}

-- A lone Get

-- the page that is kept of its address is at fault
abbrev pub IsKeptFault : List CatEntry → List (Addr × Page) → List ℕ → Descent → Option Busy
    → Type 0
IsKeptFault entries cached key d cause =
    (page : Page) × (page_at d.addr cached ≡ Some page) × IsFault entries d key page cause

-- its walk has come there by kept pages
abbrev pub HasGoneDown : List CatEntry → List (Addr × Page) → List ℕ → Descent → Descent → Type 0
HasGoneDown entries cached key before after =
    (pages : List Page) × WalksDown entries cached key before pages after

-- where it has come the address is on no node, or a kept page is at fault
abbrev pub GetFails : Known → List CatEntry → List ℕ → Descent → Descent → Option Busy → Type 0
GetFails known entries key before after cause =
    HasGoneDown entries known.cache key before after
    × (IsOffNodes known.nodes after.addr cause
    ⊎ IsKeptFault entries known.cache key after cause)

-- what became of it at the page that it needs
abbrev pub PassesBy : List CatEntry → List (Addr × Page) → List ℕ → Descent → Descent → Passed
    → Type 0
PassesBy entries cached key before after passed.On =
    (page : Page) × (page_at before.addr cached ≡ Some page)
    × (is_on_way entries before key (front_of page) ≡ true)
    × (after ≡ gone_below before page.body key)
PassesBy entries cached key before after passed.Missing = ⊤
PassesBy entries cached key before after (passed.Fault seq) =
    IsKeptFault entries cached key before (Some (Path before.addr seq))

-- by the kept catalog
abbrev pub Passes : Known → List ℕ → Descent → Descent → Passed → Type 0
Passes known key before after passed =
    (entries : List CatEntry) → known.catalog ≡ Some entries
    → PassesBy entries known.cache key before after passed

-- how its walk ended, where it has come by kept pages
abbrev pub EndsBy : List CatEntry → List (Addr × Page) → List ℕ → Descent → Passed → Type 0
EndsBy entries cached key after (passed.Fault seq) =
    IsKeptFault entries cached key after (Some (Path after.addr seq))
EndsBy entries cached key after other = ⊤

-- so it is, by the kept catalog
abbrev pub GoesDown : Known → List ℕ → Descent → Descent → Passed → Type 0
GoesDown known key before after passed =
    (entries : List CatEntry) → known.catalog ≡ Some entries
    → HasGoneDown entries known.cache key before after × EndsBy entries known.cache key after passed

-- a lone Get fails only so
abbrev pub GetFailsBy : Known → List CatEntry → List ℕ → Descent → Descent → Next → Type 0
GetFailsBy known entries key before after (Next.Fails cause) =
    GetFails known entries key before after cause
GetFailsBy known entries key before after next = ⊤

-- so it does by the kept catalog
abbrev pub GetFailsFirst : Known → List ℕ → Descent → Descent → Next → Type 0
GetFailsFirst known key before after next =
    (entries : List CatEntry) → known.catalog ≡ Some entries
    → GetFailsBy known entries key before after next

-- A scan

-- it goes down by these pages, each of which is kept and fits
abbrev pub ScanWalksDown : Option (List CatEntry) → List (Addr × Page) → List ℕ → ScanState
    → List Page → ScanState → Type 0
ScanWalksDown catalog cached name s [] t = t ≡ s
ScanWalksDown catalog cached name s (page ∷ pages) t =
    (page_at s.needed cached ≡ Some page) × (goes_by_kept catalog name s page ≡ true)
    × (fits s page ≡ true) × ScanWalksDown catalog cached name (fed s page) pages t

-- its walk has come there by kept pages
abbrev pub ScanHasGoneDown : Known → List ℕ → ScanState → ScanState → Type 0
ScanHasGoneDown known name before after =
    (pages : List Page) × ScanWalksDown known.catalog known.cache name before pages after

-- the page doesn't fit: by the kept catalog, which is told, or by that by which it began
abbrev pub IsScanFault : Option (List CatEntry) → List ℕ → ScanState → Addr → Page → Option Busy
    → Type 0
IsScanFault catalog name s addr page (Some busy) =
    (goes_by_kept catalog name s page ≡ false) × (busy ≡ Path addr page.seq)
IsScanFault catalog name s addr page None =
    (goes_by_kept catalog name s page ≡ true) × (fits s page ≡ false)

-- the one that is kept of this address
abbrev pub IsKeptScanFault : Known → List ℕ → ScanState → Addr → Option Busy → Type 0
IsKeptScanFault known name s addr cause =
    (page : Page) × (page_at addr known.cache ≡ Some page)
    × IsScanFault known.catalog name s addr page cause

-- where it has come by kept pages the address is on no node, or a kept page is at fault
abbrev pub ScanFails : Known → List ℕ → ScanState → Option Busy → Type 0
ScanFails known name before cause =
    (at : ScanState) × ScanHasGoneDown known name before at × (at.ended ≡ false)
    × (IsOffNodes known.nodes at.needed cause ⊎ IsKeptScanFault known name at at.needed cause)

-- what became of it at the page that it needs
abbrev pub ScanPasses : Known → List ℕ → ScanState → Addr → ScanState → Passage → Type 0
ScanPasses known name before addr after passages.On =
    (page : Page) × (page_at addr known.cache ≡ Some page)
    × (goes_by_kept known.catalog name before page ≡ true) × (fits before page ≡ true)
    × (after ≡ fed before page)
ScanPasses known name before addr after passages.Missing = ⊤
ScanPasses known name before addr after (passages.Fails cause) =
    IsKeptScanFault known name before addr cause

-- a scan fails only so
abbrev pub ScanFailsFirst : Known → List ℕ → ScanState → Option Next → Type 0
ScanFailsFirst known name before (Some (Next.Fails cause)) = ScanFails known name before cause
ScanFailsFirst known name before next = ⊤

-- A transaction

-- the pages that came in since are kept
abbrev pub CameKept : List (Addr × Page) → Attempt → Attempt → Type 0
CameKept cached before after =
    (kept : List Held) × AllByRecursion (λ h. page_at h.addr cached ≡ Some h.page) kept
    × (after.pages.items ≡ before.pages.items ++ map seen_as kept)

-- the last page that came in is the kept one that its next step asked for, which can't go on at it
pub record IsUnfitKept (known : Known) (all : List Step) (a : Attempt) : Type 0 where
  pub before : Attempt
  pub way : attempts.IsOnItsWay known all before
  pub addr : Addr
  pub asks : attempts.Asks all before addr
  pub page : Page
  pub kept : page_at addr known.cache ≡ Some page
  pub keeps : attempts.KeepsSteps before a
  pub comes : attempts.ComesIn before addr page a false

-- it has come so far, or so far before that page
abbrev pub IsOnItsWayOrUnfit : Known → List Step → Attempt → Type 0
IsOnItsWayOrUnfit known all a = attempts.IsOnItsWay known all a ⊎ IsUnfitKept known all a

-- where the page that it needs can't come in
abbrev pub ReachesFirst : Known → List Step → Attempt → Reached → Type 0
ReachesFirst known all a reached.Unfit = IsOnItsWayOrUnfit known all a
ReachesFirst known all a other = ⊤

-- where it fails it is on its way
abbrev pub FailsOnWay : Known → List Step → Attempt → Next → Type 0
FailsOnWay known all a (Next.Fails cause) = attempts.IsOnItsWay known all a
FailsOnWay known all a next = ⊤

-- so it is where it fails within a step
abbrev pub RunFailsOnWay : Known → List Step → Attempt → Option Next → Type 0
RunFailsOnWay known all a None = ⊤
RunFailsOnWay known all a (Some next) = FailsOnWay known all a next

-- where it fails it is on its way, or a kept page doesn't fit
abbrev pub FailsAsKept : Known → List Step → Attempt → Next → Type 0
FailsAsKept known all a (Next.Fails cause) = IsOnItsWayOrUnfit known all a
FailsAsKept known all a next = ⊤

-- so it is where it fails within a step
abbrev pub RunFailsAsKept : Known → List Step → Attempt → Option Next → Type 0
RunFailsAsKept known all a None = ⊤
RunFailsAsKept known all a (Some next) = FailsAsKept known all a next

-- a transaction fails only where it has come by kept pages
abbrev pub StepsFailFirst : Known → List Step → Attempt → Attempt → Next → Type 0
StepsFailFirst known all before after (Next.Fails cause) =
    CameKept known.cache before after × IsOnItsWayOrUnfit known all after
StepsFailFirst known all before after next = ⊤

-- A Snapshot or a Branch

-- the address of the root is on no node, or the root page that is kept may not be copied
abbrev pub RootFails : Known → Child → Option Busy → Type 0
RootFails known c cause =
    IsOffNodes known.nodes c.root cause
    ⊎ ((page : Page) × (page_at c.root known.cache ≡ Some page)
    × (children.may_copy_by known.catalog c.version.0 page ≡ false)
    × (cause ≡ Some (Path c.root page.seq)))

-- what became of the root page: the kept one came in, or the try fails by it
abbrev pub ReachesRoot : Known → Child → Child → Option Next → Type 0
ReachesRoot known before after None =
    (page : Page) × (page_at before.root known.cache ≡ Some page) × (after.page ≡ Some page)
ReachesRoot known before after (Some (Next.Fails cause)) = RootFails known before cause
ReachesRoot known before after (Some next) = ⊤

-- the root page was read, or is the kept one
abbrev pub HasRoot : Known → Child → Child → Type 0
HasRoot known before after =
    (after ≡ before)
    ⊎ ((before.page ≡ None) × ((page : Page) × (page_at before.root known.cache ≡ Some page)
    × (after.page ≡ Some page)))

-- where it fails behind its root page, all is read
abbrev pub EndsFirst : Known → Op → Child → Next → Type 0
EndsFirst known op c (Next.Fails cause) =
    children.HasRead known op c × children.WantsEnd known false op c (Next.Fails cause)
EndsFirst known op c next = ⊤

-- it fails by its root page, or where all is read
abbrev pub ChildFails : Known → Op → Child → Child → Option Busy → Type 0
ChildFails known op before after cause =
    ((before.page ≡ None) × RootFails known before cause)
    ⊎ (HasRoot known before after × EndsFirst known op after (Next.Fails cause))

-- a Snapshot or a Branch fails only so
abbrev pub ChildFailsFirst : Known → Op → Child → Child → Next → Type 0
ChildFailsFirst known op before after (Next.Fails cause) =
    ChildFails known op before after cause
ChildFailsFirst known op before after next = ⊤
