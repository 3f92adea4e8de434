-- How a scan goes on from page to page.
use Rattle.std.specs.Prelude.{ℕ, ◌≡◌, ◌<◌, ◌≤◌, ◌⊎◌, ◌&&◌, Bool, true, false, not, List, Option}
use Rattle.std.specs.Prelude.{Some, None, ⊤}
use Rattle.std.specs.Option.{option_map_or}
use Rattle.mn_base.specs.Tree.{parents_of}
use Rattle.mn_base.specs.declared.ids.Addr.{Addr}
use Rattle.mn_base.specs.declared.answer.Busy.TheVariants.{Path}
use Rattle.mn_page.specs.declared.page.Page.{Page}
use Rattle.mn_page.specs.declared.entry.CatEntry.{CatEntry}
use Rattle.mn_page.specs.Forest.{heads_in}
use Rattle.mn_page.specs.Grammar.{SpellsPage, height_of}
use Rattle.mn_path.specs.Walk.{front_of, is_on_path}
use Rattle.mn_scan.specs.Scan.{IsInTurn, IsNeeded, ScanState, fed, fits, key_at, may_be_leaf}
use Rattle.mn_scan.specs.Scan.{restarted}
use Rattle.mn_work.specs.declared.next.Next.{Next}
use Rattle.mn_work.specs.declared.next.Taken.{Taken}
use Rattle.mn_work.specs.declared.scan.Passage.{Passage}
use Rattle.mn_work.specs.declared.scan.Passage.TheVariants as passages
use Rattle.mn_work.specs.declared.known.Known.{Known}
use Rattle.mn_work.specs.Catalogs.{root_named}
use Rattle.mn_work.specs.Descents.{IsOffNodes}
use Rattle.mn_work.specs.Seen.{SpellsNone}

-- by these entries the walk of the scan goes on at the page
abbrev pub goes_by : List CatEntry → List ℕ → ScanState → Page → Bool
goes_by entries name s page =
    option_map_or
    (λ found. is_on_path (parents_of (heads_in entries)) found.0 (key_at s) s.above (front_of page))
    (root_named entries name) false

abbrev pub goes_by_kept : Option (List CatEntry) → List ℕ → ScanState → Page → Bool
goes_by_kept catalog name s page =
    option_map_or (λ entries. goes_by entries name s page) catalog false

-- it walks to the same leaf, from wherever it stands
abbrev pub WalksAlike : ScanState → ScanState → Type 0
WalksAlike before after = restarted after ≡ restarted before

-- what a page that it needs makes of it, by the kept catalog and by its own, of which no fault is
-- told
abbrev pub TakesPage : Option (List CatEntry) → List ℕ → ScanState → Addr → Page → ScanState → Taken
    → Type 0
TakesPage catalog name before addr page after Taken.GoesOn =
    (goes_by_kept catalog name before page ≡ true) × (fits before page ≡ true)
    × (1 ≤ height_of page.body) × (after ≡ fed before page)
TakesPage catalog name before addr page after Taken.Leaf =
    (goes_by_kept catalog name before page ≡ true) × (fits before page ≡ true)
    × (height_of page.body ≡ 0) × IsInTurn before page × (after ≡ fed before page)
TakesPage catalog name before addr page after (Taken.Replies reply) = ⊥
TakesPage catalog name before addr page after (Taken.Fails None) =
    (goes_by_kept catalog name before page ≡ true)
    × ((fits before page ≡ false) ⊎ (IsInTurn before page → ⊥))
TakesPage catalog name before addr page after (Taken.Fails (Some cause)) =
    (goes_by_kept catalog name before page ≡ false) × (cause ≡ Path addr page.seq)

-- where it goes on or fails, it walks to the same leaf
abbrev pub StaysBefore : ScanState → ScanState → Taken → Type 0
StaysBefore before after Taken.Leaf = ⊤
StaysBefore before after taken = WalksAlike before after

-- what became of a cached page, by what it made of the scan
abbrev pub passage_of : Taken → Passage
passage_of (Taken.Fails cause) = passages.Fails cause
passage_of taken = passages.On

-- what the bytes of the page that it needs make of it
abbrev pub TakesBytes : Option (List CatEntry) → List ℕ → ScanState → Addr → List ℕ → ScanState
    → Taken → Type 0
TakesBytes catalog name before addr bytes after taken =
    (SpellsNone bytes × (taken ≡ Taken.Fails (Some (Path addr 0))))
    ⊎ ((page : Page) × SpellsPage bytes page × TakesPage catalog name before addr page after taken)

-- by what is kept
abbrev pub ScanGoesOn : Known → List ℕ → ScanState → Addr → List ℕ → ScanState → Taken → Type 0
ScanGoesOn known name before addr bytes after taken =
    TakesBytes known.catalog name before addr bytes after taken

-- where the page isn't kept it stands as it stood
abbrev pub IsUnmoved : ScanState → ScanState → Passage → Type 0
IsUnmoved before after passage = passage ≡ passages.Missing → after ≡ before

-- it wants the page that it needs, on one of so many nodes: by a Peek where that can't be a leaf,
-- in a first try; or has ended
abbrev pub WantsNext : ℕ → Bool → ScanState → Option Next → Type 0
WantsNext nodes later s None = s.ended ≡ true
WantsNext nodes later s (Some (Next.Page addr peek)) =
    IsNeeded s addr × (addr.node.0 < nodes) × (peek ≡ (not later && not (may_be_leaf s.above)))
WantsNext nodes later s (Some (Next.Fails cause)) = later ≡ true → s.ended ≡ false
WantsNext nodes later s (Some next) = ⊥

-- in a later try it fails only at an address on a node that there is not
abbrev pub FailsOffNodes : ℕ → Addr → Option Next → Type 0
FailsOffNodes nodes addr (Some (Next.Fails cause)) = IsOffNodes nodes addr cause
FailsOffNodes nodes addr next = ⊤
