-- What a job has read, more reads show too.
use Rattle.std.proofs.Common.{ℕ, zero, suc, List, [], ◌∷◌, ◌++◌, Option, Some, None, Contains}
use Rattle.std.specs.Prelude.{MatchOption, ⊤}
use Rattle.byteorder.specs.Endian.{big_bytes}
use Rattle.std.proofs.lemmas.List.Elements.{Contains-append_right}
use Rattle.mn_base.specs.declared.ids.Addr.{Addr}
use Rattle.mn_base.specs.declared.ids.NodeNo.{NodeNo}
use Rattle.mn_base.specs.declared.op.Op.{Op}
use Rattle.mn_base.specs.declared.op.Op.TheVariants.{Tx, Snapshot, Branch, Scan, Versions}
use Rattle.mn_page.specs.declared.entry.CatEntry.{CatEntry}
use Rattle.mn_page.specs.declared.page.Page.{Page}
use Rattle.mn_page.specs.Grammar.{page_bytes}
use Rattle.mn_page.specs.Space.{count_size, count_start}
use Rattle.mn_scan.specs.Scan.{key_at}
use Rattle.mn_law.specs.Answers.{ReachesAddr, ShowsBytes}
use Rattle.mn_runs.specs.Seen.{Seen}
use Rattle.mn_law.specs.Shown.{SeesCatalog}
use Rattle.mn_txn.specs.declared.seen.SeenPage.{SeenPage}
use Rattle.mn_work.specs.declared.get.Descent.{Descent}
use Rattle.mn_work.specs.declared.work.Job.{Job}
use Rattle.mn_work.specs.declared.work.Job.TheVariants as at
use Rattle.mn_work.specs.Among.{AreBrought}
use Rattle.mn_proxy.specs.Jobs.{AreCounted, GetShows, IsBrought, IsOfTry, ReadsShow}
use Rattle.mn_work.specs.Walks.{Admits, IfLater, WalkComesTo, height_below, seen_page}
use Rattle.mn_work.specs.Works.{lone_key}
use Rattle.mn_proxy.proofs.Tries.{reaches_on}

-- what is asked of a later try alone
pub later_on : (failed : ℕ) (A B : Type 0) → (A → B) → IfLater failed A → IfLater failed B
later_on zero A B on told = tt
later_on (suc n) A B on told = on told

module _ (seens more : List Seen) (on : (s : Seen) → Contains seens s → Contains more s) where
  -- bytes that were read
  pub bytes_on : (n : NodeNo) (start : ℕ) (bytes : List ℕ) → ShowsBytes seens n start bytes
      → ShowsBytes more n start bytes
  bytes_on n start bytes shows = (shows.0, on shows.0 shows.1, shows.2, shows.3, shows.4)

  -- pages that were brought
  pub brought_on : (pages : List SeenPage) → AreBrought seens pages → AreBrought more pages
  brought_on [] all = tt
  brought_on (p ∷ pages) all = (on (seen_page p.addr p.bytes) all.0, brought_on pages all.1)

  -- the catalog of a try
  pub of_try_on : (failed : ℕ) (entries : List CatEntry) → IsOfTry failed seens entries
      → IsOfTry failed more entries
  of_try_on failed entries =
      later_on failed ((seen : Seen) × Contains seens seen × SeesCatalog seen entries)
      ((seen : Seen) × Contains more seen × SeesCatalog seen entries)
      (λ read. (read.0, on read.0 read.1, read.2))

  -- counts
  pub counted_on : (failed : ℕ) (counts : List ℕ) → AreCounted failed seens counts
      → AreCounted failed more counts
  counted_on zero counts told = tt
  counted_on (suc later) counts told =
      λ n count is. bytes_on n count_start (big_bytes count_size count) (told n count is)

  -- a page at its address
  pub page_on : (failed : ℕ) (addr : Addr) (page : Option Page)
      → MatchOption page ⊤ (IsBrought failed seens addr)
      → MatchOption page ⊤ (IsBrought failed more addr)
  page_on failed addr None told = tt
  page_on failed addr (Some page) told =
      later_on failed (Contains seens (seen_page addr (page_bytes page)))
      (Contains more (seen_page addr (page_bytes page)))
      (λ has. on (seen_page addr (page_bytes page)) has) told

  -- a walk
  pub walk_on : (failed : ℕ) (op : Op) (entries : List CatEntry) (key : List ℕ) (addr : Addr)
      (above : Option ℕ) → WalkComesTo failed seens op entries key addr above
      → WalkComesTo failed more op entries key addr above
  walk_on failed op entries key addr above walk = (
    walk.0,
    later_on failed (ReachesAddr seens op entries key addr (height_below above))
        (ReachesAddr more op entries key addr (height_below above))
        (λ r. reaches_on seens more op on entries key addr (height_below above) r) walk.1,
  )

  get_on : (failed : ℕ) (op : Op) (entries : List CatEntry) (d : Descent)
      → GetShows failed seens op entries (at.Get d) → GetShows failed more op entries (at.Get d)
  get_on failed (Tx name steps) entries d shows = by (lone_key steps) shows
    where
      by : (o : Option (List ℕ))
          → MatchOption o ⊥
          (λ key. ((root : Addr) × Admits entries (Tx name steps) d.version root)
          × WalkComesTo failed seens (Tx name steps) entries key d.addr d.above)
          → MatchOption o ⊥
          (λ key. ((root : Addr) × Admits entries (Tx name steps) d.version root)
          × WalkComesTo failed more (Tx name steps) entries key d.addr d.above)
      by None told = absurd told
      by (Some key) told =
          (told.0, walk_on failed (Tx name steps) entries key d.addr d.above told.1)
  get_on failed (Snapshot name child) entries d shows = absurd shows
  get_on failed (Branch name child) entries d shows = absurd shows
  get_on failed (Scan name low high limit) entries d shows = absurd shows
  get_on failed Versions entries d shows = absurd shows

  -- a job
  pub reads_on : (failed : ℕ) (op : Op) (entries : List CatEntry) (job : Job)
      → ReadsShow failed seens op entries job → ReadsShow failed more op entries job
  reads_on failed op entries at.Start shows = shows
  reads_on failed op entries (at.Get d) shows =
      (of_try_on failed entries shows.0, get_on failed op entries d shows.1)
  reads_on failed op entries (at.Transaction a) shows = (
    of_try_on failed entries shows.0,
    later_on failed (AreBrought seens a.pages.items) (AreBrought more a.pages.items)
        (λ all. brought_on a.pages.items all) shows.1,
    counted_on failed a.counts.items shows.2,
    shows.3,
  )
  reads_on failed op entries (at.Child c) shows = (
    of_try_on failed entries shows.0,
    page_on failed c.root c.page shows.1,
    counted_on failed c.counts.items shows.2,
  )
  reads_on failed op entries (at.Scan s) shows =
      (of_try_on failed entries shows.0, walk_on failed op entries (key_at s) s.needed s.above shows.1)

-- with reads before them
pub more_reads : (failed : ℕ) (more seens : List Seen) (op : Op) (entries : List CatEntry)
    (job : Job) → ReadsShow failed seens op entries job
    → ReadsShow failed (more ++ seens) op entries job
more_reads failed more seens op entries job =
    reads_on seens (more ++ seens) (λ s has. Contains-append_right more seens s has) failed op
    entries job
