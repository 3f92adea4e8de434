-- What a turn makes of what a proxy keeps, by what was read. The page of an address that was read
-- leaves the cache, and an inner page is put in; one leaves besides for want of room, or in a later
-- try that reads it next. The catalog is kept as it was read last, and goes where a later try
-- begins, and nowhere else. Where there was no memory for what was read, what is kept of its place
-- goes.
use Rattle.std.specs.Prelude.{ℕ, ◌≡◌, ◌⊎◌, Bool, true, false, List, Option, Some, None}
use Rattle.std.specs.Prelude.{Result, Ok, Err}
use Rattle.std.specs.Option.{option_map}
use Rattle.mn_base.specs.declared.ids.Addr.{Addr}
use Rattle.mn_base.specs.declared.ids.NodeNo.{NodeNo}
use Rattle.mn_base.specs.declared.ids.Tid.{Tid}
use Rattle.mn_base.specs.declared.error.NoMemory.{NoMemory}
use Rattle.mn_cache.specs.Pages.{page_at, pages_without}
use Rattle.mn_coord.specs.Coordination.{Coordination, after_step, new_coordination, step_of}
use Rattle.mn_coord.specs.declared.step.CoordStep.{CoordStep}
use Rattle.mn_coord.specs.declared.step.CoordStep.TheVariants.{Committed, Send}
use Rattle.mn_mini.specs.Mini.{Mini}
use Rattle.mn_mini.specs.declared.reply.NodeReply.TheVariants as Say
use Rattle.mn_mini.specs.declared.request.Request.{Request}
use Rattle.mn_page.specs.declared.page.Page.{Page}
use Rattle.mn_page.specs.declared.entry.CatEntry.{CatEntry}
use Rattle.mn_proxy.specs.declared.errand.Errand.{Errand}
use Rattle.mn_proxy.specs.declared.errand.Errand.TheVariants as out
use Rattle.mn_proxy.specs.declared.errand.Purpose.{Purpose}
use Rattle.mn_proxy.specs.declared.errand.Purpose.TheVariants as by
use Rattle.mn_proxy.specs.Turn.{Turn}
use Rattle.mn_proxy.specs.Turn as turns
use Rattle.mn_proxy.specs.declared.step.ProxyStep.{ProxyStep}
use Rattle.mn_proxy.specs.declared.step.ProxyStep.TheVariants as steps
use Rattle.mn_work.specs.declared.known.Known.{Known}
use Rattle.mn_work.specs.declared.work.Work.{Work}
use Rattle.mn_work.specs.Cached.{AreUsed, Replaces}
use Rattle.mn_work.specs.Catalogs.{TellsVersions}
use Rattle.mn_work.specs.Knows.{LearnsOrForgets}
use Rattle.mn_proxy.specs.State.{ProxyState}
use Rattle.mn_proxy.specs.Turns.{read_alone, with_work}
use Rattle.mn_work.specs.Walks.{is_later}

-- What was read

-- by a minitransaction that reads one place
abbrev pub read_for : Purpose → List (List (List ℕ)) → Option (Purpose × List ℕ)
read_for (by.Plan reply) reads = None
read_for purpose reads = option_map (λ bytes. (purpose, bytes)) (read_alone reads)

-- once it is committed
abbrev pub read_when : CoordStep → List (List (List ℕ)) → Purpose → Option (Purpose × List ℕ)
read_when Committed reads purpose = read_for purpose reads
read_when step reads purpose = None

-- or by a Peek that was answered so
abbrev pub read_by : Errand → Option (Purpose × List ℕ)
read_by (out.Peeked place (Say.Peeked bytes) purpose) = Some (purpose, bytes)
read_by (out.Mini tid c purpose) = read_when (step_of c) c.reads purpose
read_by errand = None

-- The cache

-- a page that was read is put in, in place of an older one
abbrev pub PutsRead : {T : Type 0} → Option (Purpose × List ℕ) → List (Addr × Page)
    → List (Addr × Page) → Result T NoMemory → Type 0
PutsRead (Some (by.Page addr, bytes)) before after result = Replaces addr bytes before after result
PutsRead read before after result = after ≡ before

-- the page of which a later try issues a read leaves
abbrev pub LeavesBy : ProxyStep → Option (Work × Errand) → List (Addr × Page)
    → List (Addr × Page) → Type 0
LeavesBy (steps.Issue tid mini) (Some (work, out.Mini t c (by.Page addr))) before after =
    (is_later work.failed ≡ true) × (after ≡ pages_without addr before)
LeavesBy step work before after = ⊥

-- where memory ran out in a later try, one that it was to read
abbrev pub LeavesFor : Bool → List (Addr × Page) → List (Addr × Page) → Type 0
LeavesFor later before after =
    (later ≡ true) × ((addr : Addr) × (after ≡ pages_without addr before))

abbrev pub TurnLeaves : Bool → Result Turn NoMemory → List (Addr × Page) → List (Addr × Page)
    → Type 0
TurnLeaves later (Ok (turns.Goes step work errand)) before after =
    LeavesBy step (Some (work, errand)) before after
TurnLeaves later (Ok (turns.Ends answer)) before after = ⊥
TurnLeaves later (Ok turns.Stops) before after = ⊥
TurnLeaves later (Err none) before after = LeavesFor later before after

-- what was read is put in, then some are used, and one may leave; in a later try or not
pub record CacheTurns (read : Option (Purpose × List ℕ)) (later : Bool)
    (before after : List (Addr × Page)) (result : Result Turn NoMemory) : Type 0 where
  pub put : List (Addr × Page)
  pub puts : PutsRead read before put result
  pub used : List (Addr × Page)
  pub are_used : AreUsed put used
  pub leaves : (after ≡ used) ⊎ TurnLeaves later result used after

-- The catalog

-- one that was read is kept, if the bytes spell one
abbrev pub KeepsRead : Option (Purpose × List ℕ) → Option (List CatEntry)
    → Option (List CatEntry) → Type 0
KeepsRead (Some (by.Catalog, bytes)) before after = TellsVersions bytes after
KeepsRead read before after = after ≡ before

-- a later try begins, with a read of the catalog
abbrev pub BeginsLater : ProxyStep → Option (Work × Errand) → Type 0
BeginsLater (steps.Issue tid mini) (Some (work, out.Mini t c by.Catalog)) =
    is_later work.failed ≡ true
BeginsLater step work = ⊥

-- there it is kept no more
abbrev pub CatalogTurns : Option (Purpose × List ℕ) → Option (List CatEntry)
    → Option (List CatEntry) → Turn → Type 0
CatalogTurns read before after (turns.Goes step work errand) =
    KeepsRead read before after ⊎ ((after ≡ None) × BeginsLater step (Some (work, errand)))
CatalogTurns read before after (turns.Ends answer) = KeepsRead read before after
CatalogTurns read before after turns.Stops = KeepsRead read before after

-- for want of memory the catalog that was read is kept, or none is; else the one that was
abbrev pub KeepsOrForgets : Option (Purpose × List ℕ) → Option (List CatEntry)
    → Option (List CatEntry) → Type 0
KeepsOrForgets (Some (by.Catalog, bytes)) before after = LearnsOrForgets bytes after
KeepsOrForgets read before after = after ≡ before

-- Steps

abbrev pub read_in : Option (Work × Errand) → Option (Purpose × List ℕ)
read_in None = None
read_in (Some (work, errand)) = read_by errand

abbrev pub is_later_in : Option (Work × Errand) → Bool
is_later_in None = false
is_later_in (Some (work, errand)) = is_later work.failed

abbrev pub StepLeaves : Bool → Result ProxyStep NoMemory → Option (Work × Errand)
    → List (Addr × Page) → List (Addr × Page) → Type 0
StepLeaves later (Ok step) work before after = LeavesBy step work before after
StepLeaves later (Err none) work before after = LeavesFor later before after

-- the page that was read is put into the cache, then some are used, and one may leave
pub record CacheGoes (p q : ProxyState) (result : Result ProxyStep NoMemory) : Type 0 where
  pub put : List (Addr × Page)
  pub puts : PutsRead (read_in p.work) p.known.cache put result
  pub used : List (Addr × Page)
  pub are_used : AreUsed put used
  pub leaves : (q.known.cache ≡ used)
      ⊎ StepLeaves (is_later_in p.work) result q.work used q.known.cache

-- so a step for which there was no memory leaves it
abbrev pub CatalogLeft : ProxyState → ProxyState → Type 0
CatalogLeft p q = KeepsOrForgets (read_in p.work) p.known.catalog q.known.catalog

-- the catalog that was read is kept, or the one that was; or a later try begins with none
abbrev pub CatalogGoes : ProxyState → ProxyState → ProxyStep → Type 0
CatalogGoes p q step =
    KeepsRead (read_in p.work) p.known.catalog q.known.catalog
    ⊎ ((q.known.catalog ≡ None) × BeginsLater step q.work)

-- Reads

-- the minitransaction is issued for this purpose, and has just begun
abbrev pub Issues : Work → Purpose → Mini → Turn → Type 0
Issues work purpose mini turn =
    (tid : Tid)
    × (turn ≡ turns.Goes (steps.Issue tid mini) work
    (out.Mini tid (new_coordination tid mini) purpose))

-- it goes on with this work
abbrev pub GoesWith : Work → Turn → Type 0
GoesWith work (turns.Goes step after errand) = after ≡ work
GoesWith work (turns.Ends answer) = ⊥
GoesWith work turns.Stops = ⊥

-- a place is read by this minitransaction; or, where it may be, by a Peek
abbrev pub Reads : Bool → Work → Purpose → Mini → Turn → Type 0
Reads false work purpose mini turn = Issues work purpose mini turn
Reads true work purpose mini turn = GoesWith work turn

-- Where there was no memory for what was read

-- what is kept of the place that was read for this purpose is forgotten
abbrev pub Forgets : Purpose → Known → Known → Type 0
Forgets by.Catalog old new =
    new ≡ record { nodes = old.nodes; catalog = None; cache = old.cache }
Forgets (by.Page addr) old new =
    (page_at addr new.cache ≡ None)
    × (new ≡ record {
      nodes = old.nodes;
      catalog = old.catalog;
      cache = pages_without addr old.cache;
    })
Forgets purpose old new = new ≡ old

-- Calls

-- the call that its coordinator wants is handed out, and all else stays
abbrev pub StepCalls : ProxyState → ProxyState → Work → Tid → Coordination → Purpose → NodeNo
    → Request → ProxyStep → Type 0
StepCalls before after work tid c purpose node request step =
    (step ≡ steps.Call node request)
    × (after ≡ with_work before work (out.Mini tid (after_step c (Send node request)) purpose))
