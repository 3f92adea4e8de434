-- What was shown last is so still, through an entry that gives nothing and through what a try uses of
-- the cache; and it is so anew of what a read brought.
use Rattle.std.proofs.Common.{◌≡◌, ◌⊎◌, inl, inr, ℕ, ◌+◌, ◌≤◌, ◌<◌, Bool, true, false, List, [], ◌∷◌, ◌++◌, length, take, Option, Some, None, Result, Vec, Global, refl, sym, ap, subst, ◌∙◌, arith}
use Rattle.std.specs.Prelude.{MatchOption, ⊤}
use Rattle.std.specs.List.{AllByRecursion, flat_map}
use Rattle.std.proofs.lemmas.Grind.{flat_map-append}
use Rattle.mn_base.specs.Store.{max_versions}
use Rattle.mn_base.specs.declared.error.NoMemory.{NoMemory}
use Rattle.mn_base.specs.declared.ids.Addr.{Addr}
use Rattle.mn_base.specs.declared.op.Op.{Op}
use Rattle.mn_base.specs.declared.op.Op.TheVariants.{Tx, Scan}
use Rattle.mn_base.specs.declared.ids.NodeNo.{NodeNo}
use Rattle.mn_page.specs.declared.entry.CatEntry.{CatEntry}
use Rattle.mn_page.specs.declared.page.Page.{Page}
use Rattle.mn_page.specs.Grammar.{page_bytes}
use Rattle.mn_page.proofs.Grid.{all_split}
use Rattle.mn_txn.specs.declared.seen.SeenPage.{SeenPage}
use Rattle.mn_base.proofs.Lists.{all_append}
use Rattle.mn_runs.specs.declared.entry.Entry.{Entry}
use Rattle.mn_runs.specs.Calls.{Call, call_in, calls_of}
use Rattle.mn_runs.specs.Seen.{Place, Seen}
use Rattle.mn_law.specs.Places.{catalog_place, entry_place, number_size, page_place}
use Rattle.mn_law.specs.Shown.{FirstGives, shown_by, shown_in}
use Rattle.mn_work.specs.declared.known.Known.{Known}
use Rattle.mn_work.specs.declared.next.Next.{Next}
use Rattle.mn_work.specs.declared.next.Taken.{Taken}
use Rattle.mn_work.specs.declared.work.Job.{Job}
use Rattle.mn_work.specs.declared.work.Job.TheVariants as at
use Rattle.mn_work.specs.declared.work.Started.{Started}
use Rattle.mn_work.specs.declared.work.Work.{Work}
use Rattle.mn_work.specs.Attempts as attempts
use Rattle.mn_work.specs.Cached.{Walks, without_next}
use Rattle.mn_work.specs.Catalogs.{TellsVersions}
use Rattle.mn_work.specs.Children as children
use Rattle.mn_work.specs.Knows.{LearnsOrForgets}
use Rattle.mn_work.specs.Last.{AreReadAs, CacheIsLast, CatalogIsLast, IsLast, PageIsLast, PagesAreLast, bytes_at}
use Rattle.mn_work.specs.Works.{AsksPageFor, GoesOnFrom, IsReadAs, IsStartable, JobCounts, JobIsLast, JobTakes, StartsBy, TakesCatalog}
use Rattle.mn_work.proofs.Last.{used_last, without_last}
use Rattle.mn_work.proofs.Lasting.{cache_by_count, cache_last, cache_stays, catalog_by_count, catalog_is_last, catalog_stays, is_last, page_is_last, pages_by_count, pages_stay}
use Rattle.mn_work.proofs.Works.{starts_last}
use Rattle.mn_proxy.specs.declared.errand.Purpose.{Purpose}
use Rattle.mn_proxy.specs.declared.errand.Purpose.TheVariants as by
use Rattle.mn_proxy.specs.Agrees.{HasRead, IsPeekOf, IsPlaceFor, IsReadOf, KeptIsLast, MayPeekFor}
use Rattle.mn_proxy.specs.Kept.{PutsRead}
use Rattle.mn_proxy.specs.Turns.{CameOf, Leaves, WaitsFor}
use Rattle.mn_proxy.proofs.CatalogsShow.{sees_catalog}
use Rattle.mn_proxy.proofs.Issues.{own_calls_none}

-- What an entry gives

abbrev pub shown_at : Entry → List Seen
shown_at e = flat_map (λ c. shown_by c.node c.request c.reply) (call_in e.node e.what)

shown_in-cons : (e : Entry) (es : List Entry) → shown_in (e ∷ es) ≡ shown_at e ++ shown_in es
shown_in-cons e es =
    flat_map-append (λ (c : Call). shown_by c.node c.request c.reply) (call_in e.node e.what) (calls_of es)

pub shown_still : (e : Entry) (es : List Entry) → shown_at e ≡ [] → shown_in (e ∷ es) ≡ shown_in es
shown_still e es none = shown_in-cons e es ∙ ap (λ (l : List Seen). l ++ shown_in es) none

-- an own entry gives nothing
pub own_gives_none : (e : Entry) → e.node ≡ None → shown_at e ≡ []
own_gives_none e own = ap (flat_map (λ (c : Call). shown_by c.node c.request c.reply)) (own_calls_none e own)

-- Lists that give the same

-- the same by what a list gives
abbrev IsLastOf : List Seen → Place → List ℕ → Type 0
IsLastOf seens place bytes = FirstGives seens place (take number_size bytes) bytes

abbrev KeptBy : List Seen → Known → Type 0
KeptBy seens known =
    AllByRecursion (λ h. IsLastOf seens (page_place h.0) (page_bytes h.1)) known.cache
    × MatchOption known.catalog ⊤
    (λ entries. (n : NodeNo) (v : ℕ) → v < max_versions → IsLastOf seens (entry_place n v) (bytes_at entries v))

abbrev PagesBy : List Seen → List SeenPage → Type 0
PagesBy seens pages = AllByRecursion (λ p. IsLastOf seens (page_place p.addr) p.bytes) pages

abbrev RootBy : List Seen → Addr → Option Page → Type 0
RootBy seens addr page = MatchOption page ⊤ (λ p. IsLastOf seens (page_place addr) (page_bytes p))

module _ (older newer : List Entry) (same : shown_in newer ≡ shown_in older) where
  pub kept_same : (known : Known) → KeptIsLast older known → KeptIsLast newer known
  kept_same known last = subst (λ (l : List Seen). KeptBy l known) (sym same) last

  pub job_same : (job : Job) → JobIsLast older job → JobIsLast newer job
  job_same at.Start last = tt
  job_same (at.Get d) last = tt
  job_same (at.Transaction a) last = subst (λ (l : List Seen). PagesBy l a.pages.items) (sym same) last
  job_same (at.Child c) last = subst (λ (l : List Seen). RootBy l c.root c.page) (sym same) last
  job_same (at.Scan s) last = tt

-- an entry that gives nothing
pub kept_still_last : (e : Entry) (es : List Entry) (known : Known) → shown_at e ≡ [] → KeptIsLast es known
    → KeptIsLast (e ∷ es) known
kept_still_last e es known none last = kept_same es (e ∷ es) (shown_still e es none) known last

-- What a try uses

-- of the cached pages some are used, and one may leave
pub walks_last : (es : List Entry) (later : Bool) (next : Option Next) (before after : List (Addr × Page))
    → Walks later next before after → CacheIsLast es before → CacheIsLast es after
walks_last es later next before after walks last = by walks.leaves
  where
    used : CacheIsLast es walks.used
    used = used_last es before walks.used walks.are_used last

    gone : (n : Option Next) → CacheIsLast es (without_next n walks.used)
    gone (Some (Next.Page addr false)) = without_last es addr walks.used used
    gone (Some (Next.Page addr true)) = used
    gone (Some Next.Catalog) = used
    gone (Some (Next.Count node peek)) = used
    gone (Some (Next.Plan mini reply)) = used
    gone (Some (Next.Fails cause)) = used
    gone (Some (Next.Answers answer)) = used
    gone None = used

    by : (after ≡ walks.used) ⊎ ((later ≡ true) × (after ≡ without_next next walks.used)) → CacheIsLast es after
    by (inl is) = subst (CacheIsLast es) (sym is) used
    by (inr (late, is)) = subst (CacheIsLast es) (sym is) (gone next)

pub kept_walks : (es : List Entry) (old new : Known) (later : Bool) (next : Option Next) → new.catalog ≡ old.catalog
    → Walks later next old.cache new.cache → KeptIsLast es old → KeptIsLast es new
kept_walks es old new later next same walks last = (
  walks_last es later next old.cache new.cache walks last.0,
  subst (λ (c : Option (List CatEntry)). MatchOption c ⊤ (CatalogIsLast es)) (sym same) last.1,
)

-- What was read

-- what a job goes by where its try begins
begun_last : (es : List Entry) (known : Known) (before after : Work) → IsStartable before.op before.job
    → StartsBy known before after Started.On → JobIsLast es after.job
begun_last es known before after startable starts = from before.job refl startable
  where
    scans : (o : Option (List CatEntry)) (j : Job)
        → MatchOption o ⊥ (λ entries. GoesOnFrom entries before j after.job) → ((entries : List CatEntry) → GoesOnFrom entries before j after.job → JobIsLast es after.job)
        → JobIsLast es after.job
    scans None j told goes = absurd told
    scans (Some entries) j told goes = goes entries told

    from : (j : Job) → before.job ≡ j → IsStartable before.op j → JobIsLast es after.job
    from at.Start is can = starts_last es known before after is starts
    from (at.Scan s) is can =
        scans known.catalog (at.Scan s)
        (subst (λ (j : Job). MatchOption known.catalog ⊥ (λ entries. GoesOnFrom entries before j after.job)) is starts.1)
        (λ entries goes. subst (JobIsLast es) (sym goes.0) tt)
    from (at.Get d) is can = absurd can
    from (at.Transaction a) is can = absurd can
    from (at.Child c) is can = absurd can

module _ (es : List Entry) (old : Known) (before : Work) (purpose : Purpose) (bytes : List ℕ)
    (r : HasRead es old before purpose bytes) where
  abbrev seen : Seen
  seen = record { place = r.place; bytes = bytes }

  given : IsReadOf r.e r.place bytes ⊎ (IsPeekOf r.e r.place bytes × (before.failed ≡ 0) × MayPeekFor before.job purpose)
      → (shown_at r.e ≡ seen ∷ []) × (length bytes ≡ r.place.length)
  given (inl (tid, long, is)) = (ap (flat_map (λ (c : Call). shown_by c.node c.request c.reply)) is, long)
  given (inr (peeked, first, may)) = (ap (flat_map (λ (c : Call). shown_by c.node c.request c.reply)) peeked.1, peeked.0)

  long : length bytes ≡ r.place.length
  long = (given r.came).1

  one : shown_in es ≡ seen ∷ shown_in r.before
  one = ap (λ (l : List Entry). shown_in l) r.split
      ∙ (shown_in-cons r.e r.before ∙ ap (λ (l : List Seen). l ++ shown_in r.before) (given r.came).0)

  small : (job : Job) (place : Place) → IsPlaceFor job by.Count place → place.start + place.length ≤ 64
  small (at.Transaction a) place is = subst (λ (p : Place). p.start + p.length ≤ 64) (sym is) (omega arith)
  small (at.Child c) place is = subst (λ (p : Place). p.start + p.length ≤ 64) (sym is) (omega arith)
  small at.Start place is = absurd is
  small (at.Get d) place is = absurd is
  small (at.Scan s) place is = absurd is

  catalog_on : ((entries : List CatEntry) → CatalogIsLast r.before entries → CatalogIsLast es entries) → (c : Option (List CatEntry))
      → MatchOption c ⊤ (CatalogIsLast r.before) → MatchOption c ⊤ (CatalogIsLast es)
  catalog_on stays None last = tt
  catalog_on stays (Some entries) last = stays entries last

  -- what is kept then

  learnt : r.place ≡ catalog_place → (c : Option (List CatEntry)) → TellsVersions bytes c → MatchOption c ⊤ (CatalogIsLast es)
  learnt is None tells = tt
  learnt is (Some entries) tells =
      let sees = sees_catalog bytes entries tells in
      catalog_is_last r.before es seen one long is entries (is, sees.1, sees.2, sees.3)

  learns : r.place ≡ catalog_place → (c : Option (List CatEntry)) → LearnsOrForgets bytes c → MatchOption c ⊤ (CatalogIsLast es)
  learns is c (inl none) = subst (λ (o : Option (List CatEntry)). MatchOption o ⊤ (CatalogIsLast es)) (sym none) tt
  learns is c (inr tells) = learnt is c tells

  kept_for : {T : Type 0} (p : Purpose) (new : Known) (result : Result T NoMemory) → IsPlaceFor before.job p r.place → Leaves old new p bytes
      → PutsRead (Some (p, bytes)) old.cache new.cache result → KeptIsLast es new
  kept_for by.Catalog new result is leaves same = (
    subst (CacheIsLast es) (sym same) (cache_stays r.before es seen one long is old.cache r.open_before.last.0.0),
    learns is new.catalog leaves.1,
  )
  kept_for (by.Page addr) new result is leaves puts = (
    cache_last r.before es seen one long addr is bytes old.cache new.cache result refl puts r.open_before.last.0.0,
    subst (λ (c : Option (List CatEntry)). MatchOption c ⊤ (CatalogIsLast es)) (sym leaves.1)
        (catalog_on (catalog_stays r.before es seen one long addr is) old.catalog r.open_before.last.0.1),
  )
  kept_for by.Count new result is leaves same = (
    subst (CacheIsLast es) (sym same) (cache_by_count r.before es seen one long (small before.job r.place is) old.cache r.open_before.last.0.0),
    subst (λ (c : Option (List CatEntry)). MatchOption c ⊤ (CatalogIsLast es)) (sym leaves.1)
        (catalog_on (catalog_by_count r.before es seen one long (small before.job r.place is)) old.catalog r.open_before.last.0.1),
  )
  kept_for (by.Plan reply) new result is leaves same = absurd is

  pub kept_read : {T : Type 0} (new : Known) (result : Result T NoMemory) → Leaves old new purpose bytes
      → PutsRead (Some (purpose, bytes)) old.cache new.cache result → KeptIsLast es new
  kept_read new result leaves puts = kept_for purpose new result r.is leaves puts

  -- what the job goes by then

  -- the pages of a transaction, with the one that came in
  pages_read : (addr : Addr) (leaf : Bool) (a b : List SeenPage) → r.place ≡ page_place addr
      → b ≡ a ++ record { addr = addr; bytes = bytes; leaf = leaf } ∷ [] → AreReadAs addr bytes b → PagesAreLast r.before a
      → PagesAreLast es b
  pages_read addr leaf a b is joined as_read last =
      let page : SeenPage = record { addr = addr; bytes = bytes; leaf = leaf } in
      let parts = all_split (λ (p : SeenPage). p.addr ≡ addr → p.bytes ≡ bytes) a (page ∷ []) (subst (AreReadAs addr bytes) joined as_read) in
      subst (PagesAreLast es) (sym joined)
      (all_append (λ (p : SeenPage). IsLast es (page_place p.addr) p.bytes) a (page ∷ [])
      (pages_stay r.before es seen one long addr is a parts.0 last)
      (is_last r.before es seen one long (page_place addr) is, tt))

  -- a job that goes on
  catalog_goes : (new : Known) (after : Work) → IsStartable before.op before.job → TakesCatalog bytes before new after Taken.GoesOn
      → JobIsLast es after.job
  catalog_goes new after startable (inl bad) = let fails = bad.4 in absurd cc
  catalog_goes new after startable (inr read) = begun_last es new before after startable read.3.1

  page_goes : (addr : Addr) (later : Bool) (op : Op) (j k : Job) → r.place ≡ page_place addr → AsksPageFor old op j addr
      → JobTakes old later addr bytes op j k Taken.GoesOn → IsReadAs addr bytes k → JobIsLast r.before j → JobIsLast es k
  page_goes addr later (Tx name steps) (at.Get d) (at.Get f) is asks takes as_read last = tt
  page_goes addr later (Tx name steps) (at.Transaction a) (at.Transaction b) is asks takes as_read last =
      by_catalog old.catalog takes.takes
    where
      come : (entries : List CatEntry) → attempts.TakesBytes old.nodes entries later steps a addr bytes b Taken.GoesOn
          → PagesAreLast es b.pages.items
      come entries (inl none) = absurd none.2
      come entries (inr (page, spells, came, goes)) =
          pages_read addr _ a.pages.items b.pages.items is came as_read last

      by_catalog : (o : Option (List CatEntry))
          → MatchOption o ⊥ (λ entries. attempts.TakesBytes old.nodes entries later steps a addr bytes b Taken.GoesOn)
          → PagesAreLast es b.pages.items
      by_catalog None told = absurd told
      by_catalog (Some entries) told = come entries told
  page_goes addr later op (at.Child c) (at.Child d) is asks takes as_read last = root takes.takes
    where
      root : children.TakesRootBytes old.catalog c bytes d Taken.GoesOn → JobIsLast es (at.Child d)
      root (inl none) = let fails = none.1 in absurd cc
      root (inr (page, spells, goes)) =
          subst (λ (o : Option Page). MatchOption o ⊤ (PageIsLast es d.root)) (sym goes.1)
          (subst (λ (a : Addr). PageIsLast es a page) (sym (takes.keeps.1 ∙ asks.0))
          (page_is_last r.before es seen one long addr is page spells))
  page_goes addr later (Scan name low high limit) (at.Scan s) (at.Scan t) is asks takes as_read last = tt
  page_goes addr later op j k is asks takes as_read last = absurd takes

  root_by_count : (addr : Addr) (page : Option Page) → r.place.start + r.place.length ≤ 64 → MatchOption page ⊤ (PageIsLast r.before addr)
      → MatchOption page ⊤ (PageIsLast es addr)
  root_by_count addr None low last = tt
  root_by_count addr (Some page) low last = (cache_by_count r.before es seen one long low ((addr, page) ∷ []) (last, tt)).0

  count_goes : (j k : Job) (taken : Taken) → IsPlaceFor j by.Count r.place → JobCounts bytes j k taken → JobIsLast r.before j
      → JobIsLast es k
  count_goes (at.Transaction a) (at.Transaction b) taken is counts last =
      subst (λ (pages : Vec SeenPage Global). PagesAreLast es pages.items) (sym counts.1.2)
      (pages_by_count r.before es seen one long (small (at.Transaction a) r.place is) a.pages.items last)
  count_goes (at.Child c) (at.Child d) taken is counts last =
      subst (λ (page : Option Page). MatchOption page ⊤ (PageIsLast es d.root)) (sym counts.1.2)
      (subst (λ (addr : Addr). MatchOption c.page ⊤ (PageIsLast es addr)) (sym counts.1.1)
      (root_by_count c.root c.page (small (at.Child c) r.place is) last))
  count_goes j k taken is counts last = absurd counts

  job_for : (p : Purpose) (new : Known) (after : Work) → IsPlaceFor before.job p r.place → WaitsFor old before p
      → CameOf old new before after p bytes Taken.GoesOn → JobIsLast es after.job
  job_for by.Catalog new after is waits came = catalog_goes new after waits.1.0 came.2
  job_for (by.Page addr) new after is waits came =
      page_goes addr _ before.op before.job after.job is waits.1.0 came.2.1 (came.3 refl) r.open_before.last.1
  job_for by.Count new after is waits came = count_goes before.job after.job Taken.GoesOn is came.2.1 r.open_before.last.1
  job_for (by.Plan reply) new after is waits came = absurd came

  pub job_read : (new : Known) (after : Work) → WaitsFor old before purpose
      → CameOf old new before after purpose bytes Taken.GoesOn → JobIsLast es after.job
  job_read new after waits came = job_for purpose new after r.is waits came

-- only a scan takes a leaf
page_leaf : (es : List Entry) (old : Known) (bytes : List ℕ) (addr : Addr) (later : Bool) (op : Op) (j k : Job)
    → JobTakes old later addr bytes op j k Taken.Leaf → JobIsLast es k
page_leaf es old bytes addr later (Tx name steps) (at.Get d) (at.Get f) takes = tt
page_leaf es old bytes addr later (Tx name steps) (at.Transaction a) (at.Transaction b) takes = absurd (none old.catalog takes.takes)
  where
    none : (o : Option (List CatEntry))
        → MatchOption o ⊥ (λ entries. attempts.TakesBytes old.nodes entries later steps a addr bytes b Taken.Leaf) → ⊥
    none None told = told
    none (Some entries) (inl spelled) = spelled.2
    none (Some entries) (inr spelled) = spelled.3
page_leaf es old bytes addr later op (at.Child c) (at.Child d) takes = absurd (none takes.takes)
  where
    none : children.TakesRootBytes old.catalog c bytes d Taken.Leaf → ⊥
    none (inl spelled) = let fails = spelled.1 in absurd cc
    none (inr spelled) = spelled.2
page_leaf es old bytes addr later (Scan name low high limit) (at.Scan s) (at.Scan t) takes = tt
page_leaf es old bytes addr later op j k takes = absurd takes

pub leaf_read : (es : List Entry) (old new : Known) (before after : Work) (purpose : Purpose) (bytes : List ℕ)
    → CameOf old new before after purpose bytes Taken.Leaf → JobIsLast es after.job
leaf_read es old new before after by.Catalog bytes came = absurd (no_leaf came.2)
  where
    no_leaf : TakesCatalog bytes before new after Taken.Leaf → ⊥
    no_leaf (inl bad) = let fails = bad.4 in absurd cc
    no_leaf (inr read) = read.3
leaf_read es old new before after (by.Page addr) bytes came =
    page_leaf es old bytes addr _ before.op before.job after.job came.2.1
leaf_read es old new before after by.Count bytes came = absurd (no_leaf before.job after.job came.2.1)
  where
    no_leaf : (j k : Job) → JobCounts bytes j k Taken.Leaf → ⊥
    no_leaf (at.Transaction a) (at.Transaction b) counts = counts.0
    no_leaf (at.Child c) (at.Child d) counts = counts.0
    no_leaf j k counts = counts
leaf_read es old new before after (by.Plan reply) bytes came = absurd came
