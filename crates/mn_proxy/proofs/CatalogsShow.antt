-- What the catalog that a try reads shows, by its client's own list.
use Rattle.std.proofs.Common.{◌≢◌, ◌≡◌, inl, inr, ℕ, zero, suc, Bool, true, false, List, [], ◌∷◌, ◌++◌}
use Rattle.std.proofs.Common.{Option, Some, None, refl, subst, sym, ap, ◌∙◌, arith, Contains, slice_get, if◌then◌else◌}
use Rattle.std.specs.Prelude.{MatchOption, ⊤, take, nat_eq, ◌&&◌, unwrap_or}
use Rattle.std.specs.List.{AllByRecursion, list_any}
use Rattle.std.proofs.lemmas.List.{append_assoc}
use Rattle.std.proofs.lemmas.List.Elements.{All-from_recursion, recursion_from_All}
use Rattle.mn_base.specs.Store.{Head, head_named, refusal, refusal_at}
use Rattle.mn_base.specs.Tree.{parents_of}
use Rattle.mn_base.specs.declared.ids.Addr.{Addr}
use Rattle.mn_base.specs.declared.ids.Tid.{Tid}
use Rattle.mn_base.specs.declared.ids.VersionNo.{VersionNo}
use Rattle.mn_base.specs.declared.answer.Busy.{Busy}
use Rattle.mn_base.specs.declared.answer.Busy.TheVariants.{Path}
use Rattle.mn_base.specs.declared.op.Op.{Op}
use Rattle.mn_base.specs.declared.op.Op.TheVariants.{Tx, Snapshot, Branch, Scan, Versions}
use Rattle.mn_base.specs.declared.op.Step.{Step}
use Rattle.mn_base.specs.declared.reply.Pair.{Pair}
use Rattle.mn_base.specs.declared.reply.Reply.{Reply}
use Rattle.mn_base.specs.declared.reply.Reply.TheVariants.{NotFrozen}
use Rattle.mn_base.proofs.Lists.{all_append}
use Rattle.mn_mini.specs.declared.part.PartItem.TheVariants as Bare
use Rattle.mn_mini.specs.declared.reply.NodeReply.{NodeReply}
use Rattle.mn_mini.specs.declared.request.Request.TheVariants as Ask
use Rattle.mn_page.specs.declared.entry.CatEntry.{CatEntry}
use Rattle.mn_page.specs.declared.page.Page.{Page}
use Rattle.mn_page.specs.Forest.{heads_in}
use Rattle.mn_page.specs.Grammar.{IsEntry}
use Rattle.mn_page.specs.Space.{catalog_size, catalog_start}
use Rattle.mn_scan.specs.Scan.{ScanState, key_at, new_scan}
use Rattle.mn_runs.specs.declared.entry.Entry.{Entry}
use Rattle.mn_law.specs.Answers.{IsKeyOf, MayBeKept, MeetsFault, Reached, ReachesAddr, asks_catalog, asks_for_catalog}
use Rattle.mn_law.specs.Answers.Reached.{by_root}
use Rattle.mn_runs.specs.Calls.{Call, call_in, calls_of}
use Rattle.mn_law.specs.Places.{catalog_place}
use Rattle.mn_law.specs.Shown.{CatalogReplies, CatalogShows, IsCatalogRead, SeesCatalog, ShowsCatalog}
use Rattle.mn_runs.specs.Seen.{Seen, seen_at, seen_in}
use Rattle.mn_law.proofs.Gathered.{gathered_stays}
use Rattle.mn_law.proofs.Sees.{seen_in-cons}
use Rattle.mn_work.specs.declared.attempt.Attempt.{Attempt}
use Rattle.mn_work.specs.declared.child.Child.{Child}
use Rattle.mn_work.specs.declared.known.Known.{Known}
use Rattle.mn_work.specs.declared.next.Taken.{Taken}
use Rattle.mn_work.specs.declared.work.Job.{Job}
use Rattle.mn_work.specs.declared.work.Job.TheVariants as at
use Rattle.mn_work.specs.declared.work.Started.{Started}
use Rattle.mn_work.specs.declared.work.Work.{Work}
use Rattle.mn_work.specs.Among.{AreBrought}
use Rattle.mn_work.specs.Attempts as attempts
use Rattle.mn_work.specs.Children as children
use Rattle.mn_work.specs.Catalogs.{HasParentsBelow, SpellsVersions}
use Rattle.mn_proxy.specs.Jobs.{AreCounted, HasScanned, IsBrought, IsOfTry, JobShows, ReadsShow, ScanShown, StandsAt}
use Rattle.mn_proxy.specs.Tries.{HasAsked, Origin}
use Rattle.mn_work.specs.Walks.{Admits, IfLater, WalkComesTo}
use Rattle.mn_work.specs.Works.{BeginsBy, BeginsOn, BeginsSteps, GoesOnFrom, IsJobIn, IsJobOf, IsNewChild, IsScan, IsStartable, KeepsOp}
use Rattle.mn_work.specs.Works.{StartsOn, TakesCatalog, catalog_addr, lone_key, retried, retried_job}
use Rattle.mn_proxy.proofs.ScansShow.{scan_elsewhere}
use Rattle.mn_work.proofs.Works.{admits_as, begins_steps, retry_starts}

-- Catalogs

-- a read of the catalog's place
abbrev pub catalog_seen : List ℕ → Seen
catalog_seen bytes = record { place = catalog_place; bytes = bytes }

-- bytes that spell a catalog are a read of it
pub sees_catalog : (bytes : List ℕ) (entries : List CatEntry) → SpellsVersions bytes entries
    → SeesCatalog (catalog_seen bytes) entries
sees_catalog bytes entries s = (refl, s.0.0.0, recursion_from_All IsEntry entries s.0.0.1, s.0.1)

spells_versions : (bytes : List ℕ) (entries : List CatEntry) → SeesCatalog (catalog_seen bytes) entries
    → HasParentsBelow entries → SpellsVersions bytes entries
spells_versions bytes entries s below =
    (((s.1, All-from_recursion IsEntry entries s.2), s.3), below)

-- a Scan is admitted of a frozen version alone
frozen_scan : (heads : List Head) (name : List ℕ) (low high : Option (List ℕ)) (limit : ℕ)
    → refusal heads (Scan name low high limit) ≡ None
    → (head : Head) × (head_named heads name ≡ Some head) × (head.frozen ≡ true)
frozen_scan heads name low high limit admitted = by (head_named heads name) refl admitted
  where
    by_frozen : (h : Head) (t : Bool) → head_named heads name ≡ Some h → h.frozen ≡ t
        → (if t then None else Some NotFrozen) ≡ None
        → (head : Head) × (head_named heads name ≡ Some head) × (head.frozen ≡ true)
    by_frozen h true is frozen e = (h, is, frozen)
    by_frozen h false is frozen e = absurd cc

    by : (o : Option Head) → head_named heads name ≡ o
        → refusal_at heads (Scan name low high limit) o ≡ None
        → (head : Head) × (head_named heads name ≡ Some head) × (head.frozen ≡ true)
    by None is e = absurd cc
    by (Some h) is e = by_frozen h h.frozen is refl e

-- Lists

to_left : {X : Type 0} (ws xs ys zs : List X) → ws ++ (xs ++ ys ++ zs) ≡ ws ++ xs ++ ys ++ zs
to_left ws xs ys zs =
    sym (append_assoc ws (xs ++ ys) zs) ∙ ap (λ l. l ++ zs) (sym (append_assoc ws xs ys))

none_taken : (n : ℕ) (ps : List Pair) → ps ≡ [] → ps ≡ take n ps
none_taken zero [] e = refl
none_taken (suc n) [] e = refl
none_taken n (p ∷ ps) e = absurd cc

-- A scan under way

-- one more entry takes nothing from what a scan has
pub scanned_on : (e : Entry) (now : List Entry) (name : List ℕ) (s : ScanState) → HasScanned now name s
    → HasScanned (e ∷ now) name s
scanned_on e now name s h = record {
  catalog = h.catalog;
  later = seen_at e ++ h.later;
  entries = h.entries;
  head = h.head;
  leaves = h.leaves;
  first = record {
    earlier = h.first.earlier;
    split = seen_in-cons e now ∙ ap (λ l. seen_at e ++ l) h.first.split
        ∙ to_left (seen_at e) h.later (h.catalog ∷ []) h.first.earlier;
    catalog = h.first.catalog;
    none_before = h.first.none_before;
  };
  sees = h.sees;
  named = h.named;
  head_is = h.head_is;
  frozen = h.frozen;
  parents = h.parents;
  gathered = gathered_stays h.entries h.later (seen_at e) name s.low s.high s.limit h.leaves s.pairs h.gathered;
  stands = h.stands;
  ends = h.ends;
}

-- an entry that reads no catalog leaves what a scan has shown
pub scan_stays : (e : Entry) (now : List Entry) (spoiled : Bool) (op : Op) (job : Job)
    → AllByRecursion (λ seen. IsCatalogRead seen → ⊥) (seen_at e) → ScanShown now spoiled op job
    → ScanShown (e ∷ now) spoiled op job
scan_stays e now spoiled (Scan name low high limit) (at.Scan s) none shown =
    (scanned_on e now name s shown.0, shown.1, shown.2, shown.3)
scan_stays e now spoiled (Scan name low high limit) at.Start none shown = λ whole.
    subst (AllByRecursion (λ seen. IsCatalogRead seen → ⊥)) (sym (seen_in-cons e now))
    (all_append (λ seen. IsCatalogRead seen → ⊥) (seen_at e) (seen_in now) none (shown whole))
scan_stays e now spoiled op job none shown = tt

-- so does one that reads nothing
pub scan_stays_quiet : (e : Entry) (now : List Entry) (spoiled : Bool) (op : Op) (job : Job)
    → seen_at e ≡ [] → ScanShown now spoiled op job → ScanShown (e ∷ now) spoiled op job
scan_stays_quiet e now spoiled op job quiet shown =
    scan_stays e now spoiled op job (subst (AllByRecursion (λ seen. IsCatalogRead seen → ⊥)) (sym quiet) tt) shown

-- The entry that read the catalog

module _ (bytes : List ℕ) (e : Entry) (is : seen_at e ≡ catalog_seen bytes ∷ []) where
  newest_seen : (es : List Entry) → seen_in (e ∷ es) ≡ catalog_seen bytes ∷ seen_in es
  newest_seen es = seen_in-cons e es ∙ ap (λ l. l ++ seen_in es) is

  -- the list has the read
  pub is_brought : (es : List Entry) → Contains (seen_in (e ∷ es)) (catalog_seen bytes)
  is_brought es =
      subst (λ (l : List Seen). Contains l (catalog_seen bytes)) (sym (newest_seen es)) (0, omega arith, refl)

  module _ (entries : List CatEntry) (spells : SpellsVersions bytes entries) where
    -- the list shows the catalog
    pub shows_catalog : (es : List Entry) → ShowsCatalog (e ∷ es) entries
    shows_catalog es = (catalog_seen bytes, is_brought es, sees_catalog bytes entries spells)

    -- it is one of the try
    pub is_of_try : (failed : ℕ) (tail : List Entry) → IsOfTry failed (seen_in (e ∷ tail)) entries
    is_of_try zero tail = tt
    is_of_try (suc n) tail = shows_catalog tail

    -- it gives the root, from which any key leads
    pub comes_to_root : (failed : ℕ) (tail : List Entry) (op : Op) (version : VersionNo) (root : Addr)
        (key : List ℕ) → Admits entries op version root
        → WalkComesTo failed (seen_in (e ∷ tail)) op entries key root None
    comes_to_root failed tail op version root key a = (tt, by failed)
      where
        by : (n : ℕ) → IfLater n (ReachesAddr (seen_in (e ∷ tail)) op entries key root None)
        by zero = tt
        by (suc n) = (
          catalog_seen bytes,
          is_brought tail,
          sees_catalog bytes entries spells,
          subst (λ (r : Addr). Reached (seen_in (e ∷ tail)) op key r None) a.root_is
              (by_root (catalog_seen bytes) entries version.0 a.entry (is_brought tail) (sees_catalog bytes entries spells) a.named a.there),
        )

    -- Its first scan

    -- a scan that begins by it, where no catalog was read before
    new_scanned : (older : List Entry) (name : List ℕ) (low high : Option (List ℕ)) (limit : ℕ) (version : VersionNo)
        (root : Addr) → Admits entries (Scan name low high limit) version root
        → AllByRecursion (λ seen. IsCatalogRead seen → ⊥) (seen_in older)
        → HasScanned (e ∷ older) name (new_scan (parents_of (heads_in entries)) version root low high limit)
    new_scanned older name low high limit version root a none =
        let f = frozen_scan (heads_in entries) name low high limit a.admitted in
        record {
          catalog = catalog_seen bytes;
          later = [];
          entries = entries;
          head = f.0;
          leaves = [];
          first = record {
            earlier = seen_in older;
            split = newest_seen older;
            catalog = refl;
            none_before = none;
          };
          sees = sees_catalog bytes entries spells;
          named = a.named;
          head_is = f.1;
          frozen = f.2;
          parents = refl;
          gathered = record { read = tt; in_turn = tt; pairs_are = none_taken limit [] refl };
          stands = (refl, refl);
          ends = λ ended. absurd cc;
        }

    begin_scan : (older : List Entry) (op : Op) (spoiled : Bool) (version : VersionNo) (root : Addr) (job : Job)
        → Admits entries op version root → BeginsOn entries op spoiled version root job
        → ScanShown older spoiled op at.Start → ScanShown (e ∷ older) spoiled op job
    begin_scan older (Scan name low high limit) spoiled version root job a b shown =
        subst (ScanShown (e ∷ older) spoiled (Scan name low high limit)) (sym b.1)
        (new_scanned older name low high limit version root a (shown b.0), refl, refl, refl)
    begin_scan older (Tx name steps) spoiled version root job a b shown = tt
    begin_scan older (Snapshot name child) spoiled version root job a b shown = tt
    begin_scan older (Branch name child) spoiled version root job a b shown = tt
    begin_scan older Versions spoiled version root job a b shown = tt

    -- What its job has read

    none_brought : (failed : ℕ) (seens : List Seen) (a : Attempt) → a.pages.items ≡ []
        → IfLater failed (AreBrought seens a.pages.items)
    none_brought zero seens a none = tt
    none_brought (suc n) seens a none = subst (AreBrought seens) (sym none) tt

    none_counted : (failed : ℕ) (seens : List Seen) (counts : List ℕ) → counts ≡ [] → AreCounted failed seens counts
    none_counted zero seens counts none = tt
    none_counted (suc m) seens counts none =
        λ n count there. absurd (no_count counts n.0 count none there)
      where
        no_count : (cs : List ℕ) (i count : ℕ) → cs ≡ [] → slice_get cs i ≡ Some count → ⊥
        no_count [] i count e there = cc
        no_count (c ∷ cs) i count e there = cc

    child_shows : (failed : ℕ) (tail : List Entry) (op : Op) (version : VersionNo) (root : Addr) (c : Child)
        → IsNewChild version root c → ReadsShow failed (seen_in (e ∷ tail)) op entries (at.Child c)
    child_shows failed tail op version root c new = (
      is_of_try failed tail,
      subst (λ (o : Option Page). MatchOption o ⊤ (IsBrought failed (seen_in (e ∷ tail)) c.root)) (sym new.page) tt,
      none_counted failed (seen_in (e ∷ tail)) c.counts.items new.counts,
    )

    begins_shows : (failed : ℕ) (tail : List Entry) (op : Op) (spoiled : Bool) (version : VersionNo) (root : Addr) (job : Job)
        → Admits entries op version root → BeginsOn entries op spoiled version root job
        → ReadsShow failed (seen_in (e ∷ tail)) op entries job
    begins_shows failed tail (Tx name steps) spoiled version root job a b = by (lone_key steps) refl b
      where
        by : (o : Option (List ℕ)) → lone_key steps ≡ o
            → MatchOption o ((x : Attempt) × (job ≡ at.Transaction x) × attempts.IsBegun (parents_of (heads_in entries)) version root x) (λ key. job ≡ at.Get (record { version = version; addr = root; above = None }))
            → ReadsShow failed (seen_in (e ∷ tail)) (Tx name steps) entries job
        by None key b =
            subst (ReadsShow failed (seen_in (e ∷ tail)) (Tx name steps) entries) (sym b.1) (
              is_of_try failed tail,
              none_brought failed (seen_in (e ∷ tail)) b.0 b.2.pages,
              none_counted failed (seen_in (e ∷ tail)) b.0.counts.items b.2.counts,
              admits_as entries (Tx name steps) version root b.0.version b.0.root b.2.version_is b.2.root_is a,
            )
        by (Some k) key b =
            subst (ReadsShow failed (seen_in (e ∷ tail)) (Tx name steps) entries) (sym b) (
              is_of_try failed tail,
              subst (λ (o : Option (List ℕ)). MatchOption o ⊥ (λ key. ((r : Addr) × Admits entries (Tx name steps) version r) × WalkComesTo failed (seen_in (e ∷ tail)) (Tx name steps) entries key root None)) (sym key)
                  ((root, a), comes_to_root failed tail (Tx name steps) version root k a),
            )
    begins_shows failed tail (Snapshot name child) spoiled version root job a b =
        subst (ReadsShow failed (seen_in (e ∷ tail)) (Snapshot name child) entries) (sym b.1)
        (child_shows failed tail (Snapshot name child) version root b.0 b.2)
    begins_shows failed tail (Branch name child) spoiled version root job a b =
        subst (ReadsShow failed (seen_in (e ∷ tail)) (Branch name child) entries) (sym b.1)
        (child_shows failed tail (Branch name child) version root b.0 b.2)
    begins_shows failed tail (Scan name low high limit) spoiled version root job a b =
        subst (ReadsShow failed (seen_in (e ∷ tail)) (Scan name low high limit) entries) (sym b.1)
        (is_of_try failed tail, comes_to_root failed tail (Scan name low high limit) version root _ a)
    begins_shows failed tail Versions spoiled version root job a b = absurd b

    -- a scan that goes on, from its root
    again_shows : (failed : ℕ) (tail : List Entry) (op : Op) (version : VersionNo) (s : ScanState) (job : Job)
        → IsStartable op (at.Scan s) → job ≡ at.Scan s → Admits entries op version s.root
        → ReadsShow failed (seen_in (e ∷ tail)) op entries job
    again_shows failed tail (Scan name low high limit) version s job starts same a =
        subst (ReadsShow failed (seen_in (e ∷ tail)) (Scan name low high limit) entries) (sym same) (
          is_of_try failed tail,
          subst (λ (above : Option ℕ). WalkComesTo failed (seen_in (e ∷ tail)) (Scan name low high limit) entries (key_at s) s.needed above) (sym starts.1)
              (subst (λ (at : Addr). WalkComesTo failed (seen_in (e ∷ tail)) (Scan name low high limit) entries (key_at s) at None) (sym starts.0)
              (comes_to_root failed tail (Scan name low high limit) version s.root (key_at s) a)),
        )
    again_shows failed tail (Tx name steps) version s job starts same a = absurd starts
    again_shows failed tail (Snapshot name child) version s job starts same a = absurd starts
    again_shows failed tail (Branch name child) version s job starts same a = absurd starts
    again_shows failed tail Versions version s job starts same a = absurd starts

    scan_again : (older : List Entry) (spoiled : Bool) (op : Op) (s : ScanState) (job : Job) → job ≡ at.Scan s
        → ScanShown older spoiled op (at.Scan s) → ScanShown (e ∷ older) spoiled op job
    scan_again older spoiled (Scan name low high limit) s job same shown =
        subst (ScanShown (e ∷ older) spoiled (Scan name low high limit)) (sym same)
        (scanned_on e older name s shown.0, shown.1, shown.2, shown.3)
    scan_again older spoiled (Tx name steps) s job same shown = tt
    scan_again older spoiled (Snapshot name child) s job same shown = tt
    scan_again older spoiled (Branch name child) s job same shown = tt
    scan_again older spoiled Versions s job same shown = tt

    -- how it goes on by the catalog
    goes_shows : (failed : ℕ) (older tail : List Entry) (w : Work) (before job : Job) → IsStartable w.op before
        → GoesOnFrom entries w before job → ScanShown older w.spoiled w.op before
        → ScanShown (e ∷ older) w.spoiled w.op job × ReadsShow failed (seen_in (e ∷ tail)) w.op entries job
    goes_shows failed older tail w at.Start job starts on shown = (
      begin_scan older w.op w.spoiled on.0 on.1 job on.2 on.3 shown,
      begins_shows failed tail w.op w.spoiled on.0 on.1 job on.2 on.3,
    )
    goes_shows failed older tail w (at.Scan s) job starts on shown = (
      scan_again older w.spoiled w.op s job on.0 shown,
      again_shows failed tail w.op on.1.0 s job starts on.0 on.1.1,
    )
    goes_shows failed older tail w (at.Get d) job starts on shown = absurd starts
    goes_shows failed older tail w (at.Transaction a) job starts on shown = absurd starts
    goes_shows failed older tail w (at.Child c) job starts on shown = absurd starts

-- What came of it

-- a job that has begun stands where its operation does
abbrev pub Began : Op → List Entry → Job → Type 0
Began op taken job = StandsAt op taken job × (job ≢ at.Start)

begins_stands : (entries : List CatEntry) (op : Op) (spoiled : Bool) (version : VersionNo) (root : Addr)
    (job : Job) (taken : List Entry) → taken ≡ [] → BeginsOn entries op spoiled version root job
    → Began op taken job
begins_stands entries (Tx name steps) spoiled version root job taken none begins = by (lone_key steps) begins
  where
    by : (o : Option (List ℕ))
        → MatchOption o (BeginsSteps entries version root job) (λ key. job ≡ at.Get (record { version = version; addr = root; above = None }))
        → Began (Tx name steps) taken job
    by None b = subst (Began (Tx name steps) taken) (sym b.1) (none, λ e. absurd cc)
    by (Some key) b = subst (Began (Tx name steps) taken) (sym b) (none, λ e. absurd cc)
begins_stands entries (Snapshot name child) spoiled version root job taken none begins =
    subst (Began (Snapshot name child) taken) (sym begins.1) (none, λ e. absurd cc)
begins_stands entries (Branch name child) spoiled version root job taken none begins =
    subst (Began (Branch name child) taken) (sym begins.1) (none, λ e. absurd cc)
begins_stands entries (Scan name low high limit) spoiled version root job taken none begins =
    subst (Began (Scan name low high limit) taken) (sym begins.1)
    (λ goes. subst (λ (l : List Entry). IsKeyOf (Scan name low high limit) l (unwrap_or low [])) (sym none) refl, λ e. absurd cc)
begins_stands entries Versions spoiled version root job taken none begins = absurd begins

pub goes_stands : (entries : List CatEntry) (w : Work) (before job : Job) (taken : List Entry)
    → IsStartable w.op before → GoesOnFrom entries w before job → StandsAt w.op taken before
    → Began w.op taken job
goes_stands entries w at.Start job taken starts on stands =
    begins_stands entries w.op w.spoiled on.0 on.1 job taken stands on.3
goes_stands entries w (at.Scan s) job taken starts on stands =
    subst (Began w.op taken) (sym on.0) (stands, λ e. absurd cc)
goes_stands entries w (at.Get d) job taken starts on stands = absurd starts
goes_stands entries w (at.Transaction a) job taken starts on stands = absurd starts
goes_stands entries w (at.Child c) job taken starts on stands = absurd starts

of_some : (o : Option (List CatEntry)) (P : List CatEntry → Type 0) (entries : List CatEntry) → o ≡ Some entries
    → MatchOption o ⊥ P → P entries
of_some o P entries is told = subst (λ (x : Option (List CatEntry)). MatchOption x ⊥ P) is told

module _ (bytes : List ℕ) (e : Entry) (is : seen_at e ≡ catalog_seen bytes ∷ []) (known : Known)
    (before after : Work) (older tail : List Entry) where
  -- the try goes on: its job shows the catalog alone
  pub goes_on_shows : IsStartable before.op before.job → KeepsOp before after
      → TakesCatalog bytes before known after Taken.GoesOn
      → ScanShown older before.spoiled before.op before.job → JobShows known (e ∷ older) (e ∷ tail) after
  goes_on_shows starts op (inl bad) shown = let clash = bad.4 in absurd cc
  goes_on_shows starts op (inr (entries, spells, kept, (admitted, begins))) shown =
      let on = of_some known.catalog (λ es. StartsOn es before after Started.On) entries kept begins.1 in
      let both = goes_shows bytes e is entries spells after.failed older tail before before.job after.job starts on shown in (
        subst (λ (o : Op). ScanShown (e ∷ older) after.spoiled o after.job) (sym op.0)
            (subst (λ (b : Bool). ScanShown (e ∷ older) b before.op after.job) (sym begins.0) both.0),
        subst (λ (o : Option (List CatEntry)). MatchOption o (IsStartable after.op after.job) (λ es. ReadsShow after.failed (seen_in (e ∷ tail)) after.op es after.job)) (sym kept)
            (subst (λ (o : Op). ReadsShow after.failed (seen_in (e ∷ tail)) o entries after.job) (sym op.0) both.1),
      )

  -- and it has begun, by what is kept now
  pub goes_on_stands : (taken : List Entry) → IsStartable before.op before.job
      → TakesCatalog bytes before known after Taken.GoesOn → StandsAt before.op taken before.job
      → Began before.op taken after.job × (known.catalog ≢ None)
  goes_on_stands taken starts (inl bad) stands = let clash = bad.4 in absurd cc
  goes_on_stands taken starts (inr (entries, spells, kept, (admitted, begins))) stands =
      let on = of_some known.catalog (λ es. StartsOn es before after Started.On) entries kept begins.1 in
      (goes_stands entries before before.job after.job taken starts on stands, λ none. some (sym kept ∙ none))
    where
      some : Some entries ≡ None → ⊥
      some e = cc

  -- where the try fails its job is what it was
  pub fails_same : (cause : Option Busy) → TakesCatalog bytes before known after (Taken.Fails cause)
      → after.job ≡ before.job
  fails_same cause (inl bad) = bad.3
  fails_same cause (inr (entries, spells, kept, (none, begins))) =
      let moved = of_some known.catalog (λ es. StartsOn es before after Started.Moved) entries kept begins.1 in
      ap (λ (w : Work). w.job) moved.1

  -- it shows the reply: a refusal, or the listing
  pub replies_shows : (reply : Reply) → TakesCatalog bytes before known after (Taken.Replies reply)
      → CatalogShows (catalog_seen bytes) before.op reply
  replies_shows reply (inl bad) = let clash = bad.4 in absurd cc
  replies_shows reply (inr (entries, spells, kept, inl refused)) =
      (entries, sees_catalog bytes entries spells, by before.op refused)
    where
      by : (o : Op) → refusal (heads_in entries) o ≡ Some reply → CatalogReplies (heads_in entries) o reply
      by (Tx name steps) r = r
      by (Snapshot name child) r = r
      by (Branch name child) r = r
      by (Scan name low high limit) r = r
      by Versions r = absurd cc
  replies_shows reply (inr (entries, spells, kept, inr (admitted, begins))) =
      let on = of_some known.catalog (λ es. StartsOn es before after (Started.Replies reply)) entries kept begins.1 in
      (entries, sees_catalog bytes entries spells, subst (λ (o : Op). CatalogReplies (heads_in entries) o reply) (sym on.0) on.1)

  -- it is none: a fault that the try has met
  pub fails_shows : (nodes : ℕ) (op : Op) (IsKey : List ℕ → Type 0) (cause : Busy)
      → TakesCatalog bytes before known after (Taken.Fails (Some cause))
      → MeetsFault nodes (seen_in (e ∷ tail)) op IsKey cause
  fails_shows nodes op IsKey cause (inl (none, gone, spoiled, job, fails)) =
      subst (MeetsFault nodes (seen_in (e ∷ tail)) op IsKey) (sym (some_cause cause (Path catalog_addr 0) fails))
      (inr (inr (
        catalog_seen bytes,
        is_brought bytes e is tail,
        inl (refl, λ entries sees below. none entries (spells_versions bytes entries sees below)),
        refl,
        refl,
      )))
    where
      some_cause : (a b : Busy) → Taken.Fails (Some a) ≡ Taken.Fails (Some b) → a ≡ b
      some_cause a b f = cc
  fails_shows nodes op IsKey cause (inr (entries, spells, kept, (none, begins))) = absurd cc

  -- what a scan has shown stays where the try fails
  pub fails_scan : (cause : Option Busy) → KeepsOp before after
      → TakesCatalog bytes before known after (Taken.Fails cause)
      → ScanShown older before.spoiled before.op before.job → ScanShown (e ∷ older) after.spoiled after.op after.job
  fails_scan cause op (inl (none, gone, spoiled, job, fails)) shown =
      subst (λ (b : Bool). ScanShown (e ∷ older) b after.op after.job) (sym spoiled)
      (subst (λ (o : Op). ScanShown (e ∷ older) true o after.job) (sym op.0)
      (subst (λ (j : Job). ScanShown (e ∷ older) true before.op j) (sym job) (by before.op before.job shown)))
    where
      by : (o : Op) (j : Job) → ScanShown older before.spoiled o j → ScanShown (e ∷ older) true o j
      by (Scan name low high limit) (at.Scan s) shown = (scanned_on e older name s shown.0, shown.1, shown.2, shown.3)
      by (Scan name low high limit) at.Start shown = λ whole. absurd cc
      by o j shown = tt
  fails_scan cause op (inr (entries, spells, kept, (none, begins))) shown =
      let moved = of_some known.catalog (λ es. StartsOn es before after Started.Moved) entries kept begins.1 in
      subst (λ (w : Work). ScanShown (e ∷ older) w.spoiled w.op w.job) (sym moved.1)
      (by before.op before.job moved.0 shown)
    where
      by : (o : Op) (j : Job) → IsScan j → ScanShown older before.spoiled o j → ScanShown (e ∷ older) before.spoiled o j
      by (Scan name low high limit) (at.Scan s) scans shown = (scanned_on e older name s shown.0, shown.1, shown.2, shown.3)
      by (Scan name low high limit) at.Start scans shown = absurd scans
      by o j scans shown = tt

-- A later try

-- where no catalog is kept, a job that may begin on a new one shows what its scan has
pub starts_shows : (known : Known) (now try : List Entry) (w : Work) → known.catalog ≡ None
    → IsStartable w.op w.job → ScanShown now w.spoiled w.op w.job → JobShows known now try w
starts_shows known now try w none starts shown = (
  shown,
  subst (λ (o : Option (List CatEntry)). MatchOption o (IsStartable w.op w.job) (λ es. ReadsShow w.failed (seen_in try) w.op es w.job)) (sym none) starts,
)

-- what its scan has shown stays, if its job was one of the operation
pub retried_scan : (known : Known) (now : List Entry) (w : Work) → IsJobOf known w
    → ScanShown now w.spoiled w.op w.job → ScanShown now w.spoiled (retried w).op (retried w).job
retried_scan known now w is shown = by w.op w.job is shown
  where
    by : (o : Op) (j : Job) → IsJobIn known o j → ScanShown now w.spoiled o j → ScanShown now w.spoiled o (retried_job j)
    by (Scan name low high limit) (at.Scan s) is shown = (scan_elsewhere now name s s.root None shown.0, shown.1, shown.2, shown.3)
    by (Scan name low high limit) at.Start is shown = shown
    by (Scan name low high limit) (at.Get d) is shown = absurd is
    by (Scan name low high limit) (at.Transaction a) is shown = absurd is
    by (Scan name low high limit) (at.Child c) is shown = absurd (no_child known.catalog is)
      where
        no_child : (o : Option (List CatEntry)) → MatchOption o ⊥ (λ es. children.IsUnderWay known.nodes es (Scan name low high limit) c) → ⊥
        no_child None way = way
        no_child (Some es) way = way.makes
    by o j is shown = tt

-- a later try has read nothing yet, and no catalog is kept; it was one of the operation by what was
-- kept before
pub retried_shows : (old known : Known) (now try : List Entry) (w : Work) → known.catalog ≡ None
    → IsJobOf old w → ScanShown now w.spoiled w.op w.job → JobShows known now try (retried w)
retried_shows old known now try w none is shown =
    starts_shows known now try (retried w) none (retry_starts old w is) (retried_scan old now w is shown)

-- by what the one that failed has left
pub retried_scan_as : (known : Known) (now : List Entry) (before after : Work) → IsJobOf known before
    → after.op ≡ before.op → after.spoiled ≡ before.spoiled → (retried after).job ≡ (retried before).job
    → ScanShown now before.spoiled before.op before.job
    → ScanShown now after.spoiled (retried after).op (retried after).job
retried_scan_as known now before after is op spoiled job shown =
    subst (λ (o : Op). ScanShown now after.spoiled o (retried after).job) (sym op)
    (subst (λ (b : Bool). ScanShown now b before.op (retried after).job) (sym spoiled)
    (subst (λ (j : Job). ScanShown now before.spoiled before.op j) (sym job) (retried_scan known now before is shown)))

-- Asking for it

-- an Exec that reads the catalog on node 0 asks for it
pub asks_now : (e : Entry) (tail : List Entry) (tid : Tid) (reply : NodeReply)
    → call_in e.node e.what ≡ record {
      node = record { 0 = 0 };
      request = Ask.Exec tid (Bare.Read catalog_start catalog_size ∷ []);
      reply = reply;
    } ∷ []
    → asks_for_catalog (e ∷ tail) ≡ true
asks_now e tail tid reply is =
    ap (λ (cs : List Call). list_any (λ c. nat_eq c.node.0 0 && asks_catalog c.request) (cs ++ calls_of tail)) is

-- so its try may fail
pub has_asked : (failed : ℕ) (op : Op) (from : Origin) (try : List Entry) → asks_for_catalog try ≡ true
    → HasAsked failed op from try
has_asked zero op from try asks = by op from.taken
  where
    by : (o : Op) (taken : List Entry) → MayBeKept from.older o taken try
    by (Tx name steps) taken = inl asks
    by (Snapshot name child) taken = asks
    by (Branch name child) taken = asks
    by (Scan name low high limit) [] = asks
    by (Scan name low high limit) (d ∷ ds) = tt
    by Versions taken = asks
has_asked (suc n) op from try asks = asks

-- A first try that begins on what is kept

-- what a transaction shows that begins on what is kept: nothing need be shown of its reads
pub begun_shows : (known : Known) (now try : List Entry) (before begun : Work) → before.job ≡ at.Start
    → before.failed ≡ 0 → BeginsBy known before begun → JobShows known now try begun
begun_shows known now try before begun start first b =
    by_kept known.catalog refl b.starts.1
  where
    tx : (name : List ℕ) × (steps : List Step) × (before.op ≡ Tx name steps)
    tx = begins_steps known.catalog before.op b.enough

    op : begun.op ≡ Tx tx.0 tx.1
    op = b.op.0 ∙ tx.2

    no_reads : (es : List CatEntry) (version : VersionNo) (root : Addr) (job : Job) → Admits es (Tx tx.0 tx.1) version root
        → (o : Option (List ℕ)) → lone_key tx.1 ≡ o
        → MatchOption o ((a : Attempt) × (job ≡ at.Transaction a) × attempts.IsBegun (parents_of (heads_in es)) version root a) (λ key. job ≡ at.Get (record { version = version; addr = root; above = None }))
        → ReadsShow 0 (seen_in try) (Tx tx.0 tx.1) es job
    no_reads es version root job a None key begins =
        subst (ReadsShow 0 (seen_in try) (Tx tx.0 tx.1) es) (sym begins.1)
        (tt, tt, tt, admits_as es (Tx tx.0 tx.1) version root begins.0.version begins.0.root begins.2.version_is begins.2.root_is a)
    no_reads es version root job a (Some k) key begins =
        subst (ReadsShow 0 (seen_in try) (Tx tx.0 tx.1) es) (sym begins) (
          tt,
          subst (λ (o : Option (List ℕ)). MatchOption o ⊥ (λ key. ((r : Addr) × Admits es (Tx tx.0 tx.1) version r) × WalkComesTo 0 (seen_in try) (Tx tx.0 tx.1) es key root None)) (sym key)
              ((root, a), (tt, tt)),
        )

    reads : (es : List CatEntry) → GoesOnFrom es before before.job begun.job → ReadsShow begun.failed (seen_in try) begun.op es begun.job
    reads es goes =
        let on = subst (λ (j : Job). GoesOnFrom es before j begun.job) start goes in
        let a : Admits es (Tx tx.0 tx.1) on.0 on.1 = subst (λ (o : Op). Admits es o on.0 on.1) tx.2 on.2 in
        let begins : BeginsOn es (Tx tx.0 tx.1) before.spoiled on.0 on.1 begun.job = subst (λ (o : Op). BeginsOn es o before.spoiled on.0 on.1 begun.job) tx.2 on.3 in
        subst (λ (n : ℕ). ReadsShow n (seen_in try) begun.op es begun.job) (sym (b.op.1 ∙ first))
        (subst (λ (o : Op). ReadsShow 0 (seen_in try) o es begun.job) (sym op)
        (no_reads es on.0 on.1 begun.job a (lone_key tx.1) refl begins))

    by_kept : (o : Option (List CatEntry)) → known.catalog ≡ o
        → MatchOption o ⊥ (λ es. GoesOnFrom es before before.job begun.job) → JobShows known now try begun
    by_kept None kept goes = absurd goes
    by_kept (Some es) kept goes = (
      subst (λ (o : Op). ScanShown now begun.spoiled o begun.job) (sym op) tt,
      subst (λ (o : Option (List CatEntry)). MatchOption o (IsStartable begun.op begun.job) (λ es. ReadsShow begun.failed (seen_in try) begun.op es begun.job)) (sym kept) (reads es goes),
    )

-- a try that hasn't begun, though a catalog is kept, is the first
pub kept_first : (known : Known) (now try : List Entry) (w : Work) → known.catalog ≢ None → w.job ≡ at.Start
    → JobShows known now try w → w.failed ≡ 0
kept_first known now try w some start shows = by known.catalog refl shows.1
  where
    by : (o : Option (List CatEntry)) → known.catalog ≡ o
        → MatchOption o (IsStartable w.op w.job) (λ es. ReadsShow w.failed (seen_in try) w.op es w.job) → w.failed ≡ 0
    by None none reads = absurd (some none)
    by (Some es) kept reads = subst (λ (j : Job). ReadsShow w.failed (seen_in try) w.op es j) start reads

-- so a try that begins on what is kept goes on as it is shown
pub begins_shown : (known : Known) (now try : List Entry) (before begun : Work) → before.job ≡ at.Start
    → BeginsBy known before begun → JobShows known now try before → JobShows known now try begun
begins_shown known now try before begun start b shows =
    begun_shows known now try before begun start (kept_first known now try before (kept known.catalog b.starts.1) start shows) b
  where
    kept : (o : Option (List CatEntry)) → MatchOption o ⊥ (λ es. GoesOnFrom es before before.job begun.job) → o ≢ None
    kept None goes = absurd goes
    kept (Some es) goes = λ e. absurd cc
