-- What the reads of a try show of a lone Get: the page that its walk has come to, the leaf that shows
-- its reply, and why it fails.
use Rattle.std.proofs.Common.{◌≡◌, ◌⊎◌, inl, inr, ℕ, zero, suc, ◌+◌, ◌*◌, ◌≤◌, true, ◌&&◌, List, [], ◌∷◌, Option, Some, None, refl, subst, sym, ap, ◌∙◌, arith, lit<, Contains}
use Rattle.std.specs.Prelude.{MatchOption, nat_eq, nat_le, ⊤}
use Rattle.std.proofs.lemmas.Bool.Decides.{nat_tests}
use Rattle.std.proofs.lemmas.List.Elements.{Contains-append_cases, Contains-push_cases}
use Rattle.mn_base.specs.Order.{covers_key}
use Rattle.mn_base.specs.Store.{number_named, op_version, value_at}
use Rattle.mn_base.specs.Tree.{parents_of}
use Rattle.mn_base.specs.declared.ids.Addr.{Addr}
use Rattle.mn_base.specs.declared.ids.VersionNo.{VersionNo}
use Rattle.mn_base.specs.declared.op.Op.{Op}
use Rattle.mn_base.specs.declared.op.Op.TheVariants.{Tx, Snapshot, Branch, Scan, Versions}
use Rattle.mn_base.specs.declared.op.Step.{Step}
use Rattle.mn_base.specs.declared.op.Step.TheVariants.{Get, Put, Del, Check}
use Rattle.mn_base.specs.declared.answer.Busy.{Busy}
use Rattle.mn_base.specs.declared.answer.Busy.TheVariants.{Path}
use Rattle.mn_base.specs.declared.reply.Reply.{Reply}
use Rattle.mn_base.specs.declared.reply.Reply.TheVariants.{Values}
use Rattle.mn_base.proofs.Booleans.{both_parts}
use Rattle.mn_page.specs.declared.page.Page.{Page}
use Rattle.mn_page.specs.declared.page.Body.TheVariants.{Inner}
use Rattle.mn_page.specs.declared.page.Child.{Child}
use Rattle.mn_page.specs.declared.entry.CatEntry.{CatEntry}
use Rattle.mn_page.specs.Forest.{heads_in}
use Rattle.mn_page.specs.Grammar.{SpellsPage, height_of}
use Rattle.mn_page.specs.Holds.{page_covers, pairs_in}
use Rattle.mn_path.specs.Walk.{child_from, front_of, is_live, is_on_path, may_stand}
use Rattle.mn_runs.specs.declared.entry.Entry.{Entry}
use Rattle.mn_runs.specs.Seen.{Place, Seen, seen_at, seen_in}
use Rattle.mn_law.specs.Places.{catalog_place, page_place}
use Rattle.mn_law.specs.Shown.{ReadShows, ServesNamed, ShowsCatalog}
use Rattle.mn_law.specs.Answers.{IsKeyOf, IsPageAtFault, MeetsFault, Reached, ReachesAddr, SomeReadShows}
use Rattle.mn_runs.proofs.Seen.{nothing}
use Rattle.mn_law.proofs.Sees.{seen_in-cons}
use Rattle.mn_work.specs.declared.get.Descent.{Descent}
use Rattle.mn_work.specs.declared.known.Known.{Known}
use Rattle.mn_work.specs.declared.next.Next.{Next}
use Rattle.mn_work.specs.declared.next.Taken.{Taken}
use Rattle.mn_work.specs.declared.work.Job.TheVariants as at
use Rattle.mn_work.specs.Descents.{DescentTakes, FailsOff, IsFault, IsOffNodes, TakesInner, TakesLeaf}
use Rattle.mn_work.specs.Descents.{WantsPage, gone_below, may_be_leaf}
use Rattle.mn_proxy.specs.Jobs.{GetShows, IsOfTry, ReadsShow}
use Rattle.mn_work.specs.Seen.{SpellsNone}
use Rattle.mn_work.specs.Walks.{Admits, FailsBy, IfLater, IsReadBy, MeetsFor, WalkComesTo}
use Rattle.mn_work.specs.Walks.{height_below, is_later, seen_page}
use Rattle.mn_work.specs.Works.{GetTakes, GetWants, JobTakes, lone_key}
use Rattle.mn_work.proofs.Bodies.{is_inner}
use Rattle.mn_proxy.proofs.Tries.{fault_for, reaches_on}
use Rattle.mn_work.proofs.Walks.{at_fault, bad_page, goes_below, no_node, no_page, serves_named}

-- Walks

pub later_is : (n : ℕ) → is_later (suc n) ≡ true
later_is n = grind (arith, nat_tests)

-- off the nodes a later try met that fault
pub off_is_met : (nodes failed : ℕ) (seens : List Seen) (op : Op) (entries : List CatEntry)
    (key : List ℕ) (addr : Addr) (above : Option ℕ) (cause : Option Busy)
    → WalkComesTo failed seens op entries key addr above
    → (is_later failed ≡ true → IsOffNodes nodes addr cause)
    → FailsBy nodes failed seens op (λ other. other ≡ key) cause
off_is_met nodes failed seens op entries key addr above None walk off = tt
off_is_met nodes zero seens op entries key addr above (Some busy) walk off = tt
off_is_met nodes (suc n) seens op entries key addr above (Some busy) walk off =
    let it = off (later_is n) in
    subst (MeetsFor nodes seens op key) (some_same (Path addr 0) (sym it.1))
    (no_node nodes seens op entries key addr (height_below above) walk.1 it.0)
  where
    some_same : (b : Busy) → Some b ≡ Some busy → b ≡ busy
    some_same b e = cc

-- a page of height 0 stands where a leaf may
pub leaf_may_be : (parents : List (Option ℕ)) (v : ℕ) (key : List ℕ) (above : Option ℕ) (page : Page)
    → is_on_path parents v key above (front_of page) ≡ true → height_of page.body ≡ 0
    → may_be_leaf above ≡ true
leaf_may_be parents v key above page on low =
    by above (both_parts (covers_key page.low page.high key) (may_stand above (height_of page.body)) (both_parts (is_live parents v page.made.0 page.copied) (covers_key page.low page.high key && may_stand above (height_of page.body)) on).1).1
  where
    by : (above : Option ℕ) → may_stand above (height_of page.body) ≡ true → may_be_leaf above ≡ true
    by None stands = refl
    by (Some a) stands =
        let one : nat_eq (height_of page.body + 1) a ≡ true = (both_parts (nat_eq (height_of page.body + 1) a) (nat_le (height_of page.body) 14) stands).0 in
        grind (arith, nat_tests)

module _ (nodes failed : ℕ) (seens : List Seen) (op : Op) (entries : List CatEntry)
    (key : List ℕ) (addr : Addr) (above : Option ℕ)
    (walk : WalkComesTo failed seens op entries key addr above) (bytes : List ℕ)
    (has : IsReadBy failed seens addr bytes) where
  -- what was read is no page
  pub none_is_met : SpellsNone bytes → IfLater failed (MeetsFor nodes seens op key (Path addr 0))
  none_is_met none = by failed walk.1 has
    where
      by : (n : ℕ) → IfLater n (ReachesAddr seens op entries key addr (height_below above))
          → IfLater n (Contains seens (seen_page addr bytes))
          → IfLater n (MeetsFor nodes seens op key (Path addr 0))
      by zero reaches has = tt
      by (suc n) reaches has =
          no_page nodes seens op entries key addr (height_below above) reaches bytes has none

  -- the page is at fault
  pub fault_by : (page : Page) → SpellsPage bytes page
      → IsPageAtFault entries op key (height_below above) page
      → IfLater failed (MeetsFor nodes seens op key (Path addr page.seq))
  fault_by page spells fault = by failed walk.1 has
    where
      by : (n : ℕ) → IfLater n (ReachesAddr seens op entries key addr (height_below above))
          → IfLater n (Contains seens (seen_page addr bytes))
          → IfLater n (MeetsFor nodes seens op key (Path addr page.seq))
      by zero reaches has = tt
      by (suc n) reaches has =
          bad_page nodes seens op entries key addr (height_below above) reaches bytes page has spells fault

  -- it goes on below the page
  pub comes_below : (v : ℕ) (page : Page) (level : ℕ) (first : Addr) (rest : List Child)
      → number_named (heads_in entries) (op_version op) ≡ Some v → SpellsPage bytes page
      → is_on_path (parents_of (heads_in entries)) v key above (front_of page) ≡ true
      → page.body ≡ Inner level first rest → 1 ≤ height_of page.body
      → WalkComesTo failed seens op entries key (child_from first rest key) (Some level)
  comes_below v page level first rest named spells on body high =
      (subst (λ (n : ℕ). 1 ≤ n) (ap height_of body) high, by failed walk.1 has)
    where
      by : (n : ℕ) → IfLater n (ReachesAddr seens op entries key addr (height_below above))
          → IfLater n (Contains seens (seen_page addr bytes))
          → IfLater n (ReachesAddr seens op entries key (child_from first rest key) (height_below (Some level)))
      by zero reaches has = tt
      by (suc n) reaches has =
          goes_below nodes seens op entries key addr (height_below above) reaches bytes page level first rest has spells body
          (serves_named entries op v key above page named on).1

-- at the root of the version
pub comes_to_root : (failed : ℕ) (seens : List Seen) (op : Op) (entries : List CatEntry)
    (version : VersionNo) (root : Addr) (key : List ℕ) → IsOfTry failed seens entries
    → Admits entries op version root → WalkComesTo failed seens op entries key root None
comes_to_root failed seens op entries version root key of admits = (tt, by failed of)
  where
    by : (n : ℕ) → IsOfTry n seens entries
        → IfLater n (ReachesAddr seens op entries key root (height_below None))
    by zero of = tt
    by (suc n) of =
        (of.0, of.1, of.2, subst (λ (a : Addr). Reached seens op key a None) admits.root_is (Reached.by_root of.0 entries version.0 admits.entry of.1 of.2 admits.named admits.there))

-- with more reads it has come as far
pub comes_on : (failed : ℕ) (seens more : List Seen) (op : Op) (entries : List CatEntry)
    (key : List ℕ) (addr : Addr) (above : Option ℕ)
    → ((s : Seen) → Contains seens s → Contains more s)
    → WalkComesTo failed seens op entries key addr above
    → WalkComesTo failed more op entries key addr above
comes_on failed seens more op entries key addr above on walk = (walk.0, by failed walk.1)
  where
    by : (n : ℕ) → IfLater n (ReachesAddr seens op entries key addr (height_below above))
        → IfLater n (ReachesAddr more op entries key addr (height_below above))
    by zero reaches = tt
    by (suc n) reaches = reaches_on seens more op on entries key addr (height_below above) reaches

pub of_try_on : (failed : ℕ) (seens more : List Seen) (entries : List CatEntry)
    → ((s : Seen) → Contains seens s → Contains more s) → IsOfTry failed seens entries
    → IsOfTry failed more entries
of_try_on zero seens more entries on of = tt
of_try_on (suc n) seens more entries on of = (of.0, on of.0 of.1, of.2)

-- Gets

-- a Get by this key has come so far
abbrev pub GetComes : ℕ → List Seen → Op → List CatEntry → List ℕ → Descent → Type 0
GetComes failed seens op entries key d =
    ((root : Addr) × Admits entries op d.version root)
    × WalkComesTo failed seens op entries key d.addr d.above

-- what it wants next, or why it fails
abbrev pub PagesOrFails : ℕ → ℕ → List Seen → Op → (List ℕ → Type 0) → Next → Type 0
PagesOrFails nodes failed seens op IsKey (Next.Page addr peek) = ⊤
PagesOrFails nodes failed seens op IsKey (Next.Fails cause) =
    FailsBy nodes failed seens op IsKey cause
PagesOrFails nodes failed seens op IsKey next = ⊥

-- bytes of a page that names others
abbrev pub SpellsHigh : List ℕ → Type 0
SpellsHigh bytes = (page : Page) × SpellsPage bytes page × (1 ≤ height_of page.body)

-- the bytes spell a leaf that shows the reply of a Get of this key
pub record LeafReplies (entries : List CatEntry) (name key bytes : List ℕ) (reply : Reply)
    : Type 0 where
  pub page : Page
  pub spells : SpellsPage bytes page
  pub low : height_of page.body ≡ 0
  pub serves : ServesNamed entries name page
  pub covers : page_covers key page ≡ true
  pub reply_is : reply ≡ Values (value_at (pairs_in page.body) key ∷ [])

-- what the bytes of the page that it needed tell
abbrev pub GetIsTold : ℕ → ℕ → List Seen → Op → List CatEntry → List ℕ → List ℕ → Descent → Descent
    → Taken → Type 0
GetIsTold nodes failed seens op entries key bytes d e Taken.GoesOn =
    GetComes failed seens op entries key e × SpellsHigh bytes
GetIsTold nodes failed seens op entries key bytes d e (Taken.Replies reply) =
    LeafReplies entries (op_version op) key bytes reply × (may_be_leaf d.above ≡ true)
GetIsTold nodes failed seens op entries key bytes d e (Taken.Fails (Some cause)) =
    IfLater failed (MeetsFor nodes seens op key cause)
GetIsTold nodes failed seens op entries key bytes d e taken = ⊥

-- it begins at the root of its version
pub get_begins : (failed : ℕ) (seens : List Seen) (op : Op) (entries : List CatEntry)
    (version : VersionNo) (root : Addr) (key : List ℕ) → IsOfTry failed seens entries
    → Admits entries op version root
    → GetComes failed seens op entries key (record { version = version; addr = root; above = None })
get_begins failed seens op entries version root key of admits =
    ((root, admits), comes_to_root failed seens op entries version root key of admits)

pub get_comes_on : (failed : ℕ) (seens more : List Seen) (op : Op) (entries : List CatEntry)
    (key : List ℕ) (d : Descent) → ((s : Seen) → Contains seens s → Contains more s)
    → GetComes failed seens op entries key d → GetComes failed more op entries key d
get_comes_on failed seens more op entries key d on shows =
    (shows.0, comes_on failed seens more op entries key d.addr d.above on shows.1)

-- a later try stands where it stood, and fails only off the nodes
pub get_wants_by : (nodes failed : ℕ) (seens : List Seen) (op : Op) (entries : List CatEntry)
    (key : List ℕ) (d e : Descent) (next : Next) → GetWants nodes (is_later failed) d e next
    → GetComes failed seens op entries key d
    → GetComes failed seens op entries key e
    × PagesOrFails nodes failed seens op (λ other. other ≡ key) next
get_wants_by nodes failed seens op entries key d e next w shows = (
  (
    subst (λ (v : VersionNo). (root : Addr) × Admits entries op v root) (sym w.version) shows.0,
    (w.above, stands failed w.stands shows.1.1),
  ),
  told next w.wants w.fails,
)
  where
    stands : (n : ℕ) → (is_later n ≡ true → e ≡ d)
        → IfLater n (ReachesAddr seens op entries key d.addr (height_below d.above))
        → IfLater n (ReachesAddr seens op entries key e.addr (height_below e.above))
    stands zero same reaches = tt
    stands (suc n) same reaches =
        subst (λ (x : Descent). ReachesAddr seens op entries key x.addr (height_below x.above)) (sym (same (later_is n))) reaches

    told : (next : Next) → WantsPage nodes (is_later failed) e next
        → (is_later failed ≡ true → FailsOff nodes d.addr next)
        → PagesOrFails nodes failed seens op (λ other. other ≡ key) next
    told (Next.Page addr peek) wants fails = tt
    told (Next.Fails cause) wants fails =
        off_is_met nodes failed seens op entries key d.addr d.above cause shows.1 fails
    told Next.Catalog wants fails = absurd wants
    told (Next.Count node peek) wants fails = absurd wants
    told (Next.Plan mini reply) wants fails = absurd wants
    told (Next.Answers answer) wants fails = absurd wants

pub get_takes_by : (nodes failed : ℕ) (seens : List Seen) (op : Op) (entries : List CatEntry)
    (key bytes : List ℕ) (d e : Descent) (taken : Taken)
    → GetTakes (Some entries) key bytes d e taken → GetComes failed seens op entries key d
    → IsReadBy failed seens d.addr bytes
    → GetIsTold nodes failed seens op entries key bytes d e taken
get_takes_by nodes failed seens op entries key bytes d e taken t shows has = by taken t.takes
  where
    named : number_named (heads_in entries) (op_version op) ≡ Some d.version.0
    named = shows.0.1.named

    fault : (page : Page) (cause : Option Busy) → SpellsPage bytes page
        → IsFault entries d key page cause
        → GetIsTold nodes failed seens op entries key bytes d e (Taken.Fails cause)
    fault page cause spells (off, is) =
        subst (λ (c : Option Busy). GetIsTold nodes failed seens op entries key bytes d e (Taken.Fails c)) (sym is)
        (fault_by nodes failed seens op entries key d.addr d.above shows.1 bytes has page spells
        (at_fault entries op d.version.0 key d.above page named shows.1.0 off))

    inner : (page : Page) (taken : Taken) → SpellsPage bytes page → 1 ≤ height_of page.body
        → TakesInner entries d key page e taken
        → GetIsTold nodes failed seens op entries key bytes d e taken
    inner page Taken.GoesOn spells high (on, is) =
        let body = is_inner page spells.0 high in
        let gone : e ≡ gone_below d (Inner body.0 body.1 body.2) key = is ∙ ap (λ b. gone_below d b key) body.3 in
        let walk : WalkComesTo failed seens op entries key (child_from body.1 body.2 key) (Some body.0) =
        comes_below nodes failed seens op entries key d.addr d.above shows.1 bytes has d.version.0 page body.0 body.1 body.2 named spells on body.3 high in (
          (
            subst (λ (v : VersionNo). (root : Addr) × Admits entries op v root) (sym t.version) shows.0,
            subst (λ (x : Descent). WalkComesTo failed seens op entries key x.addr x.above) (sym gone) walk,
          ),
          (page, spells, high),
        )
    inner page Taken.Leaf spells high takes = absurd takes
    inner page (Taken.Replies reply) spells high takes = absurd takes
    inner page (Taken.Fails cause) spells high takes = fault page cause spells takes

    leaf : (page : Page) (taken : Taken) → SpellsPage bytes page → height_of page.body ≡ 0
        → TakesLeaf entries d key page taken
        → GetIsTold nodes failed seens op entries key bytes d e taken
    leaf page Taken.GoesOn spells low takes = absurd takes
    leaf page Taken.Leaf spells low takes = absurd takes
    leaf page (Taken.Replies reply) spells low (on, is) =
        let serves = serves_named entries op d.version.0 key d.above page named on in (
          record {
            page = page;
            spells = spells;
            low = low;
            serves = serves.0;
            covers = serves.1;
            reply_is = is;
          },
          leaf_may_be (parents_of (heads_in entries)) d.version.0 key d.above page on low,
        )
    leaf page (Taken.Fails cause) spells low takes = fault page cause spells takes

    by : (taken : Taken) → DescentTakes entries d key bytes e taken
        → GetIsTold nodes failed seens op entries key bytes d e taken
    by taken (inl (none, is)) =
        subst (GetIsTold nodes failed seens op entries key bytes d e) (sym is)
        (none_is_met nodes failed seens op entries key d.addr d.above shows.1 bytes has none)
    by taken (inr (page, spells, inl (high, takes))) = inner page taken spells high takes
    by taken (inr (page, spells, inr (low, takes))) = leaf page taken spells low takes

-- The reply of a Get

-- a list of one read has that read alone
pub lone_read : (x seen : Seen) → Contains (x ∷ []) seen → seen ≡ x
lone_read x seen has = by (Contains-push_cases [] x seen has)
  where
    by : Contains [] seen ⊎ (x ≡ seen) → seen ≡ x
    by (inl none) = absurd (nothing seen none)
    by (inr is) = sym is

-- the read of a page is none of the catalog
pub page_apart : (addr : Addr) → page_place addr ≡ catalog_place → ⊥
page_apart addr e =
    let start : 20480 + 1024 * addr.slot ≡ 64 = ap (λ (p : Place). p.start) e in omega arith

-- what an entry that read a page shows of catalogs was shown before
pub shown_before : (e : Entry) (before : List Entry) (addr : Addr) (bytes : List ℕ)
    (entries : List CatEntry) → seen_at e ≡ seen_page addr bytes ∷ []
    → ShowsCatalog (e ∷ before) entries → ShowsCatalog before entries
shown_before e before addr bytes entries read (seen, has, sees) =
    by (Contains-append_cases (seen_at e) (seen_in before) seen (subst (λ (l : List Seen). Contains l seen) (seen_in-cons e before) has))
  where
    by : Contains (seen_at e) seen ⊎ Contains (seen_in before) seen → ShowsCatalog before entries
    by (inl here) =
        let is : seen ≡ seen_page addr bytes = lone_read (seen_page addr bytes) seen (subst (λ (l : List Seen). Contains l seen) read here) in
        absurd (page_apart addr (sym (ap (λ (s : Seen). s.place) is) ∙ sees.0))
    by (inr there) = (seen, there, sees)

module _ (e : Entry) (before : List Entry) (addr : Addr) (name key bytes : List ℕ)
    (entries : List CatEntry) (reply : Reply) (leaf : LeafReplies entries name key bytes reply)
    (shows : ShowsCatalog (e ∷ before) entries)
    (read : seen_at e ≡ seen_page addr bytes ∷ []) where
  -- the read of the leaf shows it
  pub leaf_shows : ReadShows before (seen_page addr bytes) (Tx name (Get key ∷ [])) reply
  leaf_shows =
      inl (entries, addr, leaf.page, shown_before e before addr bytes entries read shows, (refl, leaf.spells), leaf.low, leaf.serves, leaf.covers, leaf.reply_is)

  pub get_is_shown : (now older : List Entry) → now ≡ e ∷ older
      → SomeReadShows (e ∷ before) now (Tx name (Get key ∷ [])) reply
  get_is_shown now older since = record {
    entry = e;
    newer = [];
    older = older;
    before = before;
    since = since;
    split = refl;
    seen = seen_page addr bytes;
    brought = subst (λ (l : List Seen). Contains l (seen_page addr bytes)) (sym read) (0, lit< tt, refl);
    shows = leaf_shows;
  }

-- By the operation

-- a Get that is alone
pub lone_is : (steps : List Step) (key : List ℕ) → lone_key steps ≡ Some key → steps ≡ Get key ∷ []
lone_is [] key e = absurd cc
lone_is (Get own ∷ []) key e = let same : own ≡ key = some_same e in ap (λ (k : List ℕ). Get k ∷ []) same
  where
    some_same : Some own ≡ Some key → own ≡ key
    some_same e = cc
lone_is (Get own ∷ (step ∷ steps)) key e = absurd cc
lone_is (Put own value ∷ steps) key e = absurd cc
lone_is (Del own ∷ steps) key e = absurd cc
lone_is (Check own want ∷ steps) key e = absurd cc

module _ (nodes failed : ℕ) (seens : List Seen) (name key : List ℕ) (entries : List CatEntry)
    (d e : Descent) (shows : GetShows failed seens (Tx name (Get key ∷ [])) entries (at.Get d)) where
  pub get_wants : (next : Next) → GetWants nodes (is_later failed) d e next
      → GetShows failed seens (Tx name (Get key ∷ [])) entries (at.Get e)
      × PagesOrFails nodes failed seens (Tx name (Get key ∷ [])) (λ other. other ≡ key) next
  get_wants next w = get_wants_by nodes failed seens (Tx name (Get key ∷ [])) entries key d e next w shows

  pub get_takes : (bytes : List ℕ) (taken : Taken) → GetTakes (Some entries) key bytes d e taken
      → IsReadBy failed seens d.addr bytes
      → GetIsTold nodes failed seens (Tx name (Get key ∷ [])) entries key bytes d e taken
  get_takes bytes taken t has =
      get_takes_by nodes failed seens (Tx name (Get key ∷ [])) entries key bytes d e taken t shows has

-- a try of it begins at the root of its version
pub get_begins_for : (failed : ℕ) (seens : List Seen) (name key : List ℕ) (steps : List Step)
    (entries : List CatEntry) (version : VersionNo) (root : Addr) → lone_key steps ≡ Some key
    → IsOfTry failed seens entries → Admits entries (Tx name steps) version root
    → GetShows failed seens (Tx name steps) entries (at.Get (record { version = version; addr = root; above = None }))
get_begins_for failed seens name key steps entries version root lone of admits =
    subst (λ (k : Option (List ℕ)). MatchOption k ⊥ (λ own. GetComes failed seens (Tx name steps) entries own (record { version = version; addr = root; above = None }))) (sym lone)
    (get_begins failed seens (Tx name steps) entries version root key of admits)

-- with more reads it has come as far
pub get_reads_on : (failed : ℕ) (seens more : List Seen) (entries : List CatEntry) (op : Op)
    (d : Descent) → ((s : Seen) → Contains seens s → Contains more s)
    → ReadsShow failed seens op entries (at.Get d) → ReadsShow failed more op entries (at.Get d)
get_reads_on failed seens more entries (Tx name steps) d on (of, shows) =
    (of_try_on failed seens more entries on of, by (lone_key steps) shows)
  where
    by : (k : Option (List ℕ))
        → MatchOption k ⊥ (λ key. GetComes failed seens (Tx name steps) entries key d)
        → MatchOption k ⊥ (λ key. GetComes failed more (Tx name steps) entries key d)
    by None shows = absurd shows
    by (Some key) shows = get_comes_on failed seens more (Tx name steps) entries key d on shows
get_reads_on failed seens more entries (Snapshot name child) d on (of, shows) = absurd shows
get_reads_on failed seens more entries (Branch name child) d on (of, shows) = absurd shows
get_reads_on failed seens more entries (Scan name low high limit) d on (of, shows) = absurd shows
get_reads_on failed seens more entries Versions d on (of, shows) = absurd shows

-- what the bytes of a page that it needed tell of an operation's Get
abbrev pub GetIsToldBy : ℕ → ℕ → List Seen → Op → List CatEntry → Addr → List ℕ → Descent → Descent
    → Taken → Type 0
GetIsToldBy nodes failed seens op entries addr bytes d e Taken.GoesOn =
    GetShows failed seens op entries (at.Get e) × SpellsHigh bytes
GetIsToldBy nodes failed seens op entries addr bytes d e (Taken.Replies reply) =
    ((newest : Entry) (before : List Entry) → seen_at newest ≡ seen_page addr bytes ∷ []
    → ShowsCatalog (newest ∷ before) entries → ReadShows before (seen_page addr bytes) op reply)
    × (may_be_leaf d.above ≡ true)
GetIsToldBy nodes failed seens op entries addr bytes d e (Taken.Fails (Some cause)) =
    IfLater failed (MeetsFault nodes seens op (IsKeyOf op []) cause)
GetIsToldBy nodes failed seens op entries addr bytes d e taken = ⊥

-- its key is the operation's
lone_key_is : (name : List ℕ) (steps : List Step) (key : List ℕ) → lone_key steps ≡ Some key
    → IsKeyOf (Tx name steps) [] key
lone_key_is name steps key is =
    subst (λ (l : List Step). IsKeyOf (Tx name l) [] key) (sym (lone_is steps key is)) (0, lit< tt, refl)

-- a later try's cause on the way of one key is one on the way of these
later_for : (failed : ℕ) (A B : Type 0) → (A → B) → IfLater failed A → IfLater failed B
later_for zero A B on told = tt
later_for (suc n) A B on told = on told

pub fails_for : (nodes failed : ℕ) (seens : List Seen) (op : Op) (key : List ℕ)
    (IsKey : List ℕ → Type 0) (cause : Option Busy) → IsKey key
    → FailsBy nodes failed seens op (λ other. other ≡ key) cause
    → FailsBy nodes failed seens op IsKey cause
fails_for nodes failed seens op key IsKey None is told = tt
fails_for nodes failed seens op key IsKey (Some busy) is told =
    later_for failed (MeetsFor nodes seens op key busy) (MeetsFault nodes seens op IsKey busy)
    (λ fault. fault_for nodes seens op key IsKey busy is fault) told

pages_for : (nodes failed : ℕ) (seens : List Seen) (op : Op) (key : List ℕ)
    (IsKey : List ℕ → Type 0) (next : Next) → IsKey key
    → PagesOrFails nodes failed seens op (λ other. other ≡ key) next
    → PagesOrFails nodes failed seens op IsKey next
pages_for nodes failed seens op key IsKey (Next.Page addr peek) is told = tt
pages_for nodes failed seens op key IsKey (Next.Fails cause) is told =
    fails_for nodes failed seens op key IsKey cause is told
pages_for nodes failed seens op key IsKey Next.Catalog is told = absurd told
pages_for nodes failed seens op key IsKey (Next.Count node peek) is told = absurd told
pages_for nodes failed seens op key IsKey (Next.Plan mini reply) is told = absurd told
pages_for nodes failed seens op key IsKey (Next.Answers answer) is told = absurd told

module _ (nodes failed : ℕ) (seens : List Seen) (entries : List CatEntry) (d e : Descent) where
  -- what a lone Get wants, by whatever operation is under way
  pub get_wants_for : (op : Op) (next : Next) → GetShows failed seens op entries (at.Get d)
      → GetWants nodes (is_later failed) d e next
      → GetShows failed seens op entries (at.Get e)
      × PagesOrFails nodes failed seens op (IsKeyOf op []) next
  get_wants_for (Tx name steps) next shows w = by (lone_key steps) refl shows
    where
      by : (k : Option (List ℕ)) → lone_key steps ≡ k
          → MatchOption k ⊥ (λ key. GetComes failed seens (Tx name steps) entries key d)
          → MatchOption k ⊥ (λ key. GetComes failed seens (Tx name steps) entries key e)
          × PagesOrFails nodes failed seens (Tx name steps) (IsKeyOf (Tx name steps) []) next
      by None is shows = absurd shows
      by (Some key) is shows =
          let it = get_wants_by nodes failed seens (Tx name steps) entries key d e next w shows in
          (it.0, pages_for nodes failed seens (Tx name steps) key (IsKeyOf (Tx name steps) []) next (lone_key_is name steps key is) it.1)
  get_wants_for (Snapshot name child) next shows w = absurd shows
  get_wants_for (Branch name child) next shows w = absurd shows
  get_wants_for (Scan name low high limit) next shows w = absurd shows
  get_wants_for Versions next shows w = absurd shows

  told_for : (name key : List ℕ) (bytes : List ℕ) (taken : Taken)
      → GetIsTold nodes failed seens (Tx name (Get key ∷ [])) entries key bytes d e taken
      → GetIsToldBy nodes failed seens (Tx name (Get key ∷ [])) entries d.addr bytes d e taken
  told_for name key bytes Taken.GoesOn told = told
  told_for name key bytes Taken.Leaf told = absurd told
  told_for name key bytes (Taken.Replies reply) (leaf, may) =
      (λ newest before read shows. leaf_shows newest before d.addr name key bytes entries reply leaf shows read, may)
  told_for name key bytes (Taken.Fails None) told = absurd told
  told_for name key bytes (Taken.Fails (Some cause)) told =
      later_for failed (MeetsFor nodes seens (Tx name (Get key ∷ [])) key cause) (MeetsFault nodes seens (Tx name (Get key ∷ [])) (IsKeyOf (Tx name (Get key ∷ [])) []) cause)
      (λ fault. fault_for nodes seens (Tx name (Get key ∷ [])) key (IsKeyOf (Tx name (Get key ∷ [])) []) cause (0, lit< tt, refl) fault) told

  -- by the steps of a transaction
  by_steps : (name : List ℕ) (steps : List Step) (bytes : List ℕ) (taken : Taken)
      → GetShows failed seens (Tx name steps) entries (at.Get d)
      → MatchOption (lone_key steps) ⊥ (λ key. GetTakes (Some entries) key bytes d e taken)
      → IsReadBy failed seens d.addr bytes
      → GetIsToldBy nodes failed seens (Tx name steps) entries d.addr bytes d e taken
  by_steps name steps bytes taken shows t has = by (lone_key steps) refl shows t
    where
      by : (k : Option (List ℕ)) → lone_key steps ≡ k
          → MatchOption k ⊥ (λ key. GetComes failed seens (Tx name steps) entries key d)
          → MatchOption k ⊥ (λ key. GetTakes (Some entries) key bytes d e taken)
          → GetIsToldBy nodes failed seens (Tx name steps) entries d.addr bytes d e taken
      by None is shows t = absurd shows
      by (Some key) is shows t =
          let lone = lone_is steps key is in
          subst (λ (l : List Step). GetIsToldBy nodes failed seens (Tx name l) entries d.addr bytes d e taken) (sym lone)
          (told_for name key bytes taken
          (get_takes_by nodes failed seens (Tx name (Get key ∷ [])) entries key bytes d e taken t
          (subst (λ (l : List Step). GetComes failed seens (Tx name l) entries key d) lone shows) has))

  -- what the bytes of a page make of it
  pub get_takes_for : (known : Known) (op : Op) (addr : Addr) (bytes : List ℕ) (taken : Taken)
      → known.catalog ≡ Some entries → d.addr ≡ addr
      → GetShows failed seens op entries (at.Get d) → IsReadBy failed seens addr bytes
      → JobTakes known (is_later failed) addr bytes op (at.Get d) (at.Get e) taken
      → GetIsToldBy nodes failed seens op entries addr bytes d e taken
  get_takes_for known (Tx name steps) addr bytes taken kept here shows has t =
      subst (λ (a : Addr). GetIsToldBy nodes failed seens (Tx name steps) entries a bytes d e taken) here
      (by_steps name steps bytes taken shows
      (subst (λ (c : Option (List CatEntry)). MatchOption (lone_key steps) ⊥ (λ key. GetTakes c key bytes d e taken)) kept t)
      (subst (λ (a : Addr). IsReadBy failed seens a bytes) (sym here) has))
  get_takes_for known (Snapshot name child) addr bytes taken kept here shows has t = absurd shows
  get_takes_for known (Branch name child) addr bytes taken kept here shows has t = absurd shows
  get_takes_for known (Scan name low high limit) addr bytes taken kept here shows has t = absurd shows
  get_takes_for known Versions addr bytes taken kept here shows has t = absurd shows
