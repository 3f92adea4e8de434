-- What a try of a transaction of several steps shows in its client's own list.
use Rattle.std.proofs.Common.{◌≡◌, inl, inr, ℕ, zero, suc, ◌-◌, ◌<◌, ◌≤◌, ◌^◌, Bool, true, false, List, [], ◌∷◌, ◌++◌, map, length, Option, Some, None, Vec, Global, refl, subst, sym, ap, arith, slice_get, Contains}
use Rattle.std.specs.Prelude.{MatchOption}
use Rattle.std.specs.List.{AllByRecursion}
use Rattle.byteorder.specs.Endian.{big_bytes}
use Rattle.std.proofs.lemmas.Option.{slice_get_within}
use Rattle.mn_base.specs.Store.{number_named, step_key}
use Rattle.mn_base.specs.Tree.{parents_of}
use Rattle.mn_base.specs.declared.ids.Addr.{Addr}
use Rattle.mn_base.specs.declared.ids.NodeNo.{NodeNo}
use Rattle.mn_base.specs.declared.ids.VersionNo.{VersionNo}
use Rattle.mn_base.specs.declared.op.Op.{Op}
use Rattle.mn_base.specs.declared.op.Op.TheVariants.{Tx, Snapshot, Branch, Scan, Versions}
use Rattle.mn_base.specs.declared.op.Step.{Step}
use Rattle.mn_base.specs.declared.answer.Answer.{Answer}
use Rattle.mn_base.specs.declared.answer.Answer.TheVariants as answer
use Rattle.mn_base.specs.declared.answer.Busy.{Busy}
use Rattle.mn_base.proofs.Lists.{all_append}
use Rattle.mn_mini.specs.declared.item.Item.TheVariants.{Compare}
use Rattle.mn_mini.specs.Mini.{Mini}
use Rattle.mn_page.specs.declared.page.Page.{Page}
use Rattle.mn_page.specs.declared.entry.CatEntry.{CatEntry}
use Rattle.mn_page.specs.Forest.{heads_in}
use Rattle.mn_page.specs.Grammar.{IsPage, entry_bytes, page_bytes}
use Rattle.mn_page.specs.Overlay.{Held}
use Rattle.mn_page.specs.Space.{count_size, count_start, entry_start}
use Rattle.mn_tree.specs.Moves.{Comes, Does, LeadsTo, Move, comes_in}
use Rattle.mn_tree.specs.State.{Drafted, drafted_after, drafted_with, no_pages}
use Rattle.mn_tree.specs.Tries.{ComeTo}
use Rattle.mn_law.specs.Answers.{FreeSlots, IsKeyOf, MeetsFault, ShowsBytes, ShowsExpected}
use Rattle.mn_law.specs.Needs.{NeedsSlots, ReadsTree, WritesOld}
use Rattle.mn_runs.specs.Seen.{Place, Seen}
use Rattle.mn_law.specs.Places.{catalog_node, number_size}
use Rattle.mn_law.specs.Shown.{SeesCatalog, SeesPage, ServesNamed}
use Rattle.mn_page.specs.Holds.{page_serves}
use Rattle.mn_tree.specs.Walk.{is_live}
use Rattle.mn_plans.proofs.Told.{all_there}
use Rattle.mn_txn.specs.Attempt.{Attempt as Tried}
use Rattle.mn_txn.specs.Tries.{FreeSlotsAreLeft, TriesShowCauses, WornPagesShow}
use Rattle.mn_txn.specs.declared.seen.SeenPage.{SeenPage}
use Rattle.mn_txn.specs.Seen.{seen_as}
use Rattle.mn_work.specs.declared.attempt.Attempt.{Attempt}
use Rattle.mn_work.specs.declared.known.Known.{Known}
use Rattle.mn_work.specs.declared.next.Next.{Next}
use Rattle.mn_work.specs.declared.next.Taken.{Taken}
use Rattle.mn_work.specs.declared.work.Job.TheVariants as at
use Rattle.mn_proxy.specs.Agrees.{AreComparesShown}
use Rattle.mn_work.specs.Among.{AreBrought}
use Rattle.mn_work.specs.Attempts.{CountsOn, HasAll, HasCome, IsAnsweredAs, IsBegun, IsCause, IsOnItsWay, IsReadAt, IsShort, IsUnderWay, IsWorn}
use Rattle.mn_work.specs.Attempts.{KeepsVersion, SameButCounts, TakesBytes, TakesNone, TakesPage, WantsBy, tried}
use Rattle.mn_proxy.specs.Jobs.{AreCounted, IsOfTry, ReadsShow}
use Rattle.mn_work.specs.Walks.{Admits, IfLater, is_later, seen_page}
use Rattle.mn_work.specs.Works.{JobCounts, JobTakes, JobWants, StepsTake, StepsWant}
use Rattle.mn_work.proofs.Attempts.{admits_after, of_kept, take_all}
use Rattle.mn_proxy.proofs.Tries.{fault_for}
use Rattle.mn_proxy.proofs.Shown.{AnswerShown, TakenShown, WantShown, bad_count, begin_shown, counted_next, entry_shown, free_shown, later_is, none_counted, not_later, root_reached, seen_count, whole_shown}

-- The pages of a try

-- pages that came in are pages
came_pages : (parents : List (Option ℕ)) (v : VersionNo) (root : Addr) (d : Drafted)
    (moves : List Move) (after : Drafted) → LeadsTo parents v root d moves after
    → AllByRecursion (λ h. IsPage h.page) (comes_in moves)
came_pages parents v root d [] after leads = tt
came_pages parents v root d (Comes h ∷ moves) after leads =
    (leads.0.page, came_pages parents v root (drafted_with d h.addr h.page) moves after leads.1)
came_pages parents v root d (Does step ∷ moves) after leads =
    came_pages parents v root (drafted_after v d step leads.0) moves after leads.2

-- they were read at their addresses
came_seen : (seens : List Seen) (entries : List CatEntry) (name : List ℕ) (v : ℕ) (came : List Held)
    → number_named (heads_in entries) name ≡ Some v → AllByRecursion (λ h. IsPage h.page) came
    → AllByRecursion (λ h. page_serves entries v h.page ≡ true) came
    → AreBrought seens (map seen_as came)
    → AllByRecursion (λ h. (seen : Seen) × Contains seens seen × SeesPage seen h.addr h.page × ServesNamed entries name h.page) came
came_seen seens entries name v [] named pages serve brought = tt
came_seen seens entries name v (h ∷ came) named pages serve brought = (
  (seen_page h.addr (page_bytes h.page), brought.0, (refl, (pages.0, refl)), (v, named, serve.0)),
  came_seen seens entries name v came named pages.1 serve.1 brought.1,
)

-- pages that came in serve the version
came_serve : (entries : List CatEntry) (v : VersionNo) (root : Addr) (d : Drafted) (moves : List Move)
    (after : Drafted) → LeadsTo (parents_of (heads_in entries)) v root d moves after
    → AllByRecursion (λ h. page_serves entries v.0 h.page ≡ true) (comes_in moves)
unfolding is_live
came_serve entries v root d [] after leads = tt
came_serve entries v root d (Comes h ∷ moves) after leads =
    (leads.0.live, came_serve entries v root (drafted_with d h.addr h.page) moves after leads.1)
came_serve entries v root d (Does step ∷ moves) after leads =
    came_serve entries v root (drafted_after v d step leads.0) moves after leads.2

-- one more was brought
brought_next : (seens : List Seen) (pages : List SeenPage) (p : SeenPage) → AreBrought seens pages
    → Contains seens (seen_page p.addr p.bytes) → AreBrought seens (pages ++ p ∷ [])
brought_next seens pages p all has =
    all_append (λ q. Contains seens (seen_page q.addr q.bytes)) pages (p ∷ []) all (has, tt)

module _ (nodes : ℕ) (seens : List Seen) (op : Op) (entries : List CatEntry) where
  -- It begins

  pub begun_shows : (failed : ℕ) (version : VersionNo) (root : Addr) (a : Attempt)
      → Admits entries op version root → IsOfTry failed seens entries
      → IsBegun (parents_of (heads_in entries)) version root a
      → ReadsShow failed seens op entries (at.Transaction a)
  begun_shows failed version root a admits of begun = (
    of,
    brought failed,
    none_counted failed seens a.counts.items begun.counts,
    subst (λ (v : VersionNo). Admits entries op v a.root) (sym begun.version_is)
        (subst (λ (r : Addr). Admits entries op version r) (sym begun.root_is) admits),
  )
    where
      brought : (n : ℕ) → IfLater n (AreBrought seens a.pages.items)
      brought zero = tt
      brought (suc n) = subst (AreBrought seens) (sym begun.pages) tt

  -- It takes a count
  pub counts_shown : (failed : ℕ) (bytes : List ℕ) (a b : Attempt) (taken : Taken)
      → CountsOn a b bytes taken → SameButCounts a b
      → IfLater failed (Contains seens (seen_count a.counts.items bytes))
      → ReadsShow failed seens op entries (at.Transaction a)
      → TakenShown nodes failed seens op entries (at.Transaction b) taken
  counts_shown failed bytes a b Taken.GoesOn counts same has shows = (
    shows.0,
    pages failed shows.1,
    counted_next failed seens a.counts.items bytes b.counts.items counts.0 shows.2 has counts.1 counts.2,
    admits_after entries op a b same.0 shows.3,
  )
    where
      pages : (n : ℕ) → IfLater n (AreBrought seens a.pages.items) → IfLater n (AreBrought seens b.pages.items)
      pages zero told = tt
      pages (suc n) told = subst (λ (v : Vec SeenPage Global). AreBrought seens v.items) (sym same.2) told
  counts_shown failed bytes a b (Taken.Fails (Some cause)) counts same has shows = fails failed has
    where
      is_cause : (x y : Busy) → Some x ≡ Some y → y ≡ x
      is_cause x y e = cc

      fails : (n : ℕ) → IfLater n (Contains seens (seen_count a.counts.items bytes))
          → IfLater n (MeetsFault nodes seens op (IsKeyOf op []) cause)
      fails zero told = tt
      fails (suc n) told =
          subst (MeetsFault nodes seens op (IsKeyOf op [])) (is_cause cause _ counts.1)
          (bad_count nodes seens op (IsKeyOf op []) a.counts.items bytes told counts.0)
  counts_shown failed bytes a b (Taken.Fails None) counts same has shows = tt
  counts_shown failed bytes a b Taken.Leaf counts same has shows = absurd counts
  counts_shown failed bytes a b (Taken.Replies reply) counts same has shows = absurd counts

module _ (nodes : ℕ) (seens : List Seen) (name : List ℕ) (steps : List Step)
    (entries : List CatEntry) where
  abbrev op : Op
  op = Tx name steps

  -- What a later try has read

  -- the tree of its version
  abbrev reads_tree : (a : Attempt) (way : IsUnderWay nodes entries steps a) (seen : Seen)
      → Contains seens seen → SeesCatalog seen entries → AreBrought seens a.pages.items
      → Admits entries op a.version a.root → ReadsTree seens op
  reads_tree a way seen has sees brought admits = record {
    entries = entries;
    catalog = seen;
    version = a.version;
    entry = admits.entry;
    pages = way.came;
    seen = (has, sees);
    named = admits.named;
    at = admits.there;
    admitted = admits.admitted;
    read = came_seen seens entries name a.version.0 way.came admits.named
        (subst (AllByRecursion (λ h. IsPage h.page)) way.come.pages
        (came_pages (parents_of (heads_in entries)) a.version a.root no_pages way.moves a.overlay.draft way.come.leads))
        (subst (AllByRecursion (λ h. page_serves entries a.version.0 h.page ≡ true)) way.come.pages
        (came_serve entries a.version a.root no_pages way.moves a.overlay.draft way.come.leads))
        (subst (AreBrought seens) way.pages brought);
  }

  -- a compare of what the try went by
  read_shown : (a : Attempt) (seen : Seen) (n : NodeNo) (start : ℕ) (bytes : List ℕ)
      → Contains seens seen → SeesCatalog seen entries → AreBrought seens a.pages.items
      → ((m : NodeNo) (count : ℕ) → slice_get a.counts.items m.0 ≡ Some count
      → ShowsBytes seens m count_start (big_bytes count_size count))
      → IsReadAt entries a n start bytes → ShowsExpected seens n start bytes
  read_shown a seen n start bytes has sees brought counts (inl read) =
      inl (subst (λ (b : List ℕ). ShowsBytes seens n start b) read.bytes_are
      (begin_shown seens n start number_size read.page.bytes
      (whole_shown seens (seen_page read.page.addr read.page.bytes) n start read.page.bytes
      (all_there (λ (p : SeenPage). Contains seens (seen_page p.addr p.bytes)) a.pages.items read.page brought read.among)
      read.node_is read.start_is refl)))
  read_shown a seen n start bytes has sees brought counts (inr (inl read)) =
      let low = slice_get_within entries a.version.0 read.entry read.there in
      let few = sees.1 in
      inr (
        a.version.0,
        omega (arith, low, few),
        sym read.start_is,
        sym (ap (λ (b : List ℕ). length b) read.bytes_are),
        subst (λ (s : ℕ). ShowsBytes seens catalog_node s bytes) read.start_is
            (subst (λ (b : List ℕ). ShowsBytes seens catalog_node (entry_start a.version.0) b) read.bytes_are
            (begin_shown seens catalog_node (entry_start a.version.0) number_size (entry_bytes read.entry)
            (entry_shown seens seen entries a.version.0 read.entry has sees read.there))),
      )
  read_shown a seen n start bytes has sees brought counts (inr (inr read)) =
      inl (subst (λ (s : ℕ). ShowsBytes seens n s bytes) read.start_is
      (subst (λ (b : List ℕ). ShowsBytes seens n count_start b) read.bytes_are (counts n read.count read.there)))

  -- the cause of a walk that can't go on
  cause_shown : (a : Attempt) (seen : Seen) (cause : Busy) → Contains seens seen
      → SeesCatalog seen entries → AreBrought seens a.pages.items
      → Admits entries op a.version a.root → IsCause nodes entries steps a cause
      → MeetsFault nodes seens op (IsKeyOf op []) cause
  cause_shown a seen cause has sees brought admits is =
      fault_for nodes seens op (step_key is.step) (IsKeyOf op []) cause (key_of steps a.done is.step is.next)
      (is.met seens op
      (admits.named, root_reached seens op entries a.version a.root (step_key is.step) seen has sees admits)
      brought)
    where
      -- it is one of the steps
      key_of : (l : List Step) (k : ℕ) (step : Step) → slice_get l k ≡ Some step
          → Contains (map step_key l) (step_key step)
      key_of [] k step is = absurd cc
      key_of (x ∷ l) zero step is = (0, omega arith, ap step_key (some_same x step is))
        where
          some_same : (x y : Step) → Some x ≡ Some y → x ≡ y
          some_same x y e = cc
      key_of (x ∷ l) (suc k) step is =
          let rest = key_of l k step is in (suc rest.0, (let low = rest.1 in omega arith), rest.2)

  -- all steps were done on the tree
  come_by : (a : Attempt) (way : IsUnderWay nodes entries steps a) (entry : CatEntry)
      → entry.root ≡ a.root → a.done ≡ length steps
      → ComeTo (parents_of (heads_in entries)) a.version entry.root way.moves a.overlay.draft way.came steps a.found.items
  come_by a way entry root done =
      subst (λ (r : Addr). ComeTo (parents_of (heads_in entries)) a.version r way.moves a.overlay.draft way.came steps a.found.items) (sym root)
      (subst (λ (l : List Step). ComeTo (parents_of (heads_in entries)) a.version a.root way.moves a.overlay.draft way.came l a.found.items) (take_all steps a.done done) way.come)

  -- too few slots
  full_shown : (causes : TriesShowCauses) (left : FreeSlotsAreLeft) (a : Attempt) (seen : Seen) (need free : ℕ) → Contains seens seen
      → SeesCatalog seen entries → AreBrought seens a.pages.items
      → ((m : NodeNo) (count : ℕ) → slice_get a.counts.items m.0 ≡ Some count
      → ShowsBytes seens m count_start (big_bytes count_size count))
      → Admits entries op a.version a.root → IsUnderWay nodes entries steps a
      → HasAll nodes steps a → IsShort a need free
      → (free < need) × NeedsSlots seens op need × FreeSlots nodes seens free
  full_shown causes left a seen need free has sees brought counts admits way all short =
      let tree = reads_tree a way seen has sees brought admits in
      let come = come_by a way admits.entry admits.root_is all.0 in
      let some : 1 ≤ a.overlay.draft.overlay.fresh = (let low = short.2 in omega (arith, short.0)) in (
        short.2,
        subst (NeedsSlots seens op) (sym short.0)
            (causes seens name steps tree (parents_of (heads_in entries)) way.moves a.overlay.draft a.found.items come way.many).0,
        free_shown left nodes seens a.counts.items free way.given (all.1 some) short.1 counts,
      )

  -- a page that is worn
  worn_shown : (worns : WornPagesShow) (a : Attempt) (seen : Seen) (node : NodeNo) (start : ℕ) → Contains seens seen
      → SeesCatalog seen entries → AreBrought seens a.pages.items
      → Admits entries op a.version a.root → IsUnderWay nodes entries steps a
      → a.done ≡ length steps → IsWorn nodes entries steps a node start
      → (place : Place) × (place.node ≡ node) × (place.start ≡ start) × WritesOld seens op place
      × ShowsBytes seens node start (big_bytes 8 (2 ^ 64 - 1))
  worn_shown worns a seen node start has sees brought admits way done worn =
      let tree = reads_tree a way seen has sees brought admits in
      let come = come_by a way admits.entry admits.root_is done in
      let w = worn way in
      let its : Tried = record (tried nodes entries steps a way) { name = name } in
      worns seens its tree (parents_of (heads_in entries)) a.found.items node start come way.many
      (record {
        addr = w.addr;
        page = w.page;
        changed = w.changed;
        came = w.came;
        last = w.last;
        number = w.number;
        node_is = w.node_is;
        start_is = w.start_is;
      })

  -- What it wants

  module _ (known : Known) (kept : known.catalog ≡ Some entries) (of : known.nodes ≡ nodes) where
    -- the reads that its job shows stay
    pub wants_reads : (failed : ℕ) (a b : Attempt) (next : Next)
        → StepsWant known (is_later failed) steps a b next
        → ReadsShow failed seens op entries (at.Transaction a)
        → ReadsShow failed seens op entries (at.Transaction b)
    wants_reads zero a b next w shows = (tt, tt, tt, admits_after entries op a b w.keeps shows.3)
    wants_reads (suc later) a b next w shows = (
      shows.0,
      subst (λ (v : Vec SeenPage Global). AreBrought seens v.items) (sym (w.pages (later_is later))) shows.1,
      subst (λ (v : Vec ℕ Global). AreCounted (suc later) seens v.items) (sym w.counts) shows.2,
      admits_after entries op a b w.keeps shows.3,
    )

    by_entries : (later : Bool) (b : Attempt) (next : Next)
        → MatchOption known.catalog ⊥ (λ es. WantsBy known.nodes es later steps b next)
        → WantsBy nodes entries later steps b next
    by_entries later b next wants =
        subst (λ (n : ℕ). WantsBy n entries later steps b next) of
        (of_kept known.catalog entries (λ es. WantsBy known.nodes es later steps b next) kept wants)

    way_by : (b : Attempt) → IsOnItsWay known steps b → IsUnderWay nodes entries steps b
    way_by b way =
        subst (λ (n : ℕ). IsUnderWay n entries steps b) of
        (of_kept known.catalog entries (λ es. IsUnderWay known.nodes es steps b) kept way)

    plan_shown : (failed : ℕ) (b : Attempt) (mini : Mini)
        → ((n : NodeNo) (start : ℕ) (bytes : List ℕ) → Contains mini.items (Compare n start bytes)
        → IsReadAt entries b n start bytes)
        → ReadsShow failed seens op entries (at.Transaction b)
        → IfLater failed (AreComparesShown seens mini)
    plan_shown zero b mini read shows = tt
    plan_shown (suc later) b mini read shows =
        λ n start bytes has.
        read_shown b shows.0.0 n start bytes shows.0.1 shows.0.2 shows.1 shows.2 (read n start bytes has)

    fails_shown : (failed : ℕ) (b : Attempt) (cause : Busy)
        → (is_later failed ≡ true → IsCause nodes entries steps b cause)
        → ReadsShow failed seens op entries (at.Transaction b)
        → IfLater failed (MeetsFault nodes seens op (IsKeyOf op []) cause)
    fails_shown zero b cause is shows = tt
    fails_shown (suc later) b cause is shows =
        cause_shown b shows.0.0 cause shows.0.1 shows.0.2 shows.1 shows.3 (is (later_is later))

    answer_shown : (causes : TriesShowCauses) (worns : WornPagesShow) (left : FreeSlotsAreLeft) (failed : ℕ) (b : Attempt) (answer : Answer) → is_later failed ≡ true
        → IsOnItsWay known steps b → HasAll nodes steps b
        → IsAnsweredAs nodes entries steps b answer
        → ReadsShow failed seens op entries (at.Transaction b)
        → AnswerShown nodes failed seens op answer
    answer_shown causes worns left zero b answer late way all is shows =
        absurd (not_later late)
    answer_shown causes worns left (suc later) b (answer.Full need free) late way all is shows =
        let full = full_shown causes left b shows.0.0 need free shows.0.1 shows.0.2 shows.1 shows.2 shows.3 (way_by b way) all is in
        (late, full.0, full.1, full.2)
    answer_shown causes worns left (suc later) b (answer.Worn node start) late way all is shows =
        (late, worn_shown worns b shows.0.0 node start shows.0.1 shows.0.2 shows.1 shows.3 (way_by b way) all.0 is.1)
    answer_shown causes worns left (suc later) b (answer.Replied reply) late way all is shows = absurd is
    answer_shown causes worns left (suc later) b (answer.Busy busy) late way all is shows = absurd is
    answer_shown causes worns left (suc later) b (answer.Down node) late way all is shows = absurd is
    answer_shown causes worns left (suc later) b (answer.InDoubt tid node) late way all is shows = absurd is
    answer_shown causes worns left (suc later) b answer.NoMemory late way all is shows = absurd is

    -- what is shown where it wants this
    pub wants_shown : (causes : TriesShowCauses) (worns : WornPagesShow) (left : FreeSlotsAreLeft)
        (failed : ℕ) (a b : Attempt) (next : Next)
        → StepsWant known (is_later failed) steps a b next
        → ReadsShow failed seens op entries (at.Transaction a)
        → WantShown nodes failed seens op entries (at.Transaction b) next
    wants_shown causes worns left failed a b (Next.Page addr peek) w shows = tt
    wants_shown causes worns left failed a b (Next.Count node peek) w shows = tt
    wants_shown causes worns left failed a b (Next.Plan mini reply) w shows =
        let plan = by_entries (is_later failed) b (Next.Plan mini reply) w.wants in
        let after = wants_reads failed a b (Next.Plan mini reply) w shows in (
          λ es catalog last. plan.does name es after.3 catalog last,
          plan_shown failed b mini plan.compares after,
          plan.nodes_are,
          plan.plan,
        )
    wants_shown causes worns left failed a b (Next.Fails (Some cause)) w shows =
        let is = by_entries (is_later failed) b (Next.Fails (Some cause)) w.wants in
        fails_shown failed b cause (λ l. is.2) (wants_reads failed a b (Next.Fails (Some cause)) w shows)
    wants_shown causes worns left failed a b (Next.Fails None) w shows = tt
    wants_shown causes worns left failed a b (Next.Answers answer) w shows =
        let is = by_entries (is_later failed) b (Next.Answers answer) w.wants in
        answer_shown causes worns left failed b answer is.0 w.way is.1 is.2 (wants_reads failed a b (Next.Answers answer) w shows)
    wants_shown causes worns left failed a b Next.Catalog w shows =
        absurd (by_entries (is_later failed) b Next.Catalog w.wants)

    -- What it takes

    -- a page came in that was read
    come_reads : (failed : ℕ) (addr : Addr) (bytes : List ℕ) (leaf : Bool) (a b : Attempt)
        → KeepsVersion a b → b.counts ≡ a.counts → HasCome a addr bytes leaf b
        → IfLater failed (Contains seens (seen_page addr bytes))
        → ReadsShow failed seens op entries (at.Transaction a)
        → ReadsShow failed seens op entries (at.Transaction b)
    come_reads zero addr bytes leaf a b keeps counts come has shows =
        (tt, tt, tt, admits_after entries op a b keeps shows.3)
    come_reads (suc later) addr bytes leaf a b keeps counts come has shows = (
      shows.0,
      subst (AreBrought seens) (sym come)
          (brought_next seens a.pages.items (record { addr = addr; bytes = bytes; leaf = leaf }) shows.1 has),
      subst (λ (v : Vec ℕ Global). AreCounted (suc later) seens v.items) (sym counts) shows.2,
      admits_after entries op a b keeps shows.3,
    )

    none_shown : (failed : ℕ) (b : Attempt) (taken : Taken)
        → TakesNone nodes entries (is_later failed) steps b taken
        → ReadsShow failed seens op entries (at.Transaction b)
        → TakenShown nodes failed seens op entries (at.Transaction b) taken
    none_shown failed b Taken.GoesOn is shows = absurd is
    none_shown failed b Taken.Leaf is shows = absurd is
    none_shown failed b (Taken.Replies reply) is shows = absurd is
    none_shown failed b (Taken.Fails None) is shows = tt
    none_shown failed b (Taken.Fails (Some cause)) is shows =
        fails_shown failed b cause (λ l. is.1) shows

    page_shown : (failed : ℕ) (addr : Addr) (page : Page) (a b : Attempt) (taken : Taken)
        → TakesPage nodes entries (is_later failed) steps a addr page b taken
        → ReadsShow failed seens op entries (at.Transaction b)
        → TakenShown nodes failed seens op entries (at.Transaction b) taken
    page_shown failed addr page a b Taken.GoesOn is shows = shows
    page_shown failed addr page a b Taken.Leaf is shows = absurd is
    page_shown failed addr page a b (Taken.Replies reply) is shows = absurd is
    page_shown failed addr page a b (Taken.Fails None) is shows = tt
    page_shown failed addr page a b (Taken.Fails (Some cause)) is shows =
        fails_shown failed b cause (λ l. is.2) shows

    -- what is shown where it took a page
    pub takes_shown : (failed : ℕ) (addr : Addr) (bytes : List ℕ) (a b : Attempt) (taken : Taken)
        → StepsTake known (is_later failed) steps addr bytes a b taken
        → IfLater failed (Contains seens (seen_page addr bytes))
        → ReadsShow failed seens op entries (at.Transaction a)
        → TakenShown nodes failed seens op entries (at.Transaction b) taken
    takes_shown failed addr bytes a b taken t has shows =
        by (subst (λ (n : ℕ). TakesBytes n entries (is_later failed) steps a addr bytes b taken) of
        (of_kept known.catalog entries (λ es. TakesBytes known.nodes es (is_later failed) steps a addr bytes b taken) kept t.takes))
      where
        by : TakesBytes nodes entries (is_later failed) steps a addr bytes b taken
            → TakenShown nodes failed seens op entries (at.Transaction b) taken
        by (inl (none, come, is)) =
            none_shown failed b taken is (come_reads failed addr bytes false a b t.keeps t.counts come has shows)
        by (inr (page, spells, come, is)) =
            page_shown failed addr page a b taken is (come_reads failed addr bytes _ a b t.keeps t.counts come has shows)

-- For whatever operation is under way

module _ (nodes failed : ℕ) (seens : List Seen) (entries : List CatEntry) (known : Known)
    (kept : known.catalog ≡ Some entries) (of : known.nodes ≡ nodes) (a b : Attempt) where
  -- it wants this
  pub steps_want_for : (causes : TriesShowCauses) (worns : WornPagesShow) (left : FreeSlotsAreLeft)
      (op : Op) (next : Next)
      → JobWants known (is_later failed) op (at.Transaction a) (at.Transaction b) next
      → ReadsShow failed seens op entries (at.Transaction a)
      → ReadsShow failed seens op entries (at.Transaction b)
      × WantShown nodes failed seens op entries (at.Transaction b) next
  steps_want_for causes worns left (Tx name steps) next wants shows = (
    wants_reads nodes seens name steps entries known kept of failed a b next wants shows,
    wants_shown nodes seens name steps entries known kept of causes worns left failed a b next wants shows,
  )
  steps_want_for causes worns left (Snapshot name child) next wants shows = absurd wants
  steps_want_for causes worns left (Branch name child) next wants shows = absurd wants
  steps_want_for causes worns left (Scan name low high limit) next wants shows = absurd wants
  steps_want_for causes worns left Versions next wants shows = absurd wants

  -- it took a page
  pub steps_take_for : (op : Op) (addr : Addr) (bytes : List ℕ) (taken : Taken)
      → JobTakes known (is_later failed) addr bytes op (at.Transaction a) (at.Transaction b) taken
      → IfLater failed (Contains seens (seen_page addr bytes))
      → ReadsShow failed seens op entries (at.Transaction a)
      → TakenShown nodes failed seens op entries (at.Transaction b) taken
  steps_take_for (Tx name steps) addr bytes taken takes has shows =
      takes_shown nodes seens name steps entries known kept of failed addr bytes a b taken takes has shows
  steps_take_for (Snapshot name child) addr bytes taken takes has shows = absurd takes
  steps_take_for (Branch name child) addr bytes taken takes has shows = absurd takes
  steps_take_for (Scan name low high limit) addr bytes taken takes has shows = absurd takes
  steps_take_for Versions addr bytes taken takes has shows = absurd takes

-- it took a count
pub steps_count_for : (nodes failed : ℕ) (seens : List Seen) (op : Op) (entries : List CatEntry)
    (a b : Attempt) (bytes : List ℕ) (taken : Taken)
    → JobCounts bytes (at.Transaction a) (at.Transaction b) taken
    → IfLater failed (Contains seens (seen_count a.counts.items bytes))
    → ReadsShow failed seens op entries (at.Transaction a)
    → TakenShown nodes failed seens op entries (at.Transaction b) taken
steps_count_for nodes failed seens op entries a b bytes taken counts has shows =
    counts_shown nodes seens op entries failed bytes a b taken counts.0 counts.1 has shows
