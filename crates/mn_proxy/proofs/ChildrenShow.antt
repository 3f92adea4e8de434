-- What a try of a Snapshot or a Branch shows in its client's own list.
use Rattle.std.proofs.Common.{◌≡◌, ◌⊎◌, inl, inr, ℕ, zero, suc, ◌+◌, ◌-◌, ◌*◌, ◌<◌, ◌≤◌, ◌^◌, Bool, true, false, not, ◌&&◌, List, [], ◌∷◌, length, replicate, take, Option, Some, None, Vec, Global, refl, subst, sym, ap, ◌∙◌, arith, slice_get, Contains, if◌then◌else◌}
use Rattle.std.specs.Prelude.{⊤, IsTrue, MatchOption, nat_le}
use Rattle.std.specs.List.{AllByRecursion, flat_map}
use Rattle.std.specs.Option.{is_some}
use Rattle.std.proofs.lemmas.Bool.Decides.{nat_tests}
use Rattle.std.proofs.lemmas.List.{drop-replicate, length-map, length-replicate, take-replicate}
use Rattle.byteorder.specs.Endian.{big_bytes}
use Rattle.mn_alloc.specs.Plan.{next_node, next_slot}
use Rattle.mn_base.specs.Store.{Head, child_refusal, head_named, max_versions, op_version, refusal, refusal_at}
use Rattle.mn_base.specs.Tree.{has_version, parents_of}
use Rattle.mn_base.specs.declared.ids.Addr.{Addr}
use Rattle.mn_base.specs.declared.ids.NodeNo.{NodeNo}
use Rattle.mn_base.specs.declared.ids.VersionNo.{VersionNo}
use Rattle.mn_base.specs.declared.op.Op.{Op}
use Rattle.mn_base.specs.declared.op.Op.TheVariants.{Tx, Snapshot, Branch, Scan, Versions}
use Rattle.mn_base.specs.declared.answer.Answer.{Answer}
use Rattle.mn_base.specs.declared.answer.Answer.TheVariants as answer
use Rattle.mn_base.specs.declared.answer.Busy.{Busy}
use Rattle.mn_base.specs.declared.answer.Busy.TheVariants.{Path}
use Rattle.mn_base.specs.declared.reply.Reply.{Reply}
use Rattle.mn_base.specs.declared.reply.Reply.TheVariants.{Frozen, NameTaken, NotFrozen, VersionsFull}
use Rattle.mn_mini.specs.declared.item.Item.TheVariants.{Compare}
use Rattle.mn_mini.specs.Flat.{bytes_in}
use Rattle.mn_mini.specs.Mini.{Mini}
use Rattle.mn_page.specs.declared.page.Page.{Page}
use Rattle.mn_page.specs.declared.entry.CatEntry.{CatEntry}
use Rattle.mn_page.specs.Forest.{entry_head, heads_in}
use Rattle.mn_page.specs.Grammar.{SpellsPage, entry_bytes, padded, page_bytes}
use Rattle.mn_page.specs.Space.{count_size, count_start, entry_size, entry_start, slot_start}
use Rattle.mn_path.specs.Walk.{front_of, is_on_path}
use Rattle.mn_law.specs.Answers.{IsKeyOf, IsPageAtFault, MeetsFault, ReachesAddr, ShowsBytes, ShowsExpected, is_copying}
use Rattle.mn_runs.specs.Clients.{is_plan}
use Rattle.mn_plans.specs.Growth.{node_no}
use Rattle.mn_law.specs.Needs.{NeedsSlots, ReadsTree, WritesOld}
use Rattle.mn_runs.specs.Seen.{Place, Seen}
use Rattle.mn_law.specs.Places.{catalog_node, entry_place, number_size, page_place}
use Rattle.mn_law.specs.Planned.{IsPlanned}
use Rattle.mn_law.specs.Shown.{SeesCatalog}
use Rattle.mn_law.proofs.Pieces.{bytes_in-skip, length-pieces, entry_sizes}
use Rattle.mn_txn.specs.Children.{ChildTry, branch_writes, child_reads, snapshot_writes}
use Rattle.mn_txn.specs.ChildPlan.{IsVersion, IsWornEntry, IsWornRoot, child_try}
use Rattle.mn_txn.specs.Tries.{FreeSlotsAreLeft}
use Rattle.mn_txn.specs.declared.image.Image.{Image}
use Rattle.mn_work.specs.declared.child.Child.{Child}
use Rattle.mn_work.specs.declared.known.Known.{Known}
use Rattle.mn_work.specs.declared.next.Next.{Next}
use Rattle.mn_work.specs.declared.next.Taken.{Taken}
use Rattle.mn_work.specs.declared.work.Job.TheVariants as at
use Rattle.mn_proxy.specs.Agrees.{AreComparesShown}
use Rattle.mn_work.specs.Children.{CountsOn, EndsBy, IsAnsweredAs, IsOnItsWay, IsPlanFor, IsUnderWay, IsWanted, IsWornFor}
use Rattle.mn_work.specs.Children.{KeepsTry, MakesChild, SameButCounts, TakesRoot, TakesRootBytes, UnlessFails, WantsCount, WantsEnd, WantsPage, may_copy}
use Rattle.mn_proxy.specs.Jobs.{AreCounted, IsBrought, IsOfTry, ReadsShow}
use Rattle.mn_work.specs.Last.{PageIsLast}
use Rattle.mn_work.specs.Seen.{SpellsNone}
use Rattle.mn_work.specs.Walks.{Admits, IfLater, is_later, seen_page}
use Rattle.mn_work.specs.Works.{AsksPageFor, ChildTakes, ChildWants, IsJobIn, IsNewChild, JobCounts, JobTakes, JobWants}
use Rattle.mn_work.proofs.Attempts.{of_kept}
use Rattle.mn_work.proofs.Compares.{items_plan, of_items, within_is}
use Rattle.mn_proxy.proofs.Shown.{AnswerShown, TakenShown, WantShown, bad_count, begin_shown, counted_next, entry_shown, free_shown, front_shown, later_is, none_counted, not_later, root_reached, seen_count, whole_shown}
use Rattle.mn_proxy.proofs.Tries.{fault_for}
use Rattle.mn_work.proofs.Walks.{at_fault, bad_page, either, no_node, no_page}

-- Room for a version

-- a child that isn't refused has room
room_for : (hs : List Head) (child : List ℕ) → child_refusal hs child ≡ None
    → length hs < max_versions
room_for hs child none = by (is_some (head_named hs child)) none
  where
    full : (t : Bool) → nat_le max_versions (length hs) ≡ t
        → (if t then Some VersionsFull else None) ≡ None → length hs < max_versions
    full true e f = absurd cc
    full false e f = grind (arith, nat_tests)

    by : (t : Bool)
        → (if t then Some NameTaken else (if nat_le max_versions (length hs) then Some VersionsFull else None)) ≡ None
        → length hs < max_versions
    by true f = absurd cc
    by false f = full (nat_le max_versions (length hs)) refl f

room_of_snapshot : (hs : List Head) (name child : List ℕ) (o : Option Head)
    → refusal_at hs (Snapshot name child) o ≡ None → length hs < max_versions
room_of_snapshot hs name child None e = absurd cc
room_of_snapshot hs name child (Some h) e = by h.frozen e
  where
    by : (t : Bool) → (if t then Some Frozen else child_refusal hs child) ≡ None
        → length hs < max_versions
    by true f = absurd cc
    by false f = room_for hs child f

room_of_branch : (hs : List Head) (name child : List ℕ) (o : Option Head)
    → refusal_at hs (Branch name child) o ≡ None → length hs < max_versions
room_of_branch hs name child None e = absurd cc
room_of_branch hs name child (Some h) e = by h.frozen e
  where
    by : (t : Bool) → (if t then child_refusal hs child else Some NotFrozen) ≡ None
        → length hs < max_versions
    by true f = room_for hs child f
    by false f = absurd cc

-- the entries have room for the child of an operation that isn't refused
room_in : (entries : List CatEntry) (op : Op) → MakesChild op → refusal (heads_in entries) op ≡ None
    → length entries < max_versions
room_in entries (Snapshot name child) makes none =
    subst (λ k. k < max_versions) (length-map entries entry_head)
    (room_of_snapshot (heads_in entries) name child (head_named (heads_in entries) name) none)
room_in entries (Branch name child) makes none =
    subst (λ k. k < max_versions) (length-map entries entry_head)
    (room_of_branch (heads_in entries) name child (head_named (heads_in entries) name) none)
room_in entries (Tx name steps) makes none = absurd makes
room_in entries (Scan name low high limit) makes none = absurd makes
room_in entries Versions makes none = absurd makes

-- the first unused place of a catalog that was read has zeros
unused_shown : (seens : List Seen) (seen : Seen) (entries : List CatEntry)
    → Contains seens seen → SeesCatalog seen entries → length entries < max_versions
    → ShowsBytes seens catalog_node (entry_start (length entries)) (replicate entry_size 0)
unused_shown seens seen entries has sees few =
    let starts : seen.place.start ≡ 64 = ap (λ (p : Place). p.start) sees.0 in
    let long : length (flat_map entry_bytes entries) ≡ 64 * length entries = length-pieces entry_bytes 64 entries (entry_sizes entries sees.2) in
    let inside : 64 + 64 * length entries - seen.place.start ≡ 64 * length entries = omega (arith, starts) in
    let size : length {A = ℕ} (replicate entry_size 0) ≡ 64 = length-replicate {A = ℕ} 64 0 in (
      seen,
      has,
      ap (λ (p : Place). p.node) sees.0,
      omega (arith, starts),
      ap (λ k. bytes_in seen.bytes (64 + 64 * length entries - seen.place.start) k) size
          ∙ (ap (λ k. bytes_in seen.bytes k 64) inside
          ∙ (ap (λ (b : List ℕ). bytes_in b (64 * length entries) 64) sees.3
          ∙ behind (flat_map entry_bytes entries) 4096 (64 * length entries) 64 (omega (arith, long)) (omega (arith, few)))),
    )
  where
    behind : (a : List ℕ) (total s k : ℕ) → length a ≤ s → s + k ≤ total
        → bytes_in (padded total a) s k ≡ replicate k 0
    behind a total s k low high =
        bytes_in-skip a (replicate (total - length a) 0) s (s - length a) k (omega arith)
        ∙ (ap (take k) (drop-replicate (s - length a) (total - length a) 0) ∙ take-replicate k (total - length a - (s - length a)) 0 (omega arith))

-- The version

module _ (entries : List CatEntry) (op : Op) (c : Child) (admits : Admits entries op c.version c.root)
    (version : VersionNo) (entry : CatEntry) (is : IsVersion entries (op_version op) version entry) where
  -- the version of the name is the try's
  same_number : version.0 ≡ c.version.0
  same_number = let e = sym is.named ∙ admits.named in cc

  same_entry : admits.entry ≡ entry
  same_entry =
      let e = sym admits.there ∙ ap (λ v. slice_get entries v) (sym same_number) ∙ is.there in cc

  root_at : c.root ≡ entry.root
  root_at = sym admits.root_is ∙ ap (λ (e : CatEntry). e.root) same_entry

-- What a later try has read

module _ (nodes : ℕ) (seens : List Seen) (op : Op) (entries : List CatEntry) (c : Child)
    (seen : Seen) (has : Contains seens seen) (sees : SeesCatalog seen entries)
    (makes : MakesChild op) (admits : Admits entries op c.version c.root) where
  -- any key leads to the root
  root_is_reached : ReachesAddr seens op entries [] c.root None
  root_is_reached = root_reached seens op entries c.version c.root [] seen has sees admits

  abbrev reads_tree : ReadsTree seens op
  reads_tree = record {
    entries = entries;
    catalog = seen;
    version = c.version;
    entry = admits.entry;
    pages = [];
    seen = (has, sees);
    named = admits.named;
    at = admits.there;
    admitted = admits.admitted;
    read = tt;
  }

  needs_one : NeedsSlots seens op 1
  needs_one = by op makes reads_tree
    where
      by : (o : Op) → MakesChild o → ReadsTree seens o → NeedsSlots seens o 1
      by (Snapshot name child) m t = (t, refl)
      by (Branch name child) m t = (t, refl)
      by (Tx name steps) m t = absurd m
      by (Scan name low high limit) m t = absurd m
      by Versions m t = absurd m

  -- what such a plan compares
  compares_shown : (root : Page) (slot : Addr) (child : List ℕ) (version : VersionNo) (entry : CatEntry)
      → IsVersion entries (op_version op) version entry
      → Contains seens (seen_page c.root (page_bytes root))
      → ShowsBytes seens slot.node count_start (big_bytes count_size slot.slot)
      → AllByRecursion (λ i. ShowsBytes seens i.node i.start i.bytes)
      (child_reads (child_try entries nodes (op_version op) child version entry root slot))
  compares_shown root slot child version entry is brought count = (
    whole_shown seens (seen_page c.root (page_bytes root)) entry.root.node (slot_start entry.root.slot) (page_bytes root) brought
        (ap (λ (a : Addr). a.node) at_root) (ap (λ (a : Addr). slot_start a.slot) at_root) refl,
    (
      entry_shown seens seen entries version.0 entry has sees is.there,
      (unused_shown seens seen entries has sees (room_in entries op makes admits.admitted), (count, tt)),
    ),
  )
    where
      at_root : c.root ≡ entry.root
      at_root = root_at entries op c admits version entry is

  -- a root page that is worn
  root_worn : (root : Page) (node : NodeNo) (start : ℕ) → IsWornRoot entries (op_version op) root node start
      → Contains seens (seen_page c.root (page_bytes root))
      → (place : Place) × (place.node ≡ node) × (place.start ≡ start) × WritesOld seens op place
      × ShowsBytes seens node start (big_bytes 8 (2 ^ 64 - 1))
  root_worn root node start worn brought = (
    page_place admits.entry.root,
    ap (λ (e : CatEntry). e.root.node) same ∙ worn.node_is,
    ap (λ (e : CatEntry). slot_start e.root.slot) same ∙ worn.start_is,
    by op makes reads_tree,
    front_shown seens node start 8 (page_bytes root) (big_bytes 8 (2 ^ 64 - 1))
        (whole_shown seens (seen_page c.root (page_bytes root)) node start (page_bytes root) brought
        (ap (λ (a : Addr). a.node) at_root ∙ worn.node_is) (ap (λ (a : Addr). slot_start a.slot) at_root ∙ worn.start_is) refl)
        (ap (big_bytes 8) worn.last) refl,
  )
    where
      same : admits.entry ≡ worn.entry
      same = same_entry entries op c admits worn.version worn.entry worn.is

      at_root : c.root ≡ worn.entry.root
      at_root = root_at entries op c admits worn.version worn.entry worn.is

      by : (o : Op) → MakesChild o → (t : ReadsTree seens o) → WritesOld seens o (page_place t.entry.root)
      by (Snapshot name child) m t = (t, inl (t.entry.root ∷ [], t.entry.root, refl, (0, omega arith, refl), refl))
      by (Branch name child) m t = (t, inl (t.entry.root ∷ [], t.entry.root, refl, (0, omega arith, refl), refl))
      by (Tx name steps) m t = absurd m
      by (Scan name low high limit) m t = absurd m
      by Versions m t = absurd m

-- a version's entry that is worn
entry_worn : (seens : List Seen) (name child : List ℕ) (entries : List CatEntry) (c : Child)
    (seen : Seen) → Contains seens seen → SeesCatalog seen entries
    → Admits entries (Snapshot name child) c.version c.root → (node : NodeNo) (start : ℕ)
    → IsWornEntry entries name node start
    → (place : Place) × (place.node ≡ node) × (place.start ≡ start)
    × WritesOld seens (Snapshot name child) place
    × ShowsBytes seens node start (big_bytes 8 (2 ^ 64 - 1))
entry_worn seens name child entries c seen has sees admits node start worn = (
  entry_place catalog_node c.version.0,
  first,
  ap entry_start (sym number) ∙ worn.start_is,
  (reads_tree 0 seens (Snapshot name child) entries c seen has sees tt admits, inr refl),
  front_shown seens node start 8 (entry_bytes worn.entry) (big_bytes 8 (2 ^ 64 - 1))
      (subst (λ (n : NodeNo). ShowsBytes seens n start (entry_bytes worn.entry)) first
      (subst (λ (k : ℕ). ShowsBytes seens catalog_node k (entry_bytes worn.entry)) worn.start_is
      (entry_shown seens seen entries worn.version.0 worn.entry has sees worn.is.there)))
      (ap (big_bytes 8) worn.last) refl,
)
  where
    number : worn.version.0 ≡ c.version.0
    number = same_number entries (Snapshot name child) c admits worn.version worn.entry worn.is

    zeroth : (n : NodeNo) → n.0 ≡ 0 → catalog_node ≡ n
    zeroth n e = ap node_no (sym e)

    first : catalog_node ≡ node
    first = zeroth node worn.node_is

-- a Snapshot and a Branch look at the root by the least key
least_key : (op : Op) → MakesChild op → IsKeyOf op [] []
least_key (Snapshot name child) makes = refl
least_key (Branch name child) makes = refl
least_key (Tx name steps) makes = absurd makes
least_key (Scan name low high limit) makes = absurd makes
least_key Versions makes = absurd makes

module _ (nodes : ℕ) (seens : List Seen) (op : Op) (entries : List CatEntry) where
  -- It begins

  -- the page that is there, if one is
  page_zero : (page : Option Page) (root : Addr) → MatchOption page ⊤ (IsBrought zero seens root)
  page_zero None root = tt
  page_zero (Some p) root = tt

  pub new_shows : (failed : ℕ) (version : VersionNo) (root : Addr) (c : Child)
      → IsOfTry failed seens entries → IsNewChild version root c
      → ReadsShow failed seens op entries (at.Child c)
  new_shows failed version root c of new = (
    of,
    subst (λ (o : Option Page). MatchOption o ⊤ (IsBrought failed seens c.root)) (sym new.page) tt,
    none_counted failed seens c.counts.items new.counts,
  )

  -- What it wants

  -- what shows images shows how they begin
  begins_shown : (reads : List Image) → AllByRecursion (λ i. ShowsBytes seens i.node i.start i.bytes) reads
      → AllByRecursion (λ i. ShowsExpected seens i.node i.start (take number_size i.bytes)) reads
  begins_shown [] all = tt
  begins_shown (i ∷ reads) all =
      (inl (begin_shown seens i.node i.start number_size i.bytes all.0), begins_shown reads all.1)

  -- its plan compares what was read
  plan_read : (o : Op) (c : Child) (seen : Seen) (mini : Mini) (root : Page) (slot : Addr)
      → Contains seens seen → SeesCatalog seen entries → MakesChild o
      → Admits entries o c.version c.root → Contains seens (seen_page c.root (page_bytes root))
      → ShowsBytes seens slot.node count_start (big_bytes count_size slot.slot)
      → IsPlanFor nodes entries o root slot mini → AreComparesShown seens mini
  plan_read (Snapshot name child) c seen mini root slot has sees makes admits brought count plan n start bytes there =
      of_items (λ n start bytes. ShowsExpected seens n start bytes) (child_reads its) (snapshot_writes nodes its)
      (begins_shown (child_reads its) (compares_shown nodes seens (Snapshot name child) entries c seen has sees makes admits root slot child plan.version plan.entry plan.is brought count))
      n start bytes (subst (λ (x : Mini). Contains x.items (Compare n start bytes)) plan.items there)
    where
      its : ChildTry
      its = child_try entries nodes name child plan.version plan.entry root slot
  plan_read (Branch name child) c seen mini root slot has sees makes admits brought count plan n start bytes there =
      of_items (λ n start bytes. ShowsExpected seens n start bytes) (child_reads its) (branch_writes nodes its)
      (begins_shown (child_reads its) (compares_shown nodes seens (Branch name child) entries c seen has sees makes admits root slot child plan.version plan.entry plan.is brought count))
      n start bytes (subst (λ (x : Mini). Contains x.items (Compare n start bytes)) plan.items there)
    where
      its : ChildTry
      its = child_try entries nodes name child plan.version plan.entry root slot
  plan_read (Tx name steps) c seen mini root slot has sees makes admits brought count plan n start bytes there =
      absurd plan
  plan_read (Scan name low high limit) c seen mini root slot has sees makes admits brought count plan n start bytes there =
      absurd plan
  plan_read Versions c seen mini root slot has sees makes admits brought count plan n start bytes there =
      absurd plan

  -- it is over all nodes, and a plan
  plan_made : (o : Op) (root : Page) (slot : Addr) (mini : Mini) → IsPlanFor nodes entries o root slot mini
      → (mini.nodes ≡ nodes) × IsTrue (is_plan mini.items)
  plan_made (Snapshot name child) root slot mini plan =
      let its = child_try entries nodes name child plan.version plan.entry root slot in
      (ap (λ (x : Mini). x.nodes) plan.items, ap (λ (x : Mini). is_plan x.items) plan.items ∙ items_plan (child_reads its) (snapshot_writes nodes its))
  plan_made (Branch name child) root slot mini plan =
      let its = child_try entries nodes name child plan.version plan.entry root slot in
      (ap (λ (x : Mini). x.nodes) plan.items, ap (λ (x : Mini). is_plan x.items) plan.items ∙ items_plan (child_reads its) (branch_writes nodes its))
  plan_made (Tx name steps) root slot mini plan = absurd plan
  plan_made (Scan name low high limit) root slot mini plan = absurd plan
  plan_made Versions root slot mini plan = absurd plan

  -- the root page was brought
  root_brought : (later : ℕ) (c : Child) (root : Page) → c.page ≡ Some root
      → ReadsShow (suc later) seens op entries (at.Child c)
      → Contains seens (seen_page c.root (page_bytes root))
  root_brought later c root is shows =
      subst (λ (o : Option Page). MatchOption o ⊤ (IsBrought (suc later) seens c.root)) is shows.1

  -- what it may not write is worn
  worn_read : (o : Op) (c : Child) (seen : Seen) (root : Page) (node : NodeNo) (start : ℕ)
      → Contains seens seen → SeesCatalog seen entries → MakesChild o
      → Admits entries o c.version c.root → Contains seens (seen_page c.root (page_bytes root))
      → IsWornFor entries o root node start
      → (place : Place) × (place.node ≡ node) × (place.start ≡ start) × WritesOld seens o place
      × ShowsBytes seens node start (big_bytes 8 (2 ^ 64 - 1))
  worn_read (Snapshot name child) c seen root node start has sees makes admits brought (inl worn) =
      root_worn nodes seens (Snapshot name child) entries c seen has sees makes admits root node start worn brought
  worn_read (Snapshot name child) c seen root node start has sees makes admits brought (inr worn) =
      entry_worn seens name child entries c seen has sees admits node start worn
  worn_read (Branch name child) c seen root node start has sees makes admits brought worn =
      root_worn nodes seens (Branch name child) entries c seen has sees makes admits root node start worn brought
  worn_read (Tx name steps) c seen root node start has sees makes admits brought worn = absurd worn
  worn_read (Scan name low high limit) c seen root node start has sees makes admits brought worn = absurd worn
  worn_read Versions c seen root node start has sees makes admits brought worn = absurd worn

  module _ (known : Known) (kept : known.catalog ≡ Some entries) (of : known.nodes ≡ nodes) where
    -- the reads that its job shows stay
    pub wants_reads : (failed : ℕ) (c d : Child) (next : Next)
        → ChildWants known (is_later failed) op c d next
        → ReadsShow failed seens op entries (at.Child c)
        → ReadsShow failed seens op entries (at.Child d)
    wants_reads zero c d next w shows = (tt, page_zero d.page d.root, tt)
    wants_reads (suc later) c d next w shows =
        subst (λ (x : Child). ReadsShow (suc later) seens op entries (at.Child x)) (sym (w.stands (later_is later))) shows

    way_by : (c : Child) → IsOnItsWay known op c → IsUnderWay nodes entries op c
    way_by c way =
        subst (λ (n : ℕ). IsUnderWay n entries op c) of
        (of_kept known.catalog entries (λ es. IsUnderWay known.nodes es op c) kept way)

    -- the same catalog admits it
    admits_on : (c d : Child) → KeepsTry c d → Admits entries op c.version c.root
        → Admits entries op d.version d.root
    admits_on c d keeps a =
        subst (λ (v : VersionNo). Admits entries op v d.root) (sym keeps.0)
        (subst (λ (r : Addr). Admits entries op c.version r) (sym keeps.1) a)

    -- the root is on a node that there is not
    off_shown : (failed : ℕ) (d : Child) (cause : Busy) → MakesChild op
        → Admits entries op d.version d.root
        → (is_later failed ≡ true → (nodes ≤ d.root.node.0) × (Some cause ≡ Some (Path d.root 0)))
        → ReadsShow failed seens op entries (at.Child d)
        → IfLater failed (MeetsFault nodes seens op (IsKeyOf op []) cause)
    off_shown zero d cause makes admits off shows = tt
    off_shown (suc later) d cause makes admits off shows =
        let told = off (later_is later) in
        subst (MeetsFault nodes seens op (IsKeyOf op [])) (is_cause cause (Path d.root 0) told.1)
        (fault_for nodes seens op [] (IsKeyOf op []) (Path d.root 0) (least_key op makes)
        (no_node nodes seens op entries [] d.root None
        (root_is_reached nodes seens op entries d shows.0.0 shows.0.1 shows.0.2 makes admits) told.0))
      where
        is_cause : (x y : Busy) → Some x ≡ Some y → y ≡ x
        is_cause x y e = cc

    plan_shown : (failed : ℕ) (d : Child) (mini : Mini) → MakesChild op
        → Admits entries op d.version d.root → IsWanted nodes entries op d mini
        → ReadsShow failed seens op entries (at.Child d)
        → IfLater failed (AreComparesShown seens mini)
    plan_shown zero d mini makes admits is shows = tt
    plan_shown (suc later) d mini makes admits is shows =
        plan_read op d shows.0.0 mini is.root (next_slot d.counts.items) shows.0.1 shows.0.2 makes admits
        (root_brought later d is.root is.page shows)
        (shows.2 (next_slot d.counts.items).node (next_slot d.counts.items).slot (within_is d.counts.items (next_node d.counts.items) (subst (λ k. next_node d.counts.items < k) (sym is.counted) is.node)))
        is.plan

    answer_shown : (left : FreeSlotsAreLeft) (failed : ℕ) (d : Child) (answer : Answer) → is_later failed ≡ true
        → length d.counts.items ≡ nodes → IsUnderWay nodes entries op d
        → IsAnsweredAs entries op d answer → ReadsShow failed seens op entries (at.Child d)
        → AnswerShown nodes failed seens op answer
    answer_shown left zero d answer late long way is shows = absurd (not_later late)
    answer_shown left (suc later) d (answer.Full need free) late long way is shows = (
      late,
      is.2,
      subst (NeedsSlots seens op) (sym is.0)
          (needs_one nodes seens op entries d shows.0.0 shows.0.1 shows.0.2 way.makes way.admits),
      free_shown left nodes seens d.counts.items free way.given long is.1 shows.2,
    )
    answer_shown left (suc later) d (answer.Worn node start) late long way is shows = (
      late,
      worn_read op d shows.0.0 is.0 node start shows.0.1 shows.0.2 way.makes way.admits (root_brought later d is.0 is.1 shows) is.2,
    )
    answer_shown left (suc later) d (answer.Replied reply) late long way is shows = absurd is
    answer_shown left (suc later) d (answer.Busy busy) late long way is shows = absurd is
    answer_shown left (suc later) d (answer.Down node) late long way is shows = absurd is
    answer_shown left (suc later) d (answer.InDoubt tid node) late long way is shows = absurd is
    answer_shown left (suc later) d answer.NoMemory late long way is shows = absurd is

    page_wanted : (failed : ℕ) (d : Child) (next : Next) → MakesChild op
        → Admits entries op d.version d.root → WantsPage known (is_later failed) d next
        → ReadsShow failed seens op entries (at.Child d)
        → WantShown nodes failed seens op entries (at.Child d) next
    page_wanted failed d (Next.Page addr peek) makes admits wants shows = tt
    page_wanted failed d (Next.Fails None) makes admits wants shows = tt
    page_wanted failed d (Next.Fails (Some cause)) makes admits wants shows =
        off_shown failed d cause makes admits
        (λ l. subst (λ (n : ℕ). (n ≤ d.root.node.0) × (Some cause ≡ Some (Path d.root 0))) of (wants l)) shows
    page_wanted failed d Next.Catalog makes admits wants shows = absurd wants
    page_wanted failed d (Next.Count node peek) makes admits wants shows = absurd wants
    page_wanted failed d (Next.Plan mini reply) makes admits wants shows = absurd wants
    page_wanted failed d (Next.Answers answer) makes admits wants shows = absurd wants

    count_wanted : (failed : ℕ) (d : Child) (next : Next) → WantsCount known (is_later failed) d next
        → WantShown nodes failed seens op entries (at.Child d) next
    count_wanted failed d (Next.Count node peek) wants = tt
    count_wanted failed d (Next.Page addr peek) wants = absurd wants
    count_wanted failed d (Next.Fails cause) wants = absurd wants
    count_wanted failed d Next.Catalog wants = absurd wants
    count_wanted failed d (Next.Plan mini reply) wants = absurd wants
    count_wanted failed d (Next.Answers answer) wants = absurd wants

    end_wanted : (left : FreeSlotsAreLeft) (failed : ℕ) (d : Child) (next : Next) → MakesChild op
        → Admits entries op d.version d.root
        → ((answer : Answer) → next ≡ Next.Answers answer → IsUnderWay nodes entries op d)
        → EndsBy nodes entries (is_later failed) op d next
        → ReadsShow failed seens op entries (at.Child d)
        → WantShown nodes failed seens op entries (at.Child d) next
    end_wanted left failed d (Next.Plan mini reply) makes admits way ends shows =
        let made = plan_made op ends.1.root (next_slot d.counts.items) mini ends.1.plan in (
          λ es catalog last. subst (λ (r : Reply). IsPlanned es (heads_in entries) op mini r) (sym ends.0)
              (ends.1.planned.planned es d.version d.root admits catalog
              (subst (λ (o : Option Page). MatchOption o ⊤ (PageIsLast es d.root)) ends.1.page last)),
          plan_shown failed d mini makes admits ends.1 shows,
          made.0,
          made.1,
        )
    end_wanted left failed d (Next.Answers answer) makes admits way ends shows =
        answer_shown left failed d answer ends.0 ends.1 (way answer refl) ends.2 shows
    end_wanted left failed d (Next.Fails None) makes admits way ends shows = tt
    end_wanted left failed d (Next.Fails (Some cause)) makes admits way ends shows = absurd ends
    end_wanted left failed d (Next.Page addr peek) makes admits way ends shows = absurd ends
    end_wanted left failed d (Next.Count node peek) makes admits way ends shows = absurd ends
    end_wanted left failed d Next.Catalog makes admits way ends shows = absurd ends

    -- what is shown where it wants this
    pub wants_shown : (left : FreeSlotsAreLeft) (failed : ℕ) (c d : Child) (next : Next) → IsOnItsWay known op c
        → ChildWants known (is_later failed) op c d next
        → ReadsShow failed seens op entries (at.Child c)
        → WantShown nodes failed seens op entries (at.Child d) next
    wants_shown left failed c d next before w shows = by w.wants
      where
        way : IsUnderWay nodes entries op c
        way = way_by c before

        admits : Admits entries op d.version d.root
        admits = admits_on c d w.keeps way.admits

        after : ReadsShow failed seens op entries (at.Child d)
        after = wants_reads failed c d next w shows

        answered : (answer : Answer) → next ≡ Next.Answers answer → IsUnderWay nodes entries op d
        answered answer is =
            way_by d (subst (λ (x : Next). UnlessFails x (IsOnItsWay known op d)) is w.way)

        by : WantsPage known (is_later failed) d next ⊎ WantsCount known (is_later failed) d next
            ⊎ WantsEnd known (is_later failed) op d next
            → WantShown nodes failed seens op entries (at.Child d) next
        by (inl page) = page_wanted failed d next way.makes admits page after
        by (inr (inl count)) = count_wanted failed d next count
        by (inr (inr ends)) =
            end_wanted left failed d next way.makes admits answered
            (subst (λ (n : ℕ). EndsBy n entries (is_later failed) op d next) of
            (of_kept known.catalog entries (λ es. EndsBy known.nodes es (is_later failed) op d next) kept ends)) after

    -- What it takes

    -- the root page is at fault
    bad_root : (failed : ℕ) (c : Child) (bytes : List ℕ) (page : Page) → MakesChild op
        → Admits entries op c.version c.root → SpellsPage bytes page
        → may_copy entries c.version.0 page ≡ false
        → IfLater failed (Contains seens (seen_page c.root bytes))
        → ReadsShow failed seens op entries (at.Child c)
        → IfLater failed (MeetsFault nodes seens op (IsKeyOf op []) (Path c.root page.seq))
    bad_root zero c bytes page makes admits spells off has shows = tt
    bad_root (suc later) c bytes page makes admits spells off has shows =
        fault_for nodes seens op [] (IsKeyOf op []) (Path c.root page.seq) (least_key op makes)
        (bad_page nodes seens op entries [] c.root None
        (root_is_reached nodes seens op entries c shows.0.0 shows.0.1 shows.0.2 makes admits) bytes page has spells
        (by (either (is_on_path (parents_of (heads_in entries)) c.version.0 [] None (front_of page)) (not (has_version page.copied (length entries))) off)))
      where
        copying : (o : Op) → MakesChild o → is_copying o ≡ true
        copying (Snapshot name child) m = refl
        copying (Branch name child) m = refl
        copying (Tx name steps) m = absurd m
        copying (Scan name low high limit) m = absurd m
        copying Versions m = absurd m

        copied : (t : Bool) → not t ≡ false → (is_copying op && t) ≡ true
        copied true e = ap (λ b. b && true) (copying op makes)
        copied false e = absurd cc

        by : (is_on_path (parents_of (heads_in entries)) c.version.0 [] None (front_of page) ≡ false)
            ⊎ (not (has_version page.copied (length entries)) ≡ false)
            → IsPageAtFault entries op [] None page
        by (inl path) = at_fault entries op c.version.0 [] None page admits.named tt path
        by (inr twice) = inr (inr (inr (copied (has_version page.copied (length entries)) twice)))

    -- or it is none
    none_root : (failed : ℕ) (c : Child) (bytes : List ℕ) → MakesChild op
        → Admits entries op c.version c.root → SpellsNone bytes
        → IfLater failed (Contains seens (seen_page c.root bytes))
        → ReadsShow failed seens op entries (at.Child c)
        → IfLater failed (MeetsFault nodes seens op (IsKeyOf op []) (Path c.root 0))
    none_root zero c bytes makes admits none has shows = tt
    none_root (suc later) c bytes makes admits none has shows =
        fault_for nodes seens op [] (IsKeyOf op []) (Path c.root 0) (least_key op makes)
        (no_page nodes seens op entries [] c.root None
        (root_is_reached nodes seens op entries c shows.0.0 shows.0.1 shows.0.2 makes admits) bytes has none)

    -- or it came in
    root_reads : (failed : ℕ) (bytes : List ℕ) (page : Page) (c d : Child) → KeepsTry c d
        → d.page ≡ Some page → SpellsPage bytes page
        → IfLater failed (Contains seens (seen_page c.root bytes))
        → ReadsShow failed seens op entries (at.Child c)
        → ReadsShow failed seens op entries (at.Child d)
    root_reads zero bytes page c d keeps is spells has shows = (tt, page_zero d.page d.root, tt)
    root_reads (suc later) bytes page c d keeps is spells has shows = (
      shows.0,
      subst (λ (o : Option Page). MatchOption o ⊤ (IsBrought (suc later) seens d.root)) (sym is)
          (subst (λ (r : Addr). Contains seens (seen_page r (page_bytes page))) (sym keeps.1)
          (subst (λ (b : List ℕ). Contains seens (seen_page c.root b)) spells.1 has)),
      subst (λ (v : Vec ℕ Global). AreCounted (suc later) seens v.items) (sym keeps.2) shows.2,
    )

    -- what is shown where it took the root page
    pub takes_shown : (failed : ℕ) (addr : Addr) (bytes : List ℕ) (c d : Child) (taken : Taken)
        → IsOnItsWay known op c → c.root ≡ addr → ChildTakes known op bytes c d taken
        → IfLater failed (Contains seens (seen_page addr bytes))
        → ReadsShow failed seens op entries (at.Child c)
        → TakenShown nodes failed seens op entries (at.Child d) taken
    takes_shown failed addr bytes c d taken before asked t brought shows =
        by taken (subst (λ (o : Option (List CatEntry)). TakesRootBytes o c bytes d taken) kept t.takes)
      where
        way : IsUnderWay nodes entries op c
        way = way_by c before

        has : IfLater failed (Contains seens (seen_page c.root bytes))
        has = subst (λ (a : Addr). IfLater failed (Contains seens (seen_page a bytes))) (sym asked) brought

        page_taken : (x : Taken) (page : Page) → SpellsPage bytes page
            → TakesRoot (Some entries) c page d x
            → TakenShown nodes failed seens op entries (at.Child d) x
        page_taken Taken.GoesOn page spells is =
            root_reads failed bytes page c d t.keeps is.1 spells has shows
        page_taken (Taken.Fails None) page spells is = absurd is
        page_taken (Taken.Fails (Some cause)) page spells is =
            subst (λ (b : Busy). IfLater failed (MeetsFault nodes seens op (IsKeyOf op []) b)) (sym is.1)
            (bad_root failed c bytes page way.makes way.admits spells is.0 has shows)
        page_taken Taken.Leaf page spells is = absurd is
        page_taken (Taken.Replies reply) page spells is = absurd is

        by : (x : Taken) → TakesRootBytes (Some entries) c bytes d x
            → TakenShown nodes failed seens op entries (at.Child d) x
        by x (inl (none, fails, same)) =
            subst (TakenShown nodes failed seens op entries (at.Child d)) (sym fails)
            (none_root failed c bytes way.makes way.admits none has shows)
        by x (inr (page, spells, is)) = page_taken x page spells is

  -- and where it took a count
  pub counts_shown : (failed : ℕ) (bytes : List ℕ) (c d : Child) (taken : Taken)
      → CountsOn c d bytes taken → SameButCounts c d
      → IfLater failed (Contains seens (seen_count c.counts.items bytes))
      → ReadsShow failed seens op entries (at.Child c)
      → TakenShown nodes failed seens op entries (at.Child d) taken
  counts_shown failed bytes c d Taken.GoesOn counts same has shows = (
    shows.0,
    subst (λ (o : Option Page). MatchOption o ⊤ (IsBrought failed seens d.root)) (sym same.2)
        (subst (λ (r : Addr). MatchOption c.page ⊤ (IsBrought failed seens r)) (sym same.1) shows.1),
    counted_next failed seens c.counts.items bytes d.counts.items counts.0 shows.2 has counts.1 counts.2,
  )
  counts_shown failed bytes c d (Taken.Fails (Some cause)) counts same has shows = fails failed has
    where
      is_cause : (x y : Busy) → Some x ≡ Some y → y ≡ x
      is_cause x y e = cc

      fails : (n : ℕ) → IfLater n (Contains seens (seen_count c.counts.items bytes))
          → IfLater n (MeetsFault nodes seens op (IsKeyOf op []) cause)
      fails zero told = tt
      fails (suc n) told =
          subst (MeetsFault nodes seens op (IsKeyOf op [])) (is_cause cause _ counts.1)
          (bad_count nodes seens op (IsKeyOf op []) c.counts.items bytes told counts.0)
  counts_shown failed bytes c d (Taken.Fails None) counts same has shows = tt
  counts_shown failed bytes c d Taken.Leaf counts same has shows = absurd counts
  counts_shown failed bytes c d (Taken.Replies reply) counts same has shows = absurd counts

-- For whatever operation is under way

child_took : (known : Known) (later : Bool) (addr : Addr) (bytes : List ℕ) (op : Op) (c d : Child)
    (taken : Taken) → JobTakes known later addr bytes op (at.Child c) (at.Child d) taken
    → ChildTakes known op bytes c d taken
child_took known later addr bytes (Tx name steps) c d taken takes = takes
child_took known later addr bytes (Snapshot name child) c d taken takes = takes
child_took known later addr bytes (Branch name child) c d taken takes = takes
child_took known later addr bytes (Scan name low high limit) c d taken takes = takes
child_took known later addr bytes Versions c d taken takes = takes

module _ (nodes failed : ℕ) (seens : List Seen) (op : Op) (entries : List CatEntry) (c d : Child)
  where
    -- it took a count
    pub child_counts_for : (bytes : List ℕ) (taken : Taken)
        → JobCounts bytes (at.Child c) (at.Child d) taken
        → IfLater failed (Contains seens (seen_count c.counts.items bytes))
        → ReadsShow failed seens op entries (at.Child c)
        → TakenShown nodes failed seens op entries (at.Child d) taken
    child_counts_for bytes taken counts has shows =
        counts_shown nodes seens op entries failed bytes c d taken counts.0 counts.1 has shows

    module _ (known : Known) (kept : known.catalog ≡ Some entries) (of : known.nodes ≡ nodes)
        (way : IsJobIn known op (at.Child c)) where
      -- it wants this
      pub child_wants_for : (left : FreeSlotsAreLeft) (next : Next)
          → JobWants known (is_later failed) op (at.Child c) (at.Child d) next
          → ReadsShow failed seens op entries (at.Child c)
          → ReadsShow failed seens op entries (at.Child d)
          × WantShown nodes failed seens op entries (at.Child d) next
      child_wants_for left next wants shows = (
        wants_reads nodes seens op entries known kept of failed c d next wants shows,
        wants_shown nodes seens op entries known kept of left failed c d next way wants shows,
      )

      -- it took the root page
      pub child_takes_for : (addr : Addr) (bytes : List ℕ) (taken : Taken)
          → AsksPageFor known op (at.Child c) addr
          → JobTakes known (is_later failed) addr bytes op (at.Child c) (at.Child d) taken
          → IfLater failed (Contains seens (seen_page addr bytes))
          → ReadsShow failed seens op entries (at.Child c)
          → TakenShown nodes failed seens op entries (at.Child d) taken
      child_takes_for addr bytes taken asks takes has shows =
          takes_shown nodes seens op entries known kept of failed addr bytes c d taken way asks.0
          (child_took known (is_later failed) addr bytes op c d taken takes) has shows
