-- What the plan of a transaction is, when there is one, and why there is none.
use Rattle.std.proofs.Common.{◌≡◌, ◌⊎◌, inl, inr, ℕ, ◌+◌, ◌*◌, ◌<◌, ◌≤◌, Bool, true, false, not}
use Rattle.std.proofs.Common.{◌||◌, nat_eq, List, [], ◌∷◌, ◌++◌, filter, map, length, Contains, Option}
use Rattle.std.proofs.Common.{Some, None, refl, subst, sym, ap, ◌∙◌, arith, slice_index_or, if◌then◌else◌}
use Rattle.std.specs.Prelude.{unwrap_or}
use Rattle.std.specs.List.{AllByRecursion, list_any, range_with_len}
use Rattle.std.specs.Option.{option_map, option_map_or, option_to_list}
use Rattle.std.proofs.lemmas.Bool.{and_parts}
use Rattle.std.proofs.lemmas.List.{append-nil, map-append}
use Rattle.mn_base.specs.Ids.{addr_same}
use Rattle.mn_base.specs.Store.{Head, is_change}
use Rattle.mn_base.specs.Tree.{parents_of}
use Rattle.mn_base.specs.declared.ids.Addr.{Addr}
use Rattle.mn_base.specs.declared.ids.NodeNo.{NodeNo}
use Rattle.mn_base.specs.declared.ids.VersionNo.{VersionNo}
use Rattle.mn_base.specs.declared.op.Op.TheVariants.{Tx}
use Rattle.mn_base.specs.declared.op.Step.{Step}
use Rattle.mn_base.proofs.Lists.{all_append, weaker}
use Rattle.mn_mini.specs.Mini.{Mini}
use Rattle.mn_mini.specs.declared.item.Item.{Item}
use Rattle.mn_page.specs.declared.page.Page.{Page}
use Rattle.mn_page.specs.declared.entry.CatEntry.{CatEntry}
use Rattle.mn_page.specs.Space.{max_slots}
use Rattle.mn_page.specs.Grammar.{count_in, entry_bytes, height_of}
use Rattle.mn_page.specs.Overlay.{Held, held_at}
use Rattle.mn_tree.specs.Trees.{is_noted}
use Rattle.mn_tree.specs.Order.{is_changed, changed_order, placed}
use Rattle.mn_tree.specs.Moves.{Move, comes_in, came_at, is_leaf_at, leaves_at}
use Rattle.mn_tree.specs.MoveLaws.{AreOnce, AreReads, MovesRead}
use Rattle.mn_tree.specs.Limits.{ArePut, MovesAreFew, MovesTouchLeaves, PlacedArePut}
use Rattle.mn_tree.specs.Tries.{PlacedHaveRoom}
use Rattle.mn_tree.proofs.Trees.Told.{noted_filter}
use Rattle.mn_law.specs.Planned.{IsPlanned, least_of}
use Rattle.mn_plans.specs.Growth.{AreDifferent, AreNextSlots, addrs_of, giving_nodes, node_no, taken_on}
use Rattle.mn_plans.proofs.NextSlots.{slots_differ}
use Rattle.mn_plans.proofs.Told.{all_there}
use Rattle.mn_txn.specs.declared.attempt.Placing.{Placing}
use Rattle.mn_txn.specs.declared.attempt.Tried.{Tried}
use Rattle.mn_txn.specs.declared.error.PlanError.TheVariants.{Worn}
use Rattle.mn_txn.specs.declared.image.Image.{Image}
use Rattle.mn_txn.specs.declared.seen.SeenPage.{SeenPage}
use Rattle.mn_txn.specs.State.{State, is_at, bytes_at, ImagesAreApart}
use Rattle.mn_txn.specs.Order.{in_item_order}
use Rattle.mn_txn.specs.Plan.{RefusesPlan, can_plan, compare_of, plan_of, write_of}
use Rattle.mn_txn.specs.Attempt.{Attempt, least_addr, AttemptsStandInOrder, DoneIsPlanned, IsAttempt, IsDone, UnmetIsPlanned}
use Rattle.mn_txn.specs.Attempt.{page_image, came_images, count_image, counts_read, counts_written, entry_images}
use Rattle.mn_txn.specs.Attempt.{done_reads, done_writes, unmet_reads}
use Rattle.mn_txn.specs.ChildPlan.{IsPlanOf, with_images, with_writes}
use Rattle.mn_txn.specs.Seen.{seen_as, seen_at}
use Rattle.mn_txn.specs.Tries.{DoneMayBePlanned, IsFor, IsReadSlot, IsWornPage, UnmetMayBePlanned, WornIsChanged}
use Rattle.mn_txn.specs.AttemptPlan.{HasTried, IsPlanOfTx, MayBeDone, MayBeUnmet, MayWrite}
use Rattle.mn_txn.specs.AttemptPlan.{done_items, unmet_items, entry_read, page_read, pages_read, placing_state}
use Rattle.mn_txn.specs.AttemptPlan.{least_node, tried_state, with_counts, with_reads}
use Rattle.mn_txn.proofs.AttemptOrder.{AreRising, giving_rise}
use Rattle.mn_txn.proofs.AttemptTxn.{images_on}
use Rattle.mn_txn.proofs.Attempts.{held_image}
use Rattle.mn_txn.proofs.Apart.{AreOff, apart_append, apart_sorts, nodes_differ, pages_differ, starts_differ}
use Rattle.mn_txn.proofs.ChildPlan.{joined_all, none_at}
use Rattle.mn_txn.proofs.Done.{different, none_pass, once_apart}
use Rattle.mn_txn.proofs.Fits.{all_filter, limits, run_steps}
use Rattle.mn_txn.proofs.Lists.{all_noted}
use Rattle.mn_txn.proofs.Worn.{numbers, writes_are}

-- Pages

came_off : (x : Addr) (moves : List Move) (addrs : List Addr) → AllByRecursion (λ b. b ≡ x → ⊥) addrs
    → AllByRecursion (λ y. is_at x.node (20480 + 1024 * x.slot) y ≡ false) (came_images moves addrs)
came_off x moves [] all = tt
came_off x moves (b ∷ addrs) all = by_page (came_at moves b) (came_off x moves addrs all.1)
  where
    Off : List Image → Type 0
    Off ys = AllByRecursion (λ y. is_at x.node (20480 + 1024 * x.slot) y ≡ false) ys

    by_page : (o : Option Page) → Off (came_images moves addrs)
        → Off (option_to_list (option_map (page_image b) o) ++ came_images moves addrs)
    by_page None rest = rest
    by_page (Some q) rest = (pages_differ x b q all.0, rest)

came_apart : (moves : List Move) (addrs : List Addr) → AreDifferent addrs
    → ImagesAreApart (came_images moves addrs)
came_apart moves [] differ = tt
came_apart moves (x ∷ addrs) differ = by_page (came_at moves x) (came_apart moves addrs differ.1)
  where
    by_page : (o : Option Page) → ImagesAreApart (came_images moves addrs)
        → ImagesAreApart (option_to_list (option_map (page_image x) o) ++ came_images moves addrs)
    by_page None rest = rest
    by_page (Some p) rest = (came_off x moves addrs differ.0, rest)

came_starts : (moves : List Move) (addrs : List Addr)
    → AllByRecursion (λ i. 20480 ≤ i.start) (came_images moves addrs)
came_starts moves [] = tt
came_starts moves (x ∷ addrs) = by_page (came_at moves x) (came_starts moves addrs)
  where
    by_page : (o : Option Page) → AllByRecursion (λ i. 20480 ≤ i.start) (came_images moves addrs)
        → AllByRecursion (λ i. 20480 ≤ i.start) (option_to_list (option_map (page_image x) o) ++ came_images moves addrs)
    by_page None rest = rest
    by_page (Some p) rest = (omega arith, rest)

held_off : (x : Addr) (hs : List Held) → AllByRecursion (λ b. b ≡ x → ⊥) (addrs_of hs)
    → AllByRecursion (λ y. is_at x.node (20480 + 1024 * x.slot) y ≡ false) (map held_image hs)
held_off x [] all = tt
held_off x (h ∷ hs) all = (pages_differ x h.addr h.page all.0, held_off x hs all.1)

held_apart : (hs : List Held) → AreDifferent (addrs_of hs) → ImagesAreApart (map held_image hs)
held_apart [] differ = tt
held_apart (h ∷ hs) differ = (held_off h.addr hs differ.0, held_apart hs differ.1)

held_starts : (hs : List Held) → AllByRecursion (λ i. 20480 ≤ i.start) (map held_image hs)
held_starts [] = tt
held_starts (h ∷ hs) = (omega arith, held_starts hs)

once_different : (addrs : List Addr) → AreOnce addrs → AreDifferent addrs
once_different [] once = tt
once_different (x ∷ addrs) once = (once_apart addrs x once.0, once_different addrs once.1)

different_append : (xs ys : List Addr) → AreDifferent xs → AreDifferent ys
    → AllByRecursion (λ x. AllByRecursion (λ y. y ≡ x → ⊥) ys) xs → AreDifferent (xs ++ ys)
different_append [] ys u v off = v
different_append (x ∷ xs) ys u v off = (all_append (λ y. y ≡ x → ⊥) xs ys u.0 off.0, different_append xs ys u.1 v off.1)

-- Counts

module _ (c : ℕ → ℕ) where
  abbrev images : List ℕ → List Image
  images ns = map (λ n. count_image n (c n)) ns

  counts_off : (n : ℕ) (ms : List ℕ) → AllByRecursion (λ m. n < m) ms
      → AreOff (images ms) (count_image n (c n))
  counts_off n [] all = tt
  counts_off n (m ∷ ms) all =
      let low = all.0 in (nodes_differ (count_image n (c n)) (count_image m (c m)) (λ e. absurd (omega (arith, low, e))), counts_off n ms all.1)

  counts_apart : (ns : List ℕ) → AreRising ns → ImagesAreApart (images ns)
  counts_apart [] rises = tt
  counts_apart (n ∷ ns) rises = (counts_off n ns rises.0, counts_apart ns rises.1)

  counts_low : (ns : List ℕ) → AllByRecursion (λ i. i.start < 64) (images ns)
  counts_low [] = tt
  counts_low (n ∷ ns) = (omega arith, counts_low ns)

-- Pages as they were seen

-- a page that came in; of leaves alone, if so wanted
abbrev came_read : Bool → Addr → Option Page → List Image
came_read leaves addr None = []
came_read leaves addr (Some p) =
    if not leaves || nat_eq (height_of p.body) 0 then page_image addr p ∷ [] else []

seen_came : (leaves : Bool) (hs : List Held) (addr : Addr)
    → page_read leaves addr (seen_at (map seen_as hs) addr) ≡ came_read leaves addr (held_at hs addr)
seen_came leaves [] addr = refl
seen_came leaves (h ∷ hs) addr = by_same (addr_same h.addr addr) (seen_came leaves hs addr)
  where
    by_same : (t : Bool)
        → page_read leaves addr (seen_at (map seen_as hs) addr) ≡ came_read leaves addr (held_at hs addr)
        → page_read leaves addr (if t then Some (seen_as h) else seen_at (map seen_as hs) addr)
        ≡ came_read leaves addr (if t then Some h.page else held_at hs addr)
    by_same true rest = refl
    by_same false rest = rest

not_seen : (hs : List Held) (addr : Addr) → seen_at (map seen_as hs) addr ≡ None
    → held_at hs addr ≡ None
not_seen [] addr e = refl
not_seen (h ∷ hs) addr e = by_same (addr_same h.addr addr) e (not_seen hs addr)
  where
    by_same : (t : Bool) → (if t then Some (seen_as h) else seen_at (map seen_as hs) addr) ≡ None
        → (seen_at (map seen_as hs) addr ≡ None → held_at hs addr ≡ None)
        → (if t then Some h.page else held_at hs addr) ≡ None
    by_same true f rest = absurd cc
    by_same false f rest = rest f

module _ (moves : List Move) where
  abbrev seen : List SeenPage
  seen = map seen_as (comes_in moves)

  all_came : (addrs : List Addr) → pages_read false seen addrs ≡ came_images moves addrs
  all_came [] = refl
  all_came (x ∷ addrs) =
      ap (λ (l : List Image). l ++ pages_read false seen addrs) (seen_came false (comes_in moves) x ∙ whole (came_at moves x))
      ∙ ap (λ (l : List Image). option_to_list (option_map (page_image x) (came_at moves x)) ++ l) (all_came addrs)
    where
      whole : (o : Option Page) → came_read false x o ≡ option_to_list (option_map (page_image x) o)
      whole None = refl
      whole (Some p) = refl

  leaves_came : (addrs : List Addr)
      → pages_read true seen addrs ≡ came_images moves (leaves_at moves addrs)
  leaves_came [] = refl
  leaves_came (x ∷ addrs) =
      ap (λ (l : List Image). l ++ pages_read true seen addrs) (seen_came true (comes_in moves) x)
      ∙ (ap (λ (l : List Image). came_read true x (came_at moves x) ++ l) (leaves_came addrs) ∙ by_page (came_at moves x) refl)
    where
      rest : List Addr
      rest = leaves_at moves addrs

      by_page : (o : Option Page) → came_at moves x ≡ o
          → came_read true x o ++ came_images moves rest
          ≡ came_images moves (if option_map_or (λ p. nat_eq (height_of p.body) 0) o false then x ∷ rest else rest)
      by_page None e = refl
      by_page (Some p) e = by_leaf (nat_eq (height_of p.body) 0)
        where
          by_leaf : (b : Bool)
              → (if b then page_image x p ∷ [] else []) ++ came_images moves rest
              ≡ came_images moves (if b then x ∷ rest else rest)
          by_leaf true = ap (λ (q : Option Page). option_to_list (option_map (page_image x) q) ++ came_images moves rest) (sym e)
          by_leaf false = refl

-- Transactions, image after image

module _ (counts : List ℕ) (slots : List Addr) where
  abbrev old : ℕ → Image
  old n = count_image n (slice_index_or counts n 0)

  abbrev new : ℕ → Image
  new n = count_image n (slice_index_or counts n 0 + taken_on slots n)

  abbrev gives : ℕ → Bool
  gives n = not (nat_eq (taken_on slots n) 0)

  abbrev counted : State → List ℕ → State
  counted t ns = with_writes (with_reads t (map old ns)) (map new ns)

  counts_done : (t : State) (ns : List ℕ)
      → with_counts t counts slots ns ≡ counted t (filter gives ns)
  counts_done t [] = refl
  counts_done t (n ∷ ns) = by_none (nat_eq (taken_on slots n) 0) (λ u. counts_done u ns)
    where
      one : State
      one = counted t (n ∷ [])

      by_none : (b : Bool)
          → ((u : State) → with_counts u counts slots ns ≡ counted u (filter gives ns))
          → with_counts (if b then t else one) counts slots ns
          ≡ counted t (if not b then n ∷ filter gives ns else filter gives ns)
      by_none true rest = rest t
      by_none false rest = rest one

-- Attempts

module _ (moves_read : MovesRead) (kept : List Head) (nodes : ℕ) (a : Attempt) (is : IsAttempt kept nodes a) where
  reads : AreReads a.moves a.draft
  reads = moves_read (parents_of kept) a.version a.entry.root a.moves a.draft is.leads

  abbrev entry_image_of : NodeNo → Image
  entry_image_of node = record { node = node; start = 64 + 64 * a.version.0; bytes = entry_bytes a.entry }

  entry_starts : (node : NodeNo) → AllByRecursion (λ i. (64 ≤ i.start) × (i.start < 20480)) (entry_images node a)
  entry_starts node = by_any (list_any is_change a.steps)
    where
      by_any : (t : Bool) → AllByRecursion (λ i. (64 ≤ i.start) × (i.start < 20480)) (if t then entry_image_of node ∷ [] else [])
      by_any true = let few = is.few in ((omega arith, omega arith), tt)
      by_any false = tt

  entry_apart : (node : NodeNo) → ImagesAreApart (entry_images node a)
  entry_apart node = by_any (list_any is_change a.steps)
    where
      by_any : (t : Bool) → ImagesAreApart (if t then entry_image_of node ∷ [] else [])
      by_any true = (tt, tt)
      by_any false = tt

  entry_low : (node : NodeNo) → AllByRecursion (λ i. i.start < 20480) (entry_images node a)
  entry_low node = weaker (λ i. (64 ≤ i.start) × (i.start < 20480)) (λ i. i.start < 20480) (λ i both. both.1) (entry_images node a) (entry_starts node)

  entry_high : (node : NodeNo) → AllByRecursion (λ i. 64 ≤ i.start) (entry_images node a)
  entry_high node = weaker (λ i. (64 ≤ i.start) × (i.start < 20480)) (λ i. 64 ≤ i.start) (λ i both. both.0) (entry_images node a) (entry_starts node)

  -- the node of the entry
  abbrev entry_on : NodeNo
  entry_on = least_addr (a.draft.read ++ a.slots)

  abbrev giving : List ℕ
  giving = giving_nodes a.counts a.slots

  abbrev was : ℕ → ℕ
  was n = slice_index_or a.counts n 0

  abbrev now : ℕ → ℕ
  now n = slice_index_or a.counts n 0 + taken_on a.slots n

  low_images : (c : ℕ → ℕ) → AllByRecursion (λ i. i.start < 20480) (images c giving)
  low_images c = weaker (λ i. i.start < 64) (λ i. i.start < 20480) (λ i low. omega arith) (images c giving) (counts_low c giving)

  rest_low : AllByRecursion (λ i. i.start < 20480) (entry_images entry_on a ++ counts_read a)
  rest_low = all_append (λ i. i.start < 20480) (entry_images entry_on a) (counts_read a) (entry_low entry_on) (low_images was)

  rest_apart : ImagesAreApart (entry_images entry_on a ++ counts_read a)
  rest_apart =
      apart_append (entry_images entry_on a) (counts_read a) (entry_apart entry_on) (counts_apart was giving (giving_rise a.counts a.slots))
      (apart_sorts (λ m. 64 ≤ m) (λ n. n < 64) (λ m n high low e. absurd (omega (arith, high, low, e))) (entry_images entry_on a) (counts_read a) (entry_high entry_on) (counts_low was giving))

  pub reads_apart : ImagesAreApart (done_reads a)
  reads_apart =
      apart_append (came_images a.moves a.draft.read) (entry_images entry_on a ++ counts_read a) (came_apart a.moves a.draft.read (once_different a.draft.read reads.once)) rest_apart
      (apart_sorts (λ m. 20480 ≤ m) (λ n. n < 20480) (λ m n high low e. absurd (omega (arith, high, low, e))) (came_images a.moves a.draft.read) (entry_images entry_on a ++ counts_read a) (came_starts a.moves a.draft.read) rest_low)

  pub unmet_apart : ImagesAreApart (unmet_reads a)
  unmet_apart =
      let leaves = leaves_at a.moves a.draft.read in
      let node = least_addr leaves in
      apart_append (came_images a.moves leaves) (entry_images node a) (came_apart a.moves leaves (different (is_leaf_at a.moves) a.draft.read reads.once)) (entry_apart node)
      (apart_sorts (λ m. 20480 ≤ m) (λ n. n < 20480) (λ m n high low e. absurd (omega (arith, high, low, e))) (came_images a.moves leaves) (entry_images node a) (came_starts a.moves leaves) (entry_low node))

  -- no page came in at its slots
  module _ (placed_are_put : PlacedArePut) (long : length a.slots ≡ a.draft.overlay.fresh) (next : AreNextSlots a.counts a.slots) (unread : AllByRecursion (λ s. came_at a.moves s ≡ None) a.slots) where
    put : ArePut a.draft a.slots
    put = placed_are_put (parents_of kept) a.version a.entry.root a.moves a.draft a.slots is.leads long

    -- a slot is no address of the read set
    slot_off : (s x : Addr) → came_at a.moves s ≡ None → is_noted a.draft.read x ≡ true → s ≡ x → ⊥
    slot_off s x none noted same =
        let c = reads.came x noted in
        let no : Some c.0 ≡ None = sym c.1 ∙ (ap (came_at a.moves) (sym same) ∙ none) in absurd cc

    changed_off : AllByRecursion (λ x. AllByRecursion (λ y. y ≡ x → ⊥) a.slots) (changed_order a.draft)
    changed_off =
        all_noted (λ x. AllByRecursion (λ y. y ≡ x → ⊥) a.slots) (changed_order a.draft)
        (λ x noted.
        let parts = and_parts (is_changed a.draft.overlay.changed x) (is_noted a.draft.read x) (sym (noted_filter (is_changed a.draft.overlay.changed) a.draft.read x) ∙ noted) in
        weaker (λ s. came_at a.moves s ≡ None) (λ y. y ≡ x → ⊥) (λ y none same. slot_off y x none parts.1 same) a.slots unread)

    written_differ : AreDifferent (addrs_of (put.changed ++ put.new))
    written_differ =
        subst AreDifferent (sym (map-append (λ (h : Held). h.addr) put.changed put.new))
        (subst (λ (l : List Addr). AreDifferent (l ++ addrs_of put.new)) (sym put.in_order)
        (subst (λ (l : List Addr). AreDifferent (changed_order a.draft ++ l)) (sym put.in_slots)
        (different_append (changed_order a.draft) a.slots (different (is_changed a.draft.overlay.changed) a.draft.read reads.once) (slots_differ a.counts a.slots next) changed_off)))

    pub writes_apart : ImagesAreApart (done_writes a)
    writes_apart =
        subst ImagesAreApart (sym (writes_are a put))
        (apart_append (map held_image (put.changed ++ put.new)) (counts_written a) (held_apart (put.changed ++ put.new) written_differ) (counts_apart now giving (giving_rise a.counts a.slots))
        (apart_sorts (λ m. 20480 ≤ m) (λ n. n < 64) (λ m n high low e. absurd (omega (arith, high, low, e))) (map held_image (put.changed ++ put.new)) (counts_written a) (held_starts (put.changed ++ put.new)) (counts_low now giving)))

    -- nothing was read at a slot
    abbrev slot_image : Addr → Image
    slot_image s = record { node = s.node; start = 20480 + 1024 * s.slot; bytes = [] }

    came_apart_from : (s : Addr) (addrs : List Addr) → AllByRecursion (λ b. s ≡ b → ⊥) addrs
        → AllByRecursion (λ x. is_at x.node x.start (slot_image s) ≡ false) (came_images a.moves addrs)
    came_apart_from s [] all = tt
    came_apart_from s (b ∷ addrs) all = by_page (came_at a.moves b) (came_apart_from s addrs all.1)
      where
        Off : List Image → Type 0
        Off xs = AllByRecursion (λ x. is_at x.node x.start (slot_image s) ≡ false) xs

        by_page : (o : Option Page) → Off (came_images a.moves addrs)
            → Off (option_to_list (option_map (page_image b) o) ++ came_images a.moves addrs)
        by_page None rest = rest
        by_page (Some q) rest = (pages_differ b s q all.0, rest)

    nothing_read : (s : Addr) → Contains a.slots s
        → bytes_at s.node (20480 + 1024 * s.slot) (done_reads a) ≡ None
    nothing_read s has =
        let none = all_there (λ x. came_at a.moves x ≡ None) a.slots s unread has in
        none_at (done_reads a) (slot_image s)
        (all_append (λ x. is_at x.node x.start (slot_image s) ≡ false) (came_images a.moves a.draft.read) (entry_images entry_on a ++ counts_read a)
        (came_apart_from s a.draft.read (all_noted (λ b. s ≡ b → ⊥) a.draft.read (λ b noted. slot_off s b none noted)))
        (weaker (λ x. x.start < 20480) (λ x. is_at x.node x.start (slot_image s) ≡ false) (λ x low. starts_differ x (slot_image s) (λ e. absurd (omega (arith, low, e)))) (entry_images entry_on a ++ counts_read a) rest_low))

-- What a try has read and is to write

-- the nodes of pages that came in
came_nodes : (moves : List Move) (addrs : List Addr)
    → AllByRecursion (λ x. (p : Page) × (came_at moves x ≡ Some p)) addrs
    → map (λ i. i.node.0) (came_images moves addrs) ≡ map (λ x. x.node.0) addrs
came_nodes moves [] all = refl
came_nodes moves (x ∷ addrs) all =
    ap (λ (o : Option Page). map (λ (i : Image). i.node.0) (option_to_list (option_map (page_image x) o) ++ came_images moves addrs)) (all.0).1
    ∙ ap (λ (ns : List ℕ). x.node.0 ∷ ns) (came_nodes moves addrs all.1)

-- the least of them and of slots
came_least : (moves : List Move) (addrs slots : List Addr) → AreDifferent addrs
    → AllByRecursion (λ x. (p : Page) × (came_at moves x ≡ Some p)) addrs
    → least_node (with_images [] (came_images moves addrs)) slots ≡ least_addr (addrs ++ slots)
came_least moves addrs slots differ came =
    ap (λ (l : List Image). least_node l slots) (joined_all [] (came_images moves addrs) (came_apart moves addrs differ))
    ∙ ap (λ (ns : List ℕ). node_no (unwrap_or (least_of ns) 0))
    (ap (λ (ns : List ℕ). ns ++ map (λ (x : Addr). x.node.0) slots) (came_nodes moves addrs came) ∙ sym (map-append (λ (x : Addr). x.node.0) addrs slots))

module _ (moves_read : MovesRead) (kept : List Head) (r : Tried) (a : Attempt) (tried : HasTried kept r a) where
  reads_of : AreReads a.moves a.draft
  reads_of = moves_read (parents_of kept) a.version a.entry.root a.moves a.draft tried.is.leads

  abbrev leaves : List Addr
  leaves = leaves_at a.moves a.draft.read

  came_read_set : AllByRecursion (λ x. (p : Page) × (came_at a.moves x ≡ Some p)) a.draft.read
  came_read_set = all_noted (λ x. (p : Page) × (came_at a.moves x ≡ Some p)) a.draft.read (λ x noted. let c = reads_of.came x noted in (c.0, c.1))

  came_leaves : AllByRecursion (λ x. (p : Page) × (came_at a.moves x ≡ Some p)) leaves
  came_leaves = all_filter (λ x. (p : Page) × (came_at a.moves x ≡ Some p)) (is_leaf_at a.moves) a.draft.read came_read_set

  entry_as : (node : NodeNo) → entry_read node r.steps.now r.version r.entry ≡ entry_images node a
  entry_as node =
      ap (λ (s : List Step). entry_read node s r.version r.entry) (sym tried.steps)
      ∙ (ap (λ (v : VersionNo). entry_read node a.steps v r.entry) (sym tried.version) ∙ ap (λ (e : CatEntry). entry_read node a.steps a.version e) (sym tried.entry))

  pages_as : (leaves : Bool) → pages_read leaves r.pages.now r.read_set.now
      ≡ pages_read leaves (map seen_as (comes_in a.moves)) a.draft.read
  pages_as leaves =
      ap (λ (l : List SeenPage). pages_read leaves l r.read_set.now) tried.came
      ∙ ap (λ (addrs : List Addr). pages_read leaves (map seen_as (comes_in a.moves)) addrs) tried.read

  -- the read set, as it joined
  abbrev begun : List Image → List Image → State
  begun pages entry = record { nodes = r.nodes; dirty = []; reads = with_images (with_images [] pages) entry; writes = [] }

  -- with the entry on this node
  abbrev asked : List Image → NodeNo → State
  asked pages node = begun pages (entry_read node r.steps.now r.version r.entry)

  all_tried : tried_state false r a.slots
      ≡ begun (came_images a.moves a.draft.read) (entry_images (least_addr (a.draft.read ++ a.slots)) a)
  all_tried =
      ap (λ (l : List Image). asked l (least_node (with_images [] l) a.slots)) (pages_as false ∙ all_came a.moves a.draft.read)
      ∙ (ap (asked (came_images a.moves a.draft.read)) (came_least a.moves a.draft.read a.slots (once_different a.draft.read reads_of.once) came_read_set)
      ∙ ap (λ (l : List Image). begun (came_images a.moves a.draft.read) l) (entry_as (least_addr (a.draft.read ++ a.slots))))

  leaves_tried : tried_state true r [] ≡ begun (came_images a.moves leaves) (entry_images (least_addr leaves) a)
  leaves_tried =
      ap (λ (l : List Image). asked l (least_node (with_images [] l) [])) (pages_as true ∙ leaves_came a.moves a.draft.read)
      ∙ (ap (asked (came_images a.moves leaves)) (came_least a.moves leaves [] (different (is_leaf_at a.moves) a.draft.read reads_of.once) came_leaves ∙ ap least_addr (append-nil leaves))
      ∙ ap (λ (l : List Image). begun (came_images a.moves leaves) l) (entry_as (least_addr leaves)))

-- Where a Check is unmet

module _ (kept : List Head) (r : Tried) (a : Attempt) (may : MayBeUnmet kept r a) (moves_read : MovesRead) (stand : AttemptsStandInOrder) where
  abbrev leaves_state : State
  leaves_state = record { nodes = r.nodes; dirty = []; reads = unmet_reads a; writes = [] }

  leaves_order : in_item_order (unmet_reads a) ≡ unmet_reads a
  leaves_order = (stand a may.tried.is.few).2

  abbrev leaf_node : NodeNo
  leaf_node = least_addr (leaves_at a.moves a.draft.read)

  pub leaves_are : tried_state true r [] ≡ leaves_state
  leaves_are =
      leaves_tried moves_read kept r a may.tried
      ∙ ap (λ (l : List Image). let t : State = record { nodes = r.nodes; dirty = []; reads = l; writes = [] } in t)
      (images_on [] (came_images a.moves (leaves_at a.moves a.draft.read)) (entry_images leaf_node a) ∙ joined_all [] (unmet_reads a) (unmet_apart moves_read kept r.nodes a may.tried.is))

  pub unmet_fits : UnmetMayBePlanned → can_plan (tried_state true r []) ≡ true
  unmet_fits law = ap can_plan leaves_are ∙ law kept leaves_state a may.tried.is may.tried.some may.tried.few leaves_order refl

  pub unmet_planned : UnmetIsPlanned → (mini : Mini) → mini ≡ plan_of (tried_state true r [])
      → IsPlanOfTx kept a (unmet_reads a) mini
  unmet_planned law mini made es shown =
      subst (λ (m : Mini). IsPlanned es kept (Tx a.name a.steps) m a.reply) (sym (made ∙ ap plan_of leaves_are))
      (law kept leaves_state a may.tried.is may.unmet (unmet_apart moves_read kept r.nodes a may.tried.is) leaves_order refl es shown)

  pub unmet_made : (mini : Mini) → mini ≡ plan_of (tried_state true r []) → mini ≡ unmet_items r.nodes a
  unmet_made mini made =
      made ∙ (ap plan_of leaves_are
      ∙ ap (λ (l : List Image). let m : Mini = record { nodes = r.nodes; items = map compare_of l ++ [] } in m) leaves_order
      ∙ ap (λ (l : List Item). let m : Mini = record { nodes = r.nodes; items = l } in m) (append-nil (map compare_of (unmet_reads a))))

-- Where all are met

module _ (kept : List Head) (r : Tried) (p : Placing) (a : Attempt) (may : MayBeDone kept r p a)
    (moves_read : MovesRead) (placed_are_put : PlacedArePut) (stand : AttemptsStandInOrder) where
  abbrev is : IsAttempt kept r.nodes a
  is = may.tried.is

  unread : AllByRecursion (λ s. came_at a.moves s ≡ None) a.slots
  unread =
      weaker (λ s. seen_at r.pages.now s ≡ None) (λ s. came_at a.moves s ≡ None)
      (λ s none. not_seen (comes_in a.moves) s (subst (λ (l : List SeenPage). seen_at l s ≡ None) may.tried.came none)) a.slots may.unread

  apart_reads : ImagesAreApart (done_reads a)
  apart_reads = reads_apart moves_read kept r.nodes a is

  apart_writes : ImagesAreApart (done_writes a)
  apart_writes = writes_apart moves_read kept r.nodes a is placed_are_put may.long may.next unread

  -- the node of the entry
  abbrev node : NodeNo
  node = least_addr (a.draft.read ++ a.slots)

  abbrev done_state : State
  done_state = record { nodes = r.nodes; dirty = []; reads = done_reads a; writes = done_writes a }

  -- the nodes that give slots, with their counts
  abbrev giving_images : (List ℕ → List Addr → ℕ → Image) → List ℕ → List Addr → List Image
  giving_images image counts slots = map (image counts slots) (giving_nodes counts slots)

  given_as : (image : List ℕ → List Addr → ℕ → Image)
      → giving_images image p.counts.now p.slots.now ≡ giving_images image a.counts a.slots
  given_as image = ap (λ (s : List Addr). giving_images image p.counts.now s) may.slots ∙ by_counts may.counts
    where
      by_counts : (p.counts.now ≡ a.counts) ⊎ ((p.counts.now ≡ []) × (a.slots ≡ []))
          → giving_images image p.counts.now a.slots ≡ giving_images image a.counts a.slots
      by_counts (inl same) = ap (λ (c : List ℕ). giving_images image c a.slots) same
      by_counts (inr (none, no_slots)) =
          ap (λ (c : List ℕ). giving_images image c a.slots) none
          ∙ sym (ap (λ (s : List Addr). giving_images image a.counts s) no_slots
          ∙ ap (λ (ns : List ℕ). map (image a.counts []) ns) (none_pass (λ n. false) (λ n. refl) (range_with_len 0 (length a.counts))))

  pub done_are : placing_state (tried_state false r p.slots.now) p ≡ done_state
  done_are =
      counts_done p.counts.now p.slots.now (with_writes (tried_state false r p.slots.now) (map (λ h. page_image h.0 h.1) p.pages.now)) (range_with_len 0 (length p.counts.now))
      ∙ (ap (λ (t : State). with_writes (with_reads (with_writes t (map (λ h. page_image h.0 h.1) p.pages.now)) olds) news) (ap (tried_state false r) may.slots ∙ all_tried moves_read kept r a may.tried)
      ∙ (ap (λ (l : List Image). whole (with_images (with_images (with_images [] came) (entry_images node a)) l) (with_images (with_images [] (map (λ h. page_image h.0 h.1) p.pages.now)) news))
      (given_as (λ counts slots n. count_image n (slice_index_or counts n 0)))
      ∙ (ap (λ (l : List Image). whole all_read (with_images (with_images [] (map (λ h. page_image h.0 h.1) p.pages.now)) l))
      (given_as (λ counts slots n. count_image n (slice_index_or counts n 0 + taken_on slots n)))
      ∙ (ap (λ (l : List (Addr × Page)). whole all_read (with_images (with_images [] (map (λ h. page_image h.0 h.1) l)) (counts_written a))) may.pages
      ∙ (ap (λ (l : List Image). whole l all_written) reads_on ∙ ap (λ (l : List Image). whole (done_reads a) l) writes_on)))))
    where
      olds : List Image
      olds = map (λ n. count_image n (slice_index_or p.counts.now n 0)) (giving_nodes p.counts.now p.slots.now)

      news : List Image
      news = map (λ n. count_image n (slice_index_or p.counts.now n 0 + taken_on p.slots.now n)) (giving_nodes p.counts.now p.slots.now)

      came : List Image
      came = came_images a.moves a.draft.read

      whole : List Image → List Image → State
      whole rs ws = record { nodes = r.nodes; dirty = []; reads = rs; writes = ws }

      all_read : List Image
      all_read = with_images (with_images (with_images [] came) (entry_images node a)) (counts_read a)

      all_written : List Image
      all_written = with_images (with_images [] (map (λ h. page_image h.0 h.1) (placed a.slots a.draft))) (counts_written a)

      reads_on : all_read ≡ done_reads a
      reads_on =
          images_on (with_images [] came) (entry_images node a) (counts_read a)
          ∙ (images_on [] came (entry_images node a ++ counts_read a) ∙ joined_all [] (done_reads a) apart_reads)

      writes_on : all_written ≡ done_writes a
      writes_on = images_on [] (map (λ h. page_image h.0 h.1) (placed a.slots a.draft)) (counts_written a) ∙ joined_all [] (done_writes a) apart_writes

  reads_order : in_item_order (done_reads a) ≡ done_reads a
  reads_order = (stand a is.few).0

  writes_order : in_item_order (done_writes a) ≡ done_writes a
  writes_order = (stand a is.few).1

  for : IsFor done_state a
  for = record { apart = apart_reads; reads = reads_order; writes = writes_order }

  pub done_fits : DoneMayBePlanned → can_plan (placing_state (tried_state false r p.slots.now) p) ≡ true
  done_fits law = ap can_plan done_are ∙ law kept done_state a is may.tried.some may.tried.few may.counted may.next may.long for

  -- what is written fits
  pub done_writes_fit : MovesAreFew → MovesTouchLeaves → PlacedHaveRoom → MayWrite p
  done_writes_fit moves_are_few moves_touch_leaves placed_have_room =
      let e = sym (ap (λ (l : List Addr). length l) may.slots) in
      let l = (limits moves_read moves_are_few moves_touch_leaves kept r.nodes a is may.tried.some may.tried.few).1 in
      let long = may.long in
      record {
        few = by_counts (λ cs. length cs ≤ 8) (let c = may.counted in let n = may.tried.few in omega (arith, c, n)) (omega arith) may.counts;
        small = by_counts (λ cs. AllByRecursion (λ count. count ≤ max_slots) cs) may.small tt may.counts;
        slots = omega (arith, e, l, long);
        room = subst (AllByRecursion (λ (h : Addr × Page). (count_in h.1.body ≤ 8) × (length h.1.low ≤ 32))) (sym may.pages)
            (placed_have_room (parents_of kept) a.version a.entry.root a.moves a.draft a.slots is.few (run_steps moves_read moves_are_few moves_touch_leaves kept r.nodes a is may.tried.some may.tried.few) is.leads);
      }
    where
      by_counts : (P : List ℕ → Type 0) → P a.counts → P []
          → (p.counts.now ≡ a.counts) ⊎ ((p.counts.now ≡ []) × (a.slots ≡ [])) → P p.counts.now
      by_counts P all none (inl same) = subst P (sym same) all
      by_counts P all none (inr (empty, no_slots)) = subst P (sym empty) none

  its_plan : (mini : Mini) → IsPlanOf (placing_state (tried_state false r p.slots.now) p) mini → IsPlanOf done_state mini
  its_plan mini q = subst (λ (t : State). IsPlanOf t mini) done_are q

  pub done_planned : DoneIsPlanned → (mini : Mini)
      → IsPlanOf (placing_state (tried_state false r p.slots.now) p) mini → IsPlanOfTx kept a (done_reads a) mini
  done_planned law mini q es shown =
      let at = its_plan mini q in
      let done : IsDone r.nodes a = record {
        found = may.found;
        reply = may.reply;
        counts = (may.counted, may.small);
        slots = (may.next, may.long);
        numbers = numbers moves_read placed_are_put kept done_state a is may.long for at.1;
      } in
      subst (λ (m : Mini). IsPlanned es kept (Tx a.name a.steps) m a.reply) (sym at.0)
      (law kept done_state a is done apart_reads apart_writes reads_order writes_order es shown)

  pub done_made : (mini : Mini) → IsPlanOf (placing_state (tried_state false r p.slots.now) p) mini
      → mini ≡ done_items r.nodes a
  done_made mini q =
      (its_plan mini q).0
      ∙ (ap (λ (rs : List Image). let m : Mini = record { nodes = r.nodes; items = map compare_of rs ++ map write_of (in_item_order (done_writes a)) } in m) reads_order
      ∙ ap (λ (ws : List Image). let m : Mini = record { nodes = r.nodes; items = map compare_of (done_reads a) ++ map write_of ws } in m) writes_order)

  pub done_refused : WornIsChanged → (node : NodeNo) (start : ℕ)
      → RefusesPlan (placing_state (tried_state false r p.slots.now) p) (Worn node start) → IsWornPage a node start
  done_refused law node start q = by_place (law kept done_state a node start is may.long for (subst (λ (t : State). RefusesPlan t (Worn node start)) done_are q))
    where
      by_place : IsWornPage a node start ⊎ IsReadSlot done_state a node start → IsWornPage a node start
      by_place (inl page) = page
      by_place (inr slot) = absurd (by_read slot.read)
        where
          none : bytes_at slot.addr.node (20480 + 1024 * slot.addr.slot) (done_reads a) ≡ None
          none = nothing_read moves_read kept r.nodes a is placed_are_put may.long may.next unread slot.addr slot.slot

          at : bytes_at slot.addr.node (20480 + 1024 * slot.addr.slot) (done_reads a) ≡ bytes_at node start (done_reads a)
          at = ap (λ (n : NodeNo). bytes_at n (20480 + 1024 * slot.addr.slot) (done_reads a)) slot.node_is ∙ ap (λ s. bytes_at node s (done_reads a)) slot.start_is

          by_read : (bytes_at node start (done_reads a) ≡ Some slot.bytes) ⊎ (None ≡ Some slot.bytes) → ⊥
          by_read (inl e) = let no : None ≡ Some slot.bytes = sym none ∙ (at ∙ e) in absurd cc
          by_read (inr e) = absurd cc
