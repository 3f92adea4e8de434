-- The items of a try: few, and inside the space.
use Rattle.std.proofs.Common.{◌≡◌, ◌⊎◌, inl, inr, ℕ, suc, ◌+◌, ◌*◌, ◌<◌, ◌≤◌, Bool, true, false, not}
use Rattle.std.proofs.Common.{nat_eq, nat_lt, List, [], ◌∷◌, ◌++◌, filter, map, length, Option, Some, None, refl, subst}
use Rattle.std.proofs.Common.{sym, ap, ◌∙◌, arith, length-append, slice_set, slice_index_or, if◌then◌else◌}
use Rattle.std.specs.Prelude.{nat_le}
use Rattle.std.specs.List.{AllByRecursion, list_any, range_with_len}
use Rattle.std.specs.Option.{option_map, option_to_list}
use Rattle.std.proofs.lemmas.Bool.{and_parts, and_from, lt-ltb, le-leb}
use Rattle.std.proofs.lemmas.List.{length-map, length-set}
use Rattle.std.proofs.lemmas.List.FromFn.{length-range_with_len}
use Rattle.mn_base.specs.Store.{Head, is_change, is_unmet, value_at, step_key, noted_by}
use Rattle.mn_base.specs.Tree.{parents_of}
use Rattle.mn_base.specs.declared.ids.Addr.{Addr}
use Rattle.mn_base.specs.declared.ids.NodeNo.{NodeNo}
use Rattle.mn_base.specs.declared.ids.VersionNo.{VersionNo}
use Rattle.mn_base.specs.declared.op.Step.{Step}
use Rattle.mn_base.specs.declared.reply.Reply.{Reply}
use Rattle.mn_base.specs.declared.reply.Reply.TheVariants as Say
use Rattle.mn_base.proofs.Lists.{all_append, all_both, weaker}
use Rattle.mn_page.specs.declared.page.Page.{Page}
use Rattle.mn_page.specs.Space.{max_slots}
use Rattle.mn_page.specs.Grammar.{IsAddr, page_bytes, entry_bytes}
use Rattle.mn_page.specs.Overlay.{Held, path_pairs}
use Rattle.mn_page.proofs.Spelled.{page_length, entry_length}
use Rattle.mn_page.proofs.Grid.{all_split}
use Rattle.mn_tree.specs.State.{Drafted, drafted_with, drafted_after, no_pages}
use Rattle.mn_tree.specs.Trees.{is_noted}
use Rattle.mn_tree.specs.Order.{is_changed, placed}
use Rattle.mn_tree.specs.Laws.{held_pair}
use Rattle.mn_tree.specs.Moves.{Move, Comes, Does, LeadsTo, comes_in, done_in, AreAnswered, came_at, is_leaf_at, leaves_at}
use Rattle.mn_tree.specs.MoveLaws.{IsStep, AreReads, MovesRead}
use Rattle.mn_tree.specs.Limits.{MovesAreFew, MovesTouchLeaves, ArePut, PlacedArePut, PlacedFillSlots}
use Rattle.mn_tree.proofs.Trees.Told.{noted_filter}
use Rattle.mn_tree.proofs.Trees.Filled.{shorter}
use Rattle.mn_tree.proofs.Trees.Placing.{range_low}
use Rattle.mn_plans.specs.Growth.{AreNextSlots, taken_on, giving_nodes}
use Rattle.mn_txn.specs.declared.image.Image.{Image}
use Rattle.mn_txn.specs.State.{State}
use Rattle.mn_txn.specs.Order.{stands_before, in_item_order}
use Rattle.mn_txn.specs.Order as order
use Rattle.mn_txn.specs.Plan.{is_inside, are_inside, can_plan}
use Rattle.mn_txn.specs.Attempt.{Attempt, IsAttempt, least_addr, page_image, came_images, entry_images, count_image, counts_read}
use Rattle.mn_txn.specs.Attempt.{counts_written, done_reads, done_writes, unmet_reads}
use Rattle.mn_txn.specs.Tries.{DoneMayBePlanned, UnmetMayBePlanned}
use Rattle.mn_txn.proofs.Sound.{length_in_order}
use Rattle.mn_txn.proofs.Lists.{all_noted, all_mapped}
use Rattle.mn_txn.proofs.Known.{came_of, least_low}
use Rattle.mn_txn.proofs.Attempts.{held_image}
use Rattle.mn_txn.proofs.Worn.{writes_are}

-- Lists

pub all_filter : {X : Type 0} (P : X → Type 0) (t : X → Bool) (xs : List X) → AllByRecursion P xs
    → AllByRecursion P (filter t xs)
all_filter P t [] all = tt
all_filter {X} P t (x ∷ xs) all = by_test (t x) (all_filter P t xs all.1)
  where
    by_test : (b : Bool) → AllByRecursion P (filter t xs)
        → AllByRecursion P (if b then x ∷ filter t xs else filter t xs)
    by_test true rest = (all.0, rest)
    by_test false rest = rest

all_unmapped : {X Y : Type 0} (P : Y → Type 0) (f : X → Y) (xs : List X)
    → AllByRecursion P (map f xs) → AllByRecursion (λ x. P (f x)) xs
all_unmapped P f [] all = tt
all_unmapped P f (x ∷ xs) all = (all.0, all_unmapped P f xs all.1)

-- what holds of images in the order of items holds of them
placed_back : (P : Image → Type 0) (i : Image) (xs : List Image)
    → AllByRecursion P (order.placed i xs) → P i × AllByRecursion P xs
placed_back P i [] all = all
placed_back P i (x ∷ xs) all = by_before (stands_before x i) all (placed_back P i xs)
  where
    by_before : (b : Bool) → AllByRecursion P (if b then x ∷ order.placed i xs else i ∷ x ∷ xs)
        → (AllByRecursion P (order.placed i xs) → P i × AllByRecursion P xs) → P i
        × (P x × AllByRecursion P xs)
    by_before true each rest = let r = rest each.1 in (r.0, (each.0, r.1))
    by_before false each rest = each

order_back : (P : Image → Type 0) (xs : List Image) → AllByRecursion P (in_item_order xs)
    → AllByRecursion P xs
order_back P [] all = tt
order_back P (x ∷ xs) all = let r = placed_back P x (in_item_order xs) all in (r.0, order_back P xs r.1)

-- Images inside the space

-- as the test of a plan has it
abbrev pub IsIn : ℕ → Image → Type 0
IsIn nodes i = is_inside nodes i ≡ true

pub in_space : (nodes : ℕ) (i : Image) (long : ℕ) → length i.bytes ≡ long → nodes ≤ 8
    → i.node.0 < nodes → 1 ≤ long → long ≤ 4096 → i.start + long ≤ 4214784 → IsIn nodes i
in_space nodes i long is few low some short ends =
    and_from (nat_lt i.node.0 nodes) _ (lt-ltb i.node.0 nodes low)
    (and_from (nat_lt i.node.0 8) _ (lt-ltb i.node.0 8 (omega arith))
    (and_from (nat_le 1 (length i.bytes)) _ (le-leb 1 (length i.bytes) (omega arith))
    (and_from (nat_le (length i.bytes) 4096) _ (le-leb (length i.bytes) 4096 (omega arith)) (le-leb (i.start + length i.bytes) 4214784 (omega arith)))))

pub page_in : (nodes : ℕ) (addr : Addr) (p : Page) → nodes ≤ 8 → addr.node.0 < nodes
    → addr.slot < max_slots → length (page_bytes p) ≡ 1024 → IsIn nodes (page_image addr p)
page_in nodes addr p few low slot long = in_space nodes (page_image addr p) 1024 long few low (omega arith) (omega arith) (omega arith)

pub count_in_space : (nodes n count : ℕ) → nodes ≤ 8 → n < nodes → IsIn nodes (count_image n count)
count_in_space nodes n count few low = in_space nodes (count_image n count) 8 refl few low (omega arith) (omega arith) (omega arith)

inside_all : (nodes : ℕ) (xs : List Image) → AllByRecursion (IsIn nodes) xs
    → are_inside nodes xs ≡ true
inside_all nodes [] all = refl
inside_all nodes (x ∷ xs) all = and_from (is_inside nodes x) (are_inside nodes xs) all.0 (inside_all nodes xs all.1)

-- The steps that are done

module _ (parents : List (Option ℕ)) (v : VersionNo) (root : Addr) where
  -- they are the first of those asked for
  begun : (moves : List Move) (d after : Drafted) (n : ℕ) (found : List (Option (List ℕ)))
      (steps : List Step) (reply : Reply) → LeadsTo parents v root d moves after
      → AreAnswered parents v root d moves n found steps reply
      → (later : List Step) × (done_in moves ++ later ≡ steps)
      × (1 ≤ length steps → 1 ≤ length (done_in moves))
  begun [] d after n found steps reply leads answered = ([], sym answered.0, λ some. let none = ap (λ (l : List Step). length l) answered.0 in absurd (omega arith))
  begun (Comes h ∷ moves) d after n found steps reply leads answered = begun moves (drafted_with d h.addr h.page) after n found steps reply leads.1 answered
  begun (Does step ∷ moves) d after n found [] reply leads answered = absurd answered
  begun (Does step ∷ moves) d after n found (next ∷ steps) reply (path, way, leads) (same, answered) =
      by_check (answered path way) (λ rest. begun moves (drafted_after v d step path) after (n + 1) (found ++ noted_by (path_pairs path) step) steps reply leads rest)
    where
      Rest : Type 0
      Rest = AreAnswered parents v root (drafted_after v d step path) moves (n + 1) (found ++ noted_by (path_pairs path) step) steps reply

      by_check : ((is_unmet (path_pairs path) step ≡ true) × (moves ≡ []) × (reply ≡ Say.Unmet n (value_at (path_pairs path) (step_key step)))) ⊎ ((is_unmet (path_pairs path) step ≡ false) × Rest)
          → (Rest → (later : List Step) × (done_in moves ++ later ≡ steps) × (1 ≤ length steps → 1 ≤ length (done_in moves)))
          → (later : List Step) × (step ∷ done_in moves ++ later ≡ next ∷ steps)
          × (1 ≤ suc (length steps) → 1 ≤ suc (length (done_in moves)))
      by_check (inl (unmet, last, says)) rest =
          (steps, ap (λ (ms : List Move). step ∷ done_in ms ++ steps) last ∙ ap (λ (s : Step). s ∷ steps) same, λ some. omega arith)
      by_check (inr (met, more)) rest =
          let r = rest more in
          (r.0, ap (λ (l : List Step). step ∷ l) r.1 ∙ ap (λ (s : Step). s ∷ steps) same, λ some. omega arith)

-- How many

-- one image for an address at most
came_few : (moves : List Move) (addrs : List Addr) → length (came_images moves addrs) ≤ length addrs
came_few moves [] = omega arith
came_few moves (x ∷ addrs) = by_page (came_at moves x) (came_few moves addrs)
  where
    by_page : (o : Option Page) → length (came_images moves addrs) ≤ length addrs
        → length (option_to_list (option_map (page_image x) o) ++ came_images moves addrs) ≤ suc (length addrs)
    by_page None rest = omega arith
    by_page (Some p) rest = omega arith

-- and one where a page came in
came_some : (moves : List Move) (addrs : List Addr) (x : Addr) → is_noted addrs x ≡ true
    → AllByRecursion (λ y. (p : Page) × (came_at moves y ≡ Some p)) addrs
    → 1 ≤ length (came_images moves addrs)
came_some moves [] x noted all = absurd cc
came_some moves (y ∷ addrs) x noted all =
    let c = all.0 in
    subst (λ (o : Option Page). 1 ≤ length (option_to_list (option_map (page_image y) o) ++ came_images moves addrs)) (sym c.1) (omega arith)

entry_few : (node : NodeNo) (a : Attempt) → length (entry_images node a) ≤ 1
entry_few node a = by_any (list_any is_change a.steps)
  where
    image_of : Image
    image_of = record { node = node; start = 64 + 64 * a.version.0; bytes = entry_bytes a.entry }

    by_any : (t : Bool) → length (if t then image_of ∷ [] else []) ≤ 1
    by_any true = omega arith
    by_any false = omega arith

giving_few : (counts : List ℕ) (slots : List Addr)
    → length (giving_nodes counts slots) ≤ length counts
giving_few counts slots =
    let some = shorter (λ n. not (nat_eq (taken_on slots n) 0)) (range_with_len 0 (length counts)) in
    let all = length-range_with_len 0 (length counts) in omega (arith, some, all)

giving_low : (counts : List ℕ) (slots : List Addr)
    → AllByRecursion (λ n. n < length counts) (giving_nodes counts slots)
giving_low counts slots =
    all_filter (λ n. n < length counts) (λ n. not (nat_eq (taken_on slots n) 0)) (range_with_len 0 (length counts))
    (weaker (λ n. n < 0 + length counts) (λ n. n < length counts) (λ n low. omega arith) (range_with_len 0 (length counts)) (range_low 0 (length counts)))

-- new slots are slots of the nodes
next_low : (counts : List ℕ) (slots : List Addr) → AreNextSlots counts slots
    → AllByRecursion (λ s. (s.node.0 < length counts) × (s.slot < max_slots)) slots
next_low counts [] next = tt
next_low counts (s ∷ slots) next = (
  (next.0, next.2),
  subst (λ k. AllByRecursion (λ x. (x.node.0 < k) × (x.slot < max_slots)) slots) (length-set counts s.node.0 (s.slot + 1)) (next_low (slice_set counts s.node.0 (s.slot + 1)) slots next.3),
)

-- The test of a plan

pub test_passes : (t : State) → 1 ≤ length t.reads + length t.writes
    → length t.reads + length t.writes ≤ 1024 → AllByRecursion (IsIn t.nodes) t.reads
    → AllByRecursion (IsIn t.nodes) t.writes → can_plan t ≡ true
test_passes t some few reads writes =
    and_from (nat_le 1 (length t.reads + length t.writes)) _ (le-leb 1 (length t.reads + length t.writes) some)
    (and_from (nat_le (length t.reads + length t.writes) 1024) _ (le-leb (length t.reads + length t.writes) 1024 few)
    (and_from (are_inside t.nodes t.reads) _ (inside_all t.nodes t.reads reads) (inside_all t.nodes t.writes writes)))

module _ (moves_read : MovesRead) (moves_are_few : MovesAreFew) (moves_touch_leaves : MovesTouchLeaves) (kept : List Head) (nodes : ℕ) (a : Attempt) (is : IsAttempt kept nodes a) (steps : 1 ≤ length a.steps) (few : nodes ≤ 8) where
  reads : AreReads a.moves a.draft
  reads = moves_read (parents_of kept) a.version a.entry.root a.moves a.draft is.leads

  run : (later : List Step) × (done_in a.moves ++ later ≡ a.steps)
      × (1 ≤ length a.steps → 1 ≤ length (done_in a.moves))
  run = begun (parents_of kept) a.version a.entry.root a.moves no_pages a.draft 1 [] a.steps a.reply is.leads is.answered

  run_many : length (done_in a.moves) ≤ 16
  run_many = let e = ap (λ (l : List Step). length l) (sym run.1) in let f = length-append (done_in a.moves) run.0 in let many = is.many in omega arith

  pub run_steps : AllByRecursion IsStep (done_in a.moves)
  run_steps = (all_split IsStep (done_in a.moves) run.0 (subst (AllByRecursion IsStep) (sym run.1) is.steps)).0

  pub limits : (length a.draft.read ≤ 241) × (a.draft.overlay.fresh ≤ 518)
  limits = moves_are_few (parents_of kept) a.version a.entry.root a.moves a.draft is.entry.root is.leads run_many

  leaf : (addr : Addr) × (is_noted (leaves_at a.moves a.draft.read) addr ≡ true)
  leaf = moves_touch_leaves (parents_of kept) a.version a.entry.root a.moves a.draft is.leads (run.2 steps)

  -- a page that came in at an address of the read set
  came_in : (x : Addr) → is_noted a.draft.read x ≡ true → (p : Page) × (came_at a.moves x ≡ Some p)
      × IsIn nodes (page_image x p) × (x.node.0 < nodes) × IsAddr x
  came_in x noted =
      let c = reads.came x noted in
      let low = came_of (λ h. h.addr.node.0 < nodes) (comes_in a.moves) x c.0 is.within c.1 in
      (c.0, c.1, page_in nodes x c.0 few low (c.3).1 (page_length c.0 c.2), low, c.3)

  abbrev CameIn : Addr → Type 0
  CameIn x = (p : Page) × (came_at a.moves x ≡ Some p) × IsIn nodes (page_image x p) × (x.node.0 < nodes) × IsAddr x

  came_inside : (addrs : List Addr) → AllByRecursion CameIn addrs
      → AllByRecursion (IsIn nodes) (came_images a.moves addrs)
  came_inside [] all = tt
  came_inside (x ∷ addrs) all =
      let c = all.0 in
      subst (λ (o : Option Page). AllByRecursion (IsIn nodes) (option_to_list (option_map (page_image x) o) ++ came_images a.moves addrs)) (sym c.1) (c.2, came_inside addrs all.1)

  leaf_read : is_noted a.draft.read leaf.0 ≡ true
  leaf_read = (and_parts (is_leaf_at a.moves leaf.0) (is_noted a.draft.read leaf.0) (sym (noted_filter (is_leaf_at a.moves) a.draft.read leaf.0) ∙ leaf.1)).1

  some_node : 0 < nodes
  some_node = let low = (came_in leaf.0 leaf_read).3 in omega arith

  entry_inside : (node : NodeNo) → node.0 < nodes → AllByRecursion (IsIn nodes) (entry_images node a)
  entry_inside node there = by_any (list_any is_change a.steps)
    where
      image_of : Image
      image_of = record { node = node; start = 64 + 64 * a.version.0; bytes = entry_bytes a.entry }

      by_any : (t : Bool) → AllByRecursion (IsIn nodes) (if t then image_of ∷ [] else [])
      by_any true = let low = is.few in (in_space nodes image_of 64 (entry_length a.entry is.entry) few there (omega arith) (omega arith) (omega arith), tt)
      by_any false = tt

  -- the read set by these addresses
  module _ (addrs : List Addr) (subset : (x : Addr) → is_noted addrs x ≡ true → is_noted a.draft.read x ≡ true) where
    all_in : AllByRecursion CameIn addrs
    all_in = all_noted CameIn addrs (λ x noted. came_in x (subset x noted))

    nodes_low : AllByRecursion (λ x. x.node.0 < nodes) addrs
    nodes_low = weaker CameIn (λ x. x.node.0 < nodes) (λ x c. c.3) addrs all_in

    images_in : AllByRecursion (IsIn nodes) (came_images a.moves addrs)
    images_in = came_inside addrs all_in

    images_some : (x : Addr) → is_noted addrs x ≡ true → 1 ≤ length (came_images a.moves addrs)
    images_some x noted = came_some a.moves addrs x noted (weaker CameIn (λ y. (p : Page) × (came_at a.moves y ≡ Some p)) (λ y c. (c.0, c.1)) addrs all_in)

  module _ (placed_are_put : PlacedArePut) (placed_fill_slots : PlacedFillSlots) (counted : length a.counts ≡ nodes) (next : AreNextSlots a.counts a.slots) (long : length a.slots ≡ a.draft.overlay.fresh) where
    put : ArePut a.draft a.slots
    put = placed_are_put (parents_of kept) a.version a.entry.root a.moves a.draft a.slots is.leads long

    -- the node of the entry
    abbrev node : NodeNo
    node = least_addr (a.draft.read ++ a.slots)

    node_low : node.0 < nodes
    node_low =
        least_low nodes (a.draft.read ++ a.slots) some_node
        (all_append (λ x. x.node.0 < nodes) a.draft.read a.slots (nodes_low a.draft.read (λ x e. e))
        (weaker (λ s. (s.node.0 < length a.counts) × (s.slot < max_slots)) (λ s. s.node.0 < nodes) (λ s low. subst (λ k. s.node.0 < k) counted low.0) a.slots (next_low a.counts a.slots next)))

    abbrev giving : List ℕ
    giving = giving_nodes a.counts a.slots

    counts_in : (c : ℕ → ℕ) → AllByRecursion (IsIn nodes) (map (λ n. count_image n (c n)) giving)
    counts_in c = all_mapped (IsIn nodes) (λ n. count_image n (c n)) giving (weaker (λ n. n < length a.counts) (λ n. IsIn nodes (count_image n (c n))) (λ n low. count_in_space nodes n (c n) few (omega arith)) giving (giving_low a.counts a.slots))

    reads_in : AllByRecursion (IsIn nodes) (done_reads a)
    reads_in =
        all_append (IsIn nodes) (came_images a.moves a.draft.read) (entry_images node a ++ counts_read a) (images_in a.draft.read (λ x e. e))
        (all_append (IsIn nodes) (entry_images node a) (counts_read a) (entry_inside node node_low) (counts_in (λ n. slice_index_or a.counts n 0)))

    -- where the pages of the plan stand
    abbrev StandsIn : Addr → Type 0
    StandsIn x = (x.node.0 < nodes) × (x.slot < max_slots)

    changed_stand : AllByRecursion (λ h. StandsIn h.addr) put.changed
    changed_stand =
        all_unmapped StandsIn (λ (h : Held). h.addr) put.changed (subst (AllByRecursion StandsIn) (sym put.in_order)
        (all_filter StandsIn (is_changed a.draft.overlay.changed) a.draft.read (all_noted StandsIn a.draft.read (λ x noted. let c = came_in x noted in (c.3, (c.4).1)))))

    new_stand : AllByRecursion (λ h. StandsIn h.addr) put.new
    new_stand =
        all_unmapped StandsIn (λ (h : Held). h.addr) put.new (subst (AllByRecursion StandsIn) (sym put.in_slots)
        (weaker (λ s. (s.node.0 < length a.counts) × (s.slot < max_slots)) StandsIn (λ s low. (subst (λ k. s.node.0 < k) counted low.0, low.1)) a.slots (next_low a.counts a.slots next)))

    filled : AllByRecursion (λ h. length (page_bytes h.page) ≡ 1024) (put.changed ++ put.new)
    filled =
        subst (AllByRecursion (λ (h : Held). length (page_bytes h.page) ≡ 1024)) put.are
        (all_mapped (λ (h : Held). length (page_bytes h.page) ≡ 1024) held_pair (placed a.slots a.draft) (placed_fill_slots (parents_of kept) a.version a.entry.root a.moves a.draft a.slots is.few run_steps is.leads))

    writes_in : AllByRecursion (IsIn nodes) (done_writes a)
    writes_in =
        subst (AllByRecursion (IsIn nodes)) (sym (writes_are a put))
        (all_append (IsIn nodes) (map held_image (put.changed ++ put.new)) (counts_written a)
        (all_mapped (IsIn nodes) held_image (put.changed ++ put.new)
        (all_both (λ h. StandsIn h.addr) (λ h. length (page_bytes h.page) ≡ 1024) (λ h. IsIn nodes (held_image h)) (λ h low fills. page_in nodes h.addr h.page few low.0 low.1 fills) (put.changed ++ put.new)
        (all_append (λ h. StandsIn h.addr) put.changed put.new changed_stand new_stand) filled))
        (counts_in (λ n. slice_index_or a.counts n 0 + taken_on a.slots n)))

    reads_few : length (done_reads a) ≤ 250
    reads_few =
        let one = came_few a.moves a.draft.read in
        let two = entry_few node a in
        let three = giving_few a.counts a.slots in
        let c = length-map giving (λ n. count_image n (slice_index_or a.counts n 0)) in
        let e = length-append (came_images a.moves a.draft.read) (entry_images node a ++ counts_read a) in
        let f = length-append (entry_images node a) (counts_read a) in
        let l = limits.0 in omega arith

    writes_few : length (done_writes a) ≤ 767
    writes_few =
        let three = giving_few a.counts a.slots in
        let c = length-map giving (λ n. count_image n (slice_index_or a.counts n 0 + taken_on a.slots n)) in
        let e = ap (λ (l : List Image). length l) (writes_are a put) in
        let f = length-append (map held_image (put.changed ++ put.new)) (counts_written a) in
        let g = length-map (put.changed ++ put.new) held_image in
        let h = length-append put.changed put.new in
        let i = sym (length-map put.changed (λ (x : Held). x.addr)) ∙ ap (λ (l : List Addr). length l) put.in_order in
        let j = sym (length-map put.new (λ (x : Held). x.addr)) ∙ ap (λ (l : List Addr). length l) put.in_slots in
        let k = shorter (is_changed a.draft.overlay.changed) a.draft.read in
        let l = limits.0 in
        let m = limits.1 in omega (arith, i, j, k)

    reads_some : 1 ≤ length (done_reads a)
    reads_some = let one = images_some a.draft.read (λ x e. e) leaf.0 leaf_read in let e = length-append (came_images a.moves a.draft.read) (entry_images node a ++ counts_read a) in omega arith

pub done_may_be_planned : MovesRead → MovesAreFew → MovesTouchLeaves → PlacedArePut
    → PlacedFillSlots → DoneMayBePlanned
done_may_be_planned moves_read moves_are_few moves_touch_leaves placed_are_put placed_fill_slots kept t a is steps few counted next long for =
    test_passes t (omega (arith, r, some)) (omega (arith, r, w, most, more))
    (order_back (IsIn t.nodes) t.reads (subst (AllByRecursion (IsIn t.nodes)) (sym for.reads) (reads_in moves_read moves_are_few moves_touch_leaves kept t.nodes a is steps few placed_are_put placed_fill_slots counted next long)))
    (order_back (IsIn t.nodes) t.writes (subst (AllByRecursion (IsIn t.nodes)) (sym for.writes) (writes_in moves_read moves_are_few moves_touch_leaves kept t.nodes a is steps few placed_are_put placed_fill_slots counted next long)))
  where
    r : length t.reads ≡ length (done_reads a)
    r = sym (length_in_order t.reads) ∙ ap (λ (l : List Image). length l) for.reads

    w : length t.writes ≡ length (done_writes a)
    w = sym (length_in_order t.writes) ∙ ap (λ (l : List Image). length l) for.writes

    some : 1 ≤ length (done_reads a)
    some = reads_some moves_read moves_are_few moves_touch_leaves kept t.nodes a is steps few placed_are_put placed_fill_slots counted next long

    most : length (done_reads a) ≤ 250
    most = reads_few moves_read moves_are_few moves_touch_leaves kept t.nodes a is steps few placed_are_put placed_fill_slots counted next long

    more : length (done_writes a) ≤ 767
    more = writes_few moves_read moves_are_few moves_touch_leaves kept t.nodes a is steps few placed_are_put placed_fill_slots counted next long

pub unmet_may_be_planned : MovesRead → MovesAreFew → MovesTouchLeaves → UnmetMayBePlanned
unmet_may_be_planned moves_read moves_are_few moves_touch_leaves kept t a is steps few reads_are none =
    test_passes t (omega (arith, r, some, e)) (omega (arith, r, w, e, one, two, l, k))
    (order_back (IsIn t.nodes) t.reads (subst (AllByRecursion (IsIn t.nodes)) (sym reads_are)
    (all_append (IsIn t.nodes) (came_images a.moves addrs) (entry_images node a) (images_in moves_read moves_are_few moves_touch_leaves kept t.nodes a is steps few addrs subset) (entry_inside moves_read moves_are_few moves_touch_leaves kept t.nodes a is steps few node node_low))))
    (subst (AllByRecursion (IsIn t.nodes)) (sym none) tt)
  where
    addrs : List Addr
    addrs = leaves_at a.moves a.draft.read

    subset : (x : Addr) → is_noted addrs x ≡ true → is_noted a.draft.read x ≡ true
    subset x noted = (and_parts (is_leaf_at a.moves x) (is_noted a.draft.read x) (sym (noted_filter (is_leaf_at a.moves) a.draft.read x) ∙ noted)).1

    node : NodeNo
    node = least_addr addrs

    node_low : node.0 < t.nodes
    node_low =
        least_low t.nodes addrs (some_node moves_read moves_are_few moves_touch_leaves kept t.nodes a is steps few)
        (nodes_low moves_read moves_are_few moves_touch_leaves kept t.nodes a is steps few addrs subset)

    r : length t.reads ≡ length (unmet_reads a)
    r = sym (length_in_order t.reads) ∙ ap (λ (l : List Image). length l) reads_are

    w : length t.writes ≡ 0
    w = ap (λ (l : List Image). length l) none

    e : length (unmet_reads a) ≡ length (came_images a.moves addrs) + length (entry_images node a)
    e = length-append (came_images a.moves addrs) (entry_images node a)

    some : 1 ≤ length (came_images a.moves addrs)
    some =
        let found = leaf moves_read moves_are_few moves_touch_leaves kept t.nodes a is steps few in
        images_some moves_read moves_are_few moves_touch_leaves kept t.nodes a is steps few addrs subset found.0 found.1

    one : length (came_images a.moves addrs) ≤ length addrs
    one = came_few a.moves addrs

    two : length (entry_images node a) ≤ 1
    two = entry_few node a

    l : length a.draft.read ≤ 241
    l = (limits moves_read moves_are_few moves_touch_leaves kept t.nodes a is steps few).0

    k : length addrs ≤ length a.draft.read
    k = shorter (is_leaf_at a.moves) a.draft.read
