-- The plan of a try whose Checks are met is planned.
use Rattle.std.proofs.Common.{◌≡◌, ◌⊎◌, inl, inr, ℕ, ◌+◌, ◌-◌, ◌^◌, ◌<◌, ◌≤◌, Bool, true, false, not, ◌&&◌, List, [], ◌∷◌, ◌++◌, map, length, Contains, Option, Some, None, refl, subst, sym, ap, ◌∙◌, arith, slice_set, slice_index_or, if◌then◌else◌}
use Rattle.std.specs.Prelude.{filter, nat_eq}
use Rattle.std.specs.List.{AllByRecursion, list_any, range_with_len, flat_map}
use Rattle.std.specs.Option.{option_map_or}
use Rattle.std.proofs.lemmas.Bool.{eq-eqb, ne_eqb, and_parts, and_from}
use Rattle.std.proofs.lemmas.List.{map-append}
use Rattle.mn_base.specs.Store.{Store, Head, heads_of, is_change, ran, steps_run, applied}
use Rattle.mn_base.specs.Tree.{parents_of}
use Rattle.mn_base.specs.declared.ids.Addr.{Addr}
use Rattle.mn_base.specs.declared.ids.NodeNo.{NodeNo}
use Rattle.mn_base.specs.declared.op.Step.{Step}
use Rattle.mn_base.specs.declared.op.Op.TheVariants.{Tx}
use Rattle.mn_base.specs.declared.reply.Pair.{Pair}
use Rattle.mn_base.proofs.Lists.{all_append, all_both, weaker}
use Rattle.mn_mini.specs.declared.item.Item.{Item}
use Rattle.mn_mini.specs.Mini.{Mini}
use Rattle.mn_mini.specs.Flat.{memory_after}
use Rattle.mn_page.specs.declared.page.Page.{Page}
use Rattle.mn_page.specs.Space.{max_slots}
use Rattle.mn_page.specs.Grammar.{IsPage, IsAddr, height_of}
use Rattle.mn_page.specs.Forest.{Forest, node_count, page_at}
use Rattle.mn_page.specs.Holds.{Holds, PagesAt}
use Rattle.mn_page.specs.Overlay.{Held, next_number, placed_old}
use Rattle.mn_page.specs.SlotOrder.{AreInSlotOrder}
use Rattle.mn_page.proofs.Alike.{re_paired}
use Rattle.mn_page.proofs.Spelled.{entry_length}
use Rattle.mn_page.proofs.Copy.{page_same}
use Rattle.mn_page.proofs.Grid.{all_filter}
use Rattle.mn_tree.specs.State.{Drafted}
use Rattle.mn_tree.specs.Trees.{is_noted}
use Rattle.mn_tree.specs.Order.{is_changed, changed_order, placed, pair_of}
use Rattle.mn_tree.specs.Laws.{ReadsAreDraft, AreFreeSlots, held_pair}
use Rattle.mn_tree.specs.Moves.{comes_in, done_in, came_at, is_leaf_at, leaves_at, pairs_after}
use Rattle.mn_tree.specs.MoveLaws.{IsStep, AreTold, MovesTell, AreOnce, AreReads, MovesRead, MovesComeOnce, ArePlaced, MovesArePlaced, QuietMoves}
use Rattle.mn_tree.proofs.Trees.Told.{noted_filter}
use Rattle.mn_law.specs.Places.{page_place}
use Rattle.mn_runs.specs.declared.entry.Entry.{Entry}
use Rattle.mn_law.specs.Planned.{ContinuesCatalog, PlanActs, IsPickOf, ComparesHold}
use Rattle.mn_plans.specs.Plans.{write_count}
use Rattle.mn_plans.specs.Growth.{AreNextSlots, taken_on, giving_nodes, node_no, count_writes, addrs_of, AreCounts, AreDifferent, NextSlotsAreFree, write_held, WritesLeaveStore, ComparesTell, NumbersGoOn}
use Rattle.mn_plans.proofs.Grown.{all_mapped}
use Rattle.mn_txn.specs.declared.image.Image.{Image}
use Rattle.mn_txn.specs.State.{ImagesAreApart}
use Rattle.mn_txn.specs.Order.{in_item_order}
use Rattle.mn_txn.specs.Plan.{plan_of, compare_of, write_of}
use Rattle.mn_txn.specs.Laws.{PlansAreInOrder, ReadsAreShown}
use Rattle.mn_txn.specs.Attempt.{Attempt, IsAttempt, IsDone, least_addr, page_image, count_image, counts_written, done_reads, done_writes, DoneIsPlanned}
use Rattle.mn_txn.proofs.Plans.{apart_in_order, plan_shown, shown_in_order}
use Rattle.mn_txn.proofs.Lists.{mapped_back, noted_has, all_noted, pick_some}
use Rattle.mn_txn.proofs.Found.{InStore, all_done, quiet_pairs, applied_reply, applied_store, applied_nothing}
use Rattle.mn_txn.proofs.Known.{least_low, giving_have, few_nodes, some_node, read_low, number, version, shown, none_new, agrees, page_of, entry_of, count_of, told, may, taken_low, gives, small_counts}
use Rattle.mn_txn.proofs.Attempts.{Facts, mini, acts, compares_pass, held_image}

-- Lists

pub none_pass : {X : Type 0} (t : X → Bool) → ((x : X) → t x ≡ false) → (xs : List X) → filter t xs ≡ []
none_pass t off [] = refl
none_pass t off (x ∷ xs) = ap (λ b. if b then x ∷ filter t xs else filter t xs) (off x) ∙ none_pass t off xs

-- different addresses
pub once_apart : (addrs : List Addr) (a : Addr) → is_noted addrs a ≡ false → AllByRecursion (λ b. b ≡ a → ⊥) addrs
once_apart addrs a off = all_noted (λ b. b ≡ a → ⊥) addrs (λ b noted same. clash (is_noted addrs a) (ap (is_noted addrs) (sym same) ∙ noted) off)
  where
    clash : (t : Bool) → t ≡ true → t ≡ false → ⊥
    clash t e f = absurd cc

pub different : (t : Addr → Bool) (addrs : List Addr) → AreOnce addrs → AreDifferent (filter t addrs)
different t [] once = tt
different t (a ∷ addrs) once = by_test (t a) (different t addrs once.1)
  where
    by_test : (b : Bool) → AreDifferent (filter t addrs) → AreDifferent (if b then a ∷ filter t addrs else filter t addrs)
    by_test true rest = (all_filter (λ b. b ≡ a → ⊥) t addrs (weaker (λ b. b ≡ a → ⊥) (λ b. t b ≡ true → b ≡ a → ⊥) (λ b off e. off) addrs (once_apart addrs a once.0)), rest)
    by_test false rest = rest

-- slots that are free and different
free_slots : (at : PagesAt) (slots : List Addr) → AllByRecursion (λ s. (at s ≡ None) × (s.node.0 < 8)) slots → AreDifferent slots → AreFreeSlots slots at
free_slots at [] all apart = tt
free_slots at (s ∷ slots) all apart = ((all.0).0, (let low = (all.0).1 in ne_eqb s.node.0 8 (λ e. absurd (omega arith))), apart.0, free_slots at slots all.1 apart.1)

-- A draft without changes

pub no_change : (d : Drafted) (slots : List Addr) → d.overlay.changed ≡ [] → d.overlay.fresh ≡ 0 → (changed_order d ≡ []) × (placed slots d ≡ [])
no_change d slots none zero_new = (none_changed, ap (placed slots) same ∙ empty)
  where
    quiet : Drafted
    quiet = record { overlay = record { pages = d.overlay.pages; changed = []; fresh = 0 }; read = d.read; origins = d.origins }

    none_changed : changed_order d ≡ []
    none_changed = ap (λ (cs : List Addr). filter (is_changed cs) d.read) none ∙ none_pass (is_changed []) (λ x. refl) d.read

    same : d ≡ quiet
    same =
        ap (λ (cs : List Addr). let r : Drafted = record { overlay = record { pages = d.overlay.pages; changed = cs; fresh = d.overlay.fresh }; read = d.read; origins = d.origins } in r) none
        ∙ ap (λ n. let r : Drafted = record { overlay = record { pages = d.overlay.pages; changed = []; fresh = n }; read = d.read; origins = d.origins } in r) zero_new

    empty : placed slots quiet ≡ []
    empty = ap (λ (cs : List Addr). map pair_of (flat_map (placed_old [] d.overlay.pages) cs) ++ []) (none_pass (is_changed []) (λ x. refl) d.read)

-- What is written

-- the pages that the plan writes, and what the memory holds then
record Settled (f : Forest) (memory : List (List ℕ)) (store : Store) (a : Attempt) : Type 0 where
  changed : List Held
  new : List Held
  are : map held_pair (placed a.slots a.draft) ≡ changed ++ new
  in_order : addrs_of changed ≡ changed_order a.draft
  in_slots : addrs_of new ≡ a.slots
  ascend : AreInSlotOrder new
  next : AllByRecursion (λ h. (was : Page) × (came_at a.moves h.addr ≡ Some was) × (h.page.seq ≡ next_number was.seq)) changed
  first : AllByRecursion (λ h. h.page.seq ≡ 1) new
  pages : AllByRecursion (λ h. IsPage h.page) (changed ++ new)
  effect : Holds (memory_after memory (map write_held changed ++ map write_held new ++ count_writes a.counts a.slots)) (applied store (Tx a.name a.steps)).store

empty_list : {X : Type 0} (xs : List X) → length xs ≡ 0 → xs ≡ []
empty_list [] e = refl
empty_list (x ∷ xs) e = absurd (omega arith)

no_counts : (counts : List ℕ) → count_writes counts [] ≡ []
no_counts counts = ap (map (λ n. record_of counts n)) (none_pass (λ n. not (nat_eq (taken_on [] n) 0)) (λ n. refl) (range_with_len 0 (length counts)))
  where
    record_of : List ℕ → ℕ → Item
    record_of cs n = write_count (node_no n) (slice_index_or cs n 0 + taken_on [] n)

pub images_held : (xs : List (Addr × Page)) → map (λ h. page_image h.0 h.1) xs ≡ map held_image (map held_pair xs)
images_held [] = refl
images_held (x ∷ xs) = ap (λ (l : List Image). page_image x.0 x.1 ∷ l) (images_held xs)

writes_held : (hs : List Held) → map write_of (map held_image hs) ≡ map write_held hs
writes_held [] = refl
writes_held (h ∷ hs) = ap (λ (l : List Item). write_held h ∷ l) (writes_held hs)

writes_counted : (c : ℕ → ℕ) (ns : List ℕ) → map write_of (map (λ n. count_image n (c n)) ns) ≡ map (λ n. write_count (node_no n) (c n)) ns
writes_counted c [] = refl
writes_counted c (n ∷ ns) = ap (λ (l : List Item). write_count (node_no n) (c n) ∷ l) (writes_counted c ns)

module _ (moves_tell : MovesTell) (moves_read : MovesRead) (moves_come_once : MovesComeOnce) (moves_are_placed : MovesArePlaced) (quiet_moves : QuietMoves) (reads_are_draft : ReadsAreDraft) (next_slots_are_free : NextSlotsAreFree) (writes_leave_store : WritesLeaveStore) (compares_tell : ComparesTell)
    (numbers_go_on : NumbersGoOn) (kept : List Head) (nodes : ℕ) (a : Attempt) (is : IsAttempt kept nodes a) (dn : IsDone nodes a) (memory : List (List ℕ)) (store : Store) (many : length memory ≡ nodes) (holds : Holds memory store) (on : ContinuesCatalog kept (heads_of store)) (more : List Item)
    (es : List Entry) (hold : ComparesHold es memory (map compare_of (done_reads a) ++ more)) (was_shown : ReadsAreShown es (done_reads a)) where
  abbrev f : Forest
  f = holds.forest

  abbrev node : NodeNo
  node = least_addr (a.draft.read ++ a.slots)

  abbrev giving : List ℕ
  giving = giving_nodes a.counts a.slots

  abbrev was : ℕ → ℕ
  was n = slice_index_or a.counts n 0

  abbrev now : ℕ → ℕ
  now n = slice_index_or a.counts n 0 + taken_on a.slots n

  in_f : InStore f store a.name a.version.0
  in_f = version kept nodes a is a.draft.read node giving was more memory store many holds on moves_tell moves_read moves_come_once reads_are_draft compares_tell

  reads : AreReads a.moves a.draft
  reads = moves_read (parents_of kept) a.version a.entry.root a.moves a.draft is.leads

  page : (x : Addr) (p : Page) → is_noted a.draft.read x ≡ true → came_at a.moves x ≡ Some p → IsPage p → page_at f x ≡ Some p
  page = page_of kept nodes a is a.draft.read node giving was more memory store many holds on moves_tell moves_read moves_come_once reads_are_draft compares_tell es hold was_shown

  -- a page of the read set stands in the forest as it came in
  stands : (x : Addr) (p : Page) → is_noted a.draft.read x ≡ true → came_at a.moves x ≡ Some p → (page_at f x ≡ Some p) × IsPage p
  stands x p noted came =
      let c = reads.came x noted in
      let spelled = subst IsPage (page_same c.0 p (sym c.1 ∙ came)) c.2 in (page x p noted came spelled, spelled)

  subset : (x : Addr) → is_noted (leaves_at a.moves a.draft.read) x ≡ true → is_noted a.draft.read x ≡ true
  subset x noted = (and_parts (is_leaf_at a.moves x) (is_noted a.draft.read x) (sym (noted_filter (is_leaf_at a.moves) a.draft.read x) ∙ noted)).1

  told_all : AreTold f.entries (page_at f) a.version in_f.version.pairs a.moves a.draft a.steps a.reply
  unfolding in_f
  told_all = told kept nodes a is a.draft.read node giving was more memory store many holds on moves_tell moves_read moves_come_once reads_are_draft compares_tell es hold was_shown subset

  all_run : (steps_run in_f.version.pairs a.steps ≡ a.steps) × ((ran in_f.version.pairs a.steps).pairs ≡ pairs_after in_f.version.pairs a.steps)
  all_run = all_done in_f.version.pairs 1 in_f.version.pairs [] dn.found a.steps (sym told_all.replies ∙ dn.reply)

  done_is : done_in a.moves ≡ a.steps
  done_is = told_all.run ∙ all_run.0

  -- the counts and the slots
  counts_ok : AreCounts f a.counts a.slots
  counts_ok = (
    dn.counts.0 ∙ few_nodes kept nodes a is a.draft.read node giving was more memory store many holds on moves_tell moves_read moves_come_once reads_are_draft compares_tell,
    λ n some.
        let low = taken_low a.counts a.slots n dn.slots.0 some in
        let small = small_counts a.counts n dn.counts.1 in
        count_of kept nodes a is a.draft.read node giving was more memory store many holds on moves_tell moves_read moves_come_once reads_are_draft compares_tell es hold was_shown n (gives a.counts a.slots n low some) (subst (λ k. n < k) dn.counts.0 low) (omega arith),
  )

  free : AllByRecursion (λ s. (page_at f s ≡ None) × (s.node.0 < node_count f) × (s.node.0 < 8) × (s.slot < max_slots)) a.slots × AreDifferent a.slots
  free = next_slots_are_free memory store holds a.counts a.slots counts_ok dn.slots.0

  -- the node of the entry
  node_low : node.0 < nodes
  node_low =
      least_low nodes (a.draft.read ++ a.slots)
      (some_node kept nodes a is a.draft.read node giving was more memory store many holds on moves_tell moves_read moves_come_once reads_are_draft compares_tell)
      (all_append (λ x. x.node.0 < nodes) a.draft.read a.slots
      (all_noted (λ x. x.node.0 < nodes) a.draft.read (read_low kept nodes a is a.draft.read node giving was more memory store many holds on moves_tell moves_read moves_come_once reads_are_draft compares_tell))
      (weaker (λ s. (page_at f s ≡ None) × (s.node.0 < node_count f) × (s.node.0 < 8) × (s.slot < max_slots)) (λ s. s.node.0 < nodes)
      (λ s all. subst (λ k. s.node.0 < k) (sym (few_nodes kept nodes a is a.draft.read node giving was more memory store many holds on moves_tell moves_read moves_come_once reads_are_draft compares_tell)) all.1) a.slots free.0))

  may_run : (in_f.entry.frozen && list_any is_change a.steps) ≡ false
  unfolding in_f
  may_run = may kept nodes a is a.draft.read node giving was more memory store many holds on moves_tell moves_read moves_come_once reads_are_draft compares_tell es hold was_shown subset node_low

  came_there : AllByRecursion (λ h. is_noted a.draft.read h.addr ≡ true → page_at f h.addr ≡ Some h.page) (comes_in a.moves)
  came_there =
      weaker (λ h. came_at a.moves h.addr ≡ Some h.page) (λ h. is_noted a.draft.read h.addr ≡ true → page_at f h.addr ≡ Some h.page) (λ h came noted. (stands h.addr h.page noted came).0) (comes_in a.moves)
      (moves_come_once (parents_of kept) a.version a.entry.root a.moves a.draft is.leads)

  -- changed pages are of the read set
  noted_changed : (changed : List Held) → addrs_of changed ≡ changed_order a.draft → AllByRecursion (λ h. (is_noted a.draft.read h.addr ≡ true) × (is_noted a.draft.overlay.changed h.addr ≡ true)) changed
  noted_changed changed order =
      all_mapped (λ x. (is_noted a.draft.read x ≡ true) × (is_noted a.draft.overlay.changed x ≡ true)) (λ (h : Held). h.addr) changed
      (subst (AllByRecursion (λ x. (is_noted a.draft.read x ≡ true) × (is_noted a.draft.overlay.changed x ≡ true))) (sym order)
      (all_filter (λ x. (is_noted a.draft.read x ≡ true) × (is_noted a.draft.overlay.changed x ≡ true)) (is_changed a.draft.overlay.changed) a.draft.read
      (all_noted (λ x. is_changed a.draft.overlay.changed x ≡ true → (is_noted a.draft.read x ≡ true) × (is_noted a.draft.overlay.changed x ≡ true)) a.draft.read (λ x noted e. (noted, e)))))

  -- where a step is a Put or a Del
  settled_change : list_any is_change a.steps ≡ true → Settled f memory store a
  settled_change any = record {
    changed = p.changed;
    new = p.new;
    are = p.are;
    in_order = p.in_order;
    in_slots = p.in_slots;
    ascend = p.ascend;
    next = p.next;
    first = p.first;
    pages = p.pages;
    effect = subst (λ (s : Store). Holds (memory_after memory (map write_held p.changed ++ map write_held p.new ++ count_writes a.counts a.slots)) s) (sym stored)
        (subst (λ (slots : List Addr). Holds (memory_after memory (map write_held p.changed ++ map write_held p.new ++ count_writes a.counts slots)) after) p.in_slots
        (writes_leave_store memory store after holds p.changed p.new a.counts olds (subst AreDifferent (sym p.in_order) (different (is_changed a.draft.overlay.changed) a.draft.read reads.once)) p.pages
        (subst (AreCounts f a.counts) (sym p.in_slots) counts_ok) (subst (AreNextSlots a.counts) (sym p.in_slots) dn.slots.0) p.shown.tree p.shown.shows));
  }
    where
      after : Store
      after = slice_set store a.version.0 (re_paired in_f.version (pairs_after in_f.version.pairs (done_in a.moves)))

      p : ArePlaced f.entries (page_at f) after a.moves a.draft a.slots
      p = moves_are_placed f.entries (page_at f) store (parents_of kept) a.version in_f.version a.entry a.moves a.draft a.slots
          (shown kept nodes a is a.draft.read node giving was more memory store many holds on moves_tell moves_read moves_come_once reads_are_draft compares_tell)
          (none_new kept nodes a is a.draft.read node giving was more memory store many holds on moves_tell moves_read moves_come_once reads_are_draft compares_tell)
          (agrees kept nodes a is a.draft.read node giving was more memory store many holds on moves_tell moves_read moves_come_once reads_are_draft compares_tell) in_f.found
          (entry_of kept nodes a is a.draft.read node giving was more memory store many holds on moves_tell moves_read moves_come_once reads_are_draft compares_tell es hold was_shown node_low any)
          (ap (λ (l : List Step). a.entry.frozen && list_any is_change l) done_is ∙ is.may) is.leads came_there is.few (subst (AllByRecursion IsStep) (sym done_is) is.steps) (subst (λ (l : List Step). length l ≤ 16) (sym done_is) is.many) dn.slots.1
          (weaker (λ s. (page_at f s ≡ None) × (s.node.0 < node_count f) × (s.node.0 < 8) × (s.slot < max_slots)) IsAddr (λ s all. (all.2, all.3)) a.slots free.0)
          (free_slots (page_at f) a.slots (weaker (λ s. (page_at f s ≡ None) × (s.node.0 < node_count f) × (s.node.0 < 8) × (s.slot < max_slots)) (λ s. (page_at f s ≡ None) × (s.node.0 < 8)) (λ s all. (all.0, all.2)) a.slots free.0) free.1)

      stored : (applied store (Tx a.name a.steps)).store ≡ after
      stored =
          applied_store f store a.name a.version.0 a.steps in_f may_run
          ∙ ap (λ (ps : List Pair). slice_set store a.version.0 (re_paired in_f.version ps)) (all_run.1 ∙ sym (ap (pairs_after in_f.version.pairs) done_is))

      olds : AllByRecursion (λ h. (was : Page) × (page_at f h.addr ≡ Some was)) p.changed
      olds = all_both (λ h. (is_noted a.draft.read h.addr ≡ true) × (is_noted a.draft.overlay.changed h.addr ≡ true)) (λ h. (was : Page) × (came_at a.moves h.addr ≡ Some was) × (h.page.seq ≡ next_number was.seq)) (λ h. (was : Page) × (page_at f h.addr ≡ Some was))
          (λ h noted next. (next.0, (stands h.addr next.0 noted.0 next.1).0)) p.changed (noted_changed p.changed p.in_order) p.next

  -- where all steps only read
  settled_quiet : list_any is_change a.steps ≡ false → Settled f memory store a
  settled_quiet any = record {
    changed = [];
    new = [];
    are = ap (map held_pair) none.1;
    in_order = sym none.0;
    in_slots = sym no_slots;
    ascend = tt;
    next = tt;
    first = tt;
    pages = tt;
    effect = subst (λ (items : List Item). Holds (memory_after memory items) (applied store (Tx a.name a.steps)).store) (sym (ap (count_writes a.counts) no_slots ∙ no_counts a.counts))
        (subst (Holds memory) (sym (applied_nothing f store a.name a.version.0 a.steps in_f may_run (all_run.1 ∙ quiet_pairs in_f.version.pairs a.steps any))) holds);
  }
    where
      q : (a.draft.overlay.changed ≡ []) × (a.draft.overlay.fresh ≡ 0)
      q = quiet_moves (parents_of kept) a.version a.entry.root a.moves a.draft is.leads (ap (list_any is_change) done_is ∙ any)

      none : (changed_order a.draft ≡ []) × (placed a.slots a.draft ≡ [])
      none = no_change a.draft a.slots q.0 q.1

      no_slots : a.slots ≡ []
      no_slots = empty_list a.slots (dn.slots.1 ∙ q.1)

  settled : Settled f memory store a
  settled = by_any (list_any is_change a.steps) refl
    where
      by_any : (t : Bool) → list_any is_change a.steps ≡ t → Settled f memory store a
      by_any true any = settled_change any
      by_any false any = settled_quiet any

  facts : Facts f store nodes a in_f.version a.draft.read node settled.changed settled.new giving was now
  facts = record {
    pairs = in_f.pairs;
    told = told_all;
    few = is.few;
    entry = entry_length a.entry is.entry;
    least = ap (λ (l : List Addr). least_addr (a.draft.read ++ l)) (sym settled.in_slots);
    came = all_noted (λ x. (p : Page) × (came_at a.moves x ≡ Some p) × (page_at f x ≡ Some p) × IsPage p) a.draft.read (λ x noted. let c = reads.came x noted in (c.0, c.1, page x c.0 noted c.1 c.2, c.2));
    sorts = λ x noted. let c = reads.came x noted in sorted x noted c.0 c.1 c.4;
    leaves = subset;
    changes = all_both (λ h. (is_noted a.draft.read h.addr ≡ true) × (is_noted a.draft.overlay.changed h.addr ≡ true)) (λ h. (was : Page) × (came_at a.moves h.addr ≡ Some was) × (h.page.seq ≡ next_number was.seq))
        (λ h. (is_noted a.draft.read h.addr ≡ true) × ((p : Page) × (page_at f h.addr ≡ Some p) × (h.page.seq ≡ p.seq + 1)))
        (λ h noted next. (noted.0, (next.0, (stands h.addr next.0 noted.0 next.1).0, next.2 ∙ next_is next.0.seq (dn.numbers h.addr next.0 noted.1 next.1)))) settled.changed (noted_changed settled.changed settled.in_order) settled.next;
    news = all_both (λ h. (page_at f h.addr ≡ None) × (h.addr.node.0 < node_count f) × (h.addr.node.0 < 8) × (h.addr.slot < max_slots)) (λ h. h.page.seq ≡ 1)
        (λ h. (page_at f h.addr ≡ None) × (h.addr.node.0 < node_count f) × (h.addr.slot < max_slots) × (h.page.seq ≡ 1)) (λ h slot first. (slot.0, slot.1, slot.3, first)) settled.new
        (all_mapped (λ s. (page_at f s ≡ None) × (s.node.0 < node_count f) × (s.node.0 < 8) × (s.slot < max_slots)) (λ (h : Held). h.addr) settled.new
        (subst (AllByRecursion (λ s. (page_at f s ≡ None) × (s.node.0 < node_count f) × (s.node.0 < 8) × (s.slot < max_slots))) (sym settled.in_slots) free.0)) settled.first;
    pages = settled.pages;
    ascend = settled.ascend;
    gives = weaker (λ n. (s : Addr) × Contains a.slots s × (s.node.0 ≡ n)) (λ n. (h : Held) × Contains settled.new h × (h.addr.node.0 ≡ n)) (λ n s. held_on n s.0 s.1 s.2) giving (giving_have a.slots (range_with_len 0 (length a.counts)));
    picks = subst (λ (l : List Addr). IsPickOf (map page_place l) (map page_place a.draft.read)) (sym settled.in_order) (pick_some page_place (is_changed a.draft.overlay.changed) a.draft.read);
  }
    where
      held_on : (n : ℕ) (s : Addr) → Contains a.slots s → s.node.0 ≡ n → (h : Held) × Contains settled.new h × (h.addr.node.0 ≡ n)
      held_on n s has is =
          let h = mapped_back (λ (g : Held). g.addr) settled.new s (subst (λ (l : List Addr). Contains l s) (sym settled.in_slots) has) in
          (h.0, h.1, ap (λ (x : Addr). x.node.0) h.2 ∙ is)

      next_is : (seq : ℕ) → seq + 1 < 2 ^ 64 → next_number seq ≡ seq + 1
      next_is seq low = ap (λ b. if b then seq else seq + 1) (ne_eqb seq (2 ^ 64 - 1) (λ e. absurd (omega arith)))

      sorted : (x : Addr) → is_noted a.draft.read x ≡ true → (p : Page) → came_at a.moves x ≡ Some p → (height_of p.body ≡ 0) ⊎ (is_noted a.draft.overlay.changed x ≡ true) → (is_noted (leaves_at a.moves a.draft.read) x ≡ true) ⊎ Contains (addrs_of settled.changed) x
      sorted x noted p came (inl flat) =
          inl (noted_filter (is_leaf_at a.moves) a.draft.read x
          ∙ and_from (is_leaf_at a.moves x) (is_noted a.draft.read x) (ap (λ (o : Option Page). option_map_or (λ q. nat_eq (height_of q.body) 0) o false) came ∙ eq-eqb (height_of p.body) 0 flat) noted)
      sorted x noted p came (inr change) =
          inr (subst (λ (l : List Addr). Contains l x) (sym settled.in_order)
          (noted_has (changed_order a.draft) x (noted_filter (is_changed a.draft.overlay.changed) a.draft.read x ∙ and_from (is_changed a.draft.overlay.changed x) (is_noted a.draft.read x) change noted)))

  pub done_mini : Mini
  done_mini = mini f store nodes a in_f.version a.draft.read node settled.changed settled.new giving was now

  writes_are : done_writes a ≡ map held_image (settled.changed ++ settled.new) ++ counts_written a
  writes_are = ap (λ (l : List Image). l ++ counts_written a) (images_held (placed a.slots a.draft) ∙ ap (map held_image) settled.are)

  items_are : map write_of (map held_image (settled.changed ++ settled.new) ++ counts_written a) ≡ map write_held settled.changed ++ map write_held settled.new ++ count_writes a.counts a.slots
  items_are =
      map-append write_of (map held_image (settled.changed ++ settled.new)) (counts_written a)
      ∙ (ap (λ (l : List Item). l ++ map write_of (counts_written a)) (writes_held (settled.changed ++ settled.new) ∙ map-append write_held settled.changed settled.new)
      ∙ ap (λ (l : List Item). (map write_held settled.changed ++ map write_held settled.new) ++ l) (writes_counted now giving))

  pub done_acts : ImagesAreApart (done_reads a) → ImagesAreApart (done_writes a) → PlanActs memory store holds (Tx a.name a.steps) (record { nodes = nodes; items = map compare_of (done_reads a) ++ map write_of (done_writes a) }) a.reply
  done_acts apart_reads apart =
      subst (λ (l : List Image). let m : Mini = record { nodes = nodes; items = map compare_of (done_reads a) ++ map write_of l } in PlanActs memory store holds (Tx a.name a.steps) m a.reply) (sym writes_are)
      (acts f store nodes a in_f.version a.draft.read node settled.changed settled.new giving was now facts memory holds refl (numbers_go_on memory store holds)
      (number kept nodes a is a.draft.read node giving was more memory store many holds on moves_tell moves_read moves_come_once reads_are_draft compares_tell)
      (subst (λ (m : List (List ℕ)). Holds m (applied store (Tx a.name a.steps)).store)
      (sym (compares_pass memory (done_reads a) (map write_of (map held_image (settled.changed ++ settled.new) ++ counts_written a)) ∙ ap (memory_after memory) items_are)) settled.effect)
      (told_all.replies ∙ sym (applied_reply f store a.name a.version.0 a.steps in_f may_run)) apart_reads (subst ImagesAreApart writes_are apart))

pub done_is_planned : MovesTell → MovesRead → MovesComeOnce → MovesArePlaced → QuietMoves → ReadsAreDraft → NextSlotsAreFree → WritesLeaveStore → ComparesTell → NumbersGoOn → PlansAreInOrder → DoneIsPlanned
done_is_planned moves_tell moves_read moves_come_once moves_are_placed quiet_moves reads_are_draft next_slots_are_free writes_leave_store compares_tell numbers_go_on in_order kept t a is dn apart_reads apart_writes reads_are writes_are es was_shown = record {
  shown = plan_shown es t was_shown;
  acts = λ memory store many sizes holds on hold.
      subst (λ (m : Mini). PlanActs memory store holds (Tx a.name a.steps) m a.reply) (sym mini_is)
      (done_acts moves_tell moves_read moves_come_once moves_are_placed quiet_moves reads_are_draft next_slots_are_free writes_leave_store compares_tell numbers_go_on kept t.nodes a is dn memory store many holds on (map write_of (in_item_order t.writes)) es
      (subst (λ (rs : List Image). ComparesHold es memory (map compare_of rs ++ map write_of (in_item_order t.writes))) reads_are hold) (subst (ReadsAreShown es) reads_are (shown_in_order es t.reads was_shown)) (subst ImagesAreApart reads_are (apart_in_order t.reads apart_reads)) (subst ImagesAreApart writes_are (apart_in_order t.writes apart_writes)));
  order = in_order t apart_reads apart_writes;
  kind = tt;
}
  where
    mini_is : plan_of t ≡ record { nodes = t.nodes; items = map compare_of (done_reads a) ++ map write_of (done_writes a) }
    mini_is =
        ap (λ (rs : List Image). let m : Mini = record { nodes = t.nodes; items = map compare_of rs ++ map write_of (in_item_order t.writes) } in m) reads_are
        ∙ ap (λ (ws : List Image). let m : Mini = record { nodes = t.nodes; items = map compare_of (done_reads a) ++ map write_of ws } in m) writes_are
