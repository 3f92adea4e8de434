-- A plan that is refused as worn, and one that isn't.
use Rattle.std.proofs.Common.{◌≡◌, ◌⊎◌, inl, inr, ℕ, zero, suc, ◌+◌, ◌-◌, ◌*◌, ◌^◌, ◌<◌, Bool, true, false}
use Rattle.std.proofs.Common.{not, ◌&&◌, nat_eq, eq-eqb, List, [], ◌∷◌, ◌++◌, map, length, drop, Contains, Option}
use Rattle.std.proofs.Common.{Some, None, refl, subst, sym, ap, ◌∙◌, arith, slice_index_or, if◌then◌else◌}
use Rattle.std.specs.Prelude.{nat_le}
use Rattle.std.specs.List.{AllByRecursion}
use Rattle.std.proofs.lemmas.Bool.{and_parts, and_from, eqb-true, ne_eqb}
use Rattle.std.proofs.lemmas.List.Elements.{Contains-append_left, Contains-append_cases}
use Rattle.std.proofs.lemmas.List.Sorted.{IsPermutation-sym, Contains-permutation}
use Rattle.byteorder.specs.Endian.{big_bytes, big_number}
use Rattle.byteorder.specs.Numbers.{big_number-reads_back}
use Rattle.mn_base.specs.Store.{Head}
use Rattle.mn_base.specs.Tree.{parents_of}
use Rattle.mn_base.specs.declared.ids.Addr.{Addr}
use Rattle.mn_base.specs.declared.ids.NodeNo.{NodeNo}
use Rattle.mn_base.proofs.Booleans.{clash}
use Rattle.mn_alloc.specs.Plan.{new_slots, one_given}
use Rattle.mn_page.specs.declared.page.Page.{Page}
use Rattle.mn_page.specs.Grammar.{IsPage, page_bytes}
use Rattle.mn_page.specs.Overlay.{Held}
use Rattle.mn_page.proofs.Spelled.{page_length}
use Rattle.mn_page.proofs.Copy.{page_same}
use Rattle.mn_tree.specs.Trees.{is_noted}
use Rattle.mn_tree.specs.Order.{is_changed, changed_order, placed}
use Rattle.mn_tree.specs.Moves.{came_at}
use Rattle.mn_tree.specs.MoveLaws.{AreReads, MovesRead}
use Rattle.mn_tree.specs.Limits.{ArePut, PlacedArePut}
use Rattle.mn_tree.proofs.Trees.Told.{noted_filter}
use Rattle.mn_plans.specs.Growth.{AreNextSlots, taken_on, giving_nodes}
use Rattle.mn_plans.proofs.Told.{all_there}
use Rattle.mn_txn.specs.declared.image.Image.{Image}
use Rattle.mn_txn.specs.State.{State, is_at, bytes_at, ImagesAreApart}
use Rattle.mn_txn.specs.Order.{in_item_order}
use Rattle.mn_txn.specs.Plan.{is_last, is_last_read, is_worn, first_worn}
use Rattle.mn_txn.specs.Attempt.{Attempt, IsAttempt, least_addr, page_image, came_images, entry_images, count_image}
use Rattle.mn_txn.specs.Attempt.{counts_read, counts_written, done_writes}
use Rattle.mn_txn.specs.Tries.{IsFor, PlannedIsDone, IsWornPage, IsReadSlot, WornIsChanged}
use Rattle.mn_txn.proofs.Images.{turned, worn_read}
use Rattle.mn_txn.proofs.Lists.{contains_map, mapped_back, noted_has, has_noted}
use Rattle.mn_txn.proofs.Plans.{same_images}
use Rattle.mn_txn.proofs.Known.{came_has}
use Rattle.mn_txn.proofs.Attempts.{held_image}
use Rattle.mn_txn.proofs.Slots.{new_slots_are_next}
use Rattle.mn_txn.proofs.Done.{images_held}

-- The first that is worn

worn_none : (t : State) (xs : List Image) → first_worn t xs ≡ None
    → AllByRecursion (λ i. is_worn t i ≡ false) xs
worn_none t [] e = tt
worn_none t (x ∷ xs) e = by_worn (is_worn t x) refl e (worn_none t xs)
  where
    by_worn : (b : Bool) → is_worn t x ≡ b
        → (if b then Some (x.node, x.start) else first_worn t xs) ≡ None
        → (first_worn t xs ≡ None → AllByRecursion (λ i. is_worn t i ≡ false) xs)
        → (is_worn t x ≡ false) × AllByRecursion (λ i. is_worn t i ≡ false) xs
    by_worn true w f rest = absurd cc
    by_worn false w f rest = (w, rest f)

-- one of the images that is worn, and where it stands
abbrev IsWornAt : State → List Image → NodeNo → ℕ → Type 0
IsWornAt t xs node start = (i : Image) × Contains xs i × (is_worn t i ≡ true) × (i.node ≡ node) × (i.start ≡ start)

worn_some : (t : State) (xs : List Image) (node : NodeNo) (start : ℕ)
    → first_worn t xs ≡ Some (node, start) → IsWornAt t xs node start
worn_some t [] node start e = absurd cc
worn_some t (x ∷ xs) node start e = by_worn (is_worn t x) refl e (worn_some t xs node start)
  where
    pair_same : (p q : NodeNo × ℕ) → Some p ≡ Some q → p ≡ q
    pair_same p q f = cc

    by_worn : (b : Bool) → is_worn t x ≡ b
        → (if b then Some (x.node, x.start) else first_worn t xs) ≡ Some (node, start)
        → (first_worn t xs ≡ Some (node, start) → IsWornAt t xs node start)
        → IsWornAt t (x ∷ xs) node start
    by_worn true w f rest =
        let same = pair_same (x.node, x.start) (node, start) f in
        (x, (0, omega arith, refl), w, ap (λ (p : NodeNo × ℕ). p.0) same, ap (λ (p : NodeNo × ℕ). p.1) same)
    by_worn false w f rest = let r = rest f in let c = r.1 in (r.0, (suc c.0, (let l = c.1 in omega arith), c.2), r.2, r.3, r.4)

-- Bytes that were read

-- an image that stands among others apart from it
pub at_read : (xs : List Image) (i : Image) → ImagesAreApart xs → Contains xs i
    → bytes_at i.node i.start xs ≡ Some i.bytes
at_read [] i apart (k, low, is) = absurd (omega arith)
at_read (x ∷ xs) i apart (zero, low, is) =
    ap (λ b. if b then Some x.bytes else bytes_at i.node i.start xs) (and_from (nat_eq i.node.0 x.node.0) (nat_eq i.start x.start)
    (eq-eqb i.node.0 x.node.0 (ap (λ (y : Image). y.node.0) (sym is))) (eq-eqb i.start x.start (ap (λ (y : Image). y.start) (sym is))))
    ∙ ap (λ (y : Image). Some y.bytes) is
at_read (x ∷ xs) i apart (suc k, low, is) =
    let c : Contains xs i = (k, omega arith, is) in
    ap (λ b. if b then Some x.bytes else bytes_at i.node i.start xs) (sym (turned x i) ∙ all_there (λ y. is_at x.node x.start y ≡ false) xs i apart.0 c) ∙ at_read xs i apart.1 c

in_order_back : (xs : List Image) (i : Image) → Contains (in_item_order xs) i → Contains xs i
in_order_back xs i c = Contains-permutation (in_item_order xs) xs i (IsPermutation-sym xs (in_item_order xs) (same_images xs)) c

-- The last number

number_is : (p : Page) → p.seq < 2 ^ 64 → big_number 8 (page_bytes p) ≡ p.seq
number_is p low = big_number-reads_back 8 p.seq (drop 8 (page_bytes p)) (omega arith)

pub last_is : (p : Page) → IsPage p → is_last (page_bytes p) ≡ nat_eq p.seq (2 ^ 64 - 1)
last_is p is =
    ap (λ n. nat_le 8 n && nat_eq (big_number 8 (page_bytes p)) (2 ^ 64 - 1)) (page_length p is)
    ∙ ap (λ n. nat_eq n (2 ^ 64 - 1)) (number_is p is.seq_high)

not_last : (p : Page) → IsPage p → is_last (page_bytes p) ≡ false → p.seq + 1 < 2 ^ 64
not_last p is off =
    let high = is.seq_high in
    let differs = λ (e : p.seq ≡ 2 ^ 64 - 1). clash (nat_eq p.seq (2 ^ 64 - 1)) (eq-eqb p.seq (2 ^ 64 - 1) e) (sym (last_is p is) ∙ off) in
    omega (arith, differs)

-- a slot is no count's place
pub no_count : (addr : Addr) → nat_eq (20480 + 1024 * addr.slot) 16 ≡ false
no_count addr = ne_eqb (20480 + 1024 * addr.slot) 16 (λ e. absurd (omega arith))

-- what was read where a place is worn
worn_bytes : (t : State) (i : Image) → is_worn t i ≡ true → (bytes : List ℕ)
    × ((bytes_at i.node i.start t.reads ≡ Some bytes) ⊎ (bytes_at i.node i.start t.dirty ≡ Some bytes))
worn_bytes t i worn =
    by_read (bytes_at i.node i.start t.reads) (bytes_at i.node i.start t.dirty) refl refl
    (and_parts (not (nat_eq i.start 16)) (is_last_read (bytes_at i.node i.start t.reads) (is_last_read (bytes_at i.node i.start t.dirty) false)) worn).1
  where
    by_read : (x y : Option (List ℕ)) → bytes_at i.node i.start t.reads ≡ x
        → bytes_at i.node i.start t.dirty ≡ y → is_last_read x (is_last_read y false) ≡ true
        → (bytes : List ℕ)
        × ((bytes_at i.node i.start t.reads ≡ Some bytes) ⊎ (bytes_at i.node i.start t.dirty ≡ Some bytes))
    by_read (Some bytes) y e f last = (bytes, inl e)
    by_read None (Some bytes) e f last = (bytes, inr f)
    by_read None None e f last = absurd cc

-- What the try writes

pub writes_are : (a : Attempt) (put : ArePut a.draft a.slots)
    → done_writes a ≡ map held_image (put.changed ++ put.new) ++ counts_written a
writes_are a put = ap (λ (l : List Image). l ++ counts_written a) (images_held (placed a.slots a.draft) ∙ ap (map held_image) put.are)

module _ (moves_read : MovesRead) (placed_are_put : PlacedArePut) (kept : List Head) (t : State) (a : Attempt) (is : IsAttempt kept t.nodes a)
    (long : length a.slots ≡ a.draft.overlay.fresh) (for : IsFor t a) where
  put : ArePut a.draft a.slots
  put = placed_are_put (parents_of kept) a.version a.entry.root a.moves a.draft a.slots is.leads long

  reads : AreReads a.moves a.draft
  reads = moves_read (parents_of kept) a.version a.entry.root a.moves a.draft is.leads

  -- a page of the read set was read as it came in
  read_as : (addr : Addr) (page : Page) → is_noted a.draft.read addr ≡ true
      → came_at a.moves addr ≡ Some page
      → bytes_at addr.node (20480 + 1024 * addr.slot) t.reads ≡ Some (page_bytes page)
  read_as addr page noted came =
      at_read t.reads (page_image addr page) for.apart (in_order_back t.reads (page_image addr page) (subst (λ (l : List Image). Contains l (page_image addr page)) (sym for.reads)
      (Contains-append_left (came_images a.moves a.draft.read) (entry_images (least_addr (a.draft.read ++ a.slots)) a ++ counts_read a) (page_image addr page) (came_has a.moves a.draft.read addr page noted came))))

  -- and so a changed one is worn just where it had the last number
  worn_as : (h : Held) (page : Page) → is_noted a.draft.read h.addr ≡ true
      → came_at a.moves h.addr ≡ Some page → is_last (page_bytes page) ≡ is_worn t (held_image h)
  worn_as h page noted came = worn_read t (held_image h) (no_count h.addr) (page_bytes page) (read_as h.addr page noted came)

  -- a changed page is written
  changed_put : (addr : Addr) → is_noted a.draft.overlay.changed addr ≡ true → (h : Held)
      × Contains (done_writes a) (held_image h) × (h.addr ≡ addr)
  changed_put addr noted =
      let ordered : is_noted (changed_order a.draft) addr ≡ true =
      noted_filter (is_changed a.draft.overlay.changed) a.draft.read addr ∙ and_from (is_changed a.draft.overlay.changed addr) (is_noted a.draft.read addr) noted (reads.changed addr noted) in
      let h = mapped_back (λ (x : Held). x.addr) put.changed addr (subst (λ (l : List Addr). Contains l addr) (sym put.in_order) (noted_has (changed_order a.draft) addr ordered)) in (
        h.0,
        subst (λ (l : List Image). Contains l (held_image h.0)) (sym (writes_are a put))
            (Contains-append_left (map held_image (put.changed ++ put.new)) (counts_written a) (held_image h.0)
            (contains_map held_image (put.changed ++ put.new) h.0 (Contains-append_left put.changed put.new h.0 h.1))),
        h.2,
      )

  pub numbers : first_worn t (in_item_order t.writes) ≡ None → (addr : Addr) (page : Page)
      → is_noted a.draft.overlay.changed addr ≡ true → came_at a.moves addr ≡ Some page
      → page.seq + 1 < 2 ^ 64
  numbers none addr page noted came =
      let known = reads.changed addr noted in
      let c = reads.came addr known in
      let spelled : IsPage page = subst IsPage (page_same c.0 page (sym c.1 ∙ came)) c.2 in
      let w = changed_put addr noted in
      let fine : is_worn t (held_image w.0) ≡ false = all_there (λ i. is_worn t i ≡ false) (done_writes a) (held_image w.0) (subst (AllByRecursion (λ i. is_worn t i ≡ false)) for.writes (worn_none t (in_item_order t.writes) none)) w.1 in
      not_last page spelled (worn_as w.0 page (ap (is_noted a.draft.read) w.2 ∙ known) (ap (came_at a.moves) w.2 ∙ came) ∙ fine)

  -- Where a plan is refused

  module _ (node : NodeNo) (start : ℕ) where
    changed_worn : (h : Held) → Contains put.changed h → is_worn t (held_image h) ≡ true
        → h.addr.node ≡ node → 20480 + 1024 * h.addr.slot ≡ start → IsWornPage a node start
    changed_worn h has worn at_node at_start =
        let ordered : is_noted (changed_order a.draft) h.addr ≡ true = has_noted (changed_order a.draft) h.addr (subst (λ (l : List Addr). Contains l h.addr) put.in_order (contains_map (λ (x : Held). x.addr) put.changed h has)) in
        let parts = and_parts (is_changed a.draft.overlay.changed h.addr) (is_noted a.draft.read h.addr) (sym (noted_filter (is_changed a.draft.overlay.changed) a.draft.read h.addr) ∙ ordered) in
        let c = reads.came h.addr parts.1 in
        let last : (c.0).seq ≡ 2 ^ 64 - 1 = eqb-true (c.0).seq (2 ^ 64 - 1) (sym (last_is c.0 c.2) ∙ (worn_as h c.0 parts.1 c.1 ∙ worn)) in
        record {
          addr = h.addr;
          page = c.0;
          changed = noted_has a.draft.overlay.changed h.addr parts.0;
          came = c.1;
          last = last;
          number = ap (big_bytes 8) last;
          node_is = at_node;
          start_is = at_start;
        }

    slot_worn : (h : Held) → Contains put.new h → is_worn t (held_image h) ≡ true
        → h.addr.node ≡ node → 20480 + 1024 * h.addr.slot ≡ start → IsReadSlot t a node start
    slot_worn h has worn at_node at_start =
        let b = worn_bytes t (held_image h) worn in
        record {
          addr = h.addr;
          slot = subst (λ (l : List Addr). Contains l h.addr) put.in_slots (contains_map (λ (x : Held). x.addr) put.new h has);
          bytes = b.0;
          read = elim b.1 as (λ _. (bytes_at node start t.reads ≡ Some b.0) ⊎ (bytes_at node start t.dirty ≡ Some b.0)) [
            | inl e ↦ inl (sym (at t.reads) ∙ e)
            | inr e ↦ inr (sym (at t.dirty) ∙ e)
          ];
          node_is = at_node;
          start_is = at_start;
        }
      where
        at : (xs : List Image)
            → bytes_at h.addr.node (20480 + 1024 * h.addr.slot) xs ≡ bytes_at node start xs
        at xs = ap (λ (n : NodeNo). bytes_at n (20480 + 1024 * h.addr.slot) xs) at_node ∙ ap (λ s. bytes_at node s xs) at_start

    refused : first_worn t (in_item_order t.writes) ≡ Some (node, start)
        → IsWornPage a node start ⊎ IsReadSlot t a node start
    refused e = by_place (Contains-append_cases (map held_image (put.changed ++ put.new)) (counts_written a) w.0 (subst (λ (l : List Image). Contains l w.0) (for.writes ∙ writes_are a put) w.1))
      where
        w : IsWornAt t (in_item_order t.writes) node start
        w = worn_some t (in_item_order t.writes) node start e

        by_held : (h : Held) → held_image h ≡ w.0 → Contains put.changed h ⊎ Contains put.new h
            → IsWornPage a node start ⊎ IsReadSlot t a node start
        by_held h same (inl c) = inl (changed_worn h c (ap (is_worn t) same ∙ w.2) (ap (λ (i : Image). i.node) same ∙ w.3) (ap (λ (i : Image). i.start) same ∙ w.4))
        by_held h same (inr c) = inr (slot_worn h c (ap (is_worn t) same ∙ w.2) (ap (λ (i : Image). i.node) same ∙ w.3) (ap (λ (i : Image). i.start) same ∙ w.4))

        of_count : ℕ → Image
        of_count n = count_image n (slice_index_or a.counts n 0 + taken_on a.slots n)

        by_place : Contains (map held_image (put.changed ++ put.new)) w.0 ⊎ Contains (counts_written a) w.0 → IsWornPage a node start ⊎ IsReadSlot t a node start
        by_place (inl c) = let h = mapped_back held_image (put.changed ++ put.new) w.0 c in by_held h.0 h.2 (Contains-append_cases put.changed put.new h.0 h.1)
        by_place (inr c) = let n = mapped_back of_count (giving_nodes a.counts a.slots) w.0 c in absurd (clash (is_worn t (of_count n.0)) (ap (is_worn t) n.2 ∙ w.2) refl)

pub worn_is_changed : MovesRead → PlacedArePut → WornIsChanged
worn_is_changed moves_read placed_are_put kept t a node start is long for e = refused moves_read placed_are_put kept t a is long for node start e

-- Done

new_long : (need : ℕ) (counts : List ℕ) → length (new_slots need counts) ≡ need
new_long zero counts = refl
new_long (suc need) counts = ap suc (new_long need (one_given counts))

pub planned_is_done : MovesRead → PlacedArePut → PlannedIsDone
planned_is_done moves_read placed_are_put kept t a found is reply counted small free slots for none = record {
  found = found;
  reply = reply;
  counts = (counted, small);
  slots = (subst (AreNextSlots a.counts) (sym slots) (new_slots_are_next a.draft.overlay.fresh a.counts free), long);
  numbers = numbers moves_read placed_are_put kept t a is long for none;
}
  where
    long : length a.slots ≡ a.draft.overlay.fresh
    long = ap (λ (l : List Addr). length l) slots ∙ new_long a.draft.overlay.fresh a.counts
