-- What the plan of a Snapshot or of a Branch is, when there is one, and why there is none.
use Rattle.std.proofs.Common.{◌≡◌, ◌⊎◌, inl, inr, ℕ, zero, suc, ◌+◌, ◌-◌, ◌*◌, ◌^◌, ◌<◌, ◌≤◌, Bool, true, false}
use Rattle.std.proofs.Common.{◌&&◌, nat_eq, List, [], ◌∷◌, ◌++◌, map, length, drop, replicate, Option}
use Rattle.std.proofs.Common.{Some, None, IfOk, IfErr, Result, refl, subst, sym, ap, ◌∙◌, arith}
use Rattle.std.proofs.Common.{length-append, slice_get, get_or-set_same, if◌then◌else◌}
use Rattle.std.specs.Prelude.{nat_le}
use Rattle.std.specs.List.{AllByRecursion, range_with_len}
use Rattle.std.specs.Option.{option_map, option_to_list}
use Rattle.std.proofs.lemmas.Bool.{eqb-true, ne_eqb}
use Rattle.std.proofs.lemmas.Result.{IfOk-weaker, IfErr-weaker}
use Rattle.std.proofs.lemmas.List.{append_assoc, append-nil, length-map, length-set, length-replicate}
use Rattle.std.proofs.lemmas.Option.{get_or_from_slice_get, slice_get-map, slice_get_within}
use Rattle.byteorder.specs.Endian.{big_number}
use Rattle.byteorder.specs.Numbers.{big_number-reads_back}
use Rattle.mn_base.specs.Name.{IsName}
use Rattle.mn_base.specs.Store.{Head, head_named, number_named, refusal, refusal_at}
use Rattle.mn_base.specs.Tree.{has_version}
use Rattle.mn_base.specs.declared.ids.Addr.{Addr}
use Rattle.mn_base.specs.declared.ids.NodeNo.{NodeNo}
use Rattle.mn_base.specs.declared.ids.VersionNo.{VersionNo}
use Rattle.mn_base.specs.declared.op.Op.TheVariants.{Snapshot, Branch}
use Rattle.mn_mini.specs.Mini.{Mini}
use Rattle.mn_page.specs.declared.page.Page.{Page}
use Rattle.mn_page.specs.declared.entry.CatEntry.{CatEntry}
use Rattle.mn_page.specs.Space.{max_slots}
use Rattle.mn_page.specs.Grammar.{IsAddr, IsPage, IsEntry, page_bytes, entry_bytes}
use Rattle.mn_page.specs.Forest.{heads_in, entry_head}
use Rattle.mn_page.specs.Copies.{CopiesArePages, marked_for, copy_for}
use Rattle.mn_page.specs.Added.{frozen_entry, child_entry}
use Rattle.mn_base.proofs.VersionTree.{child_admitted}
use Rattle.mn_base.proofs.Lists.{all_append, weaker}
use Rattle.mn_page.proofs.Spelled.{page_length, entry_length}
use Rattle.mn_page.proofs.Grid.{all_split}
use Rattle.mn_catalog.specs.Grammar.{IsCatalog}
use Rattle.mn_catalog.specs.Versions.{Numbered, numbered, branch_entries, snapshot_entries, AreEntries}
use Rattle.mn_plans.specs.Growth.{node_no}
use Rattle.mn_plans.proofs.Compares.{same_number}
use Rattle.mn_txn.specs.declared.error.PlanError.{PlanError}
use Rattle.mn_txn.specs.declared.error.PlanError.TheVariants.{Worn, NoMemory}
use Rattle.mn_law.specs.Places.{catalog_node}
use Rattle.mn_law.specs.Planned.{IsPlanned}
use Rattle.mn_base.specs.declared.reply.Reply.TheVariants as says
use Rattle.mn_txn.specs.declared.image.Image.{Image}
use Rattle.mn_txn.specs.State.{State, is_at, joined, bytes_at, ImagesAreApart}
use Rattle.mn_txn.specs.Order.{in_item_order}
use Rattle.mn_txn.specs.Plan.{RefusesPlan, can_plan, compare_of, first_worn, is_last, is_worn, plan_of, write_of}
use Rattle.mn_txn.specs.Attempt.{page_image}
use Rattle.mn_txn.specs.Children.{ChildTry, IsChildTry, entry_image, unused_image, count_read, count_written}
use Rattle.mn_txn.specs.Children.{root_written, copy_written, frozen_written, child_written, child_reads, child_writes, snapshot_writes, branch_writes}
use Rattle.mn_txn.specs.Children.{SnapshotIsPlanned, BranchIsPlanned, ChildrenStandInOrder}
use Rattle.mn_txn.specs.ChildPlan.{IsVersion, IsWornRoot, IsWornEntry, MayHaveChild, RefusesSnapshot, RefusesBranch}
use Rattle.mn_txn.specs.ChildPlan.{SnapshotPlanned, BranchPlanned, IsSnapshotPlan, IsBranchPlan}
use Rattle.mn_txn.specs.ChildPlan.{read_state, with_count, with_pages, IsPlanOf, OfChild, IsChildPlan, MayPlanChild, RefusesChild, child_try, child_state, with_images}
use Rattle.mn_txn.proofs.Apart.{apart_append, nodes_differ, pages_differ, starts_differ}
use Rattle.mn_txn.proofs.AttemptTxn.{images_on}
use Rattle.mn_txn.proofs.Children.{frozen_one, writable_one}
use Rattle.mn_txn.proofs.EachNode.{AreNumbered, all_on_nodes, entries_done, few_on_nodes, nodes_apart, on_nodes, starts_on_nodes}
use Rattle.mn_txn.proofs.Fits.{IsIn, in_space, page_in, count_in_space, test_passes}
use Rattle.mn_txn.proofs.Images.{turned, worn_read, worn_unread}
use Rattle.mn_txn.proofs.Worn.{at_read, last_is, no_count}

-- Images that join

-- an image at a new place joins at the end
joined_last : (xs : List Image) (i : Image)
    → AllByRecursion (λ x. is_at x.node x.start i ≡ false) xs → joined xs i ≡ xs ++ i ∷ []
joined_last [] i all = refl
joined_last (x ∷ xs) i all =
    ap (λ b. if b then (let y : Image = record { node = x.node; start = x.start; bytes = i.bytes } in y) ∷ xs else x ∷ joined xs i) (sym (turned x i) ∙ all.0)
    ∙ ap (λ (l : List Image). x ∷ l) (joined_last xs i all.1)

before_it : (xs : List Image) (i : Image) (is : List Image) → ImagesAreApart (xs ++ i ∷ is)
    → AllByRecursion (λ x. is_at x.node x.start i ≡ false) xs
before_it [] i is apart = tt
before_it (x ∷ xs) i is apart = (((all_split (λ y. is_at x.node x.start y ≡ false) xs (i ∷ is) apart.0).1).0, before_it xs i is apart.1)

-- images apart join as they are listed
pub joined_all : (xs is : List Image) → ImagesAreApart (xs ++ is) → with_images xs is ≡ xs ++ is
joined_all xs [] apart = sym (append-nil xs)
joined_all xs (i ∷ is) apart =
    ap (λ (l : List Image). with_images l is) (joined_last xs i (before_it xs i is apart))
    ∙ (joined_all (xs ++ i ∷ []) is (subst ImagesAreApart (sym (append_assoc xs (i ∷ []) is)) apart) ∙ append_assoc xs (i ∷ []) is)

-- Places

pub none_at : (xs : List Image) (i : Image) → AllByRecursion (λ x. is_at x.node x.start i ≡ false) xs
    → bytes_at i.node i.start xs ≡ None
none_at [] i all = refl
none_at (x ∷ xs) i all =
    ap (λ b. if b then Some x.bytes else bytes_at i.node i.start xs) (sym (turned x i) ∙ all.0)
    ∙ none_at xs i all.1

-- Numbers

entry_last : (e : CatEntry) → IsEntry e → is_last (entry_bytes e) ≡ nat_eq e.seq (2 ^ 64 - 1)
entry_last e is =
    ap (λ n. nat_le 8 n && nat_eq (big_number 8 (entry_bytes e)) (2 ^ 64 - 1)) (entry_length e is)
    ∙ ap (λ n. nat_eq n (2 ^ 64 - 1)) (let high = is.seq_high in big_number-reads_back 8 e.seq (drop 8 (entry_bytes e)) (omega arith))

below_last : (seq : ℕ) → seq < 2 ^ 64 → nat_eq seq (2 ^ 64 - 1) ≡ false → seq + 1 < 2 ^ 64
below_last seq high off = let differs = λ (e : seq ≡ 2 ^ 64 - 1). clash (ap (λ k. nat_eq k (2 ^ 64 - 1)) e ∙ refl) off in omega (arith, high, differs)
  where
    clash : nat_eq seq (2 ^ 64 - 1) ≡ true → nat_eq seq (2 ^ 64 - 1) ≡ false → ⊥
    clash e f = absurd cc

-- The first that is worn

none_worn : (t : State) (xs : List Image) → AllByRecursion (λ x. is_worn t x ≡ false) xs
    → first_worn t xs ≡ None
none_worn t [] all = refl
none_worn t (x ∷ xs) all = ap (λ b. if b then Some (x.node, x.start) else first_worn t xs) all.0 ∙ none_worn t xs all.1

first_of_two : (t : State) (a b c d : Image) (rest : List Image) (x y : Bool) → is_worn t a ≡ x
    → is_worn t b ≡ false → is_worn t c ≡ y → is_worn t d ≡ false → first_worn t rest ≡ None
    → first_worn t (a ∷ b ∷ c ∷ d ∷ rest)
    ≡ (if x then Some (a.node, a.start) else (if y then Some (c.node, c.start) else None))
first_of_two t a b c d rest x y p q r s u = rw (p, q, r, s, u) refl

first_of_one : (t : State) (a b d : Image) (rest : List Image) (x : Bool) → is_worn t a ≡ x
    → is_worn t b ≡ false → is_worn t d ≡ false → first_worn t rest ≡ None
    → first_worn t (a ∷ b ∷ d ∷ rest) ≡ (if x then Some (a.node, a.start) else None)
first_of_one t a b d rest x p q s u = rw (p, q, s, u) refl

none_of_two : (x y : Bool) (p q : NodeNo × ℕ)
    → (if x then Some p else (if y then Some q else None)) ≡ None → (x ≡ false) × (y ≡ false)
none_of_two true y p q e = absurd cc
none_of_two false true p q e = absurd cc
none_of_two false false p q e = (refl, refl)

one_of_two : (x y : Bool) (p q r : NodeNo × ℕ)
    → (if x then Some p else (if y then Some q else None)) ≡ Some r
    → ((x ≡ true) × (p ≡ r)) ⊎ ((y ≡ true) × (q ≡ r))
one_of_two true y p q r e = inl (refl, cc)
one_of_two false true p q r e = inr (refl, cc)
one_of_two false false p q r e = absurd cc

none_of_one : (x : Bool) (p : NodeNo × ℕ) → (if x then Some p else None) ≡ None → x ≡ false
none_of_one true p e = absurd cc
none_of_one false p e = refl

some_of_one : (x : Bool) (p r : NodeNo × ℕ) → (if x then Some p else None) ≡ Some r
    → (x ≡ true) × (p ≡ r)
some_of_one true p r e = (refl, cc)
some_of_one false p r e = absurd cc

-- A try

module _ (used : List CatEntry) (nodes : ℕ) (name child : List ℕ) (version : VersionNo) (e : CatEntry) (root : Page) (slot : Addr)
    (is : IsVersion used name version e) (entry : IsEntry e) (page : IsPage root) (made : root.made.0 < length used)
    (many : length used < 64) (few : nodes ≤ 8) (within : e.root.node.0 < nodes) (node : slot.node.0 < nodes) (low : slot.slot < max_slots) (apart : slot ≡ e.root → ⊥) where
  abbrev pub c : ChildTry
  c = child_try used nodes name child version e root slot

  abbrev kid : ℕ
  kid = length used

  version_low : version.0 < kid
  version_low = slice_get_within used version.0 e is.there

  -- Places

  abbrev IsOff : Image → Image → Type 0
  IsOff a b = is_at a.node a.start b ≡ false

  reads_apart : ImagesAreApart (child_reads c)
  reads_apart = (
    (
      starts_differ (page_image e.root root) (entry_image catalog_node version e) (λ s. absurd (omega (arith, s, version_low, many))),
      (
        starts_differ (page_image e.root root) (unused_image c.number) (λ s. absurd (omega (arith, s, many))),
        (starts_differ (page_image e.root root) (count_read c) (λ s. absurd (omega (arith, s))), tt),
      ),
    ),
    (
      (
        starts_differ (entry_image catalog_node version e) (unused_image c.number) (λ s. absurd (omega (arith, s, version_low))),
        (starts_differ (entry_image catalog_node version e) (count_read c) (λ s. absurd (omega (arith, s))), tt),
      ),
      ((starts_differ (unused_image c.number) (count_read c) (λ s. absurd (omega (arith, s))), tt), (tt, tt)),
    ),
  )

  root_copy : IsOff (root_written c) (copy_written c)
  root_copy = pages_differ e.root slot (copy_for c.number root) apart

  root_count : IsOff (root_written c) (count_written c)
  root_count = starts_differ (root_written c) (count_written c) (λ s. absurd (omega (arith, s)))

  copy_count : IsOff (copy_written c) (count_written c)
  copy_count = starts_differ (copy_written c) (count_written c) (λ s. absurd (omega (arith, s)))

  -- the version's entry, now frozen, and the child's, or the child's alone
  abbrev both : List Numbered
  both = frozen_written c ∷ child_written c ∷ []

  abbrev one : List Numbered
  one = child_written c ∷ []

  both_numbered : AreNumbered both
  both_numbered = (omega (arith, version_low, many), (version_low, tt), (many, tt, tt))

  one_numbered : AreNumbered one
  one_numbered = (many, tt, tt)

  -- what is written with these entries
  module _ (es : List Numbered) (numbered_so : AreNumbered es) where
    abbrev entries : List Image
    entries = on_nodes es 0 nodes

    entries_behind : (x : Image) → 20480 ≤ x.start → IsOff x (count_written c)
        → AllByRecursion (IsOff x) (entries ++ count_written c ∷ [])
    entries_behind x high off =
        all_append (IsOff x) entries (count_written c ∷ [])
        (weaker (λ y. (64 ≤ y.start) × (y.start < 20480)) (IsOff x) (λ y at. starts_differ x y (λ s. let less = at.1 in absurd (omega (arith, s, high, less)))) entries (starts_on_nodes es 0 nodes numbered_so))
        (off, tt)

    writes_apart : ImagesAreApart (child_writes nodes c es)
    writes_apart = (
      (root_copy, entries_behind (root_written c) (omega arith) root_count),
      (
        entries_behind (copy_written c) (omega arith) copy_count,
        apart_append entries (count_written c ∷ []) (nodes_apart es 0 nodes numbered_so) (tt, tt)
            (weaker (λ x. (64 ≤ x.start) × (x.start < 20480)) (λ x. AllByRecursion (IsOff x) (count_written c ∷ []))
            (λ x at. (starts_differ x (count_written c) (λ s. let more = at.0 in absurd (omega (arith, s, more))), tt)) entries (starts_on_nodes es 0 nodes numbered_so)),
      ),
    )

  pub snapshot_apart : ImagesAreApart (snapshot_writes nodes c)
  snapshot_apart = writes_apart both both_numbered

  pub branch_apart : ImagesAreApart (branch_writes nodes c)
  branch_apart = writes_apart one one_numbered

  -- A try by these entries

  counted : length c.counts ≡ nodes
  counted = length-set (replicate nodes 0) slot.node.0 slot.slot ∙ length-replicate nodes 0

  pub is_try : IsName child → root.seq + 1 < 2 ^ 64 → IsChildTry (heads_in used) nodes c
  is_try right seq = record {
    named = is.named;
    head = slice_get-map entry_head used version.0 ∙ ap (option_map entry_head) is.there;
    entry = entry;
    number = sym (length-map used entry_head);
    child = right;
    root = page;
    within = within;
    seq = seq;
    counts = counted;
    slot = (
      subst (λ k. slot.node.0 < k) (sym counted) node,
      get_or-set_same (replicate nodes 0) slot.node.0 slot.slot 0 (subst (λ k. slot.node.0 < k) (sym (length-replicate nodes 0)) node),
      low,
      tt,
    );
  }

  -- What the transaction has read and is to write

  abbrev pub state_with : List Image → State
  state_with ws = record { nodes = nodes; dirty = []; reads = child_reads c; writes = ws }

  abbrev all_read : List Image → State
  all_read ws = record { nodes = nodes; dirty = []; reads = with_images [] (child_reads c); writes = with_images [] ws }

  joined_once : (ws : List Image) → ImagesAreApart ws → all_read ws ≡ state_with ws
  joined_once ws off =
      ap (λ (rs : List Image). let t : State = record { nodes = nodes; dirty = []; reads = rs; writes = with_images [] ws } in t) (joined_all [] (child_reads c) reads_apart)
      ∙ ap (λ (xs : List Image). let t : State = record { nodes = nodes; dirty = []; reads = child_reads c; writes = xs } in t) (joined_all [] ws off)

  abbrev pub of_entries : List Numbered → State
  of_entries es = child_state nodes used version e root slot es

  state_done : (es : List Numbered) → AreNumbered es → of_entries es ≡ state_with (child_writes nodes c es)
  state_done es so =
      ap (λ (t : State). with_count t slot) (entries_done (with_pages (read_state nodes version e root c.number slot) e.root root c.number slot) es (range_with_len 0 nodes))
      ∙ (ap (λ (l : List Image). let t : State = record { nodes = nodes; dirty = []; reads = with_images [] (child_reads c); writes = l } in t)
      (images_on (with_images [] (root_written c ∷ copy_written c ∷ [])) (on_nodes es 0 nodes) (count_written c ∷ []))
      ∙ joined_once (child_writes nodes c es) (writes_apart es so))

  pub snapshot_state : of_entries (snapshot_entries used version child slot) ≡ state_with (snapshot_writes nodes c)
  snapshot_state =
      ap (λ (o : Option CatEntry). of_entries (option_to_list (option_map (λ x. numbered version.0 (frozen_entry x)) o) ++ branch_entries used version child slot)) is.there
      ∙ state_done both both_numbered

  pub branch_state : of_entries (branch_entries used version child slot) ≡ state_with (branch_writes nodes c)
  branch_state = state_done one one_numbered

  -- The test of a plan

  module _ (copies : CopiesArePages) where
    root_low : e.root.slot < max_slots
    root_low = (entry.root).1

    entry_in : (n : ℕ) (v : VersionNo) (x : CatEntry) → n < nodes → v.0 < 64 → IsEntry x → IsIn nodes (entry_image (node_no n) v x)
    entry_in n v x there small it = in_space nodes (entry_image (node_no n) v x) 64 (entry_length x it) few there (omega arith) (omega arith) (omega arith)

    some_node : 0 < nodes
    some_node = omega (arith, within)

    reads_in : AllByRecursion (IsIn nodes) (child_reads c)
    reads_in = (
      page_in nodes e.root root few within root_low (page_length root page),
      (
        entry_in 0 version e some_node (omega (arith, version_low, many)) entry,
        (in_space nodes (unused_image c.number) 64 (length-replicate {A = ℕ} 64 0) few some_node (omega arith) (omega arith) (omega arith), (count_in_space nodes slot.node.0 slot.slot few node, tt)),
      ),
    )

    pages : IsPage (marked_for c.number root) × IsPage (copy_for c.number root)
    pages = copies c.number root page made many

    root_in : IsIn nodes (root_written c)
    root_in = page_in nodes e.root (marked_for c.number root) few within root_low (page_length (marked_for c.number root) pages.0)

    copy_in : IsIn nodes (copy_written c)
    copy_in = page_in nodes slot (copy_for c.number root) few node low (page_length (copy_for c.number root) pages.1)

    count_in : IsIn nodes (count_written c)
    count_in = count_in_space nodes slot.node.0 (slot.slot + 1) few node

    -- at most two entries on at most 8 nodes are few
    fits : (es : List Numbered) → AreNumbered es → AreEntries es → length es ≤ 2 → of_entries es ≡ state_with (child_writes nodes c es)
        → can_plan (of_entries es) ≡ true
    fits es so sound short done =
        ap can_plan done
        ∙ test_passes (state_with (child_writes nodes c es)) (omega arith) (omega (arith, e_long, e_few, few)) reads_in
        (root_in, (copy_in, all_append (IsIn nodes) (on_nodes es 0 nodes) (count_written c ∷ []) entries_in (count_in, tt)))
      where
        e_long : length (on_nodes es 0 nodes ++ count_written c ∷ []) ≡ length (on_nodes es 0 nodes) + 1
        e_long = length-append (on_nodes es 0 nodes) (count_written c ∷ [])

        e_few : length (on_nodes es 0 nodes) ≤ 2 * nodes
        e_few = few_on_nodes es 0 nodes short

        entries_in : AllByRecursion (IsIn nodes) (on_nodes es 0 nodes)
        entries_in =
            all_on_nodes (IsIn nodes) es 0 nodes
            (λ n from below. weaker (λ x. (x.0.0 < 64) × IsEntry x.1) (λ x. IsIn nodes (entry_image (node_no n) x.0 x.1)) (λ x right. entry_in n x.0 x.1 (omega (arith, below)) right.0 right.1) es sound)

    pub snapshot_fits : AreEntries (snapshot_entries used version child slot)
        → can_plan (of_entries (snapshot_entries used version child slot)) ≡ true
    snapshot_fits sound =
        let are = subst (λ (o : Option CatEntry). AreEntries (option_to_list (option_map (λ x. numbered version.0 (frozen_entry x)) o) ++ branch_entries used version child slot)) is.there sound in
        ap (λ (o : Option CatEntry). can_plan (of_entries (option_to_list (option_map (λ x. numbered version.0 (frozen_entry x)) o) ++ branch_entries used version child slot))) is.there
        ∙ fits both both_numbered are (omega arith) (state_done both both_numbered)

    pub branch_fits : AreEntries (branch_entries used version child slot)
        → can_plan (of_entries (branch_entries used version child slot)) ≡ true
    branch_fits sound = fits one one_numbered sound (omega arith) branch_state

  -- What is worn

  module _ (ws : List Image) where
    entry_start_off : (v : ℕ) → nat_eq (64 + 64 * v) 16 ≡ false
    entry_start_off v = ne_eqb (64 + 64 * v) 16 (λ s. absurd (omega (arith, s)))

    root_worn : is_worn (state_with ws) (root_written c) ≡ nat_eq root.seq (2 ^ 64 - 1)
    root_worn =
        sym (worn_read (state_with ws) (root_written c) (no_count e.root) (page_bytes root) (at_read (child_reads c) (page_image e.root root) reads_apart (0, omega arith, refl)))
        ∙ last_is root page

    copy_worn : is_worn (state_with ws) (copy_written c) ≡ false
    copy_worn =
        sym (worn_unread (state_with ws) (copy_written c) (no_count slot)
        (none_at (child_reads c) (copy_written c) (
          pages_differ e.root slot (copy_for c.number root) apart,
          (
            starts_differ (entry_image catalog_node version e) (copy_written c) (λ s. absurd (omega (arith, s, version_low, many))),
            (
              starts_differ (unused_image c.number) (copy_written c) (λ s. absurd (omega (arith, s, many))),
              (starts_differ (count_read c) (copy_written c) (λ s. absurd (omega (arith, s))), tt),
            ),
          ),
        )) refl)

    abbrev shut : Image
    shut = entry_image catalog_node version (frozen_entry e)

    abbrev kid_image : Image
    kid_image = entry_image catalog_node c.number (child_entry version child slot)

    shut_worn : is_worn (state_with ws) shut ≡ nat_eq e.seq (2 ^ 64 - 1)
    shut_worn =
        sym (worn_read (state_with ws) shut (entry_start_off version.0) (entry_bytes e) (at_read (child_reads c) (entry_image catalog_node version e) reads_apart (1, omega arith, refl)))
        ∙ entry_last e entry

    kid_worn : is_worn (state_with ws) kid_image ≡ false
    kid_worn =
        sym (worn_read (state_with ws) kid_image (entry_start_off kid) (replicate 64 0) (at_read (child_reads c) (unused_image c.number) reads_apart (2, omega arith, refl)))

    count_worn : is_worn (state_with ws) (count_written c) ≡ false
    count_worn = refl

    -- an entry on another node wasn't read
    beside_worn : (n : ℕ) (v : VersionNo) (x : CatEntry) → 1 ≤ n → v.0 < 64 → is_worn (state_with ws) (entry_image (node_no n) v x) ≡ false
    beside_worn n v x behind small =
        sym (worn_unread (state_with ws) i (entry_start_off v.0)
        (none_at (child_reads c) i (
          starts_differ (page_image e.root root) i (λ s. absurd (omega (arith, s, small))),
          (
            nodes_differ (entry_image catalog_node version e) i (λ same. absurd (omega (arith, same, behind))),
            (nodes_differ (unused_image c.number) i (λ same. absurd (omega (arith, same, behind))), (starts_differ (count_read c) i (λ s. absurd (omega (arith, s))), tt)),
          ),
        )) refl)
      where
        i : Image
        i = entry_image (node_no n) v x

    -- so nothing behind the first node is worn
    rest_worn : (es : List Numbered) (k : ℕ) → AreNumbered es → first_worn (state_with ws) (on_nodes es 1 k ++ count_written c ∷ []) ≡ None
    rest_worn es k so =
        none_worn (state_with ws) (on_nodes es 1 k ++ count_written c ∷ [])
        (all_append (λ x. is_worn (state_with ws) x ≡ false) (on_nodes es 1 k) (count_written c ∷ [])
        (all_on_nodes (λ x. is_worn (state_with ws) x ≡ false) es 1 k (λ n from below. each n from es so)) (count_worn, tt))
      where
        each : (n : ℕ) → 1 ≤ n → (ds : List Numbered) → AreNumbered ds → AllByRecursion (λ x. is_worn (state_with ws) (entry_image (node_no n) x.0 x.1) ≡ false) ds
        each n from [] low_ones = tt
        each n from (d ∷ ds) low_ones = (beside_worn n d.0 d.1 from low_ones.0, each n from ds low_ones.2)

  -- The plan

  abbrev root_at : NodeNo × ℕ
  root_at = (e.root.node, 20480 + 1024 * e.root.slot)

  abbrev entry_at : NodeNo × ℕ
  entry_at = (node_no 0, 64 + 64 * version.0)

  module _ (stand : ChildrenStandInOrder) where
    reads_stand : in_item_order (child_reads c) ≡ child_reads c
    reads_stand = (stand nodes c version_low many).0

    snapshot_stand : in_item_order (snapshot_writes nodes c) ≡ snapshot_writes nodes c
    snapshot_stand = (stand nodes c version_low many).1

    branch_stand : in_item_order (branch_writes nodes c) ≡ branch_writes nodes c
    branch_stand = (stand nodes c version_low many).2

    plan_with : (ws : List Image) → in_item_order ws ≡ ws
        → plan_of (state_with ws) ≡ record { nodes = nodes; items = map compare_of (child_reads c) ++ map write_of ws }
    plan_with ws same =
        ap (λ (rs : List Image). let m : Mini = record { nodes = nodes; items = map compare_of rs ++ map write_of (in_item_order ws) } in m) reads_stand
        ∙ ap (λ (xs : List Image). let m : Mini = record { nodes = nodes; items = map compare_of (child_reads c) ++ map write_of xs } in m) same

    snapshot_first : first_worn (state_with (snapshot_writes nodes c)) (in_item_order (snapshot_writes nodes c))
        ≡ (if nat_eq root.seq (2 ^ 64 - 1) then Some root_at else (if nat_eq e.seq (2 ^ 64 - 1) then Some entry_at else None))
    snapshot_first = ap (first_worn (state_with ws)) snapshot_stand ∙ by_nodes nodes (omega (arith, within))
      where
        ws : List Image
        ws = snapshot_writes nodes c

        by_nodes : (k : ℕ) → 0 < k
            → first_worn (state_with ws) (child_writes k c both)
            ≡ (if nat_eq root.seq (2 ^ 64 - 1) then Some root_at else (if nat_eq e.seq (2 ^ 64 - 1) then Some entry_at else None))
        by_nodes zero some = absurd (omega arith)
        by_nodes (suc k) some =
            first_of_two (state_with ws) (root_written c) (copy_written c) (shut ws) (kid_image ws) (on_nodes both 1 k ++ count_written c ∷ []) (nat_eq root.seq (2 ^ 64 - 1)) (nat_eq e.seq (2 ^ 64 - 1))
            (root_worn ws) (copy_worn ws) (shut_worn ws) (kid_worn ws) (rest_worn ws both k both_numbered)

    branch_first : first_worn (state_with (branch_writes nodes c)) (in_item_order (branch_writes nodes c))
        ≡ (if nat_eq root.seq (2 ^ 64 - 1) then Some root_at else None)
    branch_first = ap (first_worn (state_with ws)) branch_stand ∙ by_nodes nodes (omega (arith, within))
      where
        ws : List Image
        ws = branch_writes nodes c

        by_nodes : (k : ℕ) → 0 < k
            → first_worn (state_with ws) (child_writes k c one) ≡ (if nat_eq root.seq (2 ^ 64 - 1) then Some root_at else None)
        by_nodes zero some = absurd (omega arith)
        by_nodes (suc k) some =
            first_of_one (state_with ws) (root_written c) (copy_written c) (kid_image ws) (on_nodes one 1 k ++ count_written c ∷ []) (nat_eq root.seq (2 ^ 64 - 1))
            (root_worn ws) (copy_worn ws) (kid_worn ws) (rest_worn ws one k one_numbered)

    -- A Snapshot

    snapshot_shown : (mini : Mini) → IsPlanOf (of_entries (snapshot_entries used version child slot)) mini
        → IsPlanOf (state_with (snapshot_writes nodes c)) mini
    snapshot_shown mini p = subst (λ (t : State). IsPlanOf t mini) snapshot_state p

    pub snapshot_planned : SnapshotIsPlanned → IsName child
        → refusal (heads_in used) (Snapshot name child) ≡ None → (mini : Mini)
        → IsPlanOf (of_entries (snapshot_entries used version child slot)) mini
        → SnapshotPlanned used nodes name child root slot mini
    snapshot_planned law right admitted mini p =
        let q = snapshot_shown mini p in
        let unworn = none_of_two (nat_eq root.seq (2 ^ 64 - 1)) (nat_eq e.seq (2 ^ 64 - 1)) root_at entry_at (sym snapshot_first ∙ q.1) in (
          version,
          e,
          is,
          λ es shown. subst (λ (m : Mini). IsPlanned es (heads_in used) (Snapshot name child) m says.Made) (sym q.0)
              (law (heads_in used) (state_with (snapshot_writes nodes c)) c (is_try right (below_last root.seq page.seq_high unworn.0)) admitted (below_last e.seq entry.seq_high unworn.1) reads_apart snapshot_apart reads_stand snapshot_stand es shown),
        )

    pub snapshot_made : (mini : Mini)
        → IsPlanOf (of_entries (snapshot_entries used version child slot)) mini
        → IsSnapshotPlan used nodes name child root slot mini
    snapshot_made mini p = record {
      version = version;
      entry = e;
      is = is;
      items = (snapshot_shown mini p).0 ∙ plan_with (snapshot_writes nodes c) snapshot_stand;
    }

    pub snapshot_refused : (error : PlanError)
        → RefusesPlan (of_entries (snapshot_entries used version child slot)) error
        → RefusesSnapshot used name root error
    snapshot_refused NoMemory r = tt
    snapshot_refused (Worn at start) r =
        by_two (one_of_two (nat_eq root.seq (2 ^ 64 - 1)) (nat_eq e.seq (2 ^ 64 - 1)) root_at entry_at (at, start)
        (sym snapshot_first ∙ subst (λ (t : State). RefusesPlan t (Worn at start)) snapshot_state r))
      where
        by_two : ((nat_eq root.seq (2 ^ 64 - 1) ≡ true) × (root_at ≡ (at, start))) ⊎ ((nat_eq e.seq (2 ^ 64 - 1) ≡ true) × (entry_at ≡ (at, start)))
            → IsWornRoot used name root at start ⊎ IsWornEntry used name at start
        by_two (inl (last, place)) = inl (record {
          version = version;
          entry = e;
          is = is;
          last = eqb-true root.seq (2 ^ 64 - 1) last;
          node_is = ap (λ (p : NodeNo × ℕ). p.0) place;
          start_is = ap (λ (p : NodeNo × ℕ). p.1) place;
        })
        by_two (inr (last, place)) = inr (record {
          version = version;
          entry = e;
          is = is;
          last = eqb-true e.seq (2 ^ 64 - 1) last;
          node_is = sym (ap (λ (p : NodeNo × ℕ). (p.0).0) place);
          start_is = ap (λ (p : NodeNo × ℕ). p.1) place;
        })

    -- A Branch

    branch_shown : (mini : Mini) → IsPlanOf (of_entries (branch_entries used version child slot)) mini
        → IsPlanOf (state_with (branch_writes nodes c)) mini
    branch_shown mini p = subst (λ (t : State). IsPlanOf t mini) branch_state p

    pub branch_planned : BranchIsPlanned → IsName child
        → refusal (heads_in used) (Branch name child) ≡ None → (mini : Mini)
        → IsPlanOf (of_entries (branch_entries used version child slot)) mini
        → BranchPlanned used nodes name child root slot mini
    branch_planned law right admitted mini p =
        let q = branch_shown mini p in
        let unworn = none_of_one (nat_eq root.seq (2 ^ 64 - 1)) root_at (sym branch_first ∙ q.1) in (
          version,
          e,
          is,
          λ es shown. subst (λ (m : Mini). IsPlanned es (heads_in used) (Branch name child) m says.Made) (sym q.0)
              (law (heads_in used) (state_with (branch_writes nodes c)) c (is_try right (below_last root.seq page.seq_high unworn)) admitted reads_apart branch_apart reads_stand branch_stand es shown),
        )

    pub branch_made : (mini : Mini)
        → IsPlanOf (of_entries (branch_entries used version child slot)) mini
        → IsBranchPlan used nodes name child root slot mini
    branch_made mini p = record {
      version = version;
      entry = e;
      is = is;
      items = (branch_shown mini p).0 ∙ plan_with (branch_writes nodes c) branch_stand;
    }

    pub branch_refused : (error : PlanError)
        → RefusesPlan (of_entries (branch_entries used version child slot)) error
        → RefusesBranch used name root error
    branch_refused NoMemory r = tt
    branch_refused (Worn at start) r =
        let one = some_of_one (nat_eq root.seq (2 ^ 64 - 1)) root_at (at, start) (sym branch_first ∙ subst (λ (t : State). RefusesPlan t (Worn at start)) branch_state r) in
        record {
          version = version;
          entry = e;
          is = is;
          last = eqb-true root.seq (2 ^ 64 - 1) one.0;
          node_is = ap (λ (p : NodeNo × ℕ). p.0) one.1;
          start_is = ap (λ (p : NodeNo × ℕ). p.1) one.1;
        }

-- What the calls answer

-- a catalog that admits a child has room for it
pub snapshot_room : (es : List CatEntry) (name child : List ℕ)
    → refusal (heads_in es) (Snapshot name child) ≡ None → length es < 64
snapshot_room es name child admitted =
    subst (λ k. k < 64) (length-map es entry_head) (by_head (head_named (heads_in es) name) admitted)
  where
    by_head : (o : Option Head) → refusal_at (heads_in es) (Snapshot name child) o ≡ None
        → length (heads_in es) < 64
    by_head None e = absurd cc
    by_head (Some h) e = (child_admitted (heads_in es) child (writable_one h.frozen e).1).1

pub branch_room : (es : List CatEntry) (name child : List ℕ)
    → refusal (heads_in es) (Branch name child) ≡ None → length es < 64
branch_room es name child admitted =
    subst (λ k. k < 64) (length-map es entry_head) (by_head (head_named (heads_in es) name) admitted)
  where
    by_head : (o : Option Head) → refusal_at (heads_in es) (Branch name child) o ≡ None
        → length (heads_in es) < 64
    by_head None e = absurd cc
    by_head (Some h) e = (child_admitted (heads_in es) child (frozen_one h.frozen e).1).1

entry_same : (x y : CatEntry) → Some x ≡ Some y → x ≡ y
entry_same x y e = cc

module _ (entries : List CatEntry) (nodes : ℕ) (name child : List ℕ) (version : VersionNo) (root : Page) (slot : Addr)
    (may : MayHaveChild entries nodes name root slot) (named : number_named (heads_in entries) name ≡ Some version.0)
    (catalog : IsCatalog entries) (many : length entries < 64) (used : List CatEntry) (same : used ≡ entries) (es : List Numbered) where
  its_entry : slice_get entries version.0 ≡ Some may.entry
  its_entry = subst (λ k. slice_get entries k ≡ Some may.entry) (same_number may.version.0 version.0 (sym may.is.named ∙ named)) may.is.there

  its_version : IsVersion entries name version may.entry
  its_version = record { named = named; there = its_entry }

  spelled : IsEntry may.entry
  spelled =
      let low = slice_get_within entries version.0 may.entry its_entry in
      subst IsEntry (get_or_from_slice_get entries version.0 may.entry may.entry its_entry) (catalog.1 version.0 may.entry low)

  slot_is : IsAddr slot
  slot_is = let node = may.node in let few = may.few in (omega (arith, node, few), may.low)

  pub is_there : version.0 < length used
  is_there = subst (λ (u : List CatEntry). version.0 < length u) (sym same) (slice_get_within entries version.0 may.entry its_entry)

  pub are_few : length used < 64
  are_few = subst (λ (u : List CatEntry). length u < 64) (sym same) many

  pub made_before : root.made.0 < length used
  made_before = subst (λ (u : List CatEntry). root.made.0 < length u) (sym same) may.made

  pub is_first : has_version root.copied (length used) ≡ false
  is_first = subst (λ (u : List CatEntry). has_version root.copied (length u) ≡ false) (sym same) may.first

  -- what holds of the entry's own state holds of what the version's entry makes
  asks : can_plan (child_state nodes entries version may.entry root slot es) ≡ true
      → MayPlanChild nodes used version root slot es
  asks fits =
      subst (λ (u : List CatEntry). MayPlanChild nodes u version root slot es) (sym same)
      (λ e there. subst (λ (x : CatEntry). can_plan (child_state nodes entries version x root slot es) ≡ true) (entry_same may.entry e (sym its_entry ∙ there)) fits)

  told : (P : State → Type 0) → OfChild nodes used version root slot es P
      → P (child_state nodes entries version may.entry root slot es)
  told P of = subst (λ (u : List CatEntry). OfChild nodes u version root slot es P) same of may.entry its_entry

  module _ (are : es ≡ snapshot_entries entries version child slot) where
    pub snapshot_asks : CopiesArePages → IsName child → (IsAddr slot → IsName child → AreEntries es)
        → MayPlanChild nodes used version root slot es
    snapshot_asks copies right sound =
        asks (ap (λ (l : List Numbered). can_plan (child_state nodes entries version may.entry root slot l)) are
        ∙ snapshot_fits entries nodes name child version may.entry root slot its_version spelled may.page may.made many may.few may.within may.node may.low may.apart copies (subst AreEntries are (sound slot_is right)))

    snapshot_told : (mini : Mini) → IsChildPlan nodes used version root slot es mini
        → IsPlanOf (child_state nodes entries version may.entry root slot (snapshot_entries entries version child slot)) mini
    snapshot_told mini p =
        subst (λ (l : List Numbered). IsPlanOf (child_state nodes entries version may.entry root slot l) mini) are (told (λ t. IsPlanOf t mini) p)

    module _ (stand : ChildrenStandInOrder) (r : Result Mini PlanError) where
      pub snapshot_does : SnapshotIsPlanned → IsName child
          → refusal (heads_in entries) (Snapshot name child) ≡ None
          → IfOk r (IsChildPlan nodes used version root slot es)
          → IfOk r (SnapshotPlanned entries nodes name child root slot)
      snapshot_does law right admitted ok =
          IfOk-weaker r (IsChildPlan nodes used version root slot es) (SnapshotPlanned entries nodes name child root slot)
          (λ mini p. snapshot_planned entries nodes name child version may.entry root slot its_version spelled may.page may.made many may.few may.within may.node may.low may.apart stand law right admitted mini (snapshot_told mini p)) ok

      pub snapshot_makes : IfOk r (IsChildPlan nodes used version root slot es)
          → IfOk r (IsSnapshotPlan entries nodes name child root slot)
      snapshot_makes ok =
          IfOk-weaker r (IsChildPlan nodes used version root slot es) (IsSnapshotPlan entries nodes name child root slot)
          (λ mini p. snapshot_made entries nodes name child version may.entry root slot its_version spelled may.page may.made many may.few may.within may.node may.low may.apart stand mini (snapshot_told mini p)) ok

      pub snapshot_refuses : IfErr r (RefusesChild nodes used version root slot es)
          → IfErr r (RefusesSnapshot entries name root)
      snapshot_refuses err =
          IfErr-weaker r (RefusesChild nodes used version root slot es) (RefusesSnapshot entries name root)
          (λ error p. snapshot_refused entries nodes name child version may.entry root slot its_version spelled may.page may.made many may.few may.within may.node may.low may.apart stand error
          (subst (λ (l : List Numbered). RefusesPlan (child_state nodes entries version may.entry root slot l) error) are (told (λ t. RefusesPlan t error) p))) err

  module _ (are : es ≡ branch_entries entries version child slot) where
    pub branch_asks : CopiesArePages → IsName child → (IsAddr slot → IsName child → AreEntries es)
        → MayPlanChild nodes used version root slot es
    branch_asks copies right sound =
        asks (ap (λ (l : List Numbered). can_plan (child_state nodes entries version may.entry root slot l)) are
        ∙ branch_fits entries nodes name child version may.entry root slot its_version spelled may.page may.made many may.few may.within may.node may.low may.apart copies (subst AreEntries are (sound slot_is right)))

    branch_told : (mini : Mini) → IsChildPlan nodes used version root slot es mini
        → IsPlanOf (child_state nodes entries version may.entry root slot (branch_entries entries version child slot)) mini
    branch_told mini p =
        subst (λ (l : List Numbered). IsPlanOf (child_state nodes entries version may.entry root slot l) mini) are (told (λ t. IsPlanOf t mini) p)

    module _ (stand : ChildrenStandInOrder) (r : Result Mini PlanError) where
      pub branch_does : BranchIsPlanned → IsName child
          → refusal (heads_in entries) (Branch name child) ≡ None
          → IfOk r (IsChildPlan nodes used version root slot es)
          → IfOk r (BranchPlanned entries nodes name child root slot)
      branch_does law right admitted ok =
          IfOk-weaker r (IsChildPlan nodes used version root slot es) (BranchPlanned entries nodes name child root slot)
          (λ mini p. branch_planned entries nodes name child version may.entry root slot its_version spelled may.page may.made many may.few may.within may.node may.low may.apart stand law right admitted mini (branch_told mini p)) ok

      pub branch_makes : IfOk r (IsChildPlan nodes used version root slot es)
          → IfOk r (IsBranchPlan entries nodes name child root slot)
      branch_makes ok =
          IfOk-weaker r (IsChildPlan nodes used version root slot es) (IsBranchPlan entries nodes name child root slot)
          (λ mini p. branch_made entries nodes name child version may.entry root slot its_version spelled may.page may.made many may.few may.within may.node may.low may.apart stand mini (branch_told mini p)) ok

      pub branch_refuses : IfErr r (RefusesChild nodes used version root slot es)
          → IfErr r (RefusesBranch entries name root)
      branch_refuses err =
          IfErr-weaker r (RefusesChild nodes used version root slot es) (RefusesBranch entries name root)
          (λ error p. branch_refused entries nodes name child version may.entry root slot its_version spelled may.page may.made many may.few may.within may.node may.low may.apart stand error
          (subst (λ (l : List Numbered). RefusesPlan (child_state nodes entries version may.entry root slot l) error) are (told (λ t. RefusesPlan t error) p))) err
