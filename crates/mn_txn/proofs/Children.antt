-- The plans of a Snapshot and of a Branch: their places, their numbers and their effect.
use Rattle.std.proofs.Common.{◌≡◌, ◌⊎◌, inl, inr, ◌↔◌, ℕ, zero, suc, ◌+◌, ◌-◌, ◌*◌, ◌^◌, ◌<◌, ◌≤◌, Bool, true, false, not, List, [], ◌∷◌, ◌++◌, map, length, Contains, Option, Some, None, refl, subst, sym, ap, ◌∙◌, arith, slice_get, slice_set, slice_index_or, if◌then◌else◌}
use Rattle.std.specs.Prelude.{filter, nat_eq, nat_le, bytes_eq, is_some}
use Rattle.std.specs.List.{AllByRecursion, flat_map, range_with_len}
use Rattle.std.specs.Option.{option_map, option_or}
use Rattle.std.proofs.lemmas.Bool.{eq-eqb, eqb-true, ne_eqb, cases_eq}
use Rattle.std.proofs.lemmas.List.{map-append, length-map, length-set}
use Rattle.std.proofs.lemmas.List.Elements.{Contains-append_left, Contains-append_cases}
use Rattle.std.proofs.lemmas.Option.{slice_get-map, slice_get_within}
use Rattle.mn_base.specs.Store.{Head, Store, heads_of, head_named, number_named, child_refusal, refusal, refusal_at, unless_refused, op_version, applied}
use Rattle.mn_base.specs.declared.ids.Addr.{Addr}
use Rattle.mn_base.specs.declared.ids.NodeNo.{NodeNo}
use Rattle.mn_base.specs.declared.op.Op.{Op}
use Rattle.mn_base.specs.declared.op.Op.TheVariants.{Snapshot, Branch}
use Rattle.mn_base.specs.declared.reply.Reply.TheVariants as says
use Rattle.mn_mini.specs.declared.item.Item.{Item}
use Rattle.mn_mini.specs.Mini.{Mini}
use Rattle.mn_mini.specs.Flat.{memory_after}
use Rattle.mn_page.specs.declared.page.Page.{Page}
use Rattle.mn_page.specs.declared.entry.CatEntry.{CatEntry}
use Rattle.mn_page.specs.Space.{max_slots}
use Rattle.mn_page.specs.Grammar.{IsPage, IsEntry, entry_bytes}
use Rattle.mn_page.specs.Forest.{Forest, node_count, page_at, entry_head}
use Rattle.mn_page.specs.Holds.{Holds, PagesAt}
use Rattle.mn_page.specs.Overlay.{Held, held_at, next_number}
use Rattle.mn_page.specs.Copies.{CopiesArePages, marked_for, copy_for}
use Rattle.mn_page.specs.Added.{Addition, MayBeAdded, HasCopy, Adds, AreShown, frozen_entry, child_entry, after_snapshot, after_branch, SnapshotIsShown, BranchIsShown}
use Rattle.mn_base.proofs.VersionTree.{child_admitted}
use Rattle.mn_base.proofs.Lists.{all_append}
use Rattle.mn_page.proofs.Spelled.{entry_length}
use Rattle.mn_tree.proofs.Trees.Puts.{same_itself}
use Rattle.mn_runs.specs.Seen.{Place}
use Rattle.mn_law.specs.Places.{page_place, entry_place, catalog_node, count_place, front_place, IsPagePlace}
use Rattle.mn_runs.specs.declared.entry.Entry.{Entry}
use Rattle.mn_law.specs.Planned.{IsWholePlace, ComeOnce, compare_places, write_places, IsRootOf, IsWrittenCount, IsComparedFront, HasNextNumber, IsPickOf, WritesPages, ContinuesCatalog, PlanActs, ComparesHold}
use Rattle.mn_plans.specs.Plans.{write_page, write_count}
use Rattle.mn_plans.specs.Growth.{taken_on, AreNextSlots, node_no, count_in, count_writes, AreCounts, AreDifferent, NextSlotsAreFree, over, write_held, Numbered, write_entry, write_entries, entries_with, entries_after, AreNextEntries, WritesLeaveVersions, AreMet, ComparesTell, NumbersGoOn}
use Rattle.mn_plans.proofs.Compares.{still_named, fronts_compared, number_within}
use Rattle.mn_plans.proofs.Entries.{with_within, with_behind}
use Rattle.mn_plans.proofs.Grown.{addr_differs}
use Rattle.mn_plans.proofs.PutInPlace.{not_count}
use Rattle.mn_plans.proofs.Told.{all_there}
use Rattle.mn_txn.specs.declared.image.Image.{Image}
use Rattle.mn_txn.specs.State.{image, ImagesAreApart}
use Rattle.mn_txn.specs.Order.{in_item_order}
use Rattle.mn_txn.specs.Plan.{plan_of, compare_of, write_of}
use Rattle.mn_txn.specs.Laws.{image_place, PlansAreInOrder, ReadsAreShown}
use Rattle.mn_txn.specs.Attempt.{page_image}
use Rattle.mn_txn.specs.Children.{ChildTry, IsChildTry, entry_image, unused_image, count_read, count_written, root_written, copy_written, child_reads, snapshot_writes, branch_writes, SnapshotIsPlanned, BranchIsPlanned}
use Rattle.mn_txn.proofs.Attempts.{page_is, same_length, fronts_once, places_once, compares_pass}
use Rattle.mn_txn.proofs.Known.{nodes_are, page_shown, entry_shown}
use Rattle.mn_txn.proofs.Lists.{all_mapped, contains_map}
use Rattle.mn_txn.proofs.Plans.{compared, written, apart_in_order, plan_shown, shown_in_order}

-- The node that gives the slot

gives_none : (s : Addr) (a k : ℕ) → s.node.0 < a → filter (λ n. not (nat_eq (taken_on (s ∷ []) n) 0)) (range_with_len a k) ≡ []
gives_none s a zero low = refl
gives_none s a (suc k) low =
    ap (λ b. if not (nat_eq (if b then 0 + 1 else 0) 0) then a ∷ filter (λ n. not (nat_eq (taken_on (s ∷ []) n) 0)) (range_with_len (a + 1) k) else filter (λ n. not (nat_eq (taken_on (s ∷ []) n) 0)) (range_with_len (a + 1) k)) (ne_eqb s.node.0 a (λ e. absurd (omega arith)))
    ∙ gives_none s (a + 1) k (omega arith)

gives_one : (s : Addr) (a k : ℕ) → a ≤ s.node.0 → s.node.0 < a + k → filter (λ n. not (nat_eq (taken_on (s ∷ []) n) 0)) (range_with_len a k) ≡ s.node.0 ∷ []
gives_one s a zero low high = absurd (omega arith)
gives_one s a (suc k) low high = elim (cases_eq s.node.0 a) as (λ _. filter (λ n. not (nat_eq (taken_on (s ∷ []) n) 0)) (range_with_len a (suc k)) ≡ s.node.0 ∷ []) [
  | inl e ↦ step true (eq-eqb s.node.0 a e) ∙ (ap (λ (l : List ℕ). a ∷ l) (gives_none s (a + 1) k (omega arith)) ∙ ap (λ m. m ∷ []) (sym e))
  | inr off ↦ step false (ne_eqb s.node.0 a off) ∙ gives_one s (a + 1) k (omega (arith, off)) (omega arith)
]
  where
    step : (t : Bool) → nat_eq s.node.0 a ≡ t
        → filter (λ n. not (nat_eq (taken_on (s ∷ []) n) 0)) (range_with_len a (suc k))
        ≡ (if not (nat_eq (if t then 0 + 1 else 0) 0) then a ∷ filter (λ n. not (nat_eq (taken_on (s ∷ []) n) 0)) (range_with_len (a + 1) k) else filter (λ n. not (nat_eq (taken_on (s ∷ []) n) 0)) (range_with_len (a + 1) k))
    step t e = ap (λ b. if not (nat_eq (if b then 0 + 1 else 0) 0) then a ∷ filter (λ n. not (nat_eq (taken_on (s ∷ []) n) 0)) (range_with_len (a + 1) k) else filter (λ n. not (nat_eq (taken_on (s ∷ []) n) 0)) (range_with_len (a + 1) k)) e

-- one slot is one count
one_count : (counts : List ℕ) (s : Addr) → AreNextSlots counts (s ∷ []) → count_writes counts (s ∷ []) ≡ write_count (node_no s.node.0) (s.slot + 1) ∷ []
one_count counts s next =
    ap (map (λ n. write_count (node_no n) (slice_index_or counts n 0 + taken_on (s ∷ []) n))) (gives_one s 0 (length counts) (omega arith) (let low = next.0 in omega arith))
    ∙ (ap (λ k. write_count (node_no s.node.0) (k + taken_on (s ∷ []) s.node.0) ∷ []) next.1
    ∙ ap (λ b. write_count (node_no s.node.0) (s.slot + (if b then 0 + 1 else 0)) ∷ []) (eq-eqb s.node.0 s.node.0 refl))

-- Versions by name

-- the version of a name, by its number
pub head_found : (hs : List Head) (name : List ℕ) (v : ℕ) (h : Head) → number_named hs name ≡ Some v → slice_get hs v ≡ Some h → head_named hs name ≡ Some h
head_found [] name v h e at = absurd cc
head_found (g ∷ hs) name v h e at = by_name (bytes_eq g.name name) e (λ k f there. head_found hs name k h f there)
  where
    below : (o : Option ℕ) → number_named hs name ≡ o → option_map (λ k. k + 1) o ≡ Some v → (k : ℕ) × (number_named hs name ≡ Some k) × (k + 1 ≡ v)
    below None f r = absurd cc
    below (Some k) f r = (k, f, cc)

    by_name : (t : Bool) → (if t then Some 0 else option_map (λ k. k + 1) (number_named hs name)) ≡ Some v → ((k : ℕ) → number_named hs name ≡ Some k → slice_get hs k ≡ Some h → head_named hs name ≡ Some h)
        → (if t then Some g else head_named hs name) ≡ Some h
    by_name true f rest = let here : 0 ≡ v = cc in ap (slice_get (g ∷ hs)) here ∙ at
    by_name false f rest =
        let k = below (number_named hs name) refl f in
        let after : suc k.0 ≡ v = omega (arith, k.2) in
        rest k.0 k.1 (ap (slice_get (g ∷ hs)) after ∙ at)

continues_long : (kept heads : List Head) → ContinuesCatalog kept heads → length kept ≤ length heads
continues_long [] heads on = omega arith
continues_long (k ∷ kept) [] on = absurd on
continues_long (k ∷ kept) (h ∷ heads) on = let rest = continues_long kept heads on.3 in omega arith

-- a store with no further version has no further name
no_more_names : (kept heads : List Head) (name : List ℕ) → ContinuesCatalog kept heads → length heads ≤ length kept → head_named kept name ≡ None → head_named heads name ≡ None
no_more_names [] [] name on few none = refl
no_more_names [] (h ∷ heads) name on few none = absurd (omega arith)
no_more_names (k ∷ kept) [] name on few none = absurd on
no_more_names (k ∷ kept) (h ∷ heads) name on few none =
    ap (λ (x : List ℕ). if bytes_eq x name then Some h else head_named heads name) on.0 ∙ by_name (bytes_eq k.name name) none (no_more_names kept heads name on.3 (omega arith))
  where
    by_name : (t : Bool) → (if t then Some k else head_named kept name) ≡ None → (head_named kept name ≡ None → head_named heads name ≡ None) → (if t then Some h else head_named heads name) ≡ None
    by_name true f rest = absurd cc
    by_name false f rest = rest f

still_admitted : (kept heads : List Head) (name : List ℕ) → ContinuesCatalog kept heads → length heads ≡ length kept → child_refusal kept name ≡ None → child_refusal heads name ≡ None
still_admitted kept heads name on many free =
    let room = child_admitted kept name free in
    ap (λ (o : Option Head). if is_some o then Some says.NameTaken else (if nat_le 64 (length heads) then Some says.VersionsFull else None)) (no_more_names kept heads name on (omega arith) room.0)
    ∙ (ap (λ k. if nat_le 64 k then Some says.VersionsFull else None) many
    ∙ (sym (ap (λ (o : Option Head). if is_some o then Some says.NameTaken else (if nat_le 64 (length kept) then Some says.VersionsFull else None)) room.0) ∙ free))

pub next_is : (seq : ℕ) → seq + 1 < 2 ^ 64 → next_number seq ≡ seq + 1
next_is seq low = ap (λ b. if b then seq else seq + 1) (ne_eqb seq (2 ^ 64 - 1) (λ e. absurd (omega arith)))

-- Images

-- the entry of a version, as it is written on a node
abbrev pub numbered_image : ℕ → Numbered → Image
numbered_image n x = image (node_no n) (64 + 64 * x.0) (entry_bytes x.1)

-- entries on each of some nodes
abbrev pub images_on : List Numbered → List ℕ → List Image
images_on ws ns = flat_map (λ n. map (numbered_image n) ws) ns

-- what is written: the root, its copy, some entries on each node, and the count
abbrev pub writes_of : ℕ → ChildTry → List Numbered → List Image
writes_of nodes c ws = root_written c ∷ copy_written c ∷ (images_on ws (range_with_len 0 nodes) ++ count_written c ∷ [])

entries_written_on : (n : ℕ) (ws : List Numbered) → map write_of (map (numbered_image n) ws) ≡ map (λ (w : Numbered). write_entry (node_no n) w.0 w.1) ws
entries_written_on n [] = refl
entries_written_on n (w ∷ ws) = ap (λ (l : List Item). write_entry (node_no n) w.0 w.1 ∷ l) (entries_written_on n ws)

entries_written : (ws : List Numbered) (ns : List ℕ) → map write_of (images_on ws ns) ≡ flat_map (λ n. map (λ (w : Numbered). write_entry (node_no n) w.0 w.1) ws) ns
entries_written ws [] = refl
entries_written ws (n ∷ ns) =
    map-append write_of (map (numbered_image n) ws) (images_on ws ns)
    ∙ (ap (λ (l : List Item). l ++ map write_of (images_on ws ns)) (entries_written_on n ws) ∙ ap (λ (l : List Item). map (λ (w : Numbered). write_entry (node_no n) w.0 w.1) ws ++ l) (entries_written ws ns))

-- the places of entries on each of some nodes
abbrev places_on : List Numbered → List ℕ → List Place
places_on ws ns = flat_map (λ n. map (λ (x : Numbered). entry_place (node_no n) x.0) ws) ns

-- what holds of the place of each entry on each node
all_places : (P : Place → Type 0) (ws : List Numbered) (ns : List ℕ) → ((n : ℕ) → AllByRecursion (λ (x : Numbered). P (entry_place (node_no n) x.0)) ws) → AllByRecursion P (places_on ws ns)
all_places P ws [] each = tt
all_places P ws (n ∷ ns) each = all_append P (map (λ (x : Numbered). entry_place (node_no n) x.0) ws) (places_on ws ns) (all_mapped P (λ (x : Numbered). entry_place (node_no n) x.0) ws (each n)) (all_places P ws ns each)

-- no place of an entry is that of a count
entry_no_count : (m n : NodeNo) (v : ℕ) (place : Place) → place ≡ entry_place m v → place ≡ count_place n → ⊥
entry_no_count m n v place e f = let same : ◌≡◌ {A = ℕ} 64 8 = ap (λ (p : Place). p.length) (sym e ∙ f) in absurd (omega arith)

entry_no_page : (m : NodeNo) (v : ℕ) (x : Addr) (place : Place) → place ≡ entry_place m v → place ≡ page_place x → ⊥
entry_no_page m v x place e f = let same : ◌≡◌ {A = ℕ} 64 1024 = ap (λ (p : Place). p.length) (sym e ∙ f) in absurd (omega arith)

-- A try over a memory in which its compares hold

module _ (copies_are_pages : CopiesArePages) (next_slots_are_free : NextSlotsAreFree) (writes_leave_versions : WritesLeaveVersions) (compares_tell : ComparesTell) (numbers_go_on : NumbersGoOn) (kept : List Head) (nodes : ℕ) (c : ChildTry) (is : IsChildTry kept nodes c) (admitted : child_refusal kept c.child ≡ None)
    (memory : List (List ℕ)) (store : Store) (many : length memory ≡ nodes) (holds : Holds memory store) (on : ContinuesCatalog kept (heads_of store)) (more : List Item) (es : List Entry) (hold : ComparesHold es memory (map compare_of (child_reads c) ++ more)) (was_shown : ReadsAreShown es (child_reads c)) where
  abbrev pub f : Forest
  f = holds.forest

  abbrev pub v : ℕ
  v = c.version.0

  abbrev pub w : ℕ
  w = c.number.0

  abbrev node : ℕ
  node = c.slot.node.0

  room : (head_named kept c.child ≡ None) × (length kept < 64)
  room = child_admitted kept c.child admitted

  pub low : v < length kept
  low = number_within kept c.name v is.named

  pub few : v < 64
  few = omega (arith, low, room.1)

  pub few_kid : w < 64
  few_kid = let k = is.number in omega (arith, room.1)

  few_nodes : nodes ≡ node_count f
  few_nodes = sym many ∙ nodes_are memory store holds

  tells : AreMet es f (map compare_of (child_reads c) ++ more)
  tells = compares_tell es memory store holds (map compare_of (child_reads c) ++ more) hold

  has : (i : Image) → Contains (child_reads c) i → Contains (map compare_of (child_reads c) ++ more) (compare_of i)
  has i there = Contains-append_left (map compare_of (child_reads c)) more (compare_of i) (contains_map compare_of (child_reads c) i there)

  -- What stands in the memory

  root_at : page_at f c.entry.root ≡ Some c.root
  root_at = tells.pages c.entry.root c.root (has (page_image c.entry.root c.root) (0, omega arith, refl)) (page_shown es (child_reads c) c.entry.root c.root was_shown is.root (0, omega arith, refl)) (subst (λ k. c.entry.root.node.0 < k) few_nodes is.within) is.root

  pub entry_at : slice_get f.entries v ≡ Some c.entry
  entry_at =
      tells.entries catalog_node v c.entry (has (entry_image catalog_node c.version c.entry) (1, omega arith, refl)) (entry_shown es (child_reads c) catalog_node v c.entry was_shown is.entry (1, omega arith, refl))
      (let low = is.within in let e = few_nodes in omega (arith, low, e)) few is.entry

  unused : length f.entries ≤ w
  unused = tells.unused w (has (unused_image c.number) (2, omega arith, refl)) (was_shown.1.1.0 (λ e. absurd (omega (arith, e)))).1 few_kid

  count_is : c.slot.slot ≡ count_in f node
  count_is =
      tells.counts (node_no node) c.slot.slot (has (count_read c) (3, omega arith, refl)) (subst (λ k. node < k) (is.counts ∙ few_nodes) is.slot.0)
      (let below = is.slot.2 in omega arith)

  as_heads : length (heads_of store) ≡ length f.entries
  as_heads = ap (λ (hs : List Head). length hs) holds.shown.heads ∙ length-map f.entries entry_head

  pub as_many : length f.entries ≡ w
  as_many = let long = continues_long kept (heads_of store) on in let k = is.number in omega (arith, unused, as_heads)

  number : number_named (heads_of store) c.name ≡ Some v
  number = still_named kept (heads_of store) c.name v on is.named

  pub found : head_named (heads_of store) c.name ≡ Some (entry_head c.entry)
  found = head_found (heads_of store) c.name v (entry_head c.entry) number (ap (λ (hs : List Head). slice_get hs v) holds.shown.heads ∙ (slice_get-map entry_head f.entries v ∙ ap (option_map entry_head) entry_at))

  pub still : child_refusal (heads_of store) c.child ≡ None
  still = still_admitted kept (heads_of store) c.child on (as_heads ∙ (as_many ∙ is.number)) admitted

  -- What is written

  abbrev marked : Page
  marked = marked_for c.number c.root

  abbrev copy : Page
  copy = copy_for c.number c.root

  abbrev changed : List Held
  changed = record { addr = c.entry.root; page = marked } ∷ []

  abbrev new : List Held
  new = record { addr = c.slot; page = copy } ∷ []

  abbrev pub now : PagesAt
  now = over (changed ++ new) (page_at f)

  abbrev pub adding : Addition
  adding = record { parent = c.version; entry = c.entry; root = c.root; number = c.number; child = c.child; slot = c.slot }

  counts_ok : AreCounts f c.counts (c.slot ∷ [])
  counts_ok = (is.counts ∙ few_nodes, λ n some. by_node n (nat_eq node n) refl some)
    where
      by_node : (n : ℕ) (t : Bool) → nat_eq node n ≡ t → ((if t then 0 + 1 else 0) ≡ 0 → ⊥) → slice_index_or c.counts n 0 ≡ count_in f n
      by_node n true e some = let same = eqb-true node n e in subst (λ k. slice_index_or c.counts k 0 ≡ count_in f k) same (is.slot.1 ∙ count_is)
      by_node n false e some = absurd (some refl)

  free : AllByRecursion (λ s. (page_at f s ≡ None) × (s.node.0 < node_count f) × (s.node.0 < 8) × (s.slot < max_slots)) (c.slot ∷ []) × AreDifferent (c.slot ∷ [])
  free = next_slots_are_free memory store holds c.counts (c.slot ∷ []) counts_ok is.slot

  apart : c.entry.root ≡ c.slot → ⊥
  apart e = nothing (sym (ap (page_at f) (sym e) ∙ root_at) ∙ (free.0).0.0)
    where
      nothing : ◌≡◌ {A = Option Page} (Some c.root) None → ⊥
      nothing d = cc

  may_be : MayBeAdded f.entries (page_at f) adding
  may_be = record { entry = entry_at; root = root_at; above = is.root.copied_above; number = sym as_many; free = (free.0).0.0 }

  has_copy : HasCopy adding (page_at f) now
  has_copy = record {
    marked = ap (λ b. option_or (if b then Some marked else held_at new c.entry.root) (page_at f c.entry.root)) (same_itself c.entry.root);
    copy = ap (λ b. option_or (if b then Some marked else held_at new c.slot) (page_at f c.slot)) (addr_differs c.entry.root c.slot apart)
        ∙ ap (λ b. option_or (if b then Some copy else None) (page_at f c.slot)) (same_itself c.slot);
    others = λ x off beside. ap (λ b. option_or (if b then Some marked else held_at new x) (page_at f x)) (addr_differs c.entry.root x (λ e. off (sym e)))
        ∙ ap (λ b. option_or (if b then Some copy else None) (page_at f x)) (addr_differs c.slot x (λ e. beside (sym e)));
  }

  pub adds : Adds f.entries (page_at f) now store c.name adding
  adds = record { tree = holds.sound.tree; shows = holds.shown; may = may_be; copy = has_copy; named = number }

  are_pages : IsPage marked × IsPage copy
  are_pages = copies_are_pages c.number c.root is.root (subst (λ k. c.root.made.0 < k) as_many (holds.sound.tree.pages c.entry.root c.root root_at).made) few_kid

  pub child_is : IsEntry (child_entry c.version c.child c.slot)
  child_is = record { seq_low = omega arith; seq_high = omega arith; parent = few; root = ((free.0).0.2, (free.0).0.3); name = is.child }

  -- The plan with these entries written

  module _ (ws : List Numbered) (next : AreNextEntries f.entries ws) (places : AllByRecursion (λ (x : Numbered). (x.0 < 64) × IsEntry x.1) ws) where
    abbrev ns : List ℕ
    ns = range_with_len 0 nodes

    abbrev pub mini : Mini
    mini = record { nodes = nodes; items = map compare_of (child_reads c) ++ map write_of (writes_of nodes c ws) }

    pub effect : (after : Store) → AreShown (entries_after f.entries ws) now after → Holds (memory_after memory mini.items) after
    effect after shown =
        subst (λ (m : List (List ℕ)). Holds m after) (sym (compares_pass memory (child_reads c) (map write_of (writes_of nodes c ws)) ∙ ap (memory_after memory) items_are))
        (writes_leave_versions memory store after holds changed new ws c.counts ((c.root, root_at), tt) (tt, tt) (are_pages.0, (are_pages.1, tt)) counts_ok is.slot next shown.tree shown.shows)
      where
        items_are : map write_of (writes_of nodes c ws) ≡ map write_held changed ++ map write_held new ++ write_entries (node_count f) ws ++ count_writes c.counts (c.slot ∷ [])
        items_are =
            ap (λ (l : List Item). write_page c.entry.root marked ∷ write_page c.slot copy ∷ l)
            (map-append write_of (images_on ws ns) (count_written c ∷ [])
            ∙ (ap (λ (l : List Item). l ++ write_count (node_no node) (c.slot.slot + 1) ∷ []) (entries_written ws ns)
            ∙ (ap (λ (k : ℕ). write_entries k ws ++ write_count (node_no node) (c.slot.slot + 1) ∷ []) few_nodes ∙ ap (λ (l : List Item). write_entries (node_count f) ws ++ l) (sym (one_count c.counts c.slot is.slot)))))

    abbrev entry_places : List Place
    entry_places = places_on ws ns

    abbrev others : List Place
    others = entry_places ++ count_place (node_no node) ∷ []

    entries_here : (n : ℕ) (xs : List Numbered) → AllByRecursion (λ (x : Numbered). (x.0 < 64) × IsEntry x.1) xs → map image_place (map (numbered_image n) xs) ≡ map (λ (x : Numbered). entry_place (node_no n) x.0) xs
    entries_here n [] all = refl
    entries_here n (x ∷ xs) all =
        ap (λ (p : Place). p ∷ map image_place (map (numbered_image n) xs)) (same_length (node_no n) (64 + 64 * x.0) (length (entry_bytes x.1)) 64 (entry_length x.1 (all.0).1))
        ∙ ap (λ (l : List Place). entry_place (node_no n) x.0 ∷ l) (entries_here n xs all.1)

    entries_are : (ms : List ℕ) → map image_place (images_on ws ms) ≡ places_on ws ms
    entries_are [] = refl
    entries_are (n ∷ ms) =
        map-append image_place (map (numbered_image n) ws) (images_on ws ms)
        ∙ (ap (λ (l : List Place). l ++ map image_place (images_on ws ms)) (entries_here n ws places) ∙ ap (λ (l : List Place). map (λ (x : Numbered). entry_place (node_no n) x.0) ws ++ l) (entries_are ms))

    compared_are : compare_places mini ≡ map front_place (page_place c.entry.root ∷ entry_place catalog_node v ∷ entry_place catalog_node w ∷ count_place (node_no node) ∷ [])
    compared_are = compared (child_reads c) (writes_of nodes c ws)

    written_are : write_places mini ≡ page_place c.entry.root ∷ page_place c.slot ∷ others
    written_are =
        written (child_reads c) (writes_of nodes c ws)
        ∙ (ap (λ (l : List Place). image_place (root_written c) ∷ image_place (copy_written c) ∷ l) (map-append image_place (images_on ws ns) (count_written c ∷ []) ∙ ap (λ (l : List Place). l ++ count_place (node_no node) ∷ []) (entries_are ns))
        ∙ (ap (λ (p : Place). p ∷ image_place (copy_written c) ∷ others) (page_is c.entry.root marked are_pages.0) ∙ ap (λ (p : Place). page_place c.entry.root ∷ p ∷ others) (page_is c.slot copy are_pages.1)))

    -- Compares

    abbrev Wanted : Place → Type 0
    Wanted place = IsRootOf f v place ⊎ (place ≡ entry_place catalog_node v) ⊎ (place ≡ entry_place catalog_node (length f.entries)) ⊎ IsWrittenCount mini place

    entry_same : (d e : CatEntry) → Some d ≡ Some e → d ≡ e
    entry_same d e g = cc

    last_in : (xs : List Place) (p : Place) → Contains (xs ++ p ∷ []) p
    last_in [] p = (0, omega arith, refl)
    last_in (x ∷ xs) p = let rest = last_in xs p in (suc rest.0, (let l = rest.1 in omega arith), rest.2)

    count_written_there : Contains (write_places mini) (count_place (node_no node))
    count_written_there = subst (λ (l : List Place). Contains l (count_place (node_no node))) (sym written_are) (last_in (page_place c.entry.root ∷ page_place c.slot ∷ entry_places) (count_place (node_no node)))

    there : (place : Place) → Contains (page_place c.entry.root ∷ entry_place catalog_node v ∷ entry_place catalog_node w ∷ count_place (node_no node) ∷ []) place → Wanted place
    there place (zero, l, e) = inl (c.entry, entry_at, sym e)
    there place (suc zero, l, e) = inr (inl (sym e))
    there place (suc (suc zero), l, e) = inr (inr (inl (sym e ∙ ap (entry_place catalog_node) (sym as_many))))
    there place (suc (suc (suc zero)), l, e) = inr (inr (inr ((node_no node, sym e), subst (Contains (write_places mini)) e count_written_there)))
    there place (suc (suc (suc (suc k))), l, e) = absurd (omega arith)

    -- a count that is written is the one count
    only_count : (n : NodeNo) (place : Place) → place ≡ count_place n → Contains others place → count_place (node_no node) ≡ place
    only_count n place e has = elim (Contains-append_cases entry_places (count_place (node_no node) ∷ []) place has) as (λ _. count_place (node_no node) ≡ place) [
      | inl entry ↦ absurd (all_there (λ p. p ≡ place → ⊥) entry_places place (all_places (λ p. p ≡ place → ⊥) ws ns (λ m. no_entry m ws)) entry refl)
      | inr count ↦ last count
    ]
      where
        no_entry : (m : ℕ) (xs : List Numbered) → AllByRecursion (λ (x : Numbered). entry_place (node_no m) x.0 ≡ place → ⊥) xs
        no_entry m [] = tt
        no_entry m (x ∷ xs) = (λ g. entry_no_count (node_no m) n x.0 place (sym g) e, no_entry m xs)

        last : Contains (count_place (node_no node) ∷ []) place → count_place (node_no node) ≡ place
        last (zero, l, g) = g
        last (suc k, l, g) = absurd (omega arith)

    back : (place : Place) → Wanted place → Contains (page_place c.entry.root ∷ entry_place catalog_node v ∷ entry_place catalog_node w ∷ count_place (node_no node) ∷ []) place
    back place (inl root) = (0, omega arith, ap (λ (e : CatEntry). page_place e.root) (entry_same c.entry root.0 (sym entry_at ∙ root.1)) ∙ sym root.2)
    back place (inr (inl entry)) = (1, omega arith, sym entry)
    back place (inr (inr (inl next))) = (2, omega arith, ap (entry_place catalog_node) (sym as_many) ∙ sym next)
    back place (inr (inr (inr count))) = (3, omega arith, of_write (subst (λ (l : List Place). Contains l place) written_are count.1))
      where
        of_write : Contains (page_place c.entry.root ∷ page_place c.slot ∷ others) place → count_place (node_no node) ≡ place
        of_write (zero, l, e) = absurd (not_count c.entry.root count.0.0 place e count.0.1)
        of_write (suc zero, l, e) = absurd (not_count c.slot count.0.0 place e count.0.1)
        of_write (suc (suc k), l, e) = only_count count.0.0 place count.0.1 (k, omega arith, e)

    pub compares_are : (range : Place) → Contains (compare_places mini) range ↔ ((place : Place) × Wanted place × (range ≡ front_place place))
    compares_are range = subst (λ (l : List Place). Contains l range ↔ ((place : Place) × Wanted place × (range ≡ front_place place))) (sym compared_are)
        (fronts_compared (page_place c.entry.root ∷ entry_place catalog_node v ∷ entry_place catalog_node w ∷ count_place (node_no node) ∷ []) Wanted (λ place. (there place, back place)) range)

    -- Numbers

    pub numbers : ((n : ℕ) → n < node_count f → AllByRecursion (λ (x : Numbered). HasNextNumber memory (write_entry (node_no n) x.0 x.1)) ws) → AllByRecursion (HasNextNumber memory) mini.items
    numbers of_entries =
        let go = numbers_go_on memory store holds in (
          tt,
          (
            tt,
            (
              tt,
              (
                tt,
                (
                  go.changed c.entry.root c.root marked root_at are_pages.0 (next_is c.root.seq is.seq),
                  (
                    go.new c.slot copy (free.0).0.0 (free.0).0.1 (free.0).0.3 are_pages.1 refl,
                    subst (AllByRecursion (HasNextNumber memory)) (sym (map-append write_of (images_on ws ns) (count_written c ∷ [])))
                        (all_append (HasNextNumber memory) (map write_of (images_on ws ns)) (write_count (node_no node) (c.slot.slot + 1) ∷ []) (each 0 nodes (omega arith)) (go.counts (node_no node) (c.slot.slot + 1), tt)),
                  ),
                ),
              ),
            ),
          ),
        )
      where
        here : (n : ℕ) (xs : List Numbered) → AllByRecursion (λ (x : Numbered). HasNextNumber memory (write_entry (node_no n) x.0 x.1)) xs → AllByRecursion (HasNextNumber memory) (map write_of (map (numbered_image n) xs))
        here n [] all = tt
        here n (x ∷ xs) all = (all.0, here n xs all.1)

        each : (a k : ℕ) → a + k ≤ nodes → AllByRecursion (HasNextNumber memory) (map write_of (images_on ws (range_with_len a k)))
        each a zero low = tt
        each a (suc k) low =
            subst (AllByRecursion (HasNextNumber memory)) (sym (map-append write_of (map (numbered_image a) ws) (images_on ws (range_with_len (a + 1) k))))
            (all_append (HasNextNumber memory) (map write_of (map (numbered_image a) ws)) (map write_of (images_on ws (range_with_len (a + 1) k)))
            (here a ws (of_entries a (subst (λ (m : ℕ). a < m) few_nodes (omega arith)))) (each (a + 1) k (omega arith)))

    -- Places

    pub pages_written : WritesPages f mini
    pages_written = record {
      changed = c.entry.root ∷ [];
      new = new;
      others = others;
      written = written_are;
      as_compared = subst (IsPickOf (front_place (page_place c.entry.root) ∷ [])) (sym compared_are) (inl (refl, tt));
      free = ((free.0).0.0, tt);
      items = ((are_pages.1, (5, omega arith, refl)), tt);
      in_order = (tt, tt);
      no_more = all_append (λ place. IsPagePlace place → ⊥) entry_places (count_place (node_no node) ∷ []) (all_places (λ place. IsPagePlace place → ⊥) ws ns (λ m. no_page m ws))
          (λ page. not_count page.0 (node_no node) (count_place (node_no node)) (sym page.1) refl, tt);
      counted = all_append GetsPage entry_places (count_place (node_no node) ∷ []) (all_places GetsPage ws ns (λ m. no_entry m ws)) (λ n e. (record { addr = c.slot; page = copy }, (0, omega arith, refl), ap (λ (p : Place). p.node) e), tt);
    }
      where
        GetsPage : Place → Type 0
        GetsPage place = (n : NodeNo) → place ≡ count_place n → (h : Held) × Contains new h × (h.addr.node ≡ n)

        no_page : (m : ℕ) (xs : List Numbered) → AllByRecursion (λ (x : Numbered). IsPagePlace (entry_place (node_no m) x.0) → ⊥) xs
        no_page m [] = tt
        no_page m (x ∷ xs) = (λ page. entry_no_page (node_no m) x.0 page.0 (entry_place (node_no m) x.0) refl page.1, no_page m xs)

        no_entry : (m : ℕ) (xs : List Numbered) → AllByRecursion (λ (x : Numbered). GetsPage (entry_place (node_no m) x.0)) xs
        no_entry m [] = tt
        no_entry m (x ∷ xs) = (λ n e. absurd (entry_no_count (node_no m) n x.0 (entry_place (node_no m) x.0) refl e), no_entry m xs)

    pub wholes : AllByRecursion IsWholePlace (write_places mini)
    wholes =
        subst (AllByRecursion IsWholePlace) (sym written_are)
        (inl (c.entry.root, refl), (inl (c.slot, refl), all_append IsWholePlace entry_places (count_place (node_no node) ∷ []) (all_places IsWholePlace ws ns (λ m. each m ws places)) (inr (inr (node_no node, refl)), tt)))
      where
        each : (m : ℕ) (xs : List Numbered) → AllByRecursion (λ (x : Numbered). (x.0 < 64) × IsEntry x.1) xs → AllByRecursion (λ (x : Numbered). IsWholePlace (entry_place (node_no m) x.0)) xs
        each m [] all = tt
        each m (x ∷ xs) all = (inr (inl (node_no m, x.0, (all.0).0, refl)), each m xs all.1)

    pub once : ImagesAreApart (writes_of nodes c ws) → ComeOnce (write_places mini)
    once apart' = subst ComeOnce (sym (written (child_reads c) (writes_of nodes c ws))) (places_once (writes_of nodes c ws) apart')

    pub compared_once : ImagesAreApart (child_reads c) → ComeOnce (compare_places mini)
    compared_once apart' = subst ComeOnce (sym (compared (child_reads c) (writes_of nodes c ws))) (fronts_once (child_reads c) apart')

    -- what the operation's plan does
    pub acts : (op : Op) → op_version op ≡ c.name → Holds (memory_after memory mini.items) (applied store op).store → says.Made ≡ (applied store op).reply
        → ((range : Place) → Contains (compare_places mini) range ↔ IsComparedFront f store v op mini range) → ((n : ℕ) → n < node_count f → AllByRecursion (λ (x : Numbered). HasNextNumber memory (write_entry (node_no n) x.0 x.1)) ws) → ImagesAreApart (child_reads c)
        → ImagesAreApart (writes_of nodes c ws) → PlanActs memory store holds op mini says.Made
    acts op name effect' replies compares of_entries apart_reads apart' = record {
      effect = effect';
      replies = replies;
      compares = λ u at range. subst (λ k. Contains (compare_places mini) range ↔ IsComparedFront f store k op mini range) (same_number v u (sym number ∙ (ap (number_named (heads_of store)) (sym name) ∙ at))) (compares range);
      nowhere = λ none. absurd (named_not v (sym number ∙ (ap (number_named (heads_of store)) (sym name) ∙ none)));
      apart = compared_once apart_reads;
      wholes = wholes;
      once = once apart';
      numbers = numbers of_entries;
      pages = pages_written;
    }
      where
        same_number : (n m : ℕ) → Some n ≡ Some m → n ≡ m
        same_number n m e = cc

        named_not : (n : ℕ) → ◌≡◌ {A = Option ℕ} (Some n) None → ⊥
        named_not n e = cc

  -- The child's entry

  abbrev kid : CatEntry
  kid = child_entry c.version c.child c.slot

  within : v < length f.entries
  within = slice_get_within f.entries v c.entry entry_at

  kid_number : (n : ℕ) → n < node_count f → HasNextNumber memory (write_entry (node_no n) w kid)
  kid_number n there = subst (λ k. HasNextNumber memory (write_entry (node_no n) k kid)) as_many ((numbers_go_on memory store holds).next (node_no n) kid there (subst (λ k. k < 64) (sym as_many) few_kid) child_is refl)

  -- A Snapshot

  abbrev shut : CatEntry
  shut = frozen_entry c.entry

  pub snapshot_acts : SnapshotIsShown → c.entry.frozen ≡ false → c.entry.seq + 1 < 2 ^ 64 → ImagesAreApart (child_reads c) → ImagesAreApart (snapshot_writes nodes c)
      → PlanActs memory store holds (Snapshot c.name c.child) (record { nodes = nodes; items = map compare_of (child_reads c) ++ map write_of (snapshot_writes nodes c) }) says.Made
  snapshot_acts snapshot_is_shown writable low_seq apart_reads apart' =
      acts ws next places (Snapshot c.name c.child) refl
      (effect ws next places (applied store (Snapshot c.name c.child)).store (subst (λ (es : List CatEntry). AreShown es now (applied store (Snapshot c.name c.child)).store) (sym entries_are') (snapshot_is_shown f.entries (page_at f) now store c.name adding adds refused)))
      (sym (ap (λ r. (unless_refused store (Snapshot c.name c.child) r).reply) refused)) (λ place. compares_are ws next places place)
      (λ n there. ((numbers_go_on memory store holds).entries (node_no n) v c.entry shut there entry_at shut_is (next_is c.entry.seq low_seq), (kid_number n there, tt))) apart_reads apart'
    where
      ws : List Numbered
      ws = (v, shut) ∷ (w, kid) ∷ []

      refused : refusal (heads_of store) (Snapshot c.name c.child) ≡ None
      refused = ap (refusal_at (heads_of store) (Snapshot c.name c.child)) found ∙ (ap (λ b. if b then Some says.Frozen else child_refusal (heads_of store) c.child) writable ∙ still)

      shut_is : IsEntry shut
      shut_is = record {
        seq_low = let e = next_is c.entry.seq low_seq in omega arith;
        seq_high = subst (λ k. k < 2 ^ 64) (sym (next_is c.entry.seq low_seq)) low_seq;
        parent = is.entry.parent;
        root = is.entry.root;
        name = is.entry.name;
      }

      set_long : length (slice_set f.entries v shut) ≡ length f.entries
      set_long = length-set f.entries v shut

      first_is : entries_with f.entries v shut ≡ slice_set f.entries v shut
      first_is = with_within f.entries v shut within

      entries_are' : entries_after f.entries ws ≡ after_snapshot f.entries adding
      entries_are' = ap (λ (es : List CatEntry). entries_with es w kid) first_is ∙ with_behind (slice_set f.entries v shut) w kid (sym as_many ∙ sym set_long)

      next : AreNextEntries f.entries ws
      next = (omega (arith, within), few, shut_is, (let long = ap (λ (es : List CatEntry). length es) first_is ∙ (set_long ∙ as_many) in omega arith, few_kid, child_is, tt))

      places : AllByRecursion (λ (x : Numbered). (x.0 < 64) × IsEntry x.1) ws
      places = ((few, shut_is), ((few_kid, child_is), tt))

  -- A Branch

  pub branch_acts : BranchIsShown → c.entry.frozen ≡ true → ImagesAreApart (child_reads c) → ImagesAreApart (branch_writes nodes c)
      → PlanActs memory store holds (Branch c.name c.child) (record { nodes = nodes; items = map compare_of (child_reads c) ++ map write_of (branch_writes nodes c) }) says.Made
  branch_acts branch_is_shown frozen apart_reads apart' =
      acts ws next places (Branch c.name c.child) refl
      (effect ws next places (applied store (Branch c.name c.child)).store (subst (λ (es : List CatEntry). AreShown es now (applied store (Branch c.name c.child)).store) (sym entries_are') (branch_is_shown f.entries (page_at f) now store c.name adding adds refused)))
      (sym (ap (λ r. (unless_refused store (Branch c.name c.child) r).reply) refused)) (λ place. compares_are ws next places place) (λ n there. (kid_number n there, tt)) apart_reads apart'
    where
      ws : List Numbered
      ws = (w, kid) ∷ []

      refused : refusal (heads_of store) (Branch c.name c.child) ≡ None
      refused = ap (refusal_at (heads_of store) (Branch c.name c.child)) found ∙ (ap (λ b. if b then child_refusal (heads_of store) c.child else Some says.NotFrozen) frozen ∙ still)

      entries_are' : entries_after f.entries ws ≡ after_branch f.entries adding
      entries_are' = with_behind f.entries w kid (sym as_many)

      next : AreNextEntries f.entries ws
      next = (omega (arith, as_many), few_kid, child_is, tt)

      places : AllByRecursion (λ (x : Numbered). (x.0 < 64) × IsEntry x.1) ws
      places = ((few_kid, child_is), tt)

-- The laws

pub writable_one : (b : Bool) {o : Option _} → (if b then Some says.Frozen else o) ≡ None → (b ≡ false) × (o ≡ None)
writable_one true e = absurd cc
writable_one false e = (refl, e)

pub frozen_one : (b : Bool) {o : Option _} → (if b then o else Some says.NotFrozen) ≡ None → (b ≡ true) × (o ≡ None)
frozen_one true e = (refl, e)
frozen_one false e = absurd cc

pub snapshot_is_planned : SnapshotIsShown → CopiesArePages → NextSlotsAreFree → WritesLeaveVersions → ComparesTell → NumbersGoOn → PlansAreInOrder → SnapshotIsPlanned
snapshot_is_planned snapshot_is_shown copies_are_pages next_slots_are_free writes_leave_versions compares_tell numbers_go_on in_order kept t c is may low apart_reads apart_writes reads_are writes_are es was_shown = record {
  shown = plan_shown es t was_shown;
  acts = λ memory store many sizes holds on hold.
      subst (λ (m : Mini). PlanActs memory store holds (Snapshot c.name c.child) m says.Made) (sym mini_is)
      (snapshot_acts copies_are_pages next_slots_are_free writes_leave_versions compares_tell numbers_go_on kept t.nodes c is admitted.1 memory store many holds on (map write_of (snapshot_writes t.nodes c)) es
      (subst (λ (m : Mini). ComparesHold es memory m.items) mini_is hold) (subst (ReadsAreShown es) reads_are (shown_in_order es t.reads was_shown)) snapshot_is_shown admitted.0 low (subst ImagesAreApart reads_are (apart_in_order t.reads apart_reads)) (subst ImagesAreApart writes_are (apart_in_order t.writes apart_writes)));
  order = in_order t apart_reads apart_writes;
  kind = tt;
}
  where
    admitted : (c.entry.frozen ≡ false) × (child_refusal kept c.child ≡ None)
    admitted = writable_one c.entry.frozen (sym (ap (refusal_at kept (Snapshot c.name c.child)) (head_found kept c.name c.version.0 (entry_head c.entry) is.named is.head)) ∙ may)

    mini_is : plan_of t ≡ record { nodes = t.nodes; items = map compare_of (child_reads c) ++ map write_of (snapshot_writes t.nodes c) }
    mini_is =
        ap (λ (rs : List Image). let m : Mini = record { nodes = t.nodes; items = map compare_of rs ++ map write_of (in_item_order t.writes) } in m) reads_are
        ∙ ap (λ (ws : List Image). let m : Mini = record { nodes = t.nodes; items = map compare_of (child_reads c) ++ map write_of ws } in m) writes_are

pub branch_is_planned : BranchIsShown → CopiesArePages → NextSlotsAreFree → WritesLeaveVersions → ComparesTell → NumbersGoOn → PlansAreInOrder → BranchIsPlanned
branch_is_planned branch_is_shown copies_are_pages next_slots_are_free writes_leave_versions compares_tell numbers_go_on in_order kept t c is may apart_reads apart_writes reads_are writes_are es was_shown = record {
  shown = plan_shown es t was_shown;
  acts = λ memory store many sizes holds on hold.
      subst (λ (m : Mini). PlanActs memory store holds (Branch c.name c.child) m says.Made) (sym mini_is)
      (branch_acts copies_are_pages next_slots_are_free writes_leave_versions compares_tell numbers_go_on kept t.nodes c is admitted.1 memory store many holds on (map write_of (branch_writes t.nodes c)) es
      (subst (λ (m : Mini). ComparesHold es memory m.items) mini_is hold) (subst (ReadsAreShown es) reads_are (shown_in_order es t.reads was_shown)) branch_is_shown admitted.0 (subst ImagesAreApart reads_are (apart_in_order t.reads apart_reads)) (subst ImagesAreApart writes_are (apart_in_order t.writes apart_writes)));
  order = in_order t apart_reads apart_writes;
  kind = tt;
}
  where
    admitted : (c.entry.frozen ≡ true) × (child_refusal kept c.child ≡ None)
    admitted = frozen_one c.entry.frozen (sym (ap (refusal_at kept (Branch c.name c.child)) (head_found kept c.name c.version.0 (entry_head c.entry) is.named is.head)) ∙ may)

    mini_is : plan_of t ≡ record { nodes = t.nodes; items = map compare_of (child_reads c) ++ map write_of (branch_writes t.nodes c) }
    mini_is =
        ap (λ (rs : List Image). let m : Mini = record { nodes = t.nodes; items = map compare_of rs ++ map write_of (in_item_order t.writes) } in m) reads_are
        ∙ ap (λ (ws : List Image). let m : Mini = record { nodes = t.nodes; items = map compare_of (child_reads c) ++ map write_of ws } in m) writes_are
