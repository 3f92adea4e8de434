-- A Put in place is planned.
use Rattle.std.proofs.Common.{◌≡◌, ℕ, zero, suc, ◌+◌, ◌*◌, ◌^◌, ◌<◌, ◌≤◌, ◌⊎◌, inl, inr, Bool, true, false, ◌&&◌, ◌||◌, List, [], ◌∷◌, length, take, drop, length-drop, Option, Some, None, refl, subst, sym, ap, ◌∙◌, arith, slice_get, slice_set, slice_index_or, Contains}
use Rattle.std.specs.Prelude.{nat_lt, min, unwrap_or, if◌then◌else◌, IsTrue, ◌↔◌}
use Rattle.std.proofs.lemmas.List.{length-take}
use Rattle.std.specs.Option.{option_map}
use Rattle.std.proofs.lemmas.Bool.{and_from, or_left}
use Rattle.std.proofs.lemmas.Option.{slice_get-map}
use Rattle.byteorder.specs.Endian.{big_bytes}
use Rattle.byteorder.specs.Numbers.{length-bytes_high_first}
use Rattle.std.specs.List.{AllByRecursion}
use Rattle.mn_base.proofs.Naturals.{below_or}
use Rattle.mn_base.specs.Store.{Head, Store, StoreVersion, heads_of, pairs_named, pairs_with, is_ascending, applied, unless_refused}
use Rattle.mn_base.specs.Tree.{parents_of, serves}
use Rattle.mn_base.specs.declared.ids.Addr.{Addr}
use Rattle.mn_base.specs.declared.ids.NodeNo.{NodeNo}
use Rattle.mn_base.specs.declared.reply.Pair.{Pair}
use Rattle.mn_base.specs.declared.reply.Reply.{Reply}
use Rattle.mn_base.specs.declared.op.Step.TheVariants.{Put}
use Rattle.mn_base.specs.declared.op.Op.TheVariants.{Tx}
use Rattle.mn_base.specs.declared.reply.Reply.TheVariants.{Values}
use Rattle.mn_mini.specs.Flat.{bytes_in, space_in, overwritten, memory_after}
use Rattle.mn_page.specs.declared.page.Page.{Page}
use Rattle.mn_page.specs.declared.page.Body.{Body}
use Rattle.mn_page.specs.declared.page.Body.TheVariants.{Leaf}
use Rattle.mn_page.specs.declared.entry.CatEntry.{CatEntry}
use Rattle.mn_page.specs.Grammar.{page_bytes, entry_bytes, IsPage, IsEntry, IsBody, IsKey, IsValue, height_of}
use Rattle.mn_page.specs.Forest.{Forest, page_at, entry_head, body_children}
use Rattle.mn_page.specs.Holds.{Holds, page_covers, pairs_in}
use Rattle.mn_page.specs.Laws.{IsLeafFor, OneLeaf}
use Rattle.mn_page.proofs.Grid.{all_at_place, all_at_places}
use Rattle.mn_base.proofs.Named.{NamedVersion, named, not_refused}
use Rattle.mn_page.proofs.Leaves.{version_in, one_leaf}
use Rattle.mn_page.proofs.Ancestors.{serves_alone, serves_own}
use Rattle.mn_base.proofs.PairsWith.{ascending-put, filter-put_inside, filter-put_outside, all-put}
use Rattle.mn_page.proofs.Alike.{Alike, with_page, re_paired, alike_forest, LeafChange, shows_change}
use Rattle.mn_page.proofs.Spelled.{page_length, entry_spelled_once}
use Rattle.mn_runs.specs.declared.entry.Entry.{Entry}
use Rattle.mn_law.specs.Places.{page_place, entry_place, count_place, IsNumbered, front_place}
use Rattle.mn_runs.specs.Seen.{Place}
use Rattle.mn_law.specs.Shown.{shown_in, ShowsLast, ShowsNumber}
use Rattle.mn_law.proofs.Last.{first_from}
use Rattle.mn_law.specs.Planned.{least_of, compare_places, entry_node, IsCompared, IsComparedFront, HasNextNumber, OnNumber, AgreesWith, may_precede, place_rank, ComparesHold, ContinuesCatalog, PlanActs}
use Rattle.mn_plans.specs.Plans.{IsLeafWithRoom, next_leaf, put_in_place, compare_page, compare_entry, compare_count, write_page, ShowsPage, ShowsEntry, PutIsPlanned}
use Rattle.mn_plans.proofs.Laying.{laid_is}
use Rattle.mn_plans.proofs.Spaces.{memory_by_pages, page_there, page_written, entry_read, memory_length}
use Rattle.mn_plans.proofs.Compares.{IsMet, compares_met, compared_place, still_named, page_rank, entry_rank, element_at}
use Rattle.mn_plans.proofs.Least.{beside_page, beside_entry}
use Rattle.mn_page.proofs.Counted.{counted, forest, listed, shows, IsCounted, IsPageIn, ListsStore, forest_heads, leaf_pairs_are, serves_in}

-- the leaf after a Put

abbrev new_leaf : Page → List Pair → List ℕ → List ℕ → Page
new_leaf p pairs key value = next_leaf p (pairs_with pairs key value)

pub next_is_page : (kept : List Head) (nodes : ℕ) (name key value : List ℕ) (v : ℕ) (e : CatEntry) (addr : Addr) (p : Page) (pairs : List Pair) → IsLeafWithRoom kept nodes name key value v e addr p pairs → IsPage (new_leaf p pairs key value)
next_is_page kept nodes name key value v e addr p pairs r =
    let old : IsBody p.low p.high (Leaf pairs) = subst (IsBody p.low p.high) r.leaf r.page.body in
    record {
      seq_low = omega arith;
      seq_high = r.number;
      made = r.page.made;
      copied = r.page.copied;
      copied_above = r.page.copied_above;
      low = r.page.low;
      high = r.page.high;
      fences = r.page.fences;
      body = (r.room, ascending-put key value pairs old.1, all-put (λ x. IsKey x.key × IsValue x.value × IsTrue (Rattle.mn_base.specs.Order.covers_key p.low p.high x.key)) key value pairs old.2 (r.is_key, r.is_value, r.covers));
    }

pub next_alike : (p : Page) (pairs old : List Pair) → p.body ≡ Leaf old → Alike p (next_leaf p pairs)
next_alike p pairs old leaf = record {
  made = refl;
  copied = refl;
  low = refl;
  high = refl;
  height = ap height_of (sym leaf);
  children = ap (body_children p.low p.high) (sym leaf);
}

-- the store after a Put
pub put_store : (store : Store) (name key value : List ℕ) (v : ℕ) (n : NamedVersion store name v) → n.version.head.frozen ≡ false
    → ((applied store (Tx name (Put key value ∷ []))).store ≡ slice_set store v (re_paired n.version (pairs_with n.version.pairs key value))) × (Values [] ≡ (applied store (Tx name (Put key value ∷ []))).reply)
put_store store name key value v n open_still =
    let free = not_refused (heads_of store) name (Put key value ∷ []) n.version.head n.head (ap (λ b. b && true) open_still) in (
      ap (λ (r : Option Reply). (unless_refused store (Tx name (Put key value ∷ [])) r).store) free ∙ (n.changed (pairs_with (pairs_named store name) key value) ∙ ap (λ (ps : List Pair). slice_set store v (re_paired n.version (pairs_with ps key value))) n.pairs),
      sym (ap (λ (r : Option Reply). (unless_refused store (Tx name (Put key value ∷ [])) r).reply) free),
    )

-- What a memory has where the compares hold
pub record PutFacts (f : Forest) (store : Store) (name key : List ℕ) (v : ℕ) (addr : Addr) (p : Page) : Type 0 where
  pub named : NamedVersion store name v
  pub writable : named.version.head.frozen ≡ false
  pub there : page_at f addr ≡ Some p
  pub serves : serves_in f v p ≡ true
  pub alone : (w : ℕ) → serves_in f w p ≡ true → w ≡ v
  pub one : OneLeaf f.entries (page_at f) v named.version key
  pub leaf : IsLeafFor f.entries (page_at f) v key addr p

pub put_facts : (kept : List Head) (nodes : ℕ) (name key value : List ℕ) (v : ℕ) (e : CatEntry) (addr : Addr) (p : Page) (pairs : List Pair) → IsLeafWithRoom kept nodes name key value v e addr p pairs
    → (f : Forest) (store : Store) → IsCounted f → ListsStore f store → addr.node.0 < length f.pages → ContinuesCatalog kept (heads_of store)
    → bytes_in (space_in (memory_by_pages f) addr.node) (20480 + 1024 * addr.slot) 1024 ≡ page_bytes p → bytes_in (space_in (memory_by_pages f) addr.node) (64 + 64 * v) 64 ≡ entry_bytes e
    → PutFacts f store name key v addr p
put_facts kept nodes name key value v e addr p pairs r f store sound shown in' on page entry =
    let n = named store name v (still_named kept (heads_of store) name v on r.named) in
    let there = page_there f sound addr p in' r.page page in
    let low = version_in f store v n.version (shows f store shown) n.there in
    let at_entry = element_at f.entries v low in
    let is_entry = entry_spelled_once at_entry.0 e (all_at_place IsEntry f.entries v at_entry.0 sound.entries at_entry.1) r.entry (sym (entry_read f sound addr.node v at_entry.0 in' at_entry.1) ∙ entry) in
    let head_at : slice_get (forest_heads f) v ≡ Some (entry_head e) = slice_get-map entry_head f.entries v ∙ (ap (option_map entry_head) at_entry.1 ∙ ap (λ (x : CatEntry). Some (entry_head x)) is_entry) in
    let version_at : slice_get (heads_of store) v ≡ Some n.version.head = slice_get-map (λ (x : StoreVersion). x.head) store v ∙ ap (option_map (λ (x : StoreVersion). x.head)) n.there in
    let both : Some n.version.head ≡ Some (entry_head e) = sym version_at ∙ (ap (λ (hs : List Head). slice_get hs v) shown.heads ∙ head_at) in
    let head : n.version.head ≡ entry_head e = cc in
    let of : IsPageIn f p = all_at_places (IsPageIn f) f.pages addr.node.0 addr.slot p sound.pages there in
    let made_at : slice_get (forest_heads f) p.made.0 ≡ Some (entry_head e) = ap (slice_get (forest_heads f)) r.made ∙ head_at in
    let serves_made : serves (parents_of (forest_heads f)) p.made.0 p.copied p.made.0 ≡ true = serves_own (forest_heads f) sound.tree p.made.0 p.copied (length f.entries) (entry_head e) made_at r.writable of.copied r.page.copied_above in
    let serves_v : serves_in f v p ≡ true = subst (λ k. serves (parents_of (forest_heads f)) p.made.0 p.copied k ≡ true) r.made serves_made in
    record {
      named = n;
      writable = ap (λ (h : Head). h.frozen) head ∙ r.writable;
      there = there;
      serves = serves_v;
      alone = λ w s. sym (serves_alone (forest_heads f) sound.tree p.made.0 p.copied w (entry_head e) made_at r.writable s) ∙ r.made;
      one = one_leaf f store v n.version key (forest f sound) (shows f store shown) n.there;
      leaf = record { there = there; level = ap height_of r.leaf; serves = serves_v; covers = r.covers };
    }

pub put_change : (kept : List Head) (nodes : ℕ) (name key value : List ℕ) (v : ℕ) (e : CatEntry) (addr : Addr) (p : Page) (pairs : List Pair) → IsLeafWithRoom kept nodes name key value v e addr p pairs
    → (f : Forest) (store : Store) → IsCounted f → ListsStore f store → (facts : PutFacts f store name key v addr p)
    → LeafChange f store addr p (new_leaf p pairs key value) v facts.named.version (pairs_with facts.named.version.pairs key value)
put_change kept nodes name key value v e addr p pairs r f store sound shown facts =
    let asc : is_ascending facts.named.version.pairs ≡ true = all_at_place (λ x. IsTrue (is_ascending x.pairs)) store v facts.named.version shown.ascending facts.named.there in
    record {
      there = facts.there;
      alike = next_alike p (pairs_with pairs key value) pairs r.leaf;
      at = facts.named.there;
      alone = facts.alone;
      ascending = ascending-put key value facts.named.version.pairs asc;
      here = filter-put_inside (λ k. page_covers k p) key value facts.named.version.pairs r.covers asc
          ∙ (ap (λ (ps : List Pair). pairs_with ps key value) (leaf_pairs_are f store v facts.named.version addr p shown facts.named.there facts.there facts.leaf.level facts.serves)
          ∙ ap (λ (b : Body). pairs_with (pairs_in b) key value) r.leaf);
      elsewhere = λ a x apart at flat serves. filter-put_outside (λ k. page_covers k x) key value facts.named.version.pairs (not_here a x apart at flat serves (page_covers key x) refl);
    }
  where
    not_here : (a : Addr) (x : Page) → (addr.node.0 ≡ a.node.0 → addr.slot ≡ a.slot → ⊥) → page_at f a ≡ Some x → height_of x.body ≡ 0 → serves_in f v x ≡ true → (b : Bool) → page_covers key x ≡ b → page_covers key x ≡ false
    not_here a x apart at flat serves false c = c
    not_here a x apart at flat serves true c =
        let same = facts.one.one.only addr p facts.leaf ∙ sym (facts.one.one.only a x (record { there = at; level = flat; serves = serves; covers = c })) in
        absurd (apart (ap (λ (y : Addr). y.node.0) same) (ap (λ (y : Addr). y.slot) same))

-- The plan

pub put_numbers : (memory : List (List ℕ)) (addr : Addr) (p q : Page) → bytes_in (space_in memory addr.node) (20480 + 1024 * addr.slot) 1024 ≡ page_bytes p → length (page_bytes q) ≡ 1024 → q.seq ≡ p.seq + 1 → p.seq + 1 < 2 ^ 64
    → HasNextNumber memory (write_page addr q)
put_numbers memory addr p q read long next low =
    inr (p.seq, low, ap (λ k. take 8 (bytes_in (space_in memory addr.node) (20480 + 1024 * addr.slot) k)) long ∙ ap (take 8) read, ap (big_bytes 8) next)

pub place_same : (node : NodeNo) (start a b : ℕ) → a ≡ b → ◌≡◌ {A = Place} (record { node = node; start = start; length = a }) (record { node = node; start = start; length = b })
place_same node start a b e = ap (λ k. let r : Place = record { node = node; start = start; length = k } in r) e

sizes_differ : ◌≡◌ {A = ℕ} 1024 8 → ⊥
sizes_differ e = absurd (omega arith)

pub not_count : (addr : Addr) (n : NodeNo) (place : Place) → page_place addr ≡ place → place ≡ count_place n → ⊥
not_count addr n place e f = sizes_differ (ap (λ (x : Place). x.length) (e ∙ f))

-- the list has just these places
two : (x y place : Place) → Contains (x ∷ y ∷ []) place → (x ≡ place) ⊎ (y ≡ place)
two x y place (zero, in', is) = inl is
two x y place (suc zero, in', is) = inr is
two x y place (suc (suc k), in', is) = absurd (omega arith)

only : (x place : Place) → Contains (x ∷ []) place → x ≡ place
only x place (zero, in', is) = is
only x place (suc k, in', is) = absurd (omega arith)

-- their first 8 bytes
pub front_page : (addr : Addr) (p : Page) → ◌≡◌ {A = Place} (record { node = addr.node; start = 20480 + 1024 * addr.slot; length = length (big_bytes 8 p.seq) }) (front_place (page_place addr))
front_page addr p = place_same addr.node (20480 + 1024 * addr.slot) (length (big_bytes 8 p.seq)) 8 (length-bytes_high_first 8 p.seq)

pub front_entry : (n : NodeNo) (v : ℕ) (e : CatEntry) → ◌≡◌ {A = Place} (record { node = n; start = 64 + 64 * v; length = length (big_bytes 8 e.seq) }) (front_place (entry_place n v))
front_entry n v e = place_same n (64 + 64 * v) (length (big_bytes 8 e.seq)) 8 (length-bytes_high_first 8 e.seq)

-- an entry does not stand where a page does
pub entry_not_page : (v slot : ℕ) → v < 64 → 64 + 64 * v ≡ 20480 + 1024 * slot → ⊥
entry_not_page v slot few same = absurd (omega arith)

-- the leaf's node is the only one that is named
put_node : (v : ℕ) (e : CatEntry) (addr : Addr) (p q : Page) → v < 64 → entry_node (compare_page addr p ∷ compare_entry addr.node v e ∷ write_page addr q ∷ []) ≡ addr.node
put_node v e addr p q few =
    ap (λ (ns : List ℕ). let n : NodeNo = record { 0 = unwrap_or (least_of ns) 0 } in n)
    (beside_page (compare_page addr p) (compare_entry addr.node v e ∷ write_page addr q ∷ []) addr.slot refl
    ∙ ap (λ (ns : List ℕ). addr.node.0 ∷ ns) (beside_entry (compare_entry addr.node v e) (write_page addr q ∷ []) v few refl ∙ beside_page (write_page addr q) [] addr.slot refl))
    ∙ same (nat_lt addr.node.0 addr.node.0)
  where
    same : (b : Bool) → (record { 0 = if b then addr.node.0 else addr.node.0 }) ≡ addr.node
    same true = refl
    same false = refl

put_compares : (f : Forest) (store : Store) (name key value : List ℕ) (v nodes : ℕ) (e : CatEntry) (addr : Addr) (p q : Page) → v < 64 → length (page_bytes q) ≡ 1024
    → PutFacts f store name key v addr p → (range : Place)
    → Contains (compare_places (record { nodes = nodes; items = compare_page addr p ∷ compare_entry addr.node v e ∷ write_page addr q ∷ [] })) range
    ↔ IsComparedFront f store v (Tx name (Put key value ∷ [])) (record { nodes = nodes; items = compare_page addr p ∷ compare_entry addr.node v e ∷ write_page addr q ∷ [] }) range
put_compares f store name key value v nodes e addr p q few lq facts range = (there, back)
  where
    written : ◌≡◌ {A = Place} (record { node = addr.node; start = 20480 + 1024 * addr.slot; length = length (page_bytes q) }) (page_place addr)
    written = place_same addr.node (20480 + 1024 * addr.slot) (length (page_bytes q)) 1024 lq

    there : Contains (compare_places (record { nodes = nodes; items = compare_page addr p ∷ compare_entry addr.node v e ∷ write_page addr q ∷ [] })) range
        → IsComparedFront f store v (Tx name (Put key value ∷ [])) (record { nodes = nodes; items = compare_page addr p ∷ compare_entry addr.node v e ∷ write_page addr q ∷ [] }) range
    there c = elim (two _ _ range c) as (λ _. IsComparedFront f store v (Tx name (Put key value ∷ [])) (record { nodes = nodes; items = compare_page addr p ∷ compare_entry addr.node v e ∷ write_page addr q ∷ [] }) range) [
      | inl is ↦ (page_place addr, inl (addr, p, refl, facts.there, facts.leaf.level, facts.serves, or_left _ _ facts.leaf.covers), sym is ∙ front_page addr p)
      | inr is ↦ (entry_place addr.node v, inr (inl (refl, ap (λ (n : NodeNo). entry_place n v) (sym (put_node v e addr p q few)))), sym is ∙ front_entry addr.node v e)
    ]

    or_none : (b : Bool) → (b || false) ≡ true → b ≡ true
    or_none true e = refl
    or_none false e = e

    at_first : (place : Place) → page_place addr ≡ place → range ≡ front_place place → Contains (compare_places (record { nodes = nodes; items = compare_page addr p ∷ compare_entry addr.node v e ∷ write_page addr q ∷ [] })) range
    at_first place is front = (0, omega arith, front_page addr p ∙ (ap front_place is ∙ sym front))

    which : (place : Place) → range ≡ front_place place → IsCompared f store v (Tx name (Put key value ∷ [])) (record { nodes = nodes; items = compare_page addr p ∷ compare_entry addr.node v e ∷ write_page addr q ∷ [] }) place
        → Contains (compare_places (record { nodes = nodes; items = compare_page addr p ∷ compare_entry addr.node v e ∷ write_page addr q ∷ [] })) range
    which place front (inl leaf) =
        let same = facts.one.one.only addr p facts.leaf ∙ sym (facts.one.one.only leaf.0 leaf.1 (record { there = leaf.3; level = leaf.4; serves = leaf.5; covers = or_none _ leaf.6 })) in
        at_first place (ap page_place same ∙ sym leaf.2) front
    which place front (inr (inl entry)) = (1, omega arith, front_entry addr.node v e ∙ (ap front_place (sym (entry.1 ∙ ap (λ (n : NodeNo). entry_place n v) (put_node v e addr p q few))) ∙ sym front))
    which place front (inr (inr (inl old))) = at_first place (sym written ∙ only _ place old.4) front
    which place front (inr (inr (inr count))) = absurd (not_count addr count.0.0 place (sym written ∙ only _ place count.1) count.0.1)

    back : IsComparedFront f store v (Tx name (Put key value ∷ [])) (record { nodes = nodes; items = compare_page addr p ∷ compare_entry addr.node v e ∷ write_page addr q ∷ [] }) range
        → Contains (compare_places (record { nodes = nodes; items = compare_page addr p ∷ compare_entry addr.node v e ∷ write_page addr q ∷ [] })) range
    back (place, compared, front) = which place front compared

-- What the memory has where a number is met, and the list has shown it so last

-- a slot whose number is met is one of the space
pub met_slot : (memory : List (List ℕ)) (addr : Addr) (seq : ℕ) → AllByRecursion (λ space. length space ≡ 4214784) memory → bytes_in (space_in memory addr.node) (20480 + 1024 * addr.slot) (length (big_bytes 8 seq)) ≡ big_bytes 8 seq → addr.slot < 4096
met_slot memory addr seq sizes met = by (below_or addr.slot 4096)
  where
    long : length (bytes_in (space_in memory addr.node) (20480 + 1024 * addr.slot) 8) ≡ 8
    long = ap (λ (k : ℕ). length (bytes_in (space_in memory addr.node) (20480 + 1024 * addr.slot) k)) (sym (length-bytes_high_first 8 seq)) ∙ (ap (λ (l : List ℕ). length l) met ∙ length-bytes_high_first 8 seq)

    few : (m : List (List ℕ)) (n : ℕ) → AllByRecursion (λ space. length space ≡ 4214784) m → length (slice_index_or m n []) ≤ 4214784
    few [] n all = omega arith
    few (x ∷ xs) zero all = let l = all.0 in omega (arith, l)
    few (x ∷ xs) (suc n) all = few xs n all.1

    by : (addr.slot < 4096) ⊎ (4096 ≤ addr.slot) → addr.slot < 4096
    by (inl low) = low
    by (inr high) =
        let f : length (space_in memory addr.node) ≤ 4214784 = few memory addr.node.0 sizes in
        let nothing : length (drop (20480 + 1024 * addr.slot) (space_in memory addr.node)) ≡ 0 = length-drop (20480 + 1024 * addr.slot) (space_in memory addr.node) ∙ (let g = f in omega (arith, g, high)) in
        let none : length (bytes_in (space_in memory addr.node) (20480 + 1024 * addr.slot) 8) ≡ min 8 (length (drop (20480 + 1024 * addr.slot) (space_in memory addr.node))) = length-take 8 (drop (20480 + 1024 * addr.slot) (space_in memory addr.node)) in
        absurd (omega (arith, long, nothing, none))

pub met_page : (es : List Entry) (memory : List (List ℕ)) (addr : Addr) (p : Page) → AllByRecursion (λ space. length space ≡ 4214784) memory → IsMet memory (compare_page addr p) → OnNumber (AgreesWith es memory) (compare_page addr p) → ShowsPage es addr p
    → bytes_in (space_in memory addr.node) (20480 + 1024 * addr.slot) 1024 ≡ page_bytes p
met_page es memory addr p sizes met agrees shown = compared_place es memory (page_place addr) (big_bytes 8 p.seq) (page_bytes p) (inl (addr, met_slot memory addr p.seq sizes met, refl)) (length-bytes_high_first 8 p.seq) agrees shown

pub met_entry : (es : List Entry) (memory : List (List ℕ)) (n : NodeNo) (v : ℕ) (e : CatEntry) → v < 64 → OnNumber (AgreesWith es memory) (compare_entry n v e) → ShowsEntry es n v e
    → bytes_in (space_in memory n) (64 + 64 * v) 64 ≡ entry_bytes e
met_entry es memory n v e few agrees shown = compared_place es memory (entry_place n v) (big_bytes 8 e.seq) (entry_bytes e) (inr (n, v, few, refl)) (length-bytes_high_first 8 e.seq) agrees shown

-- a list that shows a page last with its number shows its number, and so of an entry
pub shows_number : (es : List Entry) (place : Place) (number bytes : List ℕ) → ShowsLast es place number bytes → ShowsNumber es place number
shows_number es place number bytes last = let f = first_from (shown_in es) place number bytes last in (bytes, (f.0, f.1, f.2.0), f.2.1)

page_apart : (a b : Addr) → front_place (page_place a) ≡ front_place (page_place b) → page_place a ≡ page_place b
page_apart a b e =
    let start : 20480 + 1024 * a.slot ≡ 20480 + 1024 * b.slot = ap (λ (x : Place). x.start) e in
    let slot : a.slot ≡ b.slot = omega (arith, start) in
    ap (λ (n : NodeNo). page_place (record { node = n; slot = a.slot })) (ap (λ (x : Place). x.node) e) ∙ ap (λ (s : ℕ). page_place (record { node = b.node; slot = s })) slot

entry_apart : (n m : NodeNo) (v w : ℕ) → front_place (entry_place n v) ≡ front_place (entry_place m w) → entry_place n v ≡ entry_place m w
entry_apart n m v w e =
    let start : 64 + 64 * v ≡ 64 + 64 * w = ap (λ (x : Place). x.start) e in
    let same : v ≡ w = omega (arith, start) in
    ap (λ (o : NodeNo). entry_place o v) (ap (λ (x : Place). x.node) e) ∙ ap (entry_place m) same

pub shows_page : (es : List Entry) (addr : Addr) (p : Page) → ShowsPage es addr p → OnNumber (ShowsNumber es) (compare_page addr p)
shows_page es addr p shown = λ place numbered front. by place numbered (front ∙ front_page addr p)
  where
    by : (place : Place) → IsNumbered place → front_place place ≡ front_place (page_place addr) → ShowsNumber es place (big_bytes 8 p.seq)
    by place (inl (a, few, is)) front = subst (λ (x : Place). ShowsNumber es x (big_bytes 8 p.seq)) (sym (is ∙ page_apart a addr (ap front_place (sym is) ∙ front))) (shows_number es (page_place addr) (big_bytes 8 p.seq) (page_bytes p) shown)
    by place (inr (n, v, few, is)) front = let start : 64 + 64 * v ≡ 20480 + 1024 * addr.slot = ap (λ (x : Place). x.start) (ap front_place (sym is) ∙ front) in absurd (omega (arith, start, few))

pub shows_entry : (es : List Entry) (n : NodeNo) (v : ℕ) (e : CatEntry) → v < 64 → ShowsEntry es n v e → OnNumber (ShowsNumber es) (compare_entry n v e)
shows_entry es n v e low shown = λ place numbered front. by place numbered (front ∙ front_entry n v e)
  where
    by : (place : Place) → IsNumbered place → front_place place ≡ front_place (entry_place n v) → ShowsNumber es place (big_bytes 8 e.seq)
    by place (inr (m, w, few, is)) front = subst (λ (x : Place). ShowsNumber es x (big_bytes 8 e.seq)) (sym (is ∙ entry_apart m n w v (ap front_place (sym is) ∙ front))) (shows_number es (entry_place n v) (big_bytes 8 e.seq) (entry_bytes e) shown)
    by place (inl (a, few, is)) front = let start : 20480 + 1024 * a.slot ≡ 64 + 64 * v = ap (λ (x : Place). x.start) (ap front_place (sym is) ∙ front) in absurd (omega (arith, start, low))

-- a count has no number
pub shows_count : (es : List Entry) (n : NodeNo) (count : ℕ) → OnNumber (ShowsNumber es) (compare_count n count)
shows_count es n count = λ place numbered front. absurd (by place numbered front)
  where
    by : (place : Place) → IsNumbered place → front_place place ≡ record { node = n; start = 16; length = length (big_bytes 8 count) } → ⊥
    by place (inl (a, few, is)) front = let start : 20480 + 1024 * a.slot ≡ 16 = ap (λ (x : Place). x.start) (ap front_place (sym is) ∙ front) in absurd (omega (arith, start))
    by place (inr (m, w, few, is)) front = let start : 64 + 64 * w ≡ 16 = ap (λ (x : Place). x.start) (ap front_place (sym is) ∙ front) in absurd (omega (arith, start))

-- what is named is there
pub named_not : (v : ℕ) → ◌≡◌ {A = Option ℕ} (Some v) None → ⊥
named_not v e = cc

put_acts : (kept : List Head) (nodes : ℕ) (name key value : List ℕ) (v : ℕ) (e : CatEntry) (addr : Addr) (p : Page) (pairs : List Pair) → IsLeafWithRoom kept nodes name key value v e addr p pairs
    → (es : List Entry) → ShowsPage es addr p → ShowsEntry es addr.node v e → (memory : List (List ℕ)) (store : Store) → length memory ≡ nodes → AllByRecursion (λ space. length space ≡ 4214784) memory → (holds : Holds memory store) → ContinuesCatalog kept (heads_of store)
    → ComparesHold es memory (put_in_place nodes key value v e addr p pairs).items → PlanActs memory store holds (Tx name (Put key value ∷ [])) (put_in_place nodes key value v e addr p pairs) (Values [])
put_acts kept nodes name key value v e addr p pairs r es page_shown entry_shown memory store many sizes holds on hold =
    let sound = counted holds.forest holds.sound in
    let shown = listed holds.forest store holds.shown in
    let is_spelled : memory ≡ memory_by_pages holds.forest = holds.spelled ∙ laid_is holds.forest in
    let q = new_leaf p pairs key value in
    let spelled : IsPage (new_leaf p pairs key value) = next_is_page kept nodes name key value v e addr p pairs r in
    let lq : length (page_bytes (new_leaf p pairs key value)) ≡ 1024 = page_length (new_leaf p pairs key value) spelled in
    let mets = compares_met es memory (put_in_place nodes key value v e addr p pairs).items hold in
    let page : bytes_in (space_in memory addr.node) (20480 + 1024 * addr.slot) 1024 ≡ page_bytes p = met_page es memory addr p sizes mets.0 hold.agrees.0 page_shown in
    let entry : bytes_in (space_in memory addr.node) (64 + 64 * v) 64 ≡ entry_bytes e = met_entry es memory addr.node v e r.few (hold.agrees.1).0 entry_shown in
    let nodes_are : nodes ≡ length holds.forest.pages = sym many ∙ (ap (λ (m : List (List ℕ)). length m) is_spelled ∙ memory_length holds.forest) in
    let in' : addr.node.0 < length holds.forest.pages = subst (λ k. addr.node.0 < k) nodes_are r.node in
    let facts = put_facts kept nodes name key value v e addr p pairs r holds.forest store sound shown in' on
    (ap (λ (m : List (List ℕ)). bytes_in (space_in m addr.node) (20480 + 1024 * addr.slot) 1024) (sym is_spelled) ∙ page)
    (ap (λ (m : List (List ℕ)). bytes_in (space_in m addr.node) (64 + 64 * v) 64) (sym is_spelled) ∙ entry) in
    let change = put_change kept nodes name key value v e addr p pairs r holds.forest store sound shown facts in
    let stored = put_store store name key value v facts.named facts.writable in
    record {
      effect = subst (Holds (memory_after memory (put_in_place nodes key value v e addr p pairs).items)) (sym stored.0) (record {
        forest = with_page holds.forest addr (new_leaf p pairs key value);
        spelled = ap (λ (m : List (List ℕ)). slice_set m addr.node.0 (overwritten (space_in m addr.node) (20480 + 1024 * addr.slot) (page_bytes (new_leaf p pairs key value)))) is_spelled
            ∙ page_written holds.forest sound addr p (new_leaf p pairs key value) facts.there spelled ∙ sym (laid_is (with_page holds.forest addr (new_leaf p pairs key value)));
        sound = forest (with_page holds.forest addr (new_leaf p pairs key value)) (alike_forest holds.forest sound addr p (new_leaf p pairs key value) facts.there change.alike spelled);
        shown = shows (with_page holds.forest addr (new_leaf p pairs key value)) (slice_set store v (re_paired facts.named.version (pairs_with facts.named.version.pairs key value))) (shows_change holds.forest store addr p (new_leaf p pairs key value) v facts.named.version (pairs_with facts.named.version.pairs key value) sound shown change);
      });
      replies = stored.1;
      compares = λ w is place. subst
          (λ k. Contains (compare_places (put_in_place nodes key value v e addr p pairs)) place ↔ IsComparedFront holds.forest store k (Tx name (Put key value ∷ [])) (put_in_place nodes key value v e addr p pairs) place)
          (same_some v w (sym (still_named kept (heads_of store) name v on r.named) ∙ is))
          (put_compares holds.forest store name key value v nodes e addr p (new_leaf p pairs key value) r.few lq facts place);
      nowhere = λ none. absurd (named_not v (sym (still_named kept (heads_of store) name v on r.named) ∙ none));
      apart = (((λ e. entry_not_page v addr.slot r.few (ap (λ (x : Place). x.start) e)), tt), (tt, tt));
      wholes = (inl (addr, place_same addr.node (20480 + 1024 * addr.slot) (length (page_bytes (new_leaf p pairs key value))) 1024 lq), tt);
      once = (tt, tt);
      numbers = (tt, (tt, (put_numbers memory addr p (new_leaf p pairs key value) page lq refl r.number, tt)));
      pages = record {
        changed = addr ∷ [];
        new = [];
        others = [];
        written = ap (λ (place : Place). place ∷ []) (place_same addr.node (20480 + 1024 * addr.slot) (length (page_bytes (new_leaf p pairs key value))) 1024 lq);
        as_compared = inl (sym (front_page addr p), tt);
        free = tt;
        items = tt;
        in_order = tt;
        no_more = tt;
        counted = tt;
      };
    }
  where
    same_some : (a b : ℕ) → Some a ≡ Some b → a ≡ b
    same_some a b e = cc

pub put_is_planned : PutIsPlanned
put_is_planned kept nodes name key value v e addr p pairs r es page_shown entry_shown = record {
  shown = (shows_page es addr p page_shown, (shows_entry es addr.node v e r.few entry_shown, (tt, tt)));
  acts = λ memory store many sizes holds on hold. put_acts kept nodes name key value v e addr p pairs r es page_shown entry_shown memory store many sizes holds on hold;
  order = and_from (may_precede addr.node (20480 + 1024 * addr.slot) addr.node (64 + 64 * v)) true
      (or_left (nat_lt (place_rank (20480 + 1024 * addr.slot)) (place_rank (64 + 64 * v))) _ (ap (λ k. nat_lt k (place_rank (64 + 64 * v))) (page_rank addr.slot) ∙ ap (nat_lt 0) (entry_rank v r.few)))
      refl;
  kind = tt;
}
