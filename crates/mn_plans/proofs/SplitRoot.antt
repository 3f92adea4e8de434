-- A Put that splits a root leaf is planned.
use Rattle.std.proofs.Common.{◌≡◌, ℕ, zero, suc, ◌+◌, ◌-◌, ◌*◌, ◌^◌, ◌<◌, ◌≤◌, ◌⊎◌, inl, inr, Bool, true, false, not, ◌&&◌, ◌||◌, List, [], ◌∷◌, ◌++◌, length, take, replicate, Option, Some, None, refl, subst, sym, ap, ◌∙◌, arith, slice_get, slice_set, slice_index_or, Contains}
use Rattle.std.specs.Prelude.{filter, nat_eq, nat_lt, IsTrue, ◌↔◌}
use Rattle.std.specs.List.{AllByRecursion, flat_map}
use Rattle.std.specs.Option.{option_map}
use Rattle.std.proofs.lemmas.Bool.{and_from, or_left}
use Rattle.std.proofs.lemmas.List.{length-append, length-set, set-set, take-replicate, drop-replicate}
use Rattle.std.proofs.lemmas.Option.{slice_get-map, slice_get_past}
use Rattle.byteorder.specs.Endian.{big_bytes}
use Rattle.mn_base.specs.Order.{key_lt, covers_key}
use Rattle.mn_base.specs.Store.{Head, Store, StoreVersion, heads_of, pairs_with, is_ascending}
use Rattle.mn_base.specs.declared.ids.Addr.{Addr}
use Rattle.mn_base.specs.declared.ids.NodeNo.{NodeNo}
use Rattle.mn_base.specs.declared.reply.Pair.{Pair}
use Rattle.mn_base.specs.declared.op.Step.TheVariants.{Put}
use Rattle.mn_base.specs.declared.op.Op.TheVariants.{Tx}
use Rattle.mn_base.specs.declared.reply.Reply.TheVariants.{Values}
use Rattle.mn_mini.specs.declared.item.Item.{Item}
use Rattle.mn_mini.specs.Flat.{bytes_in, space_in, overwritten, memory_after}
use Rattle.mn_page.specs.declared.page.Page.{Page}
use Rattle.mn_page.specs.declared.page.Body.TheVariants.{Leaf}
use Rattle.mn_page.specs.declared.entry.CatEntry.{CatEntry}
use Rattle.mn_page.specs.Grammar.{padded, page_bytes, entry_bytes, IsPage, IsEntry, IsBody, IsKey, IsValue, IsAddr, height_of}
use Rattle.mn_page.specs.Forest.{Forest, Laid, memory_laid, laid_of, front_of, header_bytes, page_at, entry_head}
use Rattle.mn_page.specs.Holds.{Holds, page_covers, pairs_in}
use Rattle.mn_page.specs.Laws.{IsLeafFor, OneLeaf}
use Rattle.mn_page.proofs.Grid.{all_at_place, all_split}
use Rattle.mn_base.proofs.Named.{NamedVersion, named}
use Rattle.mn_page.proofs.Leaves.{version_in, one_leaf}
use Rattle.mn_base.proofs.Keys.{not_below, turned}
use Rattle.mn_base.proofs.PairsWith.{ascending-put, all-put, two_parts}
use Rattle.mn_base.proofs.Lists.{all_append, all_both}
use Rattle.mn_page.proofs.Alike.{re_paired, all-set}
use Rattle.mn_page.proofs.Spelled.{length-padded, page_length, entry_spelled_once, big_bytes-inj}
use Rattle.mn_page.proofs.Split.{Split, CanSplit, split_forest, with_root, with_left, new_root, left_page, right_page, split_is_forest, CutPairs, shows_split, old_serves, old_covers, lt_nil}
use Rattle.mn_runs.specs.declared.entry.Entry.{Entry}
use Rattle.mn_law.specs.Places.{page_place, entry_place, count_place, front_place}
use Rattle.mn_runs.specs.Seen.{Place}
use Rattle.mn_law.specs.Planned.{nodes_beside, entry_node, compare_places, write_places, IsCompared, IsComparedFront, HasNextNumber, WritesPages, ComparesHold, ContinuesCatalog, PlanActs, place_rank, IsWholePlace, ComeOnce}
use Rattle.mn_plans.specs.Plans.{compare_page, compare_entry, compare_count, write_page, write_count, slot_at, left_half, right_half, parent_of_halves, lesser_node, HasSplit, split_items, ShowsPage, ShowsEntry, SplitIsPlanned}
use Rattle.mn_law.proofs.Pieces.{bytes_in-skip, bytes_in-within, bytes_in-padded}
use Rattle.mn_plans.proofs.Spaces.{memory_by_pages, catalog_bytes, page_there, entry_read, memory_length, space_in-memory_by_pages, front_length, catalog_length, AreSlots, node_slots, text_length, get_in-index}
use Rattle.mn_plans.proofs.Laying.{HasSlots, on_each, on_as_many, laid_is, forest_laid, page_over, page_new, count_over}
use Rattle.mn_plans.proofs.Sizes.{index-set_in, index-add_in, sizes_of, sizes-set_in, sizes-add_in, index_below, index-set-all}
use Rattle.mn_plans.proofs.Compares.{compares_met, fronts_compared, still_named, page_rank, entry_rank, element_at}
use Rattle.mn_plans.proofs.Least.{entry_node_alike, least_all, beside_page, beside_count, beside_entry}
use Rattle.mn_plans.proofs.PutInPlace.{put_store, put_numbers, place_same, named_not, front_page, front_entry, entry_not_page, met_page, met_entry, shows_page, shows_entry, shows_count}
use Rattle.mn_page.proofs.Counted.{counted, forest, listed, shows, IsCounted, ListsStore, forest_heads, leaf_pairs_are}

-- A node's count

pub count_read : (f : Forest) → IsCounted f → (n : NodeNo) → n.0 < length f.pages → bytes_in (space_in (memory_by_pages f) n) 16 8 ≡ big_bytes 8 (length (slice_index_or f.pages n.0 []))
count_read f sound n in' =
    ap (λ (s : List ℕ). bytes_in s 16 8) (space_in-memory_by_pages f n in')
    ∙ deep (header_bytes (length f.pages) n.0) (big_bytes 8 (length (slice_index_or f.pages n.0 []))) (padded 4096 (catalog_bytes f)) (flat_map page_bytes (slice_index_or f.pages n.0 [])) refl refl
    (front_length (length f.pages) n.0 (length (slice_index_or f.pages n.0 [])) (catalog_bytes f) (catalog_length f sound))
  where
    deep : (header was catalogs behind : List ℕ) → length header ≡ 16 → length was ≡ 8 → length (padded 20480 (padded 64 (header ++ was) ++ catalogs)) ≡ 20480
        → bytes_in (padded 4214784 (padded 20480 (padded 64 (header ++ was) ++ catalogs) ++ behind)) 16 8 ≡ was
    deep header was catalogs behind h w f =
        let head : length (header ++ was) ≡ 24 = length-append header was ∙ (ap (λ k. k + length was) h ∙ ap (λ k. 16 + k) w) in
        let padded_head : length (padded 64 (header ++ was)) ≡ 64 = length-padded 64 (header ++ was) (subst (λ k. k ≤ 64) (sym head) (omega arith)) in
        bytes_in-padded 4214784 (padded 20480 (padded 64 (header ++ was) ++ catalogs) ++ behind) 16 8 (low _ _ _ (length-append (padded 20480 (padded 64 (header ++ was) ++ catalogs)) behind) f (omega arith))
        ∙ (bytes_in-within (padded 20480 (padded 64 (header ++ was) ++ catalogs)) behind 16 8 (subst (λ k. 24 ≤ k) (sym f) (omega arith))
        ∙ (bytes_in-padded 20480 (padded 64 (header ++ was) ++ catalogs) 16 8 (low _ _ _ (length-append (padded 64 (header ++ was)) catalogs) padded_head (omega arith))
        ∙ (bytes_in-within (padded 64 (header ++ was)) catalogs 16 8 (subst (λ k. 24 ≤ k) (sym padded_head) (omega arith))
        ∙ (bytes_in-padded 64 (header ++ was) 16 8 (subst (λ k. 24 ≤ k) (sym head) (omega arith))
        ∙ (bytes_in-skip header was 16 0 8 (ap (λ k. k + 0) (sym h)) ∙ whole was w)))))
      where
        low : (a b c : ℕ) {m : ℕ} → a ≡ b + c → b ≡ m → 24 ≤ m → 24 ≤ a
        low a b c e f g = omega arith

        whole : (was : List ℕ) → length was ≡ 8 → take 8 was ≡ was
        whole was w = Rattle.std.proofs.lemmas.List.take_all 8 was (omega arith)

-- a free slot has zeros
pub free_read : (f : Forest) → IsCounted f → (n : NodeNo) (slot : ℕ) → n.0 < length f.pages → length (slice_index_or f.pages n.0 []) ≤ slot → slot < 4096 → bytes_in (space_in (memory_by_pages f) n) (20480 + 1024 * slot) 1024 ≡ replicate 1024 0
free_read f sound n slot in' past room =
    ap (λ (s : List ℕ). bytes_in s (20480 + 1024 * slot) 1024) (space_in-memory_by_pages f n in')
    ∙ behind (front_of (length f.pages) n.0 (length (slice_index_or f.pages n.0 [])) (catalog_bytes f) ++ flat_map page_bytes (slice_index_or f.pages n.0 [])) 4214784 (20480 + 1024 * slot) 1024
    (subst (λ k. k ≤ 20480 + 1024 * slot) (sym (text_length (front_of (length f.pages) n.0 (length (slice_index_or f.pages n.0 [])) (catalog_bytes f)) (slice_index_or f.pages n.0 [])
    (front_length (length f.pages) n.0 (length (slice_index_or f.pages n.0 [])) (catalog_bytes f) (catalog_length f sound)) (node_slots f sound n.0))) (omega arith))
    (omega arith)
  where
    behind : (a : List ℕ) (total s k : ℕ) → length a ≤ s → s + k ≤ total → bytes_in (padded total a) s k ≡ replicate k 0
    behind a total s k low high =
        bytes_in-skip a (replicate (total - length a) 0) s (s - length a) k (omega arith)
        ∙ (ap (take k) (drop-replicate (s - length a) (total - length a) 0) ∙ take-replicate k (total - length a - (s - length a)) 0 (omega arith))

-- The three pages

nil_lt : (k : List ℕ) → 1 ≤ length k → key_lt [] k ≡ true
nil_lt [] h = absurd (omega arith)
nil_lt (x ∷ k) h = refl

abbrev IsKept : Pair → Type 0
IsKept x = IsKey x.key × IsValue x.value

-- the pairs after the Put
pub record NewPairs (lows : List Pair) (first : Pair) (more : List Pair) : Type 0 where
  pub ascending : is_ascending (lows ++ first ∷ more) ≡ true
  pub lows_kept : AllByRecursion IsKept lows
  pub highs_kept : AllByRecursion IsKept (first ∷ more)

new_pairs : (kept : List Head) (nodes : ℕ) (name key value : List ℕ) (v : ℕ) (e : CatEntry) (p : Page) (pairs : List Pair) (n : NodeNo) (count : ℕ) (lows : List Pair) (first : Pair) (more : List Pair)
    → HasSplit kept nodes name key value v e p pairs n count lows first more → NewPairs lows first more
new_pairs kept nodes name key value v e p pairs n count lows first more r =
    let old : IsBody p.low p.high (Leaf pairs) = subst (IsBody p.low p.high) r.leaf r.page.body in
    let all : AllByRecursion IsKept (pairs_with pairs key value) = all-put IsKept key value pairs (all_both _ _ IsKept (λ x a b. (a.0, a.1)) pairs old.2 old.2) (r.is_key, r.is_value) in
    let parts = all_split IsKept lows (first ∷ more) (subst (AllByRecursion IsKept) r.parts all) in
    record { ascending = subst (λ (ps : List Pair). is_ascending ps ≡ true) r.parts (ascending-put key value pairs old.1); lows_kept = parts.0; highs_kept = parts.1 }

left_spelled : (p : Page) (lows : List Pair) (first : Pair) (more : List Pair) → IsPage p → NewPairs lows first more → length lows ≤ 8 → IsPage (left_half p lows first.key)
left_spelled p lows first more is new few =
    let two = two_parts lows first more new.ascending in
    let sep = (new.highs_kept.0).0 in
    record {
      seq_low = omega arith;
      seq_high = omega arith;
      made = is.made;
      copied = omega arith;
      copied_above = refl;
      low = (omega arith, refl);
      high = sep;
      fences = nil_lt first.key sep.0;
      body = (
        few,
        two.lows,
        all_both IsKept (λ x. key_lt x.key first.key ≡ true) (λ x. IsKey x.key × IsValue x.value × IsTrue (covers_key [] (Some first.key) x.key))
            (λ x a b. (a.0, a.1, ap (λ t. not t && key_lt x.key first.key) (lt_nil x.key) ∙ b)) lows new.lows_kept two.below,
      );
    }

right_spelled : (p : Page) (lows : List Pair) (first : Pair) (more : List Pair) → IsPage p → NewPairs lows first more → length (first ∷ more) ≤ 8 → IsPage (right_half p (first ∷ more) first.key)
right_spelled p lows first more is new few =
    let two = two_parts lows first more new.ascending in
    let sep = (new.highs_kept.0).0 in
    record {
      seq_low = omega arith;
      seq_high = omega arith;
      made = is.made;
      copied = omega arith;
      copied_above = refl;
      low = (sep.1, sep.2);
      high = tt;
      fences = refl;
      body = (
        few,
        two.highs,
        (
          (sep, (new.highs_kept.0).1, ap (λ t. not t && true) (not_below first.key)),
          all_both IsKept (λ x. key_lt first.key x.key ≡ true) (λ x. IsKey x.key × IsValue x.value × IsTrue (covers_key first.key None x.key))
              (λ x a b. (a.0, a.1, ap (λ t. not t && true) (turned first.key x.key b))) more new.highs_kept.1 two.above,
        ),
      );
    }

root_spelled : (p : Page) (lows : List Pair) (first : Pair) (more : List Pair) (l r : Addr) → IsPage p → NewPairs lows first more → p.seq + 1 < 2 ^ 64 → IsAddr l → IsAddr r → IsPage (parent_of_halves p first.key l r)
root_spelled p lows first more l r is new low al ar =
    let sep = (new.highs_kept.0).0 in
    record {
      seq_low = omega arith;
      seq_high = low;
      made = is.made;
      copied = is.copied;
      copied_above = is.copied_above;
      low = (omega arith, refl);
      high = tt;
      fences = refl;
      body = (omega arith, omega arith, omega arith, omega arith, al, refl, ((sep, ar, nil_lt first.key sep.0, refl), tt));
    }

-- What a memory has where the compares hold

abbrev pub split_of : Forest → CatEntry → Page → NodeNo → ℕ → List Pair → Pair → List Pair → Split
split_of f e p n count lows first more =
    record { forest = f; root = e.root; old = p; sep = first.key; lows = lows; highs = first ∷ more; left = slot_at n count; right = slot_at n (count + 1) }

pub record SplitFacts (f : Forest) (store : Store) (name : List ℕ) (v : ℕ) (e : CatEntry) (p : Page) (pairs : List Pair) (n : NodeNo) (count : ℕ) (lows : List Pair) (first : Pair) (more : List Pair) : Type 0 where
  pub named : NamedVersion store name v
  pub writable : named.version.head.frozen ≡ false
  pub can : CanSplit (split_of f e p n count lows first more) v e (entry_head e)
  pub pairs_are : named.version.pairs ≡ pairs
  pub count_is : count ≡ length (slice_index_or f.pages n.0 [])
  pub cut : CutPairs (split_of f e p n count lows first more) store v named.version

filter_every : {X : Type 0} (t : X → Bool) (xs : List X) → ((x : X) → t x ≡ true) → filter t xs ≡ xs
filter_every t [] all = refl
filter_every {X} t (x ∷ xs) all = ap (λ b. Rattle.std.specs.Prelude.cond b (x ∷ filter t xs) (filter t xs)) (all x) ∙ ap (λ (ys : List X). x ∷ ys) (filter_every t xs all)

-- the lesser of two nodes is one of them
lesser_below : (n m : NodeNo) (nodes : ℕ) → n.0 < nodes → m.0 < nodes → (lesser_node n m).0 < nodes
lesser_below n m nodes low also = least_all (λ k. k < nodes) (n.0 ∷ m.0 ∷ []) (low, (also, tt)) n.0 low

split_facts : (kept : List Head) (nodes : ℕ) (name key value : List ℕ) (v : ℕ) (e : CatEntry) (p : Page) (pairs : List Pair) (n : NodeNo) (count : ℕ) (lows : List Pair) (first : Pair) (more : List Pair)
    → HasSplit kept nodes name key value v e p pairs n count lows first more → (f : Forest) (store : Store) → IsCounted f → ListsStore f store → nodes ≡ length f.pages → ContinuesCatalog kept (heads_of store)
    → bytes_in (space_in (memory_by_pages f) e.root.node) (20480 + 1024 * e.root.slot) 1024 ≡ page_bytes p → bytes_in (space_in (memory_by_pages f) (lesser_node e.root.node n)) (64 + 64 * v) 64 ≡ entry_bytes e
    → bytes_in (space_in (memory_by_pages f) n) 16 8 ≡ big_bytes 8 count → SplitFacts f store name v e p pairs n count lows first more
split_facts kept nodes name key value v e p pairs n count lows first more r f store sound shown many on page entry count_there =
    let nv = named store name v (still_named kept (heads_of store) name v on r.named) in
    let in_root : e.root.node.0 < length f.pages = subst (λ k. e.root.node.0 < k) many r.node in
    let in_free : n.0 < length f.pages = subst (λ k. n.0 < k) many r.free_node in
    let there = page_there f sound e.root p in_root r.page page in
    let at_entry = element_at f.entries v (version_in f store v nv.version (shows f store shown) nv.there) in
    let is_entry = entry_spelled_once at_entry.0 e (all_at_place IsEntry f.entries v at_entry.0 sound.entries at_entry.1) r.entry (sym (entry_read f sound (lesser_node e.root.node n) v at_entry.0 (lesser_below e.root.node n (length f.pages) in_root in_free) at_entry.1) ∙ entry) in
    let entry_at : slice_get f.entries v ≡ Some e = at_entry.1 ∙ ap Some is_entry in
    let head_at : slice_get (forest_heads f) v ≡ Some (entry_head e) = slice_get-map entry_head f.entries v ∙ ap (option_map entry_head) entry_at in
    let version_at : slice_get (heads_of store) v ≡ Some nv.version.head = slice_get-map (λ (x : StoreVersion). x.head) store v ∙ ap (option_map (λ (x : StoreVersion). x.head)) nv.there in
    let both : Some nv.version.head ≡ Some (entry_head e) = sym version_at ∙ (ap (λ (hs : List Head). slice_get hs v) shown.heads ∙ head_at) in
    let head : nv.version.head ≡ entry_head e = cc in
    let size : length (slice_index_or f.pages n.0 []) ≤ 4096 = index_below f.pages n.0 sound.counts in
    let low = r.room in
    let count_is : count ≡ length (slice_index_or f.pages n.0 []) = big_bytes-inj 8 count (length (slice_index_or f.pages n.0 [])) (omega arith) (omega arith) (sym count_there ∙ count_read f sound n in_free) in
    let new = new_pairs kept nodes name key value v e p pairs n count lows first more r in
    let few_nodes = sound.nodes.1 in
    let al : IsAddr (slot_at n count) = (omega arith, omega arith) in
    let ar : IsAddr (slot_at n (count + 1)) = (omega arith, omega arith) in
    let s : Split = split_of f e p n count lows first more in
    let left_slot : count ≡ length (slice_index_or (with_root (split_of f e p n count lows first more)) n.0 []) = count_is ∙ sym (index-set_in f.pages e.root.node.0 e.root.slot (new_root (split_of f e p n count lows first more)) n.0) in
    let nodes_root : length (with_root (split_of f e p n count lows first more)) ≡ length f.pages = length-set f.pages e.root.node.0 (slice_set (slice_index_or f.pages e.root.node.0 []) e.root.slot (new_root (split_of f e p n count lows first more))) in
    let right_slot : count + 1 ≡ length (slice_index_or (with_left (split_of f e p n count lows first more)) n.0 []) =
    ap (λ k. k + 1) left_slot ∙ sym (index-add_in (with_root (split_of f e p n count lows first more)) n.0 (left_page (split_of f e p n count lows first more)) (subst (λ k. n.0 < k) (sym nodes_root) in_free)) in
    let can : CanSplit (split_of f e p n count lows first more) v e (entry_head e) = record {
      sound = sound;
      entry_at = entry_at;
      root_is = refl;
      head_at = head_at;
      writable = r.writable;
      there = there;
      leaf = ap height_of r.leaf;
      left_node = in_free;
      right_node = in_free;
      left_slot = left_slot;
      right_slot = right_slot;
      left_room = omega arith;
      right_room = omega arith;
      root_spelled = root_spelled p lows first more (slot_at n count) (slot_at n (count + 1)) r.page new r.number al ar;
      left_spelled = left_spelled p lows first more r.page new r.few_lows;
      right_spelled = right_spelled p lows first more r.page new r.few_highs;
    } in
    let pairs_are : nv.version.pairs ≡ pairs =
    sym (filter_every (λ (x : Pair). page_covers x.key p) nv.version.pairs (λ x. old_covers (split_of f e p n count lows first more) v e (entry_head e) can x.key))
    ∙ (leaf_pairs_are f store v nv.version e.root p shown nv.there there (ap height_of r.leaf) (old_serves (split_of f e p n count lows first more) v e (entry_head e) can) ∙ ap pairs_in r.leaf) in
    record {
      named = nv;
      writable = ap (λ (h : Head). h.frozen) head ∙ r.writable;
      can = can;
      pairs_are = pairs_are;
      count_is = count_is;
      cut = record { shown = shown; at = nv.there; first = first; more = more; highs_are = refl; sep_is = refl; ascending = new.ascending };
    }

-- The memory after the writes

abbrev written : List (List ℕ) → NodeNo → ℕ → List ℕ → List (List ℕ)
written memory n start bytes = slice_set memory n.0 (overwritten (space_in memory n) start bytes)

split_memory : (f : Forest) (v : ℕ) (e : CatEntry) (p : Page) (n : NodeNo) (count : ℕ) (lows : List Pair) (first : Pair) (more : List Pair) → CanSplit (split_of f e p n count lows first more) v e (entry_head e)
    → count ≡ length (slice_index_or f.pages n.0 []) → (memory : List (List ℕ)) → memory ≡ memory_by_pages f
    → written
    (written (written (written memory e.root.node (20480 + 1024 * e.root.slot) (page_bytes (new_root (split_of f e p n count lows first more)))) n (20480 + 1024 * count) (page_bytes (left_page (split_of f e p n count lows first more))))
    n (20480 + 1024 * (count + 1)) (page_bytes (right_page (split_of f e p n count lows first more)))) n 16 (big_bytes 8 (count + 2))
    ≡ memory_by_pages (split_forest (split_of f e p n count lows first more))
split_memory f v e p n count lows first more can count_is memory same =
    let l0 = laid_of f in
    let in_root : e.root.node.0 < length f.pages = Rattle.mn_plans.proofs.Spaces.page_node f e.root p can.there in
    let root_long = page_length (new_root (split_of f e p n count lows first more)) can.root_spelled in
    let left_long = page_length (left_page (split_of f e p n count lows first more)) can.left_spelled in
    let right_long = page_length (right_page (split_of f e p n count lows first more)) can.right_spelled in
    let is0 : HasSlots (laid_of f) = forest_laid f can.sound in
    let is1 : HasSlots (l1) = record { fits = is0.fits; slots = index-set-all AreSlots f.pages e.root.node.0 _ is0.slots (all-set (λ x. length (page_bytes x) ≡ 1024) (slice_index_or f.pages e.root.node.0 []) e.root.slot (new_root (split_of f e p n count lows first more)) (is0.slots e.root.node.0) root_long) } in
    let is2 : HasSlots (l2) = record {
      fits = is0.fits;
      slots = index-set-all AreSlots (with_root (split_of f e p n count lows first more)) n.0 _ is1.slots
          (all_append (λ x. length (page_bytes x) ≡ 1024) (slice_index_or (with_root (split_of f e p n count lows first more)) n.0 []) (left_page (split_of f e p n count lows first more) ∷ []) (is1.slots n.0) (left_long, tt));
    } in
    let is3 : HasSlots (l3) = record {
      fits = is0.fits;
      slots = index-set-all AreSlots (with_left (split_of f e p n count lows first more)) n.0 _ is2.slots
          (all_append (λ x. length (page_bytes x) ≡ 1024) (slice_index_or (with_left (split_of f e p n count lows first more)) n.0 []) (right_page (split_of f e p n count lows first more) ∷ []) (is2.slots n.0) (right_long, tt));
    } in
    let nodes1 : length (with_root (split_of f e p n count lows first more)) ≡ length f.pages = length-set f.pages e.root.node.0 _ in
    let nodes2 : length (with_left (split_of f e p n count lows first more)) ≡ length f.pages = length-set (with_root (split_of f e p n count lows first more)) n.0 _ ∙ nodes1 in
    let nodes3 : length (split_forest (split_of f e p n count lows first more)).pages ≡ length f.pages = length-set (with_left (split_of f e p n count lows first more)) n.0 _ ∙ nodes2 in
    let in1 : n.0 < length (with_root (split_of f e p n count lows first more)) = subst (λ k. n.0 < k) (sym nodes1) can.left_node in
    let in2 : n.0 < length (with_left (split_of f e p n count lows first more)) = subst (λ k. n.0 < k) (sym nodes2) can.left_node in
    let in3 : n.0 < length (split_forest (split_of f e p n count lows first more)).pages = subst (λ k. n.0 < k) (sym nodes3) can.left_node in
    let has : n.0 < length (sizes_of f.pages) = subst (λ k. n.0 < k) (sym (Rattle.std.proofs.lemmas.List.length-map f.pages (λ ps. length ps))) can.left_node in
    let e0 : memory ≡ memory_laid (laid_of f) = same ∙ sym (laid_is f) in
    let e1 = ap (λ (m : List (List ℕ)). written m e.root.node (20480 + 1024 * e.root.slot) (page_bytes (new_root (split_of f e p n count lows first more)))) e0
    ∙ page_over (laid_of f) is0 e.root.node e.root.slot p (new_root (split_of f e p n count lows first more)) in_root can.there root_long in
    let e2 = ap (λ (m : List (List ℕ)). written m n (20480 + 1024 * count) (page_bytes (left_page (split_of f e p n count lows first more)))) e1
    ∙ page_new l1 is1 n count (left_page (split_of f e p n count lows first more)) in1 can.left_slot can.left_room left_long in
    let e3 = ap (λ (m : List (List ℕ)). written m n (20480 + 1024 * (count + 1)) (page_bytes (right_page (split_of f e p n count lows first more)))) e2
    ∙ page_new l2 is2 n (count + 1) (right_page (split_of f e p n count lows first more)) in2 can.right_slot can.right_room right_long in
    let e4 = ap (λ (m : List (List ℕ)). written m n 16 (big_bytes 8 (count + 2))) e3 ∙ count_over l3 is3 n (count + 2) in3 has in
    let sizes : slice_set (sizes_of f.pages) n.0 (count + 2) ≡ sizes_of (split_forest (split_of f e p n count lows first more)).pages = counts can.right_slot in
    e4 ∙ (ap (λ (ks : List ℕ). memory_laid (record { catalogs = on_each f.pages f.entries; counts = ks; pages = (split_forest (split_of f e p n count lows first more)).pages })) sizes
    ∙ (ap (λ (cs : List (List CatEntry)). memory_laid (record { catalogs = cs; counts = sizes_of (split_forest (split_of f e p n count lows first more)).pages; pages = (split_forest (split_of f e p n count lows first more)).pages }))
    (on_as_many f.pages (split_forest (split_of f e p n count lows first more)).pages f.entries (sym nodes3))
    ∙ laid_is (split_forest (split_of f e p n count lows first more))))
  where
    l1 : Laid
    l1 = record { catalogs = on_each f.pages f.entries; counts = sizes_of f.pages; pages = with_root (split_of f e p n count lows first more) }

    l2 : Laid
    l2 = record { catalogs = on_each f.pages f.entries; counts = sizes_of f.pages; pages = with_left (split_of f e p n count lows first more) }

    l3 : Laid
    l3 = record { catalogs = on_each f.pages f.entries; counts = sizes_of f.pages; pages = (split_forest (split_of f e p n count lows first more)).pages }

    counts : count + 1 ≡ length (slice_index_or (with_left (split_of f e p n count lows first more)) n.0 []) → slice_set (sizes_of f.pages) n.0 (count + 2) ≡ sizes_of (split_forest (split_of f e p n count lows first more)).pages
    counts slot =
        let k : length (slice_index_or (with_left (split_of f e p n count lows first more)) n.0 []) + 1 ≡ count + 2 = omega arith in
        sym (sizes-add_in (with_left (split_of f e p n count lows first more)) n.0 (right_page (split_of f e p n count lows first more))
        ∙ (ap (λ j. slice_set (sizes_of (with_left (split_of f e p n count lows first more))) n.0 j) k
        ∙ (ap (λ (ks : List ℕ). slice_set ks n.0 (count + 2)) (sizes-add_in (with_root (split_of f e p n count lows first more)) n.0 (left_page (split_of f e p n count lows first more)))
        ∙ (set-set (sizes_of (with_root (split_of f e p n count lows first more))) n.0 (length (slice_index_or (with_root (split_of f e p n count lows first more)) n.0 []) + 1) (count + 2)
        ∙ ap (λ (ks : List ℕ). slice_set ks n.0 (count + 2)) (sizes-set_in f.pages e.root.node.0 e.root.slot (new_root (split_of f e p n count lows first more)))))))

-- The places

pub page_places_apart : (a b : Addr) → page_place a ≡ page_place b → a ≡ b
page_places_apart a b e =
    let nodes : a.node ≡ b.node = ap (λ (x : Place). x.node) e in
    let starts : 20480 + 1024 * a.slot ≡ 20480 + 1024 * b.slot = ap (λ (x : Place). x.start) e in
    let slots : a.slot ≡ b.slot = omega arith in
    ap (λ (n : NodeNo). let r : Addr = record { node = n; slot = a.slot } in r) nodes ∙ ap (λ s. let r : Addr = record { node = b.node; slot = s } in r) slots

sizes_differ : ◌≡◌ {A = ℕ} 1024 8 → ⊥
sizes_differ e = absurd (omega arith)

page_not_count : (a : Addr) (n : NodeNo) → page_place a ≡ count_place n → ⊥
page_not_count a n e = sizes_differ (ap (λ (x : Place). x.length) e)

three : (x y z place : Place) → Contains (x ∷ y ∷ z ∷ []) place → (x ≡ place) ⊎ ((y ≡ place) ⊎ (z ≡ place))
three x y z place (zero, in', is) = inl is
three x y z place (suc zero, in', is) = inr (inl is)
three x y z place (suc (suc zero), in', is) = inr (inr is)
three x y z place (suc (suc (suc k)), in', is) = absurd (omega arith)

four : (w x y z place : Place) → Contains (w ∷ x ∷ y ∷ z ∷ []) place → (w ≡ place) ⊎ ((x ≡ place) ⊎ ((y ≡ place) ⊎ (z ≡ place)))
four w x y z place (zero, in', is) = inl is
four w x y z place (suc zero, in', is) = inr (inl is)
four w x y z place (suc (suc zero), in', is) = inr (inr (inl is))
four w x y z place (suc (suc (suc zero)), in', is) = inr (inr (inr is))
four w x y z place (suc (suc (suc (suc k))), in', is) = absurd (omega arith)

-- a first free slot has no page
no_page : (f : Forest) (n : NodeNo) (slot : ℕ) (x : Page) → length (slice_index_or f.pages n.0 []) ≤ slot → page_at f (slot_at n slot) ≡ Some x → ⊥
no_page f n slot x past at = clash (sym (slice_get_past (slice_index_or f.pages n.0 []) slot past) ∙ (get_in-index f.pages n.0 slot ∙ at))
  where
    clash : ◌≡◌ {A = Option Page} None (Some x) → ⊥
    clash e = cc

may_pages : (n m : NodeNo) (a b : ℕ) → Rattle.mn_law.specs.Planned.may_precede n (20480 + 1024 * a) m (20480 + 1024 * b) ≡ true
may_pages n m a b = any (page_rank a) (page_rank b)
  where
    tests : (x y : ℕ) (t : Bool) → x ≡ 0 → y ≡ 0 → (nat_lt x y || (nat_eq x y && (nat_eq x 0 || t))) ≡ true
    tests x y t e f = ap (λ k. nat_lt k y || (nat_eq k y && (nat_eq k 0 || t))) e ∙ ap (λ k. nat_lt 0 k || (nat_eq 0 k && (nat_eq 0 0 || t))) f

    any : place_rank (20480 + 1024 * a) ≡ 0 → place_rank (20480 + 1024 * b) ≡ 0 → Rattle.mn_law.specs.Planned.may_precede n (20480 + 1024 * a) m (20480 + 1024 * b) ≡ true
    any e f = tests (place_rank (20480 + 1024 * a)) (place_rank (20480 + 1024 * b)) (nat_lt n.0 m.0 || (nat_eq n.0 m.0 && nat_lt (20480 + 1024 * a) (20480 + 1024 * b))) e f

by_rank : (n m : NodeNo) (a b x y : ℕ) → place_rank a ≡ x → place_rank b ≡ y → nat_lt x y ≡ true → Rattle.mn_law.specs.Planned.may_precede n a m b ≡ true
by_rank n m a b x y e f low = or_left (nat_lt (place_rank a) (place_rank b)) _ (ap (λ k. nat_lt k (place_rank b)) e ∙ (ap (nat_lt x) f ∙ low))

-- The plan

-- the root's node and that of the new pages are the only ones that are named
split_node : (v : ℕ) (e : CatEntry) (p : Page) (n : NodeNo) (count : ℕ) (lows : List Pair) (first : Pair) (more : List Pair) → v < 64 → entry_node (split_items v e p n count lows first more) ≡ lesser_node e.root.node n
split_node v e p n count lows first more few =
    ap (λ (k : ℕ). let m : NodeNo = record { 0 = k } in m)
    (entry_node_alike (split_items v e p n count lows first more) (e.root.node.0 ∷ n.0 ∷ []) (λ m has. among m (subst (λ (ns : List ℕ). Contains ns m) named has)) (λ m has. subst (λ (ns : List ℕ). Contains ns m) (sym named) (both m has)))
  where
    root_now : Page
    root_now = parent_of_halves p first.key (slot_at n count) (slot_at n (count + 1))

    named : nodes_beside (split_items v e p n count lows first more) ≡ e.root.node.0 ∷ n.0 ∷ e.root.node.0 ∷ n.0 ∷ n.0 ∷ n.0 ∷ []
    named =
        beside_page (compare_page e.root p) (compare_entry (lesser_node e.root.node n) v e ∷ compare_count n count ∷ writes) e.root.slot refl
        ∙ ap (λ (ns : List ℕ). e.root.node.0 ∷ ns) (beside_entry (compare_entry (lesser_node e.root.node n) v e) (compare_count n count ∷ writes) v few refl
        ∙ (beside_count (compare_count n count) writes refl
        ∙ ap (λ (ns : List ℕ). n.0 ∷ ns) (beside_page (write_page e.root root_now) (write_page (slot_at n count) (left_half p lows first.key) ∷ write_page (slot_at n (count + 1)) (right_half p (first ∷ more) first.key) ∷ write_count n (count + 2) ∷ []) e.root.slot refl
        ∙ ap (λ (ns : List ℕ). e.root.node.0 ∷ ns) (beside_page (write_page (slot_at n count) (left_half p lows first.key)) (write_page (slot_at n (count + 1)) (right_half p (first ∷ more) first.key) ∷ write_count n (count + 2) ∷ []) count refl
        ∙ ap (λ (ns : List ℕ). n.0 ∷ ns) (beside_page (write_page (slot_at n (count + 1)) (right_half p (first ∷ more) first.key)) (write_count n (count + 2) ∷ []) (count + 1) refl
        ∙ ap (λ (ns : List ℕ). n.0 ∷ ns) (beside_count (write_count n (count + 2)) [] refl))))))
      where
        writes : List Item
        writes = write_page e.root root_now ∷ write_page (slot_at n count) (left_half p lows first.key) ∷ write_page (slot_at n (count + 1)) (right_half p (first ∷ more) first.key) ∷ write_count n (count + 2) ∷ []

    among : (m : ℕ) → Contains (e.root.node.0 ∷ n.0 ∷ e.root.node.0 ∷ n.0 ∷ n.0 ∷ n.0 ∷ []) m → Contains (e.root.node.0 ∷ n.0 ∷ []) m
    among m (zero, in', is) = (0, omega arith, is)
    among m (suc zero, in', is) = (1, omega arith, is)
    among m (suc (suc zero), in', is) = (0, omega arith, is)
    among m (suc (suc (suc zero)), in', is) = (1, omega arith, is)
    among m (suc (suc (suc (suc zero))), in', is) = (1, omega arith, is)
    among m (suc (suc (suc (suc (suc zero)))), in', is) = (1, omega arith, is)
    among m (suc (suc (suc (suc (suc (suc k))))), in', is) = absurd (omega arith)

    both : (m : ℕ) → Contains (e.root.node.0 ∷ n.0 ∷ []) m → Contains (e.root.node.0 ∷ n.0 ∷ e.root.node.0 ∷ n.0 ∷ n.0 ∷ n.0 ∷ []) m
    both m (zero, in', is) = (0, omega arith, is)
    both m (suc zero, in', is) = (1, omega arith, is)
    both m (suc (suc k), in', is) = absurd (omega arith)

abbrev compared_places : ℕ → CatEntry → Page → NodeNo → ℕ → List Place
compared_places v e p n count = page_place e.root ∷ (entry_place (lesser_node e.root.node n) v ∷ (count_place n ∷ []))

split_compares : (f : Forest) (store : Store) (name key value : List ℕ) (v nodes : ℕ) (e : CatEntry) (p : Page) (pairs : List Pair) (n : NodeNo) (count : ℕ) (lows : List Pair) (first : Pair) (more : List Pair)
    → v < 64 → ListsStore f store → SplitFacts f store name v e p pairs n count lows first more → (place : Place)
    → Contains (compared_places v e p n count) place
    ↔ IsCompared f store v (Tx name (Put key value ∷ [])) (record { nodes = nodes; items = split_items v e p n count lows first more }) place
split_compares f store name key value v nodes e p pairs n count lows first more few shown facts place = (there, back)
  where
    s_can : CanSplit (split_of f e p n count lows first more) v e (entry_head e)
    s_can = facts.can

    first_is : ◌≡◌ {A = Place} (page_place e.root) (page_place e.root)
    first_is = refl

    second_is : ◌≡◌ {A = Place} (entry_place (lesser_node e.root.node n) v) (entry_place (entry_node (split_items v e p n count lows first more)) v)
    second_is = ap (λ (m : NodeNo). entry_place m v) (sym (split_node v e p n count lows first more few))

    third_is : ◌≡◌ {A = Place} (count_place n) (count_place n)
    third_is = refl

    root_is : ◌≡◌ {A = Place} (record { node = e.root.node; start = 20480 + 1024 * e.root.slot; length = length (page_bytes (new_root (split_of f e p n count lows first more))) }) (page_place e.root)
    root_is = place_same e.root.node (20480 + 1024 * e.root.slot) (length (page_bytes (new_root (split_of f e p n count lows first more)))) 1024 (page_length (new_root (split_of f e p n count lows first more)) s_can.root_spelled)

    left_is : ◌≡◌ {A = Place} (record { node = n; start = 20480 + 1024 * count; length = length (page_bytes (left_page (split_of f e p n count lows first more))) }) (page_place (slot_at n count))
    left_is = place_same n (20480 + 1024 * count) (length (page_bytes (left_page (split_of f e p n count lows first more)))) 1024 (page_length (left_page (split_of f e p n count lows first more)) s_can.left_spelled)

    right_is : ◌≡◌ {A = Place} (record { node = n; start = 20480 + 1024 * (count + 1); length = length (page_bytes (right_page (split_of f e p n count lows first more))) }) (page_place (slot_at n (count + 1)))
    right_is = place_same n (20480 + 1024 * (count + 1)) (length (page_bytes (right_page (split_of f e p n count lows first more)))) 1024 (page_length (right_page (split_of f e p n count lows first more)) s_can.right_spelled)

    root_covers : (key : List ℕ) → page_covers key p ≡ true
    root_covers key = old_covers (split_of f e p n count lows first more) v e (entry_head e) s_can key

    root_leaf : IsLeafFor f.entries (page_at f) v key e.root p
    root_leaf = record { there = s_can.there; level = s_can.leaf; serves = old_serves (split_of f e p n count lows first more) v e (entry_head e) s_can; covers = root_covers key }

    only_leaf : OneLeaf f.entries (page_at f) v facts.named.version key
    only_leaf = one_leaf f store v facts.named.version key (forest f s_can.sound) (shows f store shown) facts.named.there

    there : Contains (compared_places v e p n count) place → IsCompared f store v (Tx name (Put key value ∷ [])) (record { nodes = nodes; items = split_items v e p n count lows first more }) place
    there c = elim (three _ _ _ place c) as (λ _. IsCompared f store v (Tx name (Put key value ∷ [])) (record { nodes = nodes; items = split_items v e p n count lows first more }) place) [
      | inl is ↦ inl (e.root, p, sym is ∙ first_is, s_can.there, s_can.leaf, root_leaf.serves, or_left _ _ (root_covers key))
      | inr other ↦ elim other as (λ _. IsCompared f store v (Tx name (Put key value ∷ [])) (record { nodes = nodes; items = split_items v e p n count lows first more }) place) [
        | inl is ↦ inr (inl (refl, sym is ∙ second_is))
        | inr is ↦ inr (inr (inr ((n, sym is ∙ third_is), (3, omega arith, is))))
      ]
    ]

    or_none : (b : Bool) → (b || false) ≡ true → b ≡ true
    or_none true e = refl
    or_none false e = e

    at_first : page_place e.root ≡ place → Contains (compared_places v e p n count) place
    at_first is = (0, omega arith, first_is ∙ is)

    at_third : count_place n ≡ place → Contains (compared_places v e p n count) place
    at_third is = (2, omega arith, third_is ∙ is)

    past : length (slice_index_or f.pages n.0 []) ≤ count
    past = let is = facts.count_is in omega arith

    old_case : (a : Addr) (x : Page) → place ≡ page_place a → page_at f a ≡ Some x → (page_place e.root ≡ place) ⊎ ((page_place (slot_at n count) ≡ place) ⊎ ((page_place (slot_at n (count + 1)) ≡ place) ⊎ (count_place n ≡ place)))
        → Contains (compared_places v e p n count) place
    old_case a x is at (inl w) = at_first w
    old_case a x is at (inr (inl w)) = absurd (no_page f n count x past (ap (page_at f) (page_places_apart (slot_at n count) a (w ∙ is)) ∙ at))
    old_case a x is at (inr (inr (inl w))) = absurd (no_page f n (count + 1) x (let h = past in omega arith) (ap (page_at f) (page_places_apart (slot_at n (count + 1)) a (w ∙ is)) ∙ at))
    old_case a x is at (inr (inr (inr w))) = absurd (page_not_count a n (sym is ∙ sym w))

    count_case : (m : NodeNo) → place ≡ count_place m → (page_place e.root ≡ place) ⊎ ((page_place (slot_at n count) ≡ place) ⊎ ((page_place (slot_at n (count + 1)) ≡ place) ⊎ (count_place n ≡ place))) → Contains (compared_places v e p n count) place
    count_case m is (inl w) = absurd (page_not_count e.root m (w ∙ is))
    count_case m is (inr (inl w)) = absurd (page_not_count (slot_at n count) m (w ∙ is))
    count_case m is (inr (inr (inl w))) = absurd (page_not_count (slot_at n (count + 1)) m (w ∙ is))
    count_case m is (inr (inr (inr w))) = at_third w

    written_case : Contains (write_places (record { nodes = nodes; items = split_items v e p n count lows first more })) place
        → (page_place e.root ≡ place) ⊎ ((page_place (slot_at n count) ≡ place) ⊎ ((page_place (slot_at n (count + 1)) ≡ place) ⊎ (count_place n ≡ place)))
    written_case c = turn (four _ _ _ _ place c)
      where
        turn : (record { node = e.root.node; start = 20480 + 1024 * e.root.slot; length = length (page_bytes (new_root (split_of f e p n count lows first more))) } ≡ place)
            ⊎ ((record { node = n; start = 20480 + 1024 * count; length = length (page_bytes (left_page (split_of f e p n count lows first more))) } ≡ place)
            ⊎ ((record { node = n; start = 20480 + 1024 * (count + 1); length = length (page_bytes (right_page (split_of f e p n count lows first more))) } ≡ place) ⊎ (count_place n ≡ place)))
            → (page_place e.root ≡ place) ⊎ ((page_place (slot_at n count) ≡ place) ⊎ ((page_place (slot_at n (count + 1)) ≡ place) ⊎ (count_place n ≡ place)))
        turn (inl w) = inl (sym root_is ∙ w)
        turn (inr (inl w)) = inr (inl (sym left_is ∙ w))
        turn (inr (inr (inl w))) = inr (inr (inl (sym right_is ∙ w)))
        turn (inr (inr (inr w))) = inr (inr (inr w))

    back : IsCompared f store v (Tx name (Put key value ∷ [])) (record { nodes = nodes; items = split_items v e p n count lows first more }) place → Contains (compared_places v e p n count) place
    back (inl leaf) =
        let same = only_leaf.one.only e.root p root_leaf ∙ sym (only_leaf.one.only leaf.0 leaf.1 (record { there = leaf.3; level = leaf.4; serves = leaf.5; covers = or_none _ leaf.6 })) in
        at_first (ap page_place same ∙ sym leaf.2)
    back (inr (inl entry)) = (1, omega arith, second_is ∙ sym entry.1)
    back (inr (inr (inl old))) = old_case old.0 old.1 old.2 old.3 (written_case old.4)
    back (inr (inr (inr count))) = count_case count.0.0 count.0.1 (written_case count.1)

-- a new page has the number after that of a free slot
pub new_number : (memory : List (List ℕ)) (n : NodeNo) (slot : ℕ) (q : Page) → bytes_in (space_in memory n) (20480 + 1024 * slot) 1024 ≡ replicate 1024 0 → length (page_bytes q) ≡ 1024 → q.seq ≡ 1 → HasNextNumber memory (write_page (slot_at n slot) q)
new_number memory n slot q free long one =
    inr (0, omega arith, ap (λ k. take 8 (bytes_in (space_in memory n) (20480 + 1024 * slot) k)) long ∙ ap (take 8) free, ap (big_bytes 8) one)

none_there : (o : Option Page) → ((x : Page) → o ≡ Some x → ⊥) → o ≡ None
none_there None never = refl
none_there (Some x) never = absurd (never x refl)

-- the old root is changed, and the two halves are new
split_pages : (f : Forest) (v nodes : ℕ) (e : CatEntry) (p : Page) (n : NodeNo) (count : ℕ) (lows : List Pair) (first : Pair) (more : List Pair) → CanSplit (split_of f e p n count lows first more) v e (entry_head e)
    → count ≡ length (slice_index_or f.pages n.0 []) → length (page_bytes p) ≡ 1024 → WritesPages f (record { nodes = nodes; items = split_items v e p n count lows first more })
split_pages f v nodes e p n count lows first more can count_is lp =
    let root_is = place_same e.root.node (20480 + 1024 * e.root.slot) (length (page_bytes (new_root (split_of f e p n count lows first more)))) 1024 (page_length (new_root (split_of f e p n count lows first more)) can.root_spelled) in
    let left_is = place_same n (20480 + 1024 * count) (length (page_bytes (left_page (split_of f e p n count lows first more)))) 1024 (page_length (left_page (split_of f e p n count lows first more)) can.left_spelled) in
    let right_is = place_same n (20480 + 1024 * (count + 1)) (length (page_bytes (right_page (split_of f e p n count lows first more)))) 1024 (page_length (right_page (split_of f e p n count lows first more)) can.right_spelled) in
    record {
      changed = e.root ∷ [];
      new = record { addr = slot_at n count; page = left_page (split_of f e p n count lows first more) } ∷ record { addr = slot_at n (count + 1); page = right_page (split_of f e p n count lows first more) } ∷ [];
      others = count_place n ∷ [];
      written = four_same root_is left_is right_is;
      as_compared = inl (sym (front_page e.root p), tt);
      free = (none_there _ (λ x. no_page f n count x (omega arith)), (none_there _ (λ x. no_page f n (count + 1) x (omega arith)), tt));
      items = ((can.left_spelled, (4, omega arith, refl)), ((can.right_spelled, (5, omega arith, refl)), tt));
      in_order = ((lt_nil first.key, tt), (tt, tt));
      no_more = ((λ is. page_not_count is.0 n (sym is.1)), tt);
      counted = ((λ m is. (record { addr = slot_at n count; page = left_page (split_of f e p n count lows first more) }, (0, omega arith, refl), ap (λ (x : Place). x.node) is)), tt);
    }
  where
    four_same : {a b c x y z : Place} → a ≡ x → b ≡ y → c ≡ z → ◌≡◌ {A = List Place} (a ∷ b ∷ c ∷ count_place n ∷ []) (x ∷ y ∷ z ∷ count_place n ∷ [])
    four_same p q r = cc

-- the four places are whole, and different
split_wholes : (f : Forest) (v nodes : ℕ) (e : CatEntry) (p : Page) (n : NodeNo) (count : ℕ) (lows : List Pair) (first : Pair) (more : List Pair) → CanSplit (split_of f e p n count lows first more) v e (entry_head e)
    → AllByRecursion IsWholePlace (write_places (record { nodes = nodes; items = split_items v e p n count lows first more }))
split_wholes f v nodes e p n count lows first more can = (
  inl (e.root, place_same e.root.node (20480 + 1024 * e.root.slot) (length (page_bytes (new_root (split_of f e p n count lows first more)))) 1024 (page_length (new_root (split_of f e p n count lows first more)) can.root_spelled)),
  (
    inl (slot_at n count, place_same n (20480 + 1024 * count) (length (page_bytes (left_page (split_of f e p n count lows first more)))) 1024 (page_length (left_page (split_of f e p n count lows first more)) can.left_spelled)),
    (
      inl (slot_at n (count + 1), place_same n (20480 + 1024 * (count + 1)) (length (page_bytes (right_page (split_of f e p n count lows first more)))) 1024 (page_length (right_page (split_of f e p n count lows first more)) can.right_spelled)),
      (inr (inr (n, refl)), tt),
    ),
  ),
)

different : (f : Forest) (root : Addr) (old : Page) (n : NodeNo) (count : ℕ) → page_at f root ≡ Some old → count ≡ length (slice_index_or f.pages n.0 [])
    → ComeOnce (page_place root ∷ page_place (slot_at n count) ∷ page_place (slot_at n (count + 1)) ∷ count_place n ∷ [])
different f root old n count there count_is = (
  (
    λ e. no_page f n count old (omega arith) (ap (page_at f) (page_places_apart (slot_at n count) root e) ∙ there),
    (λ e. no_page f n (count + 1) old (omega arith) (ap (page_at f) (page_places_apart (slot_at n (count + 1)) root e) ∙ there), (λ e. page_not_count root n (sym e), tt)),
  ),
  ((λ e. next_slot (page_places_apart (slot_at n (count + 1)) (slot_at n count) e), (λ e. page_not_count (slot_at n count) n (sym e), tt)), ((λ e. page_not_count (slot_at n (count + 1)) n (sym e), tt), (tt, tt))),
)
  where
    next_slot : slot_at n (count + 1) ≡ slot_at n count → ⊥
    next_slot e = let same : count + 1 ≡ count = ap (λ (a : Addr). a.slot) e in absurd (omega arith)

split_once : (f : Forest) (v nodes : ℕ) (e : CatEntry) (p : Page) (n : NodeNo) (count : ℕ) (lows : List Pair) (first : Pair) (more : List Pair) → CanSplit (split_of f e p n count lows first more) v e (entry_head e)
    → count ≡ length (slice_index_or f.pages n.0 []) → ComeOnce (write_places (record { nodes = nodes; items = split_items v e p n count lows first more }))
split_once f v nodes e p n count lows first more can count_is =
    let root_is = place_same e.root.node (20480 + 1024 * e.root.slot) (length (page_bytes (new_root (split_of f e p n count lows first more)))) 1024 (page_length (new_root (split_of f e p n count lows first more)) can.root_spelled) in
    let left_is = place_same n (20480 + 1024 * count) (length (page_bytes (left_page (split_of f e p n count lows first more)))) 1024 (page_length (left_page (split_of f e p n count lows first more)) can.left_spelled) in
    let right_is = place_same n (20480 + 1024 * (count + 1)) (length (page_bytes (right_page (split_of f e p n count lows first more)))) 1024 (page_length (right_page (split_of f e p n count lows first more)) can.right_spelled) in
    subst ComeOnce (sym (four_same root_is left_is right_is)) (different f e.root p n count can.there count_is)
  where
    four_same : {a b c x y z : Place} → a ≡ x → b ≡ y → c ≡ z → ◌≡◌ {A = List Place} (a ∷ b ∷ c ∷ count_place n ∷ []) (x ∷ y ∷ z ∷ count_place n ∷ [])
    four_same p q r = cc

split_acts : (kept : List Head) (nodes : ℕ) (name key value : List ℕ) (v : ℕ) (e : CatEntry) (p : Page) (pairs : List Pair) (n : NodeNo) (count : ℕ) (lows : List Pair) (first : Pair) (more : List Pair)
    → HasSplit kept nodes name key value v e p pairs n count lows first more → (es : List Entry) → ShowsPage es e.root p → ShowsEntry es (lesser_node e.root.node n) v e → (memory : List (List ℕ)) (store : Store) → length memory ≡ nodes → AllByRecursion (λ space. length space ≡ 4214784) memory → (holds : Holds memory store) → ContinuesCatalog kept (heads_of store)
    → ComparesHold es memory (split_items v e p n count lows first more)
    → PlanActs memory store holds (Tx name (Put key value ∷ [])) (record { nodes = nodes; items = split_items v e p n count lows first more }) (Values [])
split_acts kept nodes name key value v e p pairs n count lows first more r es page_shown entry_shown memory store many sizes holds on hold =
    let sound = counted holds.forest holds.sound in
    let shown = listed holds.forest store holds.shown in
    let is_spelled : memory ≡ memory_by_pages holds.forest = holds.spelled ∙ laid_is holds.forest in
    let lp : length (page_bytes p) ≡ 1024 = page_length p r.page in
    let mets = compares_met es memory (split_items v e p n count lows first more) hold in
    let page : bytes_in (space_in memory e.root.node) (20480 + 1024 * e.root.slot) 1024 ≡ page_bytes p = met_page es memory e.root p sizes mets.0 hold.agrees.0 page_shown in
    let entry : bytes_in (space_in memory (lesser_node e.root.node n)) (64 + 64 * v) 64 ≡ entry_bytes e = met_entry es memory (lesser_node e.root.node n) v e r.few (hold.agrees.1).0 entry_shown in
    let count_there : bytes_in (space_in memory n) 16 8 ≡ big_bytes 8 count = ((mets.1).1).0 in
    let nodes_are : nodes ≡ length holds.forest.pages = sym many ∙ (ap (λ (m : List (List ℕ)). length m) is_spelled ∙ memory_length holds.forest) in
    let facts = split_facts kept nodes name key value v e p pairs n count lows first more r holds.forest store sound shown nodes_are on
    (ap (λ (m : List (List ℕ)). bytes_in (space_in m e.root.node) (20480 + 1024 * e.root.slot) 1024) (sym is_spelled) ∙ page)
    (ap (λ (m : List (List ℕ)). bytes_in (space_in m (lesser_node e.root.node n)) (64 + 64 * v) 64) (sym is_spelled) ∙ entry)
    (ap (λ (m : List (List ℕ)). bytes_in (space_in m n) 16 8) (sym is_spelled) ∙ count_there) in
    let can = facts.can in
    let stored = put_store store name key value v facts.named facts.writable in
    let new_pairs_are : pairs_with facts.named.version.pairs key value ≡ lows ++ first ∷ more = ap (λ (ps : List Pair). pairs_with ps key value) facts.pairs_are ∙ r.parts in
    let count_is = facts.count_is in
    let low = r.room in
    record {
      effect = subst (Holds (memory_after memory (split_items v e p n count lows first more)))
          (sym (stored.0 ∙ ap (λ (ps : List Pair). slice_set store v (re_paired facts.named.version ps)) new_pairs_are)) (record {
            forest = split_forest (split_of holds.forest e p n count lows first more);
            spelled = split_memory holds.forest v e p n count lows first more can facts.count_is memory is_spelled ∙ sym (laid_is (split_forest (split_of holds.forest e p n count lows first more)));
            sound = forest (split_forest (split_of holds.forest e p n count lows first more)) (split_is_forest (split_of holds.forest e p n count lows first more) v e (entry_head e) can);
            shown = shows (split_forest (split_of holds.forest e p n count lows first more)) (slice_set store v (re_paired facts.named.version (lows ++ first ∷ more))) (shows_split (split_of holds.forest e p n count lows first more) v e (entry_head e) can store facts.named.version facts.cut);
          });
      replies = stored.1;
      compares = λ w is range. subst
          (λ k. Contains (compare_places (record { nodes = nodes; items = split_items v e p n count lows first more })) range ↔ IsComparedFront holds.forest store k (Tx name (Put key value ∷ [])) (record { nodes = nodes; items = split_items v e p n count lows first more }) range)
          (same_some v w (sym (still_named kept (heads_of store) name v on r.named) ∙ is))
          (subst (λ (l : List Place). Contains l range ↔ IsComparedFront holds.forest store v (Tx name (Put key value ∷ [])) (record { nodes = nodes; items = split_items v e p n count lows first more }) range) (sym (three_same (front_page e.root p) (front_entry (lesser_node e.root.node n) v e)))
          (fronts_compared (compared_places v e p n count) (IsCompared holds.forest store v (Tx name (Put key value ∷ [])) (record { nodes = nodes; items = split_items v e p n count lows first more }))
          (λ place. split_compares holds.forest store name key value v nodes e p pairs n count lows first more r.few shown facts place) range));
      numbers = (
        tt,
        (
          tt,
          (
            tt,
            (
              put_numbers memory e.root p (new_root (split_of holds.forest e p n count lows first more)) page (page_length (new_root (split_of holds.forest e p n count lows first more)) can.root_spelled) refl r.number,
              (
                new_number memory n count (left_page (split_of holds.forest e p n count lows first more))
                    (ap (λ (m : List (List ℕ)). bytes_in (space_in m n) (20480 + 1024 * count) 1024) is_spelled ∙ free_read holds.forest sound n count can.left_node (omega arith) (omega arith))
                    (page_length (left_page (split_of holds.forest e p n count lows first more)) can.left_spelled) refl,
                (
                  new_number memory n (count + 1) (right_page (split_of holds.forest e p n count lows first more))
                      (ap (λ (m : List (List ℕ)). bytes_in (space_in m n) (20480 + 1024 * (count + 1)) 1024) is_spelled ∙ free_read holds.forest sound n (count + 1) can.left_node (omega arith) (omega arith))
                      (page_length (right_page (split_of holds.forest e p n count lows first more)) can.right_spelled) refl,
                  (
                    inl (n, refl),
                    tt,
                  ),
                ),
              ),
            ),
          ),
        ),
      );
      nowhere = λ none. absurd (named_not v (sym (still_named kept (heads_of store) name v on r.named) ∙ none));
      apart = (
        ((λ e. entry_not_page v root_slot r.few (ap (λ (x : Place). x.start) e)), ((λ e. count_not_page root_slot (ap (λ (x : Place). x.start) e)), tt)),
        (((λ e. count_not_entry v (ap (λ (x : Place). x.start) e)), tt), (tt, tt)),
      );
      wholes = split_wholes holds.forest v nodes e p n count lows first more can;
      once = split_once holds.forest v nodes e p n count lows first more can facts.count_is;
      pages = split_pages holds.forest v nodes e p n count lows first more can facts.count_is lp;
    }
  where
    same_some : (a b : ℕ) → Some a ≡ Some b → a ≡ b
    same_some a b e = cc

    root_slot : ℕ
    root_slot = e.root.slot

    count_not_page : (slot : ℕ) → 16 ≡ 20480 + 1024 * slot → ⊥
    count_not_page slot same = absurd (omega arith)

    count_not_entry : (w : ℕ) → 16 ≡ 64 + 64 * w → ⊥
    count_not_entry w same = absurd (omega arith)

    three_same : {a b x y : Place} → a ≡ x → b ≡ y → ◌≡◌ {A = List Place} (a ∷ b ∷ front_place (count_place n) ∷ []) (x ∷ y ∷ front_place (count_place n) ∷ [])
    three_same p q = cc

pub split_is_planned : SplitIsPlanned
split_is_planned kept nodes name key value v e p pairs n count lows first more r es page_shown entry_shown = record {
  shown = (shows_page es e.root p page_shown, (shows_entry es (lesser_node e.root.node n) v e r.few entry_shown, (shows_count es n count, (tt, (tt, (tt, (tt, tt)))))));
  acts = λ memory store many sizes holds on hold. split_acts kept nodes name key value v e p pairs n count lows first more r es page_shown entry_shown memory store many sizes holds on hold;
  order = and_from _ _ (by_rank e.root.node (lesser_node e.root.node n) (20480 + 1024 * e.root.slot) (64 + 64 * v) 0 1 (page_rank e.root.slot) (entry_rank v r.few) refl)
      (and_from _ _ (by_rank (lesser_node e.root.node n) n (64 + 64 * v) 16 1 2 (entry_rank v r.few) refl refl)
      (and_from true _ refl
      (and_from _ _ (may_pages e.root.node n e.root.slot count)
      (and_from _ _ (may_pages n n count (count + 1))
      (and_from _ true (by_rank n n (20480 + 1024 * (count + 1)) 16 0 2 (page_rank (count + 1)) refl refl) refl)))));
  kind = tt;
}
