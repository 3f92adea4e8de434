-- A memory that holds a store passes each test.
use Rattle.std.proofs.Common.{◌≡◌, ◌<◌, ◌≤◌, ◌+◌, ◌-◌, ◌*◌, ◌⊎◌, inl, inr, ℕ, zero, suc, List, [], ◌∷◌, ◌++◌, length, take, drop, replicate, Option, Some, None, refl, ap, sym, subst, ◌∙◌, arith, slice_get, slice_index_or, append-nil}
use Rattle.std.specs.List.{flat_map, AllByRecursion}
use Rattle.std.proofs.Math.Seq.{take-length}
use Rattle.std.proofs.lemmas.List.{length-map, length-take, length-drop, length-replicate}
use Rattle.std.proofs.lemmas.Option.{slice_get_within}
use Rattle.byteorder.specs.Endian.{big_bytes, big_number}
use Rattle.byteorder.specs.Numbers.{big_number-reads_back, length-bytes_high_first}
use Rattle.mn_base.specs.declared.ids.Addr.{Addr}
use Rattle.mn_base.proofs.Naturals.{below_or}
use Rattle.mn_mini.specs.Flat.{bytes_in}
use Rattle.mn_page.specs.declared.entry.CatEntry.{CatEntry}
use Rattle.mn_page.specs.declared.page.Page.{Page}
use Rattle.mn_page.specs.Grammar.{IsEntry, IsUnused, SpellsEntry, padded, page_bytes, height_of}
use Rattle.mn_page.specs.Forest.{Forest, node_count, header_bytes, memory_of, page_at, heads_in, children_of, front_of}
use Rattle.mn_page.specs.Holds.{IsChild, IsForest}
use Rattle.mn_page.proofs.Spelled.{entry_spelled_once, length-padded}
use Rattle.mn_page.proofs.Counted.{IsCounted, counted}
use Rattle.mn_page.proofs.Grid.{all_at_place, all_by_place}
use Rattle.mn_law.proofs.Pieces.{bytes_in-skip, bytes_in-within, AreZeros}
use Rattle.mn_plans.proofs.Spaces.{memory_by_pages, space_bytes, catalog_bytes, AreSlots, text_length, slot_free, same_zeros, catalog_length, get_in-index, node_slots, space_in-memory_by_pages, front_length, page_read, page_there, entry_read, entry_free, entry_there, catalog_at, page_node, memory_length}
use Rattle.mn_plans.proofs.SplitRoot.{count_read}
use Rattle.mn_plans.proofs.Laying.{laid_is}
use Rattle.mn_plans.proofs.Compares.{element_at}
use Rattle.mn_forest.specs.Rules.{Says, ReadsAs, space_at, count_at, entry_place, slot_place, StandsAt, entries_of, entry_of, zeros, HasHeader, IsCount, HasEntry, HasEntryAt, HasRootAt, IsRootAt, HasPage, IsChildAt, HasChildren, IsReached, IsNamedAt, IsRootOf, OfHeader, OfCount, OfEntry, OfRoot, OfPage, OfChildren, OfReach, AllPass}
use Rattle.mn_flat.proofs.Lists.{place_in}
use Rattle.mn_forest.proofs.Noting.{stands_on_node}
use Rattle.mn_forest.proofs.Assembled.{whole}
use Rattle.mn_forest.proofs.Partition.{reached}
use Rattle.mn_forest.proofs.Catalogs.{UsedFirst, used_before, tree_fits, entry_is}

-- Entries

-- the entries that are said are those that stand there
said_entries : (es : List (Option CatEntry)) (xs : List CatEntry) → ((w : ℕ) (e : CatEntry) → slice_get xs w ≡ Some e → slice_get es w ≡ Some (Some e)) → ((w : ℕ) (e : CatEntry) → slice_get es w ≡ Some (Some e) → slice_get xs w ≡ Some e) → entries_of es ≡ xs
said_entries [] [] to from = refl
said_entries [] (x ∷ xs) to from = absurd (let bad = to 0 x refl in cc)
said_entries (None ∷ es) [] to from = refl
said_entries (None ∷ es) (x ∷ xs) to from = absurd (let bad = to 0 x refl in cc)
said_entries (Some e ∷ es) [] to from = absurd (let bad = from 0 e refl in cc)
said_entries (Some e ∷ es) (x ∷ xs) to from =
    let here : e ≡ x = (let is = to 0 x refl in cc) in
    let rest = said_entries es xs (λ w d is. to (suc w) d is) (λ w d is. from (suc w) d is) in cc

-- Bytes

front_bytes : (x rest : List ℕ) (n : ℕ) → length x ≡ n → bytes_in (x ++ rest) 0 n ≡ x
front_bytes x rest n long = bytes_in-within x rest 0 n (omega arith) ∙ (ap (λ (k : ℕ). take k x) (sym long) ∙ take-length x)

length_zeros : (n : ℕ) → length (zeros n) ≡ n
unfolding zeros
length_zeros n = length-replicate n 0

-- what stands in the front of a whole space
header_read : (header count cat pages : List ℕ) (rest end : ℕ) → length header ≡ 16 → length count ≡ 8 → length cat + rest ≡ 4096 → 20480 + length pages + end ≡ 4214784
    → let space = padded 4214784 (padded 20480 (padded 64 (header ++ count) ++ padded 4096 cat) ++ pages) in (bytes_in space 0 16 ≡ header) × (bytes_in space 24 40 ≡ zeros 40) × (bytes_in space 4160 16320 ≡ zeros 16320)
header_read header count cat pages rest end h c l m =
    let is = whole (header ++ (count ++ (zeros 40 ++ (cat ++ (replicate rest 0 ++ (zeros 16320 ++ (pages ++ replicate end 0))))))) header count cat pages rest end h c l m refl in
    by (pages ++ replicate end 0) is
  where
    by : (tail : List ℕ) → header ++ (count ++ (zeros 40 ++ (cat ++ (replicate rest 0 ++ (zeros 16320 ++ tail))))) ≡ padded 4214784 (padded 20480 (padded 64 (header ++ count) ++ padded 4096 cat) ++ pages)
        → let space = padded 4214784 (padded 20480 (padded 64 (header ++ count) ++ padded 4096 cat) ++ pages) in (bytes_in space 0 16 ≡ header) × (bytes_in space 24 40 ≡ zeros 40) × (bytes_in space 4160 16320 ≡ zeros 16320)
    by tail is = (
      ap (λ (s : List ℕ). bytes_in s 0 16) (sym is) ∙ front_bytes header (count ++ (zeros 40 ++ (cat ++ (replicate rest 0 ++ (zeros 16320 ++ tail))))) 16 h,
      ap (λ (s : List ℕ). bytes_in s 24 40) (sym is) ∙ (bytes_in-skip header (count ++ (zeros 40 ++ (cat ++ (replicate rest 0 ++ (zeros 16320 ++ tail))))) 24 8 40 (ap (λ k. k + 8) (sym h))
          ∙ (bytes_in-skip count (zeros 40 ++ (cat ++ (replicate rest 0 ++ (zeros 16320 ++ tail)))) 8 0 40 (ap (λ k. k + 0) (sym c)) ∙ front_bytes (zeros 40) (cat ++ (replicate rest 0 ++ (zeros 16320 ++ tail))) 40 (length_zeros 40))),
      ap (λ (s : List ℕ). bytes_in s 4160 16320) (sym is) ∙ (bytes_in-skip header (count ++ (zeros 40 ++ (cat ++ (replicate rest 0 ++ (zeros 16320 ++ tail))))) 4160 4144 16320 (ap (λ k. k + 4144) (sym h))
          ∙ (bytes_in-skip count (zeros 40 ++ (cat ++ (replicate rest 0 ++ (zeros 16320 ++ tail)))) 4144 4136 16320 (ap (λ k. k + 4136) (sym c))
          ∙ (bytes_in-skip (zeros 40) (cat ++ (replicate rest 0 ++ (zeros 16320 ++ tail))) 4136 4096 16320 (ap (λ k. k + 4096) (sym (length_zeros 40)))
          ∙ (bytes_in-skip cat (replicate rest 0 ++ (zeros 16320 ++ tail)) 4096 rest 16320 (sym l)
          ∙ (bytes_in-skip (replicate rest 0) (zeros 16320 ++ tail) rest 0 16320 ((let same : rest ≡ rest + 0 = omega arith in same) ∙ sym (ap (λ k. k + 0) (length-replicate rest 0)))
          ∙ front_bytes (zeros 16320) tail 16320 (length_zeros 16320)))))),
    )

-- A memory of pages

module _ (f : Forest) (sound : IsForest f) where
  cnt : IsCounted f
  cnt = counted f sound

  abbrev M : List (List ℕ)
  M = memory_by_pages f

  pages_few : (xss : List (List Page)) (n : ℕ) → AllByRecursion (λ pages. length pages ≤ 4096) xss → length (slice_index_or xss n []) ≤ 4096
  pages_few [] n all = omega arith
  pages_few (xs ∷ xss) zero all = all.0
  pages_few (xs ∷ xss) (suc n) all = pages_few xss n all.1

  number_of : (k : ℕ) → k ≤ 4096 → big_number 8 (big_bytes 8 k) ≡ k
  number_of k few = ap (λ (l : List ℕ). big_number 8 l) (sym (append-nil (big_bytes 8 k))) ∙ big_number-reads_back 8 k [] (omega arith)

  count_is : (n : ℕ) → n < node_count f → count_at M n ≡ length (slice_index_or f.pages n [])
  count_is n in' = ap (λ (l : List ℕ). big_number 8 l) (count_read f cnt (record { 0 = n }) in') ∙ number_of (length (slice_index_or f.pages n [])) (pages_few f.pages n sound.laid.counts)

  node_in : (n : ℕ) → n < length M → n < node_count f
  node_in n low = let same = memory_length f in omega arith

  pub stands_there : (addr : Addr) (p : Page) → page_at f addr ≡ Some p → StandsAt M addr p
  stands_there addr p there =
      let in' = page_node f addr p there in
      let low = slice_get_within (slice_index_or f.pages addr.node.0 []) addr.slot p (get_in-index f.pages addr.node.0 addr.slot ∙ there) in
      (let count = count_is addr.node.0 in' in omega arith, (sound.laid.pages addr p there, page_read f cnt addr p in' there))

  pub there_stands : (addr : Addr) (p : Page) → StandsAt M addr p → page_at f addr ≡ Some p
  there_stands addr p stands = page_there f cnt addr p (node_in addr.node.0 (stands_on_node M addr p stands)) stands.1.0 stands.1.1

  -- spaces are whole
  whole_at : (n : ℕ) → n < node_count f → length (space_bytes f n) ≡ 4214784
  whole_at n in' =
      length-padded 4214784 (front_of (node_count f) n (length (slice_index_or f.pages n [])) (catalog_bytes f) ++ flat_map page_bytes (slice_index_or f.pages n []))
      (let few = pages_few f.pages n sound.laid.counts in
      let long = text_length (front_of (node_count f) n (length (slice_index_or f.pages n [])) (catalog_bytes f)) (slice_index_or f.pages n []) (front_length (node_count f) n (length (slice_index_or f.pages n [])) (catalog_bytes f) (catalog_length f cnt)) (node_slots f cnt n) in
      omega arith)

  length_at : (s n k : ℕ) → n < node_count f → s + k ≤ 4214784 → length (bytes_in (space_at M n) s k) ≡ k
  length_at s n k in' low =
      let long : length (space_at M n) ≡ 4214784 = ap length (space_in-memory_by_pages f (record { 0 = n }) in') ∙ whole_at n in' in
      by (space_at M n) long (length-drop s (space_at M n)) (length-take k (drop s (space_at M n)))
    where
      by : (space : List ℕ) → length space ≡ 4214784 → length (drop s space) ≡ length space - s → length (take k (drop s space)) ≡ Rattle.std.proofs.Common.min k (length (drop s space)) → length (take k (drop s space)) ≡ k
      by space long one two = omega arith

  zeros_at : (bytes : List ℕ) (n : ℕ) → length bytes ≡ n → AreZeros bytes → bytes ≡ replicate n 0
  zeros_at bytes n long z = same_zeros bytes z ∙ ap (λ (k : ℕ). replicate k 0) long

  -- Front

  front_read : (n : ℕ) → n < node_count f → (bytes_in (space_bytes f n) 0 16 ≡ header_bytes (node_count f) n) × (bytes_in (space_bytes f n) 24 40 ≡ zeros 40) × (bytes_in (space_bytes f n) 4160 16320 ≡ zeros 16320)
  front_read n in' =
      let few = pages_few f.pages n sound.laid.counts in
      let slots = length-flat (slice_index_or f.pages n []) (node_slots f cnt n) in
      let cat = catalog_length f cnt in
      header_read (header_bytes (node_count f) n) (big_bytes 8 (length (slice_index_or f.pages n []))) (catalog_bytes f) (flat_map page_bytes (slice_index_or f.pages n [])) (4096 - length (catalog_bytes f)) (4194304 - length (flat_map page_bytes (slice_index_or f.pages n []))) refl
      (length-bytes_high_first 8 (length (slice_index_or f.pages n []))) (omega arith) (omega arith)
    where
      length-flat : (ps : List Page) → AreSlots ps → length (flat_map page_bytes ps) ≡ 1024 * length ps
      length-flat ps slots = Rattle.mn_law.proofs.Pieces.length-pieces page_bytes 1024 ps slots

  has_header : (n : ℕ) → n < node_count f → HasHeader M n
  has_header n in' =
      let is = space_in-memory_by_pages f (record { 0 = n }) in' in
      let r = front_read n in' in
      record {
        front = ap (λ (s : List ℕ). bytes_in s 0 16) is ∙ (r.0 ∙ ap (λ (k : ℕ). header_bytes k n) (sym (memory_length f)));
        behind = ap (λ (s : List ℕ). bytes_in s 24 40) is ∙ r.1;
        kept = ap (λ (s : List ℕ). bytes_in s 4160 16320) is ∙ r.2;
      }

  has_count : (n : ℕ) → n < node_count f → IsCount (bytes_in (space_at M n) 16 8)
  has_count n in' =
      let is = count_is n in' in
      let few = pages_few f.pages n sound.laid.counts in
      record { spelled = count_read f cnt (record { 0 = n }) in' ∙ ap (λ (k : ℕ). big_bytes 8 k) (sym is); few = omega arith }

  -- Entries

  module _ (es : List (Option CatEntry)) (says : Says M es) where
    few_entries : length f.entries ≤ 64
    few_entries = let few = sound.tree.versions.count in let same = length-map f.entries Rattle.mn_page.specs.Forest.entry_head in omega arith

    entry_said : (w : ℕ) (e : CatEntry) → slice_get f.entries w ≡ Some e → slice_get es w ≡ Some (Some e)
    entry_said w e is = by (element_at es w (let size = says.places in let low = place_in f.entries w e is in let few = few_entries in omega arith))
      where
        spelled : SpellsEntry (entry_place M 0 w) e
        spelled = (all_at_place IsEntry f.entries w e sound.laid.entries is, entry_read f cnt (record { 0 = 0 }) w e sound.laid.nodes.0 is)

        by : (o : Option CatEntry) × (slice_get es w ≡ Some o) → slice_get es w ≡ Some (Some e)
        by s = reads s.0 s.1 (says.each w s.0 s.1)
          where
            reads : (o : Option CatEntry) → slice_get es w ≡ Some o → ReadsAs (entry_place M 0 w) o → slice_get es w ≡ Some (Some e)
            reads None at r = absurd (r e spelled)
            reads (Some d) at r = at ∙ ap (λ (x : CatEntry). Some (Some x)) (entry_spelled_once d e r.0 spelled.0 (sym r.1 ∙ spelled.1))

    said_entry : (w : ℕ) (e : CatEntry) → slice_get es w ≡ Some (Some e) → slice_get f.entries w ≡ Some e
    said_entry w e is =
        let spelled = says.each w (Some e) is in
        entry_there f cnt (record { 0 = 0 }) w e sound.laid.nodes.0 (let size = says.places in let low = place_in es w (Some e) is in omega arith) spelled.0 spelled.1

    pub entries_are : entries_of es ≡ f.entries
    entries_are = said_entries es f.entries entry_said said_entry

    first : UsedFirst es
    first w e is = used_before es w e (ap (λ (l : List CatEntry). slice_get l w) entries_are ∙ said_entry w e is)

    unused_at : (w : ℕ) → w < 64 → length f.entries ≤ w → IsUnused (entry_place M 0 w)
    unused_at w low past = zeros_at (entry_place M 0 w) 64 (length_at (64 + 64 * w) 0 64 sound.laid.nodes.0 (omega arith)) (entry_free f cnt (record { 0 = 0 }) w sound.laid.nodes.0 low past)

    has_entry : (w : ℕ) → w < 64 → HasEntry M es w
    has_entry w low = by (element_at es w (let size = says.places in omega arith))
      where
        by : (o : Option CatEntry) × (slice_get es w ≡ Some o) → HasEntry M es w
        by s = record {
          grammar = grammar s.0 s.1;
          fits = subst (λ (o : Option CatEntry). Rattle.mn_forest.specs.Rules.EntryFits es w o) (sym (entry_is es w s.0 s.1))
              (tree_fits es first (subst (λ (l : List CatEntry). Rattle.mn_base.specs.Tree.IsVersionTree (heads_in l)) (sym entries_are) sound.tree.versions) w s.0 s.1);
        }
          where
            grammar : (o : Option CatEntry) → slice_get es w ≡ Some o → Rattle.mn_forest.specs.Rules.IsReadable (entry_place M 0 w)
            grammar (Some e) at = inr (e, says.each w (Some e) at)
            grammar None at = elim (below_or w (length f.entries)) as (λ _. Rattle.mn_forest.specs.Rules.IsReadable (entry_place M 0 w)) [
              | inl less ↦ absurd (let e = element_at f.entries w less in let bad = entry_said w e.0 e.1 in cc)
              | inr past ↦ inl (unused_at w low past)
            ]

    entry_test : (n w : ℕ) → n < node_count f → w < 64 → HasEntryAt M es n w
    entry_test zero w in' low = has_entry w low
    entry_test (suc n) w in' low = catalog_at f cnt (record { 0 = suc n }) (64 * w) 64 in' (omega arith) ∙ sym (catalog_at f cnt (record { 0 = 0 }) (64 * w) 64 (omega arith) (omega arith))

    root_test : (n w : ℕ) → w < 64 → HasRootAt M es n w
    root_test (suc n) w low = tt
    root_test zero w low = λ e is. by e (at e is)
      where
        at : (e : CatEntry) → entry_of es w ≡ Some e → slice_get f.entries w ≡ Some e
        at e is = let s = element_at es w (let size = says.places in omega arith) in said_entry w e (s.1 ∙ ap Some (sym (entry_is es w s.0 s.1) ∙ is))

        by : (e : CatEntry) → slice_get f.entries w ≡ Some e → IsRootAt M w e
        by e there =
            let r = sound.tree.roots w (place_in f.entries w e there) in
            record { page = r.page; there = stands_there e.root r.page (sym (ap (λ (o : Option CatEntry). Rattle.std.specs.Option.option_and_then (λ x. page_at f x.root) o) there) ∙ r.there); made = r.made; low = r.low; high = r.high }

    -- Pages

    page_test : (addr : Addr) → addr.node.0 < node_count f → addr.slot < 4096 → HasPage M f.entries addr
    page_test addr in' room = record {
      below = λ low.
          let p = element_at (slice_index_or f.pages addr.node.0 []) addr.slot (let count = count_is addr.node.0 in' in omega arith) in
          let there : page_at f addr ≡ Some p.0 = sym (get_in-index f.pages addr.node.0 addr.slot) ∙ p.1 in
          (p.0, (stands_there addr p.0 there).1, sound.tree.pages addr p.0 there);
      behind = λ past.
          let count = count_is addr.node.0 in' in
          zeros_at (slot_place M addr.node.0 addr.slot) 1024 (length_at (20480 + 1024 * addr.slot) addr.node.0 1024 in' (omega arith))
          (subst AreZeros (sym (ap (λ (s : List ℕ). bytes_in s (20480 + 1024 * addr.slot) 1024) (space_in-memory_by_pages f addr.node in')))
          (slot_free (front_of (node_count f) addr.node.0 (length (slice_index_or f.pages addr.node.0 [])) (catalog_bytes f)) (slice_index_or f.pages addr.node.0 []) addr.slot
          (front_length (node_count f) addr.node.0 (length (slice_index_or f.pages addr.node.0 [])) (catalog_bytes f) (catalog_length f cnt)) (node_slots f cnt addr.node.0) (omega arith)));
    }

    children_test : (addr : Addr) → HasChildren M f.entries addr
    children_test addr p stands =
        all_by_place (IsChildAt M f.entries p) (children_of p) (λ i c is.
        let child = all_at_place (IsChild f.entries (page_at f) p) (children_of p) i c (sound.tree.children addr p (there_stands addr p stands)) is in
        record { page = child.page; there = stands_there c.addr child.page child.there; low = child.low; high = child.high; height = child.height; serves = child.serves })

    reach_test : (addr : Addr) → IsReached M f.entries addr
    reach_test addr p stands v in' does = elim (reached f.entries (page_at f) sound.tree sound.laid.pages addr p v (there_stands addr p stands) in' does) as (λ _. IsRootOf f.entries v addr ⊎ IsNamedAt M f.entries v (height_of p.body + 1) addr) [
      | inl root ↦ inl root
      | inr up ↦ inr (up.from, record { parent = up.parent; there = stands_there up.from up.parent up.there; level = up.level; serves = up.serves; named = up.named })
    ]

    pub passes : AllPass M es
    passes n OfHeader low is = has_header n (node_in n low)
    passes n OfCount low is = has_count n (node_in n low)
    passes n (OfEntry w) low is = entry_test n w (node_in n low) is
    passes n (OfRoot w) low is = root_test n w is
    passes n (OfPage slot) low is = let addr : Addr = record { node = record { 0 = n }; slot = slot } in subst (λ (l : List CatEntry). HasPage M l addr) (sym entries_are) (page_test addr (node_in n low) is)
    passes n (OfChildren slot) low is = let addr : Addr = record { node = record { 0 = n }; slot = slot } in subst (λ (l : List CatEntry). HasChildren M l addr) (sym entries_are) (children_test addr)
    passes n (OfReach slot) low is = let addr : Addr = record { node = record { 0 = n }; slot = slot } in subst (λ (l : List CatEntry). IsReached M l addr) (sym entries_are) (reach_test addr)

-- a memory that holds a store passes each test
pub holding_passes : (memory : List (List ℕ)) (f : Forest) → memory ≡ memory_of f → IsForest f → (es : List (Option CatEntry)) → Says memory es → AllPass memory es
holding_passes memory f is sound es says =
    let same : memory ≡ memory_by_pages f = is ∙ laid_is f in
    subst (λ (m : List (List ℕ)). AllPass m es) (sym same) (passes f sound es (subst (λ (m : List (List ℕ)). Says m es) same says))
