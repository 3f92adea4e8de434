-- What the memory of a forest has at the places of pages and entries, and what a written page makes
-- of it.
use Rattle.std.proofs.Common.{◌≡◌, ℕ, zero, suc, ◌+◌, ◌*◌, ◌<◌, ◌≤◌, inl, inr, Bool, true, false, List, [], ◌∷◌, ◌++◌, length, map, take, replicate, Some, refl, subst, sym, ap, ◌∙◌, arith, slice_get, slice_set, slice_index_or, get_or-set_other, get_or-set_same}
use Rattle.std.specs.Prelude.{bytes_eq}
use Rattle.std.specs.List.{AllByRecursion, flat_map, range_with_len}
use Rattle.std.proofs.lemmas.List.{length-append, length-set, length-map}
use Rattle.std.proofs.lemmas.List.FromFn.{get_or-map-range_with_len, length-range_with_len}
use Rattle.std.proofs.lemmas.Option.{slice_get_within, slice_get_cases, option_and_then_some}
use Rattle.byteorder.specs.Endian.{big_bytes}
use Rattle.mn_base.specs.declared.ids.Addr.{Addr}
use Rattle.mn_base.specs.declared.ids.NodeNo.{NodeNo}
use Rattle.mn_mini.specs.Flat.{bytes_in, overwritten, space_in}
use Rattle.mn_page.specs.declared.page.Page.{Page}
use Rattle.mn_page.specs.declared.entry.CatEntry.{CatEntry}
use Rattle.mn_page.specs.Grammar.{padded, page_bytes, entry_bytes, IsPage, IsEntry}
use Rattle.mn_page.specs.Forest.{Forest, node_count, header_bytes, head_of, front_of, page_at}
use Rattle.mn_page.proofs.Grid.{get_in, all_at_places, all_at_place, all_by_place}
use Rattle.mn_page.proofs.Alike.{with_page}
use Rattle.mn_page.proofs.Spelled.{length-padded, page_length, page_spelled_once, entry_spelled_once, big_bytes-inj}
use Rattle.mn_law.proofs.Pieces.{bytes_in-skip, bytes_in-within, overwritten-skip, bytes_in-padded, overwritten-padded, AreZeros, zeros_behind, length-pieces, read_piece, write_piece, entry_sizes}
use Rattle.mn_page.proofs.Counted.{IsCounted, IsPageIn}
use Rattle.mn_base.specs.Order.{key_lt}
use Rattle.mn_base.proofs.Keys.{bytes_eq-true, key_lt-trans, key_lt-else}

-- The parts of a space

abbrev pub space_from : ℕ → ℕ → List ℕ → List Page → List ℕ
space_from nodes n catalog pages = padded 4214784 (front_of nodes n (length pages) catalog ++ flat_map page_bytes pages)

-- the catalog of each node
abbrev pub catalog_bytes : Forest → List ℕ
catalog_bytes f = flat_map entry_bytes f.entries

-- the space of a node, with the count of its pages
abbrev pub space_bytes : Forest → ℕ → List ℕ
space_bytes f n = space_from (node_count f) n (catalog_bytes f) (slice_index_or f.pages n [])

abbrev pub memory_by_pages : Forest → List (List ℕ)
memory_by_pages f = map (space_bytes f) (range_with_len 0 (node_count f))

pub head_length : (nodes n count : ℕ) → length (head_of nodes n count) ≡ 64
head_length nodes n count = length-padded 64 (header_bytes nodes n ++ big_bytes 8 count) (omega arith)

pub front_length : (nodes n count : ℕ) (catalog : List ℕ) → length catalog ≤ 4096 → length (front_of nodes n count catalog) ≡ 20480
front_length nodes n count catalog fits =
    let both : length (head_of nodes n count ++ padded 4096 catalog) ≡ 64 + 4096 =
    length-append (head_of nodes n count) (padded 4096 catalog) ∙ (ap (λ k. k + length (padded 4096 catalog)) (head_length nodes n count) ∙ ap (λ k. 64 + k) (length-padded 4096 catalog fits)) in
    length-padded 20480 (head_of nodes n count ++ padded 4096 catalog) (subst (λ k. k ≤ 20480) (sym both) (omega arith))

-- the pages have each the length of a slot
abbrev pub AreSlots : List Page → Type 0
AreSlots pages = AllByRecursion (λ p. length (page_bytes p) ≡ 1024) pages

pub text_length : (front : List ℕ) (pages : List Page) → length front ≡ 20480 → AreSlots pages → length (front ++ flat_map page_bytes pages) ≡ 20480 + 1024 * length pages
text_length front pages l slots = length-append front (flat_map page_bytes pages) ∙ (ap (λ k. k + length (flat_map page_bytes pages)) l ∙ ap (λ k. 20480 + k) (length-pieces page_bytes 1024 pages slots))

pub slot_read : (front : List ℕ) (pages : List Page) (slot : ℕ) (p : Page) → length front ≡ 20480 → AreSlots pages → slice_get pages slot ≡ Some p
    → bytes_in (padded 4214784 (front ++ flat_map page_bytes pages)) (20480 + 1024 * slot) 1024 ≡ page_bytes p
slot_read front pages slot p l slots at =
    let in' = slice_get_within pages slot p at in
    let all = text_length front pages l slots in
    bytes_in-padded 4214784 (front ++ flat_map page_bytes pages) (20480 + 1024 * slot) 1024 (omega arith)
    ∙ (bytes_in-skip front (flat_map page_bytes pages) (20480 + 1024 * slot) (1024 * slot) 1024 (omega arith) ∙ read_piece page_bytes 1024 pages slot (1024 * slot) p slots at refl)

pub slot_free : (front : List ℕ) (pages : List Page) (slot : ℕ) → length front ≡ 20480 → AreSlots pages → length pages ≤ slot
    → AreZeros (bytes_in (padded 4214784 (front ++ flat_map page_bytes pages)) (20480 + 1024 * slot) 1024)
slot_free front pages slot l slots past =
    let all = text_length front pages l slots in
    zeros_behind 4214784 (front ++ flat_map page_bytes pages) (20480 + 1024 * slot) 1024 (omega arith)

pub slot_write : (front : List ℕ) (pages : List Page) (slot : ℕ) (p q : Page) → length front ≡ 20480 → AreSlots pages → slice_get pages slot ≡ Some p → length (page_bytes q) ≡ 1024
    → overwritten (padded 4214784 (front ++ flat_map page_bytes pages)) (20480 + 1024 * slot) (page_bytes q) ≡ padded 4214784 (front ++ flat_map page_bytes (slice_set pages slot q))
slot_write front pages slot p q l slots at new =
    let in' = slice_get_within pages slot p at in
    let all = text_length front pages l slots in
    overwritten-padded 4214784 (front ++ flat_map page_bytes pages) (20480 + 1024 * slot) (page_bytes q) (omega arith)
    ∙ ap (padded 4214784) (overwritten-skip front (flat_map page_bytes pages) (20480 + 1024 * slot) (1024 * slot) (page_bytes q) (omega arith)
    ∙ ap (λ (b : List ℕ). front ++ b) (write_piece page_bytes 1024 pages slot (1024 * slot) p q slots at new refl))

-- In a forest

pub catalog_length : (f : Forest) → IsCounted f → length (catalog_bytes f) ≤ 4096
catalog_length f sound =
    let few : length f.entries ≤ 64 = subst (λ k. k ≤ 64) (length-map f.entries _) sound.tree.count in
    let is = length-pieces entry_bytes 64 f.entries (entry_sizes f.entries sound.entries) in omega arith

pub get_in-index : {X : Type 0} (xss : List (List X)) (n s : ℕ) → slice_get (slice_index_or xss n []) s ≡ get_in xss n s
get_in-index [] n s = refl
get_in-index (xs ∷ xss) zero s = refl
get_in-index (xs ∷ xss) (suc n) s = get_in-index xss n s

pub node_slots : (f : Forest) → IsCounted f → (n : ℕ) → AreSlots (slice_index_or f.pages n [])
node_slots f sound n =
    all_by_place (λ p. length (page_bytes p) ≡ 1024) (slice_index_or f.pages n []) (λ s p at.
    let is : IsPageIn f p = all_at_places (IsPageIn f) f.pages n s p sound.pages (sym (get_in-index f.pages n s) ∙ at) in page_length p is.page)

pub space_in-memory_by_pages : (f : Forest) (n : NodeNo) → n.0 < node_count f → space_in (memory_by_pages f) n ≡ space_bytes f n.0
space_in-memory_by_pages f n in' = get_or-map-range_with_len (space_bytes f) 0 (node_count f) n.0 n.0 [] in' (omega arith)

-- Reading

pub same_zeros : (xs : List ℕ) → AreZeros xs → xs ≡ replicate (length xs) 0
same_zeros [] z = refl
same_zeros (x ∷ xs) z = let first = z.0 in let rest = same_zeros xs z.1 in cc

pub zeros_front : (n : ℕ) (xs : List ℕ) → AreZeros xs → AreZeros (take n xs)
zeros_front zero xs z = tt
zeros_front (suc n) [] z = tt
zeros_front (suc n) (x ∷ xs) z = (z.0, zeros_front n xs z.1)

not_free : (p : Page) → IsPage p → AreZeros (page_bytes p) → ⊥
not_free p is z =
    let seq : big_bytes 8 p.seq ≡ big_bytes 8 0 = same_zeros (big_bytes 8 p.seq) (zeros_front 8 (page_bytes p) z) in
    let low = is.seq_low in
    let high = is.seq_high in
    let none : p.seq ≡ 0 = big_bytes-inj 8 p.seq 0 (omega arith) (omega arith) seq in absurd (omega arith)

-- the slot's bytes where a page stands
pub page_read : (f : Forest) → IsCounted f → (addr : Addr) (p : Page) → addr.node.0 < node_count f → page_at f addr ≡ Some p → bytes_in (space_in (memory_by_pages f) addr.node) (20480 + 1024 * addr.slot) 1024 ≡ page_bytes p
page_read f sound addr p in' there =
    ap (λ (s : List ℕ). bytes_in s (20480 + 1024 * addr.slot) 1024) (space_in-memory_by_pages f addr.node in')
    ∙ slot_read (front_of (node_count f) addr.node.0 (length (slice_index_or f.pages addr.node.0 [])) (catalog_bytes f)) (slice_index_or f.pages addr.node.0 []) addr.slot p
    (front_length (node_count f) addr.node.0 (length (slice_index_or f.pages addr.node.0 [])) (catalog_bytes f) (catalog_length f sound))
    (node_slots f sound addr.node.0) (get_in-index f.pages addr.node.0 addr.slot ∙ there)

-- a slot whose bytes spell a page has this page
pub page_there : (f : Forest) → IsCounted f → (addr : Addr) (p : Page) → addr.node.0 < node_count f → IsPage p → bytes_in (space_in (memory_by_pages f) addr.node) (20480 + 1024 * addr.slot) 1024 ≡ page_bytes p → page_at f addr ≡ Some p
page_there f sound addr p in' spelled read =
    elim ((slice_get_cases (slice_index_or f.pages addr.node.0 []) addr.slot).1) as (λ _. page_at f addr ≡ Some p) [
      | inl found ↦
          let there : page_at f addr ≡ Some found.0 = sym (get_in-index f.pages addr.node.0 addr.slot) ∙ found.2 in
          let is : IsPageIn f found.0 = all_at_places (IsPageIn f) f.pages addr.node.0 addr.slot found.0 sound.pages there in
          there ∙ ap Some (page_spelled_once found.0 p is.page spelled (sym (page_read f sound addr found.0 in' there) ∙ read))
      | inr past ↦
          absurd (not_free p spelled (subst AreZeros (sym (ap (λ (s : List ℕ). bytes_in s (20480 + 1024 * addr.slot) 1024) (space_in-memory_by_pages f addr.node in')) ∙ read)
          (slot_free (front_of (node_count f) addr.node.0 (length (slice_index_or f.pages addr.node.0 [])) (catalog_bytes f)) (slice_index_or f.pages addr.node.0 []) addr.slot
          (front_length (node_count f) addr.node.0 (length (slice_index_or f.pages addr.node.0 [])) (catalog_bytes f) (catalog_length f sound))
          (node_slots f sound addr.node.0) past.0)))
    ]

abbrev pub node_0 : NodeNo
node_0 = record { 0 = 0 }

-- bytes of the catalog's region
pub catalog_region : (catalog head behind : List ℕ) (s n : ℕ) → length head ≡ 64 → length catalog ≤ 4096 → s + n ≤ 4096
    → bytes_in (padded 4214784 (padded 20480 (head ++ padded 4096 catalog) ++ behind)) (64 + s) n ≡ bytes_in (padded 4096 catalog) s n
catalog_region catalog head behind s n l fits in' =
    let pad : length (padded 4096 catalog) ≡ 4096 = length-padded 4096 catalog fits in
    let inner : length (head ++ padded 4096 catalog) ≡ 4160 = length-append head (padded 4096 catalog) ∙ (ap (λ k. k + length (padded 4096 catalog)) l ∙ ap (λ k. 64 + k) pad) in
    let front : length (padded 20480 (head ++ padded 4096 catalog)) ≡ 20480 = length-padded 20480 (head ++ padded 4096 catalog) (subst (λ k. k ≤ 20480) (sym inner) (omega arith)) in
    let all : length (padded 20480 (head ++ padded 4096 catalog) ++ behind) ≡ 20480 + length behind = length-append (padded 20480 (head ++ padded 4096 catalog)) behind ∙ ap (λ k. k + length behind) front in
    bytes_in-padded 4214784 (padded 20480 (head ++ padded 4096 catalog) ++ behind) (64 + s) n (subst (λ k. 64 + s + n ≤ k) (sym all) (omega arith))
    ∙ (bytes_in-within (padded 20480 (head ++ padded 4096 catalog)) behind (64 + s) n (subst (λ k. 64 + s + n ≤ k) (sym front) (omega arith))
    ∙ (bytes_in-padded 20480 (head ++ padded 4096 catalog) (64 + s) n (subst (λ k. 64 + s + n ≤ k) (sym inner) (omega arith))
    ∙ bytes_in-skip head (padded 4096 catalog) (64 + s) s n (ap (λ k. k + s) (sym l))))

-- what a node has in the catalog's region
pub catalog_at : (f : Forest) → IsCounted f → (n : NodeNo) (s k : ℕ) → n.0 < node_count f → s + k ≤ 4096
    → bytes_in (space_in (memory_by_pages f) n) (64 + s) k ≡ bytes_in (padded 4096 (catalog_bytes f)) s k
catalog_at f sound n s k in' low =
    ap (λ (b : List ℕ). bytes_in b (64 + s) k) (space_in-memory_by_pages f n in')
    ∙ catalog_region (catalog_bytes f) (head_of (node_count f) n.0 (length (slice_index_or f.pages n.0 []))) (flat_map page_bytes (slice_index_or f.pages n.0 [])) s k
    (head_length (node_count f) n.0 (length (slice_index_or f.pages n.0 []))) (catalog_length f sound) low

-- each entry has its place, on each node
pub entry_read : (f : Forest) → IsCounted f → (n : NodeNo) (v : ℕ) (e : CatEntry) → n.0 < node_count f → slice_get f.entries v ≡ Some e → bytes_in (space_in (memory_by_pages f) n) (64 + 64 * v) 64 ≡ entry_bytes e
entry_read f sound n v e in' at =
    let low = slice_get_within f.entries v e at in
    let fits = catalog_length f sound in
    let long : length (flat_map entry_bytes f.entries) ≡ 64 * length f.entries = length-pieces entry_bytes 64 f.entries (entry_sizes f.entries sound.entries) in
    catalog_at f sound n (64 * v) 64 in' (omega arith)
    ∙ (bytes_in-padded 4096 (catalog_bytes f) (64 * v) 64 (subst (λ k. 64 * v + 64 ≤ k) (sym long) (omega arith)) ∙ read_piece entry_bytes 64 f.entries v (64 * v) e (entry_sizes f.entries sound.entries) at refl)

pub not_unused : (e : CatEntry) → IsEntry e → AreZeros (entry_bytes e) → ⊥
not_unused e is z =
    let seq : big_bytes 8 e.seq ≡ big_bytes 8 0 = same_zeros (big_bytes 8 e.seq) (zeros_front 8 (entry_bytes e) z) in
    let low = is.seq_low in
    let high = is.seq_high in
    let none : e.seq ≡ 0 = big_bytes-inj 8 e.seq 0 (omega arith) (omega arith) seq in absurd (omega arith)

-- the places behind the entries are unused
pub entry_free : (f : Forest) → IsCounted f → (n : NodeNo) (v : ℕ) → n.0 < node_count f → v < 64 → length f.entries ≤ v → AreZeros (bytes_in (space_in (memory_by_pages f) n) (64 + 64 * v) 64)
entry_free f sound n v in' few past =
    let long : length (flat_map entry_bytes f.entries) ≡ 64 * length f.entries = length-pieces entry_bytes 64 f.entries (entry_sizes f.entries sound.entries) in
    subst AreZeros (sym (catalog_at f sound n (64 * v) 64 in' (omega arith)))
    (zeros_behind 4096 (catalog_bytes f) (64 * v) 64 (subst (λ k. k ≤ 64 * v) (sym long) (omega arith)))

-- a place whose bytes spell an entry has this entry
pub entry_there : (f : Forest) → IsCounted f → (n : NodeNo) (v : ℕ) (e : CatEntry) → n.0 < node_count f → v < 64 → IsEntry e → bytes_in (space_in (memory_by_pages f) n) (64 + 64 * v) 64 ≡ entry_bytes e → slice_get f.entries v ≡ Some e
entry_there f sound n v e in' few spelled read =
    elim ((slice_get_cases f.entries v).1) as (λ _. slice_get f.entries v ≡ Some e) [
      | inl found ↦ found.2 ∙ ap Some (entry_spelled_once found.0 e (all_at_place IsEntry f.entries v found.0 sound.entries found.2) spelled (sym (entry_read f sound n v found.0 in' found.2) ∙ read))
      | inr past ↦ absurd (not_unused e spelled (subst AreZeros read (entry_free f sound n v in' few past.0)))
    ]

-- Writing

pub map_same : {X : Type 0} (g h : ℕ → X) (a k : ℕ) → ((m : ℕ) → a ≤ m → m < a + k → g m ≡ h m) → map g (range_with_len a k) ≡ map h (range_with_len a k)
map_same g h a zero same = refl
map_same g h a (suc k) same = let first = same a (omega arith) (omega arith) in let rest = map_same g h (a + 1) k (λ m l u. same m (omega arith) (omega arith)) in cc

pub set_map : {X : Type 0} (g h : ℕ → X) (a k i : ℕ) → i < k → ((m : ℕ) → (m ≡ a + i → ⊥) → g m ≡ h m) → slice_set (map g (range_with_len a k)) i (h (a + i)) ≡ map h (range_with_len a k)
set_map g h a zero i in' same = absurd (omega arith)
set_map g h a (suc k) zero in' same =
    let here : h (a + 0) ≡ h a = ap h (omega arith) in
    let rest = map_same g h (a + 1) k (λ m l u. same m (λ e. absurd (omega arith))) in cc
set_map g h a (suc k) (suc i) in' same =
    let first : g a ≡ h a = same a (λ e. absurd (omega arith)) in
    let place : a + 1 + i ≡ a + suc i = omega arith in
    let rest = set_map g h (a + 1) k i (omega arith) (λ m e. same m (λ f. e (omega arith))) in
    ap (λ (x : _). x ∷ slice_set (map g (range_with_len (a + 1) k)) i (h (a + suc i))) first
    ∙ ap (λ (xs : List _). h a ∷ xs) (ap (λ j. slice_set (map g (range_with_len (a + 1) k)) i (h j)) (sym place) ∙ rest)

-- one space of a memory
pub space_set : (f g : Forest) (n : ℕ) → n < node_count f → node_count g ≡ node_count f → ((m : ℕ) → (m ≡ n → ⊥) → space_bytes f m ≡ space_bytes g m) → (bytes : List ℕ) → bytes ≡ space_bytes g n
    → slice_set (memory_by_pages f) n bytes ≡ memory_by_pages g
space_set f g n in' nodes others bytes here =
    let z : n ≡ 0 + n = omega arith in
    ap (slice_set (memory_by_pages f) n) (here ∙ ap (space_bytes g) z) ∙ (set_map (space_bytes f) (space_bytes g) 0 (node_count f) n in' (λ m e. others m (λ h. e (h ∙ omega arith))) ∙ ap (λ k. map (space_bytes g) (range_with_len 0 k)) (sym nodes))

pub page_node : (f : Forest) (addr : Addr) (p : Page) → page_at f addr ≡ Some p → addr.node.0 < node_count f
page_node f addr p there = option_and_then_some (λ (pages : List Page). slice_get pages addr.slot) (slice_get f.pages addr.node.0) p there (λ pages at _. slice_get_within f.pages addr.node.0 pages at)

pub page_written : (f : Forest) → IsCounted f → (addr : Addr) (p q : Page) → page_at f addr ≡ Some p → IsPage q
    → slice_set (memory_by_pages f) addr.node.0 (overwritten (space_in (memory_by_pages f) addr.node) (20480 + 1024 * addr.slot) (page_bytes q)) ≡ memory_by_pages (with_page f addr q)
page_written f sound addr p q there spelled =
    let in' = page_node f addr p there in
    let nodes : node_count (with_page f addr q) ≡ node_count f = length-set f.pages addr.node.0 (slice_set (slice_index_or f.pages addr.node.0 []) addr.slot q) in
    space_set f (with_page f addr q) addr.node.0 in' nodes others (overwritten (space_in (memory_by_pages f) addr.node) (20480 + 1024 * addr.slot) (page_bytes q)) (
    ap (λ (s : List ℕ). overwritten s (20480 + 1024 * addr.slot) (page_bytes q)) (space_in-memory_by_pages f addr.node in')
    ∙ (slot_write (front_of (node_count f) addr.node.0 (length (slice_index_or f.pages addr.node.0 [])) (catalog_bytes f)) (slice_index_or f.pages addr.node.0 []) addr.slot p q
    (front_length (node_count f) addr.node.0 (length (slice_index_or f.pages addr.node.0 [])) (catalog_bytes f) (catalog_length f sound))
    (node_slots f sound addr.node.0) (get_in-index f.pages addr.node.0 addr.slot ∙ there) (page_length q spelled)
    ∙ sym (here in' nodes)))
  where
    others : (m : ℕ) → (m ≡ addr.node.0 → ⊥) → space_bytes f m ≡ space_bytes (with_page f addr q) m
    others m differ =
        ap (λ k. space_from k m (catalog_bytes f) (slice_index_or f.pages m [])) (sym (length-set f.pages addr.node.0 (slice_set (slice_index_or f.pages addr.node.0 []) addr.slot q)))
        ∙ ap (λ (ps : List Page). space_from (node_count (with_page f addr q)) m (catalog_bytes f) ps) (sym (get_or-set_other f.pages addr.node.0 m (slice_set (slice_index_or f.pages addr.node.0 []) addr.slot q) [] differ))

    here : addr.node.0 < node_count f → node_count (with_page f addr q) ≡ node_count f → space_bytes (with_page f addr q) addr.node.0
        ≡ padded 4214784 (front_of (node_count f) addr.node.0 (length (slice_index_or f.pages addr.node.0 [])) (catalog_bytes f) ++ flat_map page_bytes (slice_set (slice_index_or f.pages addr.node.0 []) addr.slot q))
    here in' nodes =
        ap (λ k. space_from k addr.node.0 (catalog_bytes f) (slice_index_or (with_page f addr q).pages addr.node.0 [])) nodes
        ∙ (ap (λ (ps : List Page). space_from (node_count f) addr.node.0 (catalog_bytes f) ps) (get_or-set_same f.pages addr.node.0 (slice_set (slice_index_or f.pages addr.node.0 []) addr.slot q) [] in')
        ∙ ap (λ k. padded 4214784 (front_of (node_count f) addr.node.0 k (catalog_bytes f) ++ flat_map page_bytes (slice_set (slice_index_or f.pages addr.node.0 []) addr.slot q))) (length-set (slice_index_or f.pages addr.node.0 []) addr.slot q))

pub memory_length : (f : Forest) → length (memory_by_pages f) ≡ node_count f
memory_length f = length-map (range_with_len 0 (node_count f)) (space_bytes f) ∙ length-range_with_len 0 (node_count f)

-- Keys

-- below one key that is not above another is below the other
pub lt_le : (a b c : List ℕ) → key_lt a b ≡ true → key_lt c b ≡ false → key_lt a c ≡ true
lt_le a b c less not_above = by (bytes_eq b c) refl
  where
    by : (t : Bool) → bytes_eq b c ≡ t → key_lt a c ≡ true
    by true e = subst (λ (k : List ℕ). key_lt a k ≡ true) (bytes_eq-true b c e) less
    by false e = key_lt-trans a b c less (key_lt-else c b not_above e)
