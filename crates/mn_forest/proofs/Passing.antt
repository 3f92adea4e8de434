-- A memory that passes each test is that of a forest: its pages are read one by one, and their
-- places make the spaces.
use Rattle.std.proofs.Common.{◌≡◌, ◌<◌, ◌≤◌, ◌+◌, ◌-◌, ◌*◌, ◌⊎◌, inl, inr, ℕ, zero, suc, List, [], ◌∷◌, ◌++◌, length, drop, replicate, map, Option, Some, None, refl, ap, sym, subst, ◌∙◌, arith, slice_get, slice_index_or, append-nil}
use Rattle.std.specs.Prelude.{IsTrue}
use Rattle.std.specs.List.{flat_map, range_with_len, AllByRecursion}
use Rattle.std.proofs.lemmas.List.{length-append}
use Rattle.byteorder.specs.Endian.{big_bytes}
use Rattle.byteorder.specs.Numbers.{length-bytes_high_first}
use Rattle.mn_base.specs.declared.ids.Addr.{Addr}
use Rattle.mn_mini.specs.Mini.{space_size}
use Rattle.mn_mini.specs.Flat.{bytes_in}
use Rattle.mn_page.specs.declared.entry.CatEntry.{CatEntry}
use Rattle.mn_page.specs.declared.page.Page.{Page}
use Rattle.mn_page.specs.Grammar.{IsEntry, IsUnused, padded, page_bytes, entry_bytes, height_of}
use Rattle.mn_page.specs.Forest.{Forest, header_bytes, memory_of, page_at, children_of}
use Rattle.mn_page.specs.Holds.{HasVersions, IsChild, IsRoot, IsLaid, IsForest, page_serves}
use Rattle.mn_page.proofs.Spelled.{page_length, entry_length}
use Rattle.mn_page.proofs.Grid.{all_by_place, all_at_place}
use Rattle.mn_law.proofs.Pieces.{length-pieces}
use Rattle.mn_plans.proofs.Spaces.{space_bytes, get_in-index, page_node}
use Rattle.mn_plans.proofs.Laying.{laid_is}
use Rattle.mn_plans.proofs.Compares.{element_at}
use Rattle.mn_forest.specs.Rules.{Says, ReadsAs, space_at, count_at, entry_place, StandsAt, entries_of, zeros, HasHeader, IsCount, HasEntry, EntryFits, IsReadable, IsRootAt, IsChildAt, IsReached, OfHeader, OfCount, OfEntry, OfRoot, OfPage, OfChildren, OfReach, AllPass}
use Rattle.mn_flat.proofs.Lists.{place_in, read_at, pushed_at}
use Rattle.mn_forest.proofs.Fronts.{one_page}
use Rattle.mn_forest.proofs.Noting.{stands_on_node, space_length_at}
use Rattle.mn_forest.proofs.Assembled.{step, pieces, no_pieces, whole, nothing_behind, by_places}
use Rattle.mn_forest.proofs.Partition.{IsNamedIn, IsRootIn, is_tree, root_at, entry_at}
use Rattle.mn_forest.proofs.Catalogs.{AllFit, fit_tree, used_first, place_entry, entry_place_of, entry_is}
use Rattle.mn_forest.proofs.Refusing.{entries_few}

abbrev place : ℕ → ℕ → Addr
place n slot = record { node = record { 0 = n }; slot = slot }

module _ (memory : List (List ℕ)) (full : AllByRecursion (λ space. length space ≡ space_size) memory) (es : List (Option CatEntry)) (says : Says memory es) (pass : AllPass memory es) where
  -- The pages of a node

  -- these are the pages of the first k slots
  record AreListed (n k : ℕ) (ps : List Page) : Type 0 where
    size : length ps ≡ k
    each : (slot : ℕ) (p : Page) → slice_get ps slot ≡ Some p → StandsAt memory (place n slot) p

  count_few : (n : ℕ) → n < length memory → count_at memory n ≤ 4096
  count_few n in' = (pass n OfCount in' tt).few

  pages_to : (n : ℕ) → n < length memory → (k : ℕ) → k ≤ count_at memory n → (ps : List Page) × AreListed n k ps
  pages_to n in' zero low = ([], record { size = refl; each = λ slot p is. absurd cc })
  pages_to n in' (suc k) low =
      let older = pages_to n in' k (omega arith) in
      let few = count_few n in' in
      let p = (pass n (OfPage k) in' (omega arith)).below (omega arith) in
      (older.0 ++ p.0 ∷ [], record { size = length-append older.0 (p.0 ∷ []) ∙ (let l = older.1.size in omega arith); each = λ slot q is. by older.0 older.1 p.0 (omega arith, p.1) slot q (pushed_at older.0 p.0 q slot is) })
    where
      by : (ps : List Page) → AreListed n k ps → (p : Page) → StandsAt memory (place n k) p → (slot : ℕ) (q : Page) → (slice_get ps slot ≡ Some q) ⊎ ((slot ≡ length ps) × (q ≡ p)) → StandsAt memory (place n slot) q
      by ps listed p stands slot q (inl at) = listed.each slot q at
      by ps listed p stands slot q (inr last) =
          let here : slot ≡ k = last.0 ∙ listed.size in
          subst (λ (x : Page). StandsAt memory (place n slot) x) (sym last.1) (subst (λ (j : ℕ). StandsAt memory (place n j) p) (sym here) stands)

  -- The nodes

  nodes_from : (k n : ℕ) → n + k ≡ length memory → (pss : List (List Page)) × (length pss ≡ k) × ((i : ℕ) → i < k → AreListed (n + i) (count_at memory (n + i)) (slice_index_or pss i []))
  nodes_from zero n sum = ([], refl, λ i low. absurd (omega arith))
  nodes_from (suc k) n sum =
      let here = pages_to n (omega arith) (count_at memory n) (omega arith) in
      let rest = nodes_from k (n + 1) (omega arith) in
      (here.0 ∷ rest.0, ap suc rest.1, λ i low. by here.0 here.1 rest.0 rest.2 i low)
    where
      by : (ps : List Page) → AreListed n (count_at memory n) ps → (pss : List (List Page)) → ((i : ℕ) → i < k → AreListed (n + 1 + i) (count_at memory (n + 1 + i)) (slice_index_or pss i [])) → (i : ℕ) → i < suc k → AreListed (n + i) (count_at memory (n + i)) (slice_index_or (ps ∷ pss) i [])
      by ps here pss rest zero low = subst (λ (m : ℕ). AreListed m (count_at memory m) ps) (let h : n ≡ n + 0 = omega arith in h) here
      by ps here pss rest (suc i) low = subst (λ (m : ℕ). AreListed m (count_at memory m) (slice_index_or pss i [])) (let h : n + 1 + i ≡ n + suc i = omega arith in h) (rest i (omega arith))

  nodes : (pss : List (List Page)) × (length pss ≡ length memory) × ((i : ℕ) → i < length memory → AreListed (0 + i) (count_at memory (0 + i)) (slice_index_or pss i []))
  nodes = nodes_from (length memory) 0 (omega arith)

-- The forest that is read

-- pages of all nodes, as they stand
record AreRead (memory : List (List ℕ)) (pss : List (List Page)) : Type 0 where
  size : length pss ≡ length memory
  counts : (n : ℕ) → n < length memory → length (slice_index_or pss n []) ≡ count_at memory n
  each : (n slot : ℕ) (p : Page) → n < length memory → slice_get (slice_index_or pss n []) slot ≡ Some p → StandsAt memory (place n slot) p

all_read : (memory : List (List ℕ)) → AllByRecursion (λ space. length space ≡ space_size) memory → (es : List (Option CatEntry)) → Says memory es → AllPass memory es → (pss : List (List Page)) × AreRead memory pss
all_read memory full es says pass =
    let ns = nodes memory full es says pass in (
      ns.0,
      record {
        size = ns.1;
        counts = λ n in'. (ns.2 n in').size ∙ ap (count_at memory) (let h : 0 + n ≡ n = omega arith in h);
        each = λ n slot p in' is. subst (λ (m : ℕ). StandsAt memory (place m slot) p) (let h : 0 + n ≡ n = omega arith in h) ((ns.2 n in').each slot p is);
      },
    )

module _ (memory : List (List ℕ)) (full : AllByRecursion (λ space. length space ≡ space_size) memory) (es : List (Option CatEntry)) (says : Says memory es) (pass : AllPass memory es) (some : 1 ≤ length memory) (pss : List (List Page)) (read : AreRead memory pss) where
  abbrev f : Forest
  f = record { entries = entries_of es; pages = pss }

  count_most : (n : ℕ) → n < length memory → count_at memory n ≤ 4096
  count_most n in' = (pass n OfCount in' tt).few

  at_stands : (addr : Addr) (p : Page) → page_at f addr ≡ Some p → StandsAt memory addr p
  at_stands addr p there =
      let in' = page_node f addr p there in
      read.each addr.node.0 addr.slot p (let size = read.size in omega arith) (get_in-index pss addr.node.0 addr.slot ∙ there)

  stands_at : (addr : Addr) (p : Page) → StandsAt memory addr p → page_at f addr ≡ Some p
  stands_at addr p stands =
      let in' = stands_on_node memory addr p stands in
      let q = element_at (slice_index_or pss addr.node.0 []) addr.slot (let low = stands.0 in let count = read.counts addr.node.0 in' in omega arith) in
      let same : q.0 ≡ p = one_page memory addr q.0 p (read.each addr.node.0 addr.slot q.0 in' q.1) stands in
      sym (get_in-index pss addr.node.0 addr.slot) ∙ (q.1 ∙ ap Some same)

  -- The catalog

  all_fit : AllFit es
  all_fit w o is =
      let low = place_in es w o is in
      let has : HasEntry memory es w = pass 0 (OfEntry w) some (let size = says.places in omega arith) in
      subst (λ (x : Option CatEntry). EntryFits es w x) (entry_is es w o is) has.fits

  entry_spelled : (w : ℕ) (e : CatEntry) → slice_get (entries_of es) w ≡ Some e → IsEntry e × (entry_place memory 0 w ≡ entry_bytes e)
  entry_spelled w e is = says.each w (Some e) (entry_place_of es w e is)

  -- a place behind the entries is unused
  behind_entries : (w : ℕ) → w < 64 → length (entries_of es) ≤ w → IsUnused (entry_place memory 0 w)
  behind_entries w low past = by (element_at es w (let size = says.places in omega arith)) (pass 0 (OfEntry w) some low).grammar
    where
      by : (o : Option CatEntry) × (slice_get es w ≡ Some o) → IsReadable (entry_place memory 0 w) → IsUnused (entry_place memory 0 w)
      by s (inl unused) = unused
      by s (inr spelled) = reads s.0 s.1 (says.each w s.0 s.1)
        where
          reads : (o : Option CatEntry) → slice_get es w ≡ Some o → ReadsAs (entry_place memory 0 w) o → IsUnused (entry_place memory 0 w)
          reads None at r = absurd (r spelled.0 spelled.1)
          reads (Some d) at r = absurd (let in' = place_in (entries_of es) w d (place_entry es (used_first es all_fit) w d at) in omega arith)

  -- on each node the places of the catalog are those of node 0
  same_place : (n w : ℕ) → n < length memory → w < 64 → entry_place memory n w ≡ entry_place memory 0 w
  same_place zero w in' low = refl
  same_place (suc n) w in' low = pass (suc n) (OfEntry w) in' low

  few_entries : length (entries_of es) ≤ 64
  few_entries = let all = entries_few es in let size = says.places in omega arith

  entry_on : (n : ℕ) → n < length memory → (w : ℕ) (e : CatEntry) → slice_get (entries_of es) w ≡ Some e → bytes_in (space_at memory n) (64 + 64 * w) 64 ≡ entry_bytes e
  entry_on n in' w e is = same_place n w in' (let low = place_in (entries_of es) w e is in let few = few_entries in omega arith) ∙ (entry_spelled w e is).1

  free_on : (n : ℕ) → n < length memory → (i : ℕ) → i < 64 - length (entries_of es) → bytes_in (space_at memory n) (64 + 64 * length (entries_of es) + 64 * i) 64 ≡ replicate 64 0
  free_on n in' i low =
      ap (λ (k : ℕ). bytes_in (space_at memory n) k 64) (let h : 64 + 64 * length (entries_of es) + 64 * i ≡ 64 + 64 * (length (entries_of es) + i) = omega arith in h)
      ∙ (same_place n (length (entries_of es) + i) in' (omega arith) ∙ behind_entries (length (entries_of es) + i) (omega arith) (omega arith))

  -- Spaces

  free_slot : (n : ℕ) → n < length memory → (i : ℕ) → i < 4096 - length (slice_index_or pss n []) → bytes_in (space_at memory n) (20480 + 1024 * length (slice_index_or pss n []) + 1024 * i) 1024 ≡ replicate 1024 0
  free_slot n in' i low =
      let count = read.counts n in' in
      ap (λ (k : ℕ). bytes_in (space_at memory n) k 1024) (let h : 20480 + 1024 * length (slice_index_or pss n []) + 1024 * i ≡ 20480 + 1024 * (length (slice_index_or pss n []) + i) = omega arith in h)
      ∙ (pass n (OfPage (length (slice_index_or pss n []) + i)) in' (omega arith)).behind (omega arith)

  page_sizes : (n : ℕ) → n < length memory → AllByRecursion (λ p. length (page_bytes p) ≡ 1024) (slice_index_or pss n [])
  page_sizes n in' = all_by_place (λ p. length (page_bytes p) ≡ 1024) (slice_index_or pss n []) (λ slot p is. page_length p (read.each n slot p in' is).1.0)

  pages_part : (n : ℕ) → n < length memory → drop 20480 (space_at memory n) ≡ flat_map page_bytes (slice_index_or pss n []) ++ replicate (1024 * (4096 - length (slice_index_or pss n []))) 0
  pages_part n in' =
      let few = count_most n in' in
      let count = read.counts n in' in
      pieces page_bytes 1024 (space_at memory n) (slice_index_or pss n []) 20480 (20480 + 1024 * length (slice_index_or pss n [])) (replicate (1024 * (4096 - length (slice_index_or pss n []))) 0 ++ [])
      (λ slot p is. (read.each n slot p in' is).1.1) refl
      (no_pieces 1024 (space_at memory n) (4096 - length (slice_index_or pss n [])) (20480 + 1024 * length (slice_index_or pss n [])) 4214784 (1024 * (4096 - length (slice_index_or pss n []))) [] (free_slot n in') (omega arith) refl
      (nothing_behind (space_at memory n) 4214784 (space_length_at memory n full in')))
      ∙ ap (λ (l : List ℕ). flat_map page_bytes (slice_index_or pss n []) ++ l) (append-nil (replicate (1024 * (4096 - length (slice_index_or pss n []))) 0))

  catalog_part : (n : ℕ) → n < length memory → (rest : List ℕ) → drop 4160 (space_at memory n) ≡ rest → drop 64 (space_at memory n) ≡ flat_map entry_bytes (entries_of es) ++ (replicate (64 * (64 - length (entries_of es))) 0 ++ rest)
  catalog_part n in' rest is =
      let few = few_entries in
      pieces entry_bytes 64 (space_at memory n) (entries_of es) 64 (64 + 64 * length (entries_of es)) (replicate (64 * (64 - length (entries_of es))) 0 ++ rest) (entry_on n in') refl
      (no_pieces 64 (space_at memory n) (64 - length (entries_of es)) (64 + 64 * length (entries_of es)) 4160 (64 * (64 - length (entries_of es))) rest (free_on n in') (omega arith) refl is)

  entry_sizes : AllByRecursion (λ e. length (entry_bytes e) ≡ 64) (entries_of es)
  entry_sizes = all_by_place (λ e. length (entry_bytes e) ≡ 64) (entries_of es) (λ i e is. entry_length e (entry_spelled i e is).0)

  space_is : (n : ℕ) → n < length memory → space_at memory n ≡ space_bytes f n
  space_is n in' = by (pass n OfHeader in' tt) (pass n OfCount in' tt)
    where
      by : HasHeader memory n → IsCount (bytes_in (space_at memory n) 16 8) → space_at memory n ≡ space_bytes f n
      by header count =
          let space = space_at memory n in
          let ps = slice_index_or pss n [] in
          let long = length-pieces page_bytes 1024 (slice_index_or pss n []) (page_sizes n in') in
          let cats = length-pieces entry_bytes 64 (entries_of es) entry_sizes in
          let few = count_most n in' in
          let many = read.counts n in' in
          let least = few_entries in
          let parts = step (space_at memory n) 0 16 16 (header_bytes (length memory) n) _ refl header.front (step (space_at memory n) 16 8 24 (big_bytes 8 (count_at memory n)) _ refl count.spelled
          (step (space_at memory n) 24 40 64 (zeros 40) _ refl header.behind (catalog_part n in' _ (step (space_at memory n) 4160 16320 20480 (zeros 16320) _ refl header.kept (pages_part n in'))))) in
          whole (space_at memory n) (header_bytes (length memory) n) (big_bytes 8 (count_at memory n)) (flat_map entry_bytes (entries_of es)) (flat_map page_bytes (slice_index_or pss n [])) (64 * (64 - length (entries_of es))) (1024 * (4096 - length (slice_index_or pss n []))) refl
          (length-bytes_high_first 8 (count_at memory n)) (omega arith) (omega arith) parts
          ∙ (ap (λ (k : ℕ). laid k (big_bytes 8 (count_at memory n))) (sym read.size)
          ∙ ap (λ (k : ℕ). laid (length pss) (big_bytes 8 k)) (sym (read.counts n in')))
        where
          laid : ℕ → List ℕ → List ℕ
          laid k count = padded 4214784 (padded 20480 (padded 64 (header_bytes k n ++ count) ++ padded 4096 (flat_map entry_bytes (entries_of es))) ++ flat_map page_bytes (slice_index_or pss n []))

  memory_is : memory ≡ memory_of f
  memory_is =
      by_places (space_bytes f) memory 0 (λ i x is. sym (read_at memory i x [] is) ∙ (space_is i (place_in memory i x is) ∙ ap (space_bytes f) (let h : i ≡ 0 + i = omega arith in h)))
      ∙ (ap (λ (k : ℕ). map (space_bytes f) (range_with_len 0 k)) (sym read.size) ∙ sym (laid_is f))

  -- The tree

  is_laid : length memory ≤ 8 → IsLaid f
  is_laid few = record {
    nodes = (let size = read.size in omega arith, let size = read.size in omega arith);
    counts = all_by_place (λ pages. length pages ≤ 4096) pss (λ n ps is. counted n ps is);
    entries = all_by_place IsEntry (entries_of es) (λ w e is. (entry_spelled w e is).0);
    pages = λ addr p there. (at_stands addr p there).1.0;
  }
    where
      counted : (n : ℕ) (ps : List Page) → slice_get pss n ≡ Some ps → length ps ≤ 4096
      counted n ps is =
          let in' : n < length memory = (let low = place_in pss n ps is in let size = read.size in omega arith) in
          let same : slice_index_or pss n [] ≡ ps = read_at pss n ps [] is in
          let count = read.counts n in' in
          let most = count_most n in' in
          subst (λ (l : List Page). length l ≤ 4096) same (omega arith)

  node_of : (addr : Addr) (p : Page) → page_at f addr ≡ Some p → (addr.node.0 < length memory) × (addr.slot < 4096)
  node_of addr p there =
      let stands = at_stands addr p there in
      let in' = stands_on_node memory addr p stands in
      (in', let low = stands.0 in let most = count_most addr.node.0 in' in omega arith)

  root_of : (v : ℕ) (e : CatEntry) → slice_get (entries_of es) v ≡ Some e → IsRoot (entries_of es) (page_at f) v
  root_of v e is =
      let used = entry_place_of es v e is in
      let r : IsRootAt memory v e = pass 0 (OfRoot v) some (let low = place_in es v (Some e) used in let size = says.places in omega arith) e (entry_is es v (Some e) used) in
      record { page = r.page; there = root_at (entries_of es) (page_at f) v e is ∙ stands_at e.root r.page r.there; made = r.made; low = r.low; high = r.high }

  versions_of : (addr : Addr) (p : Page) → page_at f addr ≡ Some p → HasVersions (entries_of es) p
  versions_of addr p there =
      let stands = at_stands addr p there in
      let in' = node_of addr p there in
      let q = (pass addr.node.0 (OfPage addr.slot) in'.0 in'.1).below stands.0 in
      subst (λ (x : Page). HasVersions (entries_of es) x) (one_page memory addr q.0 p (stands.0, q.1) stands) q.2

  children_of_page : (addr : Addr) (p : Page) → page_at f addr ≡ Some p → AllByRecursion (IsChild (entries_of es) (page_at f) p) (children_of p)
  children_of_page addr p there =
      let in' = node_of addr p there in
      let all : AllByRecursion (IsChildAt memory (entries_of es) p) (children_of p) = pass addr.node.0 (OfChildren addr.slot) in'.0 in'.1 p (at_stands addr p there) in
      all_by_place (IsChild (entries_of es) (page_at f) p) (children_of p) (λ i c is.
      let child = all_at_place (IsChildAt memory (entries_of es) p) (children_of p) i c all is in
      record { page = child.page; there = stands_at c.addr child.page child.there; low = child.low; high = child.high; height = child.height; serves = child.serves })

  reach_of : (addr : Addr) (p : Page) (v : ℕ) → page_at f addr ≡ Some p → v < length (entries_of es) → IsTrue (page_serves (entries_of es) v p) → IsRootIn (entries_of es) v addr ⊎ IsNamedIn (entries_of es) (page_at f) v (height_of p.body + 1) addr
  reach_of addr p v there low does =
      let in' = node_of addr p there in
      let reach : IsReached memory (entries_of es) addr = pass addr.node.0 (OfReach addr.slot) in'.0 in'.1 in
      elim (reach p (at_stands addr p there) v low does) as (λ _. IsRootIn (entries_of es) v addr ⊎ IsNamedIn (entries_of es) (page_at f) v (height_of p.body + 1) addr) [
        | inl root ↦ inl root
        | inr up ↦ inr (record { from = up.0; parent = up.1.parent; there = stands_at up.0 up.1.parent up.1.there; level = up.1.level; serves = up.1.serves; named = up.1.named })
      ]

  is_forest : length memory ≤ 8 → IsForest f
  is_forest few = record {
    laid = is_laid few;
    tree = is_tree (entries_of es) (page_at f) (record {
      versions = fit_tree es says.places all_fit;
      roots = λ v low. let e = entry_at (entries_of es) v low in root_of v e.0 e.1;
      valid = λ addr p there. (at_stands addr p there).1.0;
      pages = versions_of;
      children = children_of_page;
      reach = reach_of;
    });
  }

-- a forest whose memory it is, with the pages that stand there
pub record IsReadAs (memory : List (List ℕ)) (es : List (Option CatEntry)) (f : Forest) : Type 0 where
  pub spelled : memory ≡ memory_of f
  pub sound : IsForest f
  pub entries : f.entries ≡ entries_of es
  pub there : (addr : Addr) (p : Page) → page_at f addr ≡ Some p → StandsAt memory addr p
  pub stands : (addr : Addr) (p : Page) → StandsAt memory addr p → page_at f addr ≡ Some p

pub passing_holds : (memory : List (List ℕ)) (es : List (Option CatEntry)) → 1 ≤ length memory → length memory ≤ 8 → AllByRecursion (λ space. length space ≡ space_size) memory → Says memory es → AllPass memory es → (f : Forest) × IsReadAs memory es f
passing_holds memory es some few full says pass =
    let r = all_read memory full es says pass in (
      record { entries = entries_of es; pages = r.0 },
      record {
        spelled = memory_is memory full es says pass some r.0 r.1;
        sound = is_forest memory full es says pass some r.0 r.1 few;
        entries = refl;
        there = at_stands memory full es says pass some r.0 r.1;
        stands = stands_at memory full es says pass some r.0 r.1;
      },
    )
