-- The bytes of a catalog are those of one list of entries; what is read of a memory that holds a
-- store is its forest's.
use Rattle.std.proofs.Common.{◌≡◌, ℕ, zero, suc, ◌+◌, ◌*◌, ◌<◌, ◌≤◌, ◌⊎◌, inl, inr, List, [], ◌++◌, length, map, refl, subst, sym, ap, ◌∙◌, arith, slice_get, slice_index_or, Some}
use Rattle.std.specs.List.{AllByRecursion, flat_map, range_with_len}
use Rattle.std.proofs.lemmas.List.{take_all, get_or_past}
use Rattle.std.proofs.lemmas.Option.{slice_get_within, slice_get_cases}
use Rattle.mn_base.specs.Store.{Store}
use Rattle.mn_base.specs.declared.ids.Addr.{Addr}
use Rattle.mn_base.specs.declared.ids.NodeNo.{NodeNo}
use Rattle.mn_base.proofs.Naturals.{below_or}
use Rattle.mn_mini.specs.Mini.{space_size}
use Rattle.mn_mini.specs.Flat.{bytes_in, space_in}
use Rattle.mn_page.specs.declared.page.Page.{Page}
use Rattle.mn_page.specs.declared.entry.CatEntry.{CatEntry}
use Rattle.mn_page.specs.Grammar.{padded, page_bytes, entry_bytes, IsPage, IsEntry}
use Rattle.mn_page.specs.Forest.{Forest, node_count, front_of, page_at}
use Rattle.mn_page.specs.Holds.{Holds}
use Rattle.mn_page.proofs.Grid.{all_at_place}
use Rattle.mn_page.proofs.Spelled.{length-padded, page_length, entry_spelled_once}
use Rattle.mn_page.proofs.Counted.{counted, IsCounted}
use Rattle.mn_law.proofs.Pieces.{bytes_in-padded, AreZeros, zeros_behind, length-pieces, read_piece}
use Rattle.mn_plans.proofs.Spaces.{memory_by_pages, space_bytes, catalog_bytes, catalog_length, front_length, text_length, node_slots, node_0, catalog_at, not_unused, page_there, memory_length}
use Rattle.mn_law.proofs.Pieces.{entry_sizes}
use Rattle.mn_plans.proofs.Sizes.{index_below}
use Rattle.mn_plans.proofs.Laying.{laid_is}
use Rattle.mn_plans.proofs.Compares.{element_at}
use Rattle.mn_plans.proofs.HoldsOne.{same_by_places}

-- One list of entries

long : (es : List CatEntry) → AllByRecursion IsEntry es
    → length (flat_map entry_bytes es) ≡ 64 * length es
long es all = length-pieces entry_bytes 64 es (entry_sizes es all)

entry_in : (es : List CatEntry) → AllByRecursion IsEntry es → (v : ℕ) (e : CatEntry)
    → slice_get es v ≡ Some e
    → bytes_in (padded 4096 (flat_map entry_bytes es)) (64 * v) 64 ≡ entry_bytes e
entry_in es all v e at =
    let in' = slice_get_within es v e at in
    bytes_in-padded 4096 (flat_map entry_bytes es) (64 * v) 64 (subst (λ k. 64 * v + 64 ≤ k) (sym (long es all)) (omega arith)) ∙ read_piece entry_bytes 64 es v (64 * v) e (entry_sizes es all) at refl

unused_in : (es : List CatEntry) → AllByRecursion IsEntry es → (v : ℕ) → length es ≤ v
    → AreZeros (bytes_in (padded 4096 (flat_map entry_bytes es)) (64 * v) 64)
unused_in es all v past = zeros_behind 4096 (flat_map entry_bytes es) (64 * v) 64 (subst (λ k. k ≤ 64 * v) (sym (long es all)) (omega arith))

one_way : (es fs : List CatEntry) → AllByRecursion IsEntry es → AllByRecursion IsEntry fs
    → padded 4096 (flat_map entry_bytes es) ≡ padded 4096 (flat_map entry_bytes fs)
    → (v : ℕ) (e : CatEntry) → slice_get es v ≡ Some e → slice_get fs v ≡ Some e
one_way es fs alle allf same v e at =
    elim ((slice_get_cases fs v).1) as (λ _. slice_get fs v ≡ Some e) [
      | inl found ↦
          found.2 ∙ ap Some (entry_spelled_once found.0 e (all_at_place IsEntry fs v found.0 allf found.2) (all_at_place IsEntry es v e alle at)
          (sym (entry_in fs allf v found.0 found.2) ∙ (ap (λ (b : List ℕ). bytes_in b (64 * v) 64) (sym same) ∙ entry_in es alle v e at)))
      | inr past ↦
          absurd (not_unused e (all_at_place IsEntry es v e alle at)
          (subst AreZeros (ap (λ (b : List ℕ). bytes_in b (64 * v) 64) (sym same) ∙ entry_in es alle v e at) (unused_in fs allf v past.0)))
    ]

pub catalog_once : (es fs : List CatEntry) → AllByRecursion IsEntry es → AllByRecursion IsEntry fs
    → padded 4096 (flat_map entry_bytes es) ≡ padded 4096 (flat_map entry_bytes fs) → es ≡ fs
catalog_once es fs alle allf same = same_by_places es fs (one_way es fs alle allf same) (fewer (length fs) refl)
  where
    fewer : (k : ℕ) → length fs ≡ k → length fs ≤ length es
    fewer zero l = omega arith
    fewer (suc k) l =
        let last = element_at fs k (omega arith) in
        let in' = slice_get_within es k last.0 (one_way fs es allf alle (sym same) k last.0 last.1) in omega arith

-- The catalog of a forest

whole : (n : ℕ) (xs : List ℕ) → length xs ≡ n → bytes_in xs 0 n ≡ xs
whole n xs l = take_all n xs (omega arith)

pub catalog_stands : (f : Forest) → IsCounted f → (n : NodeNo) → n.0 < node_count f
    → bytes_in (space_in (memory_by_pages f) n) 64 4096 ≡ padded 4096 (catalog_bytes f)
catalog_stands f sound n in' =
    catalog_at f sound n 0 4096 in' (omega arith)
    ∙ whole 4096 (padded 4096 (catalog_bytes f)) (length-padded 4096 (catalog_bytes f) (catalog_length f sound))

-- a catalog that was read is the forest's
pub catalog_tells : (memory : List (List ℕ)) (store : Store) (holds : Holds memory store) (entries : List CatEntry) → AllByRecursion IsEntry entries
    → bytes_in (space_in memory node_0) 64 4096 ≡ padded 4096 (flat_map entry_bytes entries)
    → entries ≡ holds.forest.entries
catalog_tells memory store holds entries all read =
    let sound = counted holds.forest holds.sound in
    let spelled : memory ≡ memory_by_pages holds.forest = holds.spelled ∙ laid_is holds.forest in
    catalog_once entries holds.forest.entries all sound.entries
    (sym read ∙ (ap (λ (m : List (List ℕ)). bytes_in (space_in m node_0) 64 4096) spelled ∙ catalog_stands holds.forest sound node_0 sound.nodes.0))

-- A page

nothing_in : (s k : ℕ) → bytes_in [] s k ≡ []
nothing_in zero zero = refl
nothing_in zero (suc k) = refl
nothing_in (suc s) zero = refl
nothing_in (suc s) (suc k) = refl

-- a page that was read stands in the forest
pub page_tells : (memory : List (List ℕ)) (store : Store) (holds : Holds memory store) (addr : Addr) (p : Page) → IsPage p
    → bytes_in (space_in memory addr.node) (20480 + 1024 * addr.slot) 1024 ≡ page_bytes p
    → page_at holds.forest addr ≡ Some p
page_tells memory store holds addr p is read = by (below_or addr.node.0 (node_count holds.forest))
  where
    spelled : memory ≡ memory_by_pages holds.forest
    spelled = holds.spelled ∙ laid_is holds.forest

    empty : length (page_bytes p) ≡ 1024 → page_bytes p ≡ [] → ⊥
    empty l e = let none : length (page_bytes p) ≡ 0 = ap (λ (b : List ℕ). length b) e in absurd (omega arith)

    by : (addr.node.0 < node_count holds.forest) ⊎ (node_count holds.forest ≤ addr.node.0)
        → page_at holds.forest addr ≡ Some p
    by (inl in') = page_there holds.forest (counted holds.forest holds.sound) addr p in' is (ap (λ (m : List (List ℕ)). bytes_in (space_in m addr.node) (20480 + 1024 * addr.slot) 1024) (sym spelled) ∙ read)
    by (inr out) =
        let nodes : length memory ≡ node_count holds.forest = ap (λ (m : List (List ℕ)). length m) spelled ∙ memory_length holds.forest in
        let none : space_in memory addr.node ≡ [] = get_or_past memory addr.node.0 [] (subst (λ k. k ≤ addr.node.0) (sym nodes) out) in
        absurd (empty (page_length p is) (sym read ∙ (ap (λ (s : List ℕ). bytes_in s (20480 + 1024 * addr.slot) 1024) none ∙ nothing_in (20480 + 1024 * addr.slot) 1024)))

-- Sizes

space_bytes_length : (f : Forest) → IsCounted f → (n : ℕ) → length (space_bytes f n) ≡ 4214784
space_bytes_length f sound n =
    let few : length (slice_index_or f.pages n []) ≤ 4096 = index_below f.pages n sound.counts in
    let text = text_length (front_of (node_count f) n (length (slice_index_or f.pages n [])) (catalog_bytes f)) (slice_index_or f.pages n [])
    (front_length (node_count f) n (length (slice_index_or f.pages n [])) (catalog_bytes f) (catalog_length f sound)) (node_slots f sound n) in
    length-padded 4214784 (front_of (node_count f) n (length (slice_index_or f.pages n [])) (catalog_bytes f) ++ flat_map page_bytes (slice_index_or f.pages n []))
    (subst (λ k. k ≤ 4214784) (sym text) (omega arith))

all_range : {X : Type 0} (P : X → Type 0) (g : ℕ → X) → ((n : ℕ) → P (g n)) → (a k : ℕ)
    → AllByRecursion P (map g (range_with_len a k))
all_range P g all a zero = tt
all_range P g all a (suc k) = (all a, all_range P g all (a + 1) k)

-- each space of a memory that holds a store has a space's length
pub holds_sizes : (memory : List (List ℕ)) (store : Store) → Holds memory store
    → AllByRecursion (λ space. length space ≡ space_size) memory
holds_sizes memory store holds =
    subst (λ (m : List (List ℕ)). AllByRecursion (λ space. length space ≡ space_size) m) (sym (holds.spelled ∙ laid_is holds.forest))
    (all_range (λ (space : List ℕ). length space ≡ space_size) (space_bytes holds.forest) (space_bytes_length holds.forest (counted holds.forest holds.sound)) 0 (node_count holds.forest))
