-- A memory laid out by catalogs, counts and pages, where the counts need not be the pages' yet and
-- the nodes' catalogs may differ: each write of a plan changes one of the three, in any order.
use Rattle.std.proofs.Common.{◌≡◌, ℕ, zero, suc, ◌+◌, ◌*◌, ◌<◌, ◌≤◌, List, [], ◌∷◌, ◌++◌, length, map, Some, refl, subst, sym, ap, ◌∙◌, arith, slice_set, slice_index_or, get_or-set_other, get_or-set_same}
use Rattle.std.specs.List.{flat_map, range_with_len}
use Rattle.std.proofs.lemmas.List.{length-append, length-set, append_assoc, append-nil}
use Rattle.std.proofs.lemmas.List.Concat.{flat_map-append}
use Rattle.std.proofs.lemmas.List.FromFn.{get_or-map-range_with_len}
use Rattle.byteorder.specs.Endian.{big_bytes}
use Rattle.mn_base.specs.declared.ids.NodeNo.{NodeNo}
use Rattle.mn_mini.specs.Flat.{overwritten, space_in}
use Rattle.mn_page.specs.declared.page.Page.{Page}
use Rattle.mn_page.specs.declared.entry.CatEntry.{CatEntry}
use Rattle.mn_page.specs.Grammar.{padded, page_bytes, entry_bytes}
use Rattle.mn_page.specs.Forest.{Forest, node_count, header_bytes, Laid, head_of, front_of, catalog_laid, front_laid, space_laid, memory_laid, laid_of, memory_of}
use Rattle.mn_page.proofs.Grid.{get_in, set_in, add_in}
use Rattle.mn_page.proofs.Spelled.{length-padded}
use Rattle.mn_law.proofs.Pieces.{overwritten-skip, overwritten-within, overwritten-whole, overwritten-padded, overwritten-end}
use Rattle.mn_plans.proofs.Spaces.{space_from, memory_by_pages, space_bytes, head_length, front_length, AreSlots, text_length, slot_write, get_in-index, map_same, set_map, node_slots, catalog_length}
use Rattle.mn_page.proofs.Counted.{IsCounted}

pub record HasSlots (l : Laid) : Type 0 where
  pub fits : (n : ℕ) → length (catalog_laid l n) ≤ 4096
  pub slots : (n : ℕ) → AreSlots (slice_index_or l.pages n [])

pub index-lengths : (xss : List (List Page)) (n : ℕ) → slice_index_or (map (λ ps. length ps) xss) n 0 ≡ length (slice_index_or xss n [])
index-lengths [] n = refl
index-lengths (xs ∷ xss) zero = refl
index-lengths (xs ∷ xss) (suc n) = index-lengths xss n

-- the same entries for each node
abbrev pub on_each : List (List Page) → List CatEntry → List (List CatEntry)
on_each pages es = map (λ ps. es) pages

pub index-on_each : (pages : List (List Page)) (es : List CatEntry) (n : ℕ) → n < length pages → slice_index_or (on_each pages es) n [] ≡ es
index-on_each [] es n in' = absurd (omega arith)
index-on_each (ps ∷ pages) es zero in' = refl
index-on_each (ps ∷ pages) es (suc n) in' = index-on_each pages es n (omega arith)

pub on_each_fits : (pages : List (List Page)) (es : List CatEntry) → length (flat_map entry_bytes es) ≤ 4096 → (n : ℕ) → length (flat_map entry_bytes (slice_index_or (on_each pages es) n [])) ≤ 4096
on_each_fits [] es fits n = omega arith
on_each_fits (ps ∷ pages) es fits zero = fits
on_each_fits (ps ∷ pages) es fits (suc n) = on_each_fits pages es fits n

-- for as many nodes
pub on_as_many : (xss yss : List (List Page)) (es : List CatEntry) → length xss ≡ length yss → on_each xss es ≡ on_each yss es
on_as_many [] [] es e = refl
on_as_many [] (ys ∷ yss) es e = absurd (omega arith)
on_as_many (xs ∷ xss) [] es e = absurd (omega arith)
on_as_many (xs ∷ xss) (ys ∷ yss) es e = ap (λ (l : List (List CatEntry)). es ∷ l) (on_as_many xss yss es (omega arith))

pub laid_is : (f : Forest) → memory_of f ≡ memory_by_pages f
laid_is f = map_same (space_laid (laid_of f)) (space_bytes f) 0 (node_count f)
    (λ m low high. ap (λ c. padded 4214784 (front_of (length f.pages) m c (catalog_laid (laid_of f) m) ++ flat_map page_bytes (slice_index_or f.pages m []))) (index-lengths f.pages m)
    ∙ ap (λ (es : List CatEntry). space_from (length f.pages) m (flat_map entry_bytes es) (slice_index_or f.pages m [])) (index-on_each f.pages f.entries m (omega (arith, high))))

pub forest_laid : (f : Forest) → IsCounted f → HasSlots (laid_of f)
forest_laid f sound = record { fits = on_each_fits f.pages f.entries (catalog_length f sound); slots = node_slots f sound }

front_laid_length : (l : Laid) → HasSlots l → (n : ℕ) → length (front_laid l n) ≡ 20480
front_laid_length l is n = front_length (length l.pages) n (slice_index_or l.counts n 0) (catalog_laid l n) (is.fits n)

pub space_in-laid : (l : Laid) (n : NodeNo) → n.0 < length l.pages → space_in (memory_laid l) n ≡ space_laid l n.0
space_in-laid l n in' = get_or-map-range_with_len (space_laid l) 0 (length l.pages) n.0 n.0 [] in' (omega arith)

-- one space of a memory
pub laid_set : (l k : Laid) (n : ℕ) → n < length l.pages → length k.pages ≡ length l.pages → ((m : ℕ) → (m ≡ n → ⊥) → space_laid l m ≡ space_laid k m) → (bytes : List ℕ) → bytes ≡ space_laid k n → slice_set (memory_laid l) n bytes ≡ memory_laid k
laid_set l k n in' nodes others bytes here =
    let z : n ≡ 0 + n = omega arith in
    ap (slice_set (memory_laid l) n) (here ∙ ap (space_laid k) z) ∙ (set_map (space_laid l) (space_laid k) 0 (length l.pages) n in' (λ m e. others m (λ h. e (h ∙ z))) ∙ ap (λ j. map (space_laid k) (range_with_len 0 j)) (sym nodes))

-- the same with other pages at one node
abbrev pub with_pages : Laid → List (List Page) → Laid
with_pages l pages = record { catalogs = l.catalogs; counts = l.counts; pages = pages }

pages_set : (l : Laid) (n : NodeNo) (ps : List Page) → n.0 < length l.pages → (bytes : List ℕ) → bytes ≡ padded 4214784 (front_laid l n.0 ++ flat_map page_bytes ps) → slice_set (memory_laid l) n.0 bytes ≡ memory_laid (with_pages l (slice_set l.pages n.0 ps))
pages_set l n ps in' bytes is =
    let nodes : length (slice_set l.pages n.0 ps) ≡ length l.pages = length-set l.pages n.0 ps in
    laid_set l (with_pages l (slice_set l.pages n.0 ps)) n.0 in' nodes
    (λ m differ. ap (λ k. padded 4214784 (front_of k m (slice_index_or l.counts m 0) (catalog_laid l m) ++ flat_map page_bytes (slice_index_or l.pages m []))) (sym nodes)
    ∙ ap (λ (qs : List Page). padded 4214784 (front_of (length (slice_set l.pages n.0 ps)) m (slice_index_or l.counts m 0) (catalog_laid l m) ++ flat_map page_bytes qs)) (sym (get_or-set_other l.pages n.0 m ps [] differ)))
    bytes
    (is ∙ (ap (λ k. padded 4214784 (front_of k n.0 (slice_index_or l.counts n.0 0) (catalog_laid l n.0) ++ flat_map page_bytes ps)) (sym nodes)
    ∙ ap (λ (qs : List Page). padded 4214784 (front_of (length (slice_set l.pages n.0 ps)) n.0 (slice_index_or l.counts n.0 0) (catalog_laid l n.0) ++ flat_map page_bytes qs)) (sym (get_or-set_same l.pages n.0 ps [] in'))))

-- A page over another one

pub page_over : (l : Laid) → HasSlots l → (n : NodeNo) (slot : ℕ) (p q : Page) → n.0 < length l.pages → get_in l.pages n.0 slot ≡ Some p → length (page_bytes q) ≡ 1024
    → slice_set (memory_laid l) n.0 (overwritten (space_in (memory_laid l) n) (20480 + 1024 * slot) (page_bytes q)) ≡ memory_laid (with_pages l (set_in l.pages n.0 slot q))
page_over l is n slot p q in' at long =
    pages_set l n (slice_set (slice_index_or l.pages n.0 []) slot q) in' (overwritten (space_in (memory_laid l) n) (20480 + 1024 * slot) (page_bytes q))
    (ap (λ (s : List ℕ). overwritten s (20480 + 1024 * slot) (page_bytes q)) (space_in-laid l n in')
    ∙ slot_write (front_laid l n.0) (slice_index_or l.pages n.0 []) slot p q (front_laid_length l is n.0) (is.slots n.0) (get_in-index l.pages n.0 slot ∙ at) long)

-- A page into the first free slot

pub page_new : (l : Laid) → HasSlots l → (n : NodeNo) (slot : ℕ) (q : Page) → n.0 < length l.pages → slot ≡ length (slice_index_or l.pages n.0 []) → slot < 4096 → length (page_bytes q) ≡ 1024
    → slice_set (memory_laid l) n.0 (overwritten (space_in (memory_laid l) n) (20480 + 1024 * slot) (page_bytes q)) ≡ memory_laid (with_pages l (add_in l.pages n.0 q))
page_new l is n slot q in' first room long =
    pages_set l n (slice_index_or l.pages n.0 [] ++ q ∷ []) in' (overwritten (space_in (memory_laid l) n) (20480 + 1024 * slot) (page_bytes q))
    (ap (λ (s : List ℕ). overwritten s (20480 + 1024 * slot) (page_bytes q)) (space_in-laid l n in') ∙ push (front_laid l n.0) (slice_index_or l.pages n.0 []) (front_laid_length l is n.0) (is.slots n.0) first)
  where
    push : (front : List ℕ) (ps : List Page) → length front ≡ 20480 → AreSlots ps → slot ≡ length ps
        → overwritten (padded 4214784 (front ++ flat_map page_bytes ps)) (20480 + 1024 * slot) (page_bytes q) ≡ padded 4214784 (front ++ flat_map page_bytes (ps ++ q ∷ []))
    push front ps l slots e =
        let all = text_length front ps l slots in
        let at : 20480 + 1024 * slot ≡ length (front ++ flat_map page_bytes ps) = ap (λ k. 20480 + 1024 * k) e ∙ sym all in
        ap (λ k. overwritten (padded 4214784 (front ++ flat_map page_bytes ps)) k (page_bytes q)) at
        ∙ (overwritten-end 4214784 (front ++ flat_map page_bytes ps) (page_bytes q) (subst (λ k. length (front ++ flat_map page_bytes ps) + k ≤ 4214784) (sym long) (subst (λ k. k + 1024 ≤ 4214784) at (omega arith)))
        ∙ ap (padded 4214784) (append_assoc front (flat_map page_bytes ps) (page_bytes q) ∙ ap (λ (b : List ℕ). front ++ b) (ap (λ (b : List ℕ). flat_map page_bytes ps ++ b) (sym (append-nil (page_bytes q))) ∙ sym (flat_map-append page_bytes ps (q ∷ [])))))

-- A count

abbrev pub with_counts : Laid → List ℕ → Laid
with_counts l counts = record { catalogs = l.catalogs; counts = counts; pages = l.pages }

count_bytes_at : (nodes n old c : ℕ) (catalog behind : List ℕ) → length catalog ≤ 4096 → overwritten (padded 4214784 (front_of nodes n old catalog ++ behind)) 16 (big_bytes 8 c) ≡ padded 4214784 (front_of nodes n c catalog ++ behind)
count_bytes_at nodes n old c catalog behind fits =
    let hl : length (head_of nodes n old) ≡ 64 = head_length nodes n old in
    let fl : length (front_of nodes n old catalog) ≡ 20480 = front_length nodes n old catalog fits in
    deep (header_bytes nodes n) (big_bytes 8 old) (big_bytes 8 c) (padded 4096 catalog) behind refl refl refl fl
  where
    deep : (header was now catalogs behind : List ℕ) → length header ≡ 16 → length was ≡ 8 → length now ≡ 8 → length (padded 20480 (padded 64 (header ++ was) ++ catalogs)) ≡ 20480
        → overwritten (padded 4214784 (padded 20480 (padded 64 (header ++ was) ++ catalogs) ++ behind)) 16 now ≡ padded 4214784 (padded 20480 (padded 64 (header ++ now) ++ catalogs) ++ behind)
    deep header was now catalogs behind h w n f =
        let head : length (header ++ was) ≡ 24 = length-append header was ∙ (ap (λ k. k + length was) h ∙ ap (λ k. 16 + k) w) in
        let padded_head : length (padded 64 (header ++ was)) ≡ 64 = length-padded 64 (header ++ was) (subst (λ k. k ≤ 64) (sym head) (omega arith)) in
        let inner : length (padded 64 (header ++ was) ++ catalogs) ≡ length (padded 64 (header ++ was)) + length catalogs = length-append (padded 64 (header ++ was)) catalogs in
        let all : length (padded 20480 (padded 64 (header ++ was) ++ catalogs) ++ behind) ≡ length (padded 20480 (padded 64 (header ++ was) ++ catalogs)) + length behind = length-append (padded 20480 (padded 64 (header ++ was) ++ catalogs)) behind in
        overwritten-padded 4214784 (padded 20480 (padded 64 (header ++ was) ++ catalogs) ++ behind) 16 now (subst (λ k. 16 + length now ≤ k) (sym all) (low _ _ _ n f (omega arith)))
        ∙ ap (padded 4214784) (overwritten-within (padded 20480 (padded 64 (header ++ was) ++ catalogs)) behind 16 now (low2 _ _ n f (omega arith))
        ∙ ap (λ (b : List ℕ). b ++ behind) (overwritten-padded 20480 (padded 64 (header ++ was) ++ catalogs) 16 now (subst (λ k. 16 + length now ≤ k) (sym inner) (low _ _ _ n padded_head (omega arith)))
        ∙ ap (padded 20480) (overwritten-within (padded 64 (header ++ was)) catalogs 16 now (low2 _ _ n padded_head (omega arith))
        ∙ ap (λ (b : List ℕ). b ++ catalogs) (overwritten-padded 64 (header ++ was) 16 now (low2 _ _ n head (omega arith))
        ∙ ap (padded 64) (overwritten-skip header was 16 0 now (ap (λ k. k + 0) (sym h)) ∙ ap (λ (b : List ℕ). header ++ b) (overwritten-whole was now (n ∙ sym w)))))))
      where
        low : (a b c : ℕ) {m : ℕ} → a ≡ 8 → b ≡ m → 24 ≤ m → 16 + a ≤ b + c
        low a b c e f g = omega arith

        low2 : (a b : ℕ) {m : ℕ} → a ≡ 8 → b ≡ m → 24 ≤ m → 16 + a ≤ b
        low2 a b e f g = omega arith

pub count_over : (l : Laid) → HasSlots l → (n : NodeNo) (c : ℕ) → n.0 < length l.pages → n.0 < length l.counts
    → slice_set (memory_laid l) n.0 (overwritten (space_in (memory_laid l) n) 16 (big_bytes 8 c)) ≡ memory_laid (with_counts l (slice_set l.counts n.0 c))
count_over l is n c in' has =
    laid_set l (with_counts l (slice_set l.counts n.0 c)) n.0 in' refl
    (λ m differ. ap (λ k. padded 4214784 (front_of (length l.pages) m k (catalog_laid l m) ++ flat_map page_bytes (slice_index_or l.pages m []))) (sym (get_or-set_other l.counts n.0 m c 0 differ)))
    (overwritten (space_in (memory_laid l) n) 16 (big_bytes 8 c))
    (ap (λ (s : List ℕ). overwritten s 16 (big_bytes 8 c)) (space_in-laid l n in')
    ∙ (count_bytes_at (length l.pages) n.0 (slice_index_or l.counts n.0 0) c (catalog_laid l n.0) (flat_map page_bytes (slice_index_or l.pages n.0 [])) (is.fits n.0)
    ∙ ap (λ k. padded 4214784 (front_of (length l.pages) n.0 k (catalog_laid l n.0) ++ flat_map page_bytes (slice_index_or l.pages n.0 []))) (sym (get_or-set_same l.counts n.0 c 0 has))))
