-- Entries in the memory of a forest: unused places, and writes of entries in their places or behind
-- the others.
use Rattle.std.proofs.Common.{◌≡◌, ℕ, zero, suc, ◌+◌, ◌-◌, ◌*◌, ◌<◌, ◌≤◌, inl, inr, List, [], ◌∷◌, ◌++◌, length, map, take, replicate, Some, refl, subst, sym, ap, ◌∙◌, arith, slice_get, slice_set, slice_index_or}
use Rattle.std.specs.List.{AllByRecursion, flat_map, range_with_len}
use Rattle.std.proofs.lemmas.Bool.{cases_eq}
use Rattle.std.proofs.lemmas.List.{length-append, append_assoc, append-nil, take-replicate, drop-replicate}
use Rattle.std.proofs.lemmas.List.Concat.{flat_map-append}
use Rattle.std.proofs.lemmas.Option.{slice_get_cases}
use Rattle.mn_base.specs.declared.ids.NodeNo.{NodeNo}
use Rattle.mn_mini.specs.declared.item.Item.{Item}
use Rattle.mn_mini.specs.Flat.{bytes_in, overwritten, space_in, memory_after}
use Rattle.mn_page.specs.declared.page.Page.{Page}
use Rattle.mn_page.specs.declared.entry.CatEntry.{CatEntry}
use Rattle.mn_page.specs.Grammar.{padded, page_bytes, entry_bytes, IsEntry}
use Rattle.mn_page.specs.Forest.{Forest, node_count, Laid, head_of, front_of, memory_laid}
use Rattle.mn_page.proofs.Counted.{IsCounted}
use Rattle.mn_page.proofs.Grid.{all_at_place}
use Rattle.mn_page.proofs.Spelled.{length-padded, entry_length}
use Rattle.mn_plans.specs.Growth.{Numbered, node_no, write_entry, write_entries, entries_with, entries_after, AreNextEntries}
use Rattle.mn_law.proofs.Pieces.{bytes_in-skip, overwritten-skip, overwritten-within, overwritten-padded, overwritten-end, AreZeros, length-pieces, write_piece}
use Rattle.mn_plans.proofs.Spaces.{memory_by_pages, head_length, catalog_at, entry_read, not_unused}
use Rattle.mn_law.proofs.Pieces.{entry_sizes}
use Rattle.mn_plans.proofs.Laying.{on_each, space_in-laid, laid_set}

-- Unused places

zeros_behind_text : (a : List ℕ) (total s k : ℕ) → length a ≤ s → s + k ≤ total → bytes_in (padded total a) s k ≡ replicate k 0
zeros_behind_text a total s k low high =
    bytes_in-skip a (replicate (total - length a) 0) s (s - length a) k (omega arith)
    ∙ (ap (take k) (drop-replicate (s - length a) (total - length a) 0) ∙ take-replicate k (total - length a - (s - length a)) 0 (omega arith))

-- the places behind the entries have zeros
pub unused_read : (f : Forest) → IsCounted f → (n : NodeNo) (v : ℕ) → n.0 < node_count f → v < 64 → length f.entries ≤ v → bytes_in (space_in (memory_by_pages f) n) (64 + 64 * v) 64 ≡ replicate 64 0
unused_read f sound n v in' few past =
    let long : length (flat_map entry_bytes f.entries) ≡ 64 * length f.entries = length-pieces entry_bytes 64 f.entries (entry_sizes f.entries sound.entries) in
    catalog_at f sound n (64 * v) 64 in' (omega arith)
    ∙ zeros_behind_text (flat_map entry_bytes f.entries) 4096 (64 * v) 64 (subst (λ k. k ≤ 64 * v) (sym long) (omega arith)) (omega arith)

all_zeros : (k : ℕ) → AreZeros (replicate k 0)
all_zeros zero = tt
all_zeros (suc k) = (refl, all_zeros k)

-- where zeros stand no version is
pub none_there : (f : Forest) → IsCounted f → (n : NodeNo) (v : ℕ) → n.0 < node_count f → v < 64 → bytes_in (space_in (memory_by_pages f) n) (64 + 64 * v) 64 ≡ replicate 64 0 → length f.entries ≤ v
none_there f sound n v in' few read = elim ((slice_get_cases f.entries v).1) as (λ _. length f.entries ≤ v) [
  | inl found ↦
      absurd (not_unused found.0 (all_at_place IsEntry f.entries v found.0 sound.entries found.2) (subst AreZeros (sym read ∙ entry_read f sound n v found.0 in' found.2) (all_zeros 64)))
  | inr past ↦ past.0
]

-- Entries in their places, and behind the others

pub with_within : (es : List CatEntry) (v : ℕ) (e : CatEntry) → v < length es → entries_with es v e ≡ slice_set es v e
with_within [] v e low = absurd (omega arith)
with_within (d ∷ es) zero e low = refl
with_within (d ∷ es) (suc v) e low = ap (λ (l : List CatEntry). d ∷ l) (with_within es v e (omega arith))

pub with_behind : (es : List CatEntry) (v : ℕ) (e : CatEntry) → v ≡ length es → entries_with es v e ≡ es ++ e ∷ []
with_behind [] v e last = refl
with_behind (d ∷ es) zero e last = absurd (omega arith)
with_behind (d ∷ es) (suc v) e last = ap (λ (l : List CatEntry). d ∷ l) (with_behind es v e (omega arith))

pub all_with : (P : CatEntry → Type 0) (es : List CatEntry) (v : ℕ) (e : CatEntry) → AllByRecursion P es → P e → AllByRecursion P (entries_with es v e)
all_with P [] v e all one = (one, tt)
all_with P (d ∷ es) zero e all one = (one, all.1)
all_with P (d ∷ es) (suc v) e all one = (all.0, all_with P es v e all.1 one)

length_with : (es : List CatEntry) (v : ℕ) (e : CatEntry) (m : ℕ) → v ≤ length es → v < m → length es ≤ m → length (entries_with es v e) ≤ m
length_with [] v e m low few fits = omega arith
length_with (d ∷ es) zero e m low few fits = omega arith
length_with (d ∷ es) (suc v) e zero low few fits = absurd (omega arith)
length_with (d ∷ es) (suc v) e (suc m) low few fits = let rest = length_with es v e m (omega arith) (omega arith) (omega arith) in omega arith

-- the entries have each the length of a place, and there is room for them
pub record HasEntries (es : List CatEntry) : Type 0 where
  pub sizes : AllByRecursion (λ e. length (entry_bytes e) ≡ 64) es
  pub few : length es ≤ 64

abbrev FillsPlace : CatEntry → Type 0
FillsPlace e = length (entry_bytes e) ≡ 64

with_has : (es : List CatEntry) (v : ℕ) (e : CatEntry) → HasEntries es → v ≤ length es → v < 64 → FillsPlace e → HasEntries (entries_with es v e)
with_has es v e has low few fills = record { sizes = all_with FillsPlace es v e has.sizes fills; few = length_with es v e 64 low few has.few }

pub entries_fit : (es : List CatEntry) → HasEntries es → length (flat_map entry_bytes es) ≤ 4096
entries_fit es has = let long = length-pieces entry_bytes 64 es has.sizes in let few = has.few in omega arith

-- the catalog's bytes with an entry written
catalog_write : (es : List CatEntry) (v : ℕ) (e : CatEntry) → HasEntries es → v ≤ length es → v < 64 → FillsPlace e
    → overwritten (padded 4096 (flat_map entry_bytes es)) (64 * v) (entry_bytes e) ≡ padded 4096 (flat_map entry_bytes (entries_with es v e))
catalog_write es v e has low few fills = elim (cases_eq v (length es)) as (λ _. overwritten (padded 4096 (flat_map entry_bytes es)) (64 * v) (entry_bytes e) ≡ padded 4096 (flat_map entry_bytes (entries_with es v e))) [
  | inl last ↦
      let at : 64 * v ≡ length (flat_map entry_bytes es) = ap (λ k. 64 * k) last ∙ sym long in
      ap (λ k. overwritten (padded 4096 (flat_map entry_bytes es)) k (entry_bytes e)) at
      ∙ (overwritten-end 4096 (flat_map entry_bytes es) (entry_bytes e) (subst (λ k. length (flat_map entry_bytes es) + k ≤ 4096) (sym fills) (subst (λ k. k + 64 ≤ 4096) at (omega arith)))
      ∙ ap (padded 4096) (ap (λ (b : List ℕ). flat_map entry_bytes es ++ b) (sym (append-nil (entry_bytes e))) ∙ (sym (flat_map-append entry_bytes es (e ∷ [])) ∙ ap (flat_map entry_bytes) (sym (with_behind es v e last)))))
  | inr off ↦
      let within : v < length es = omega (arith, off) in
      let d = slice_at es v within in
      overwritten-padded 4096 (flat_map entry_bytes es) (64 * v) (entry_bytes e) (subst (λ k. 64 * v + k ≤ length (flat_map entry_bytes es)) (sym fills) (subst (λ k. 64 * v + 64 ≤ k) (sym long) (omega arith)))
      ∙ ap (padded 4096) (write_piece entry_bytes 64 es v (64 * v) d.0 e has.sizes d.1 fills refl ∙ ap (flat_map entry_bytes) (sym (with_within es v e within)))
]
  where
    long : length (flat_map entry_bytes es) ≡ 64 * length es
    long = length-pieces entry_bytes 64 es has.sizes

    slice_at : (xs : List CatEntry) (i : ℕ) → i < length xs → (x : CatEntry) × (slice_get xs i ≡ Some x)
    slice_at [] i in' = absurd (omega arith)
    slice_at (x ∷ xs) zero in' = (x, refl)
    slice_at (x ∷ xs) (suc i) in' = slice_at xs i (omega arith)

-- a write within the catalog
region_write : (catalog now head behind w : List ℕ) (s : ℕ) → length head ≡ 64 → length catalog ≤ 4096 → s + length w ≤ 4096 → overwritten (padded 4096 catalog) s w ≡ padded 4096 now
    → overwritten (padded 4214784 (padded 20480 (head ++ padded 4096 catalog) ++ behind)) (64 + s) w ≡ padded 4214784 (padded 20480 (head ++ padded 4096 now) ++ behind)
region_write catalog now head behind w s l fits in' is =
    let pad : length (padded 4096 catalog) ≡ 4096 = length-padded 4096 catalog fits in
    let inner : length (head ++ padded 4096 catalog) ≡ 4160 = length-append head (padded 4096 catalog) ∙ (ap (λ k. k + length (padded 4096 catalog)) l ∙ ap (λ k. 64 + k) pad) in
    let front : length (padded 20480 (head ++ padded 4096 catalog)) ≡ 20480 = length-padded 20480 (head ++ padded 4096 catalog) (subst (λ k. k ≤ 20480) (sym inner) (omega arith)) in
    let all : length (padded 20480 (head ++ padded 4096 catalog) ++ behind) ≡ 20480 + length behind = length-append (padded 20480 (head ++ padded 4096 catalog)) behind ∙ ap (λ k. k + length behind) front in
    overwritten-padded 4214784 (padded 20480 (head ++ padded 4096 catalog) ++ behind) (64 + s) w (subst (λ k. 64 + s + length w ≤ k) (sym all) (omega arith))
    ∙ ap (padded 4214784) (overwritten-within (padded 20480 (head ++ padded 4096 catalog)) behind (64 + s) w (subst (λ k. 64 + s + length w ≤ k) (sym front) (omega arith))
    ∙ ap (λ (b : List ℕ). b ++ behind) (overwritten-padded 20480 (head ++ padded 4096 catalog) (64 + s) w (subst (λ k. 64 + s + length w ≤ k) (sym inner) (omega arith))
    ∙ ap (padded 20480) (overwritten-skip head (padded 4096 catalog) (64 + s) s w (ap (λ k. k + s) (sym l)) ∙ ap (λ (b : List ℕ). head ++ b) is)))

-- Memories

abbrev pub with_catalogs : Laid → List (List CatEntry) → Laid
with_catalogs l catalogs = record { catalogs = catalogs; counts = l.counts; pages = l.pages }

-- one node's catalog, between those of the others
index_here : (before after : List (List CatEntry)) (es : List CatEntry) → slice_index_or (before ++ es ∷ after) (length before) [] ≡ es
index_here [] after es = refl
index_here (x ∷ before) after es = index_here before after es

index_beside : (before after : List (List CatEntry)) (es fs : List CatEntry) (m : ℕ) → (m ≡ length before → ⊥) → slice_index_or (before ++ es ∷ after) m [] ≡ slice_index_or (before ++ fs ∷ after) m []
index_beside [] after es fs zero differ = absurd (differ refl)
index_beside [] after es fs (suc m) differ = refl
index_beside (x ∷ before) after es fs zero differ = refl
index_beside (x ∷ before) after es fs (suc m) differ = index_beside before after es fs m (λ e. differ (ap suc e))

-- the memory with an entry written on one node
entry_over : (l : Laid) (before after : List (List CatEntry)) (es : List CatEntry) → HasEntries es → (v : ℕ) (e : CatEntry) → length before < length l.pages → v ≤ length es → v < 64 → FillsPlace e
    → slice_set (memory_laid (with_catalogs l (before ++ es ∷ after))) (length before)
    (overwritten (space_in (memory_laid (with_catalogs l (before ++ es ∷ after))) (node_no (length before))) (64 + 64 * v) (entry_bytes e))
    ≡ memory_laid (with_catalogs l (before ++ entries_with es v e ∷ after))
entry_over l before after es has v e in' low few fills =
    laid_set (with_catalogs l (before ++ es ∷ after)) (with_catalogs l (before ++ entries_with es v e ∷ after)) (length before) in' refl
    (λ m differ. ap (λ (c : List CatEntry). padded 4214784 (front_of (length l.pages) m (slice_index_or l.counts m 0) (flat_map entry_bytes c) ++ flat_map page_bytes (slice_index_or l.pages m [])))
    (index_beside before after es (entries_with es v e) m differ))
    (overwritten (space_in (memory_laid (with_catalogs l (before ++ es ∷ after))) (node_no (length before))) (64 + 64 * v) (entry_bytes e))
    (ap (λ (s : List ℕ). overwritten s (64 + 64 * v) (entry_bytes e)) (space_in-laid (with_catalogs l (before ++ es ∷ after)) (node_no (length before)) in')
    ∙ (ap (λ (c : List CatEntry). overwritten (laid_with c) (64 + 64 * v) (entry_bytes e)) (index_here before after es)
    ∙ (region_write (flat_map entry_bytes es) (flat_map entry_bytes (entries_with es v e)) (head_of (length l.pages) (length before) (slice_index_or l.counts (length before) 0)) (flat_map page_bytes (slice_index_or l.pages (length before) [])) (entry_bytes e) (64 * v)
    (head_length (length l.pages) (length before) (slice_index_or l.counts (length before) 0)) (entries_fit es has) (subst (λ k. 64 * v + k ≤ 4096) (sym fills) (omega arith)) (catalog_write es v e has low few fills)
    ∙ ap laid_with (sym (index_here before after (entries_with es v e))))))
  where
    laid_with : List CatEntry → List ℕ
    laid_with c = padded 4214784 (front_of (length l.pages) (length before) (slice_index_or l.counts (length before) 0) (flat_map entry_bytes c) ++ flat_map page_bytes (slice_index_or l.pages (length before) []))

-- with entries written on one node, one after another
node_written : (l : Laid) (before after : List (List CatEntry)) (es : List CatEntry) → HasEntries es → length before < length l.pages → (ws : List Numbered) → AreNextEntries es ws → (rest : List Item)
    → memory_after (memory_laid (with_catalogs l (before ++ es ∷ after))) (map (λ w. write_entry (node_no (length before)) w.0 w.1) ws ++ rest)
    ≡ memory_after (memory_laid (with_catalogs l (before ++ entries_after es ws ∷ after))) rest
node_written l before after es has in' [] next rest = refl
node_written l before after es has in' (w ∷ ws) next rest =
    ap (λ (m : List (List ℕ)). memory_after m (map (λ w. write_entry (node_no (length before)) w.0 w.1) ws ++ rest)) (entry_over l before after es has w.0 w.1 in' next.0 next.1 (entry_length w.1 next.2))
    ∙ node_written l before after (entries_with es w.0 w.1) (with_has es w.0 w.1 has next.0 next.1 (entry_length w.1 next.2)) in' ws next.3 rest

-- with them written on the nodes behind these, by node
nodes_written : (l : Laid) (before : List (List CatEntry)) (pages : List (List Page)) (es : List CatEntry) → HasEntries es → length before + length pages ≤ length l.pages → (ws : List Numbered) → AreNextEntries es ws → (rest : List Item)
    → memory_after (memory_laid (with_catalogs l (before ++ on_each pages es))) (flat_map (λ n. map (λ w. write_entry (node_no n) w.0 w.1) ws) (range_with_len (length before) (length pages)) ++ rest)
    ≡ memory_after (memory_laid (with_catalogs l (before ++ on_each pages (entries_after es ws)))) rest
nodes_written l before [] es has in' ws next rest = refl
nodes_written l before (ps ∷ pages) es has in' ws next rest =
    ap (memory_after (memory_laid (with_catalogs l (before ++ es ∷ on_each pages es))))
    (append_assoc (on_node (length before)) (flat_map on_node (range_with_len (length before + 1) (length pages))) rest)
    ∙ (node_written l before (on_each pages es) es has (omega (arith, in')) ws next (flat_map on_node (range_with_len (length before + 1) (length pages)) ++ rest)
    ∙ (ap (λ (cs : List (List CatEntry)). memory_after (memory_laid (with_catalogs l cs)) (flat_map on_node (range_with_len (length before + 1) (length pages)) ++ rest)) (sym (append_assoc before (entries_after es ws ∷ []) (on_each pages es)))
    ∙ (ap (λ k. memory_after (memory_laid (with_catalogs l ((before ++ entries_after es ws ∷ []) ++ on_each pages es))) (flat_map on_node (range_with_len k (length pages)) ++ rest)) (sym (length-append before (entries_after es ws ∷ [])))
    ∙ (nodes_written l (before ++ entries_after es ws ∷ []) pages es has (subst (λ k. k + length pages ≤ length l.pages) (sym (length-append before (entries_after es ws ∷ []))) (omega (arith, in'))) ws next rest
    ∙ ap (λ (cs : List (List CatEntry)). memory_after (memory_laid (with_catalogs l cs)) rest) (append_assoc before (entries_after es ws ∷ []) (on_each pages (entries_after es ws)))))))
  where
    on_node : ℕ → List Item
    on_node n = map (λ w. write_entry (node_no n) w.0 w.1) ws

-- the memory with these entries written on each node
pub entries_written : (l : Laid) (es : List CatEntry) → HasEntries es → l.catalogs ≡ on_each l.pages es → (ws : List Numbered) → AreNextEntries es ws → (rest : List Item)
    → memory_after (memory_laid l) (write_entries (length l.pages) ws ++ rest) ≡ memory_after (memory_laid (with_catalogs l (on_each l.pages (entries_after es ws)))) rest
entries_written l es has same ws next rest =
    ap (λ (cs : List (List CatEntry)). memory_after (memory_laid (with_catalogs l cs)) (write_entries (length l.pages) ws ++ rest)) same
    ∙ nodes_written l [] l.pages es has (omega arith) ws next rest

pub after_has : (es : List CatEntry) (ws : List Numbered) → HasEntries es → AreNextEntries es ws → HasEntries (entries_after es ws)
after_has es [] has next = has
after_has es (w ∷ ws) has next = after_has (entries_with es w.0 w.1) ws (with_has es w.0 w.1 has next.0 next.1 (entry_length w.1 next.2)) next.3

-- they are entries
pub after_all : (es : List CatEntry) (ws : List Numbered) → AllByRecursion IsEntry es → AreNextEntries es ws → AllByRecursion IsEntry (entries_after es ws)
after_all es [] all next = all
after_all es (w ∷ ws) all next = after_all (entries_with es w.0 w.1) ws (all_with IsEntry es w.0 w.1 all next.2) next.3
