-- What a reply makes of what was shown last: of the place that it gives its bytes are the last, and
-- what was shown last of all others stays so.
use Rattle.std.proofs.Common.{◌≡◌, inl, inr, Bool, true, false, ℕ, zero, suc, ◌+◌, ◌-◌, ◌*◌, ◌<◌, ◌≤◌, List, [], ◌∷◌, ◌++◌, drop, length, replicate, take, Option, Some, None, refl, subst, sym, ap, ◌∙◌, arith, slice_get, Result, Ok, Err}
use Rattle.std.specs.List.{flat_map}
use Rattle.std.specs.Option.{option_map_or}
use Rattle.std.proofs.Math.Seq.{take-length}
use Rattle.mn_base.specs.Store.{max_versions}
use Rattle.mn_base.specs.declared.error.NoMemory.{NoMemory}
use Rattle.mn_base.specs.declared.ids.Addr.{Addr}
use Rattle.mn_base.specs.declared.ids.NodeNo.{NodeNo}
use Rattle.mn_base.specs.Ids.{addr_same}
use Rattle.mn_cache.specs.Pages.{page_at, pages_put, pages_without}
use Rattle.mn_cache.specs.declared.cache.TheConstants.{CAPACITY}
use Rattle.mn_mini.specs.Flat.{bytes_in}
use Rattle.mn_page.specs.declared.page.Page.{Page}
use Rattle.mn_page.specs.declared.entry.CatEntry.{CatEntry}
use Rattle.mn_page.specs.Grammar.{SpellsPage, entry_bytes, height_of, padded, page_bytes}
use Rattle.mn_page.specs.Space.{entry_size}
use Rattle.mn_page.proofs.Spelled.{length-padded}
use Rattle.mn_txn.specs.declared.seen.SeenPage.{SeenPage}
use Rattle.mn_runs.specs.declared.entry.Entry.{Entry}
use Rattle.mn_runs.specs.Seen.{Place, Seen}
use Rattle.mn_law.specs.Places.{catalog_node, catalog_place, entry_place, page_place}
use Rattle.mn_law.specs.Shown.{FirstGives, GivesPlace, SeesCatalog, TellsPlace, shown_in}
use Rattle.mn_work.specs.Cached.{ArePut, Puts, Replaces}
use Rattle.mn_work.specs.Last.{AreReadAs, CacheIsLast, CatalogIsLast, IsLast, PageIsLast, PagesAreLast, bytes_at}
use Rattle.std.specs.Prelude.{if◌then◌else◌, nat_eq}
use Rattle.std.specs.Map.{lookup}
use Rattle.mn_base.proofs.Booleans.{clash}
use Rattle.mn_plans.proofs.Grown.{addr_is}
use Rattle.mn_law.proofs.Pieces.{length-pieces, entry_sizes}
use Rattle.mn_law.proofs.Shows.{entry_given}
use Rattle.mn_tree.proofs.Trees.Puts.{same_itself}
use Rattle.mn_work.proofs.Last.{without_last}

-- there is no version of this number
behind : (entries : List CatEntry) (v : ℕ) → slice_get entries v ≡ None → length entries ≤ v
behind [] v e = omega arith
behind (x ∷ entries) zero e = absurd cc
behind (x ∷ entries) (suc v) e = let low = behind entries v e in omega (arith, low)

-- an address by its parts
addr_by : (x y : Addr) → x.node ≡ y.node → x.slot ≡ y.slot → x ≡ y
addr_by x y nodes slots =
    ap (λ (n : NodeNo). made n x.slot) nodes ∙ ap (λ (s : ℕ). made y.node s) slots
  where
    made : NodeNo → ℕ → Addr
    made n s = record { node = n; slot = s }

-- Zeros behind a list

past : (a b : List ℕ) (k j : ℕ) → k ≡ length a + j → drop k (a ++ b) ≡ drop j b
past [] b k j e = let same : k ≡ j = omega (arith, e) in ap (λ (n : ℕ). drop n b) same
past (x ∷ a) b zero j e = absurd (omega (arith, e))
past (x ∷ a) b (suc k) j e = past a b k j (omega (arith, e))

abbrev zeros : ℕ → List ℕ
zeros n = replicate n 0

zeros_from : (n m : ℕ) → m ≤ n → take m (zeros n) ≡ zeros m
zeros_from n zero low = refl
zeros_from zero (suc m) low = absurd (omega arith)
zeros_from (suc n) (suc m) low = ap (λ (l : List ℕ). 0 ∷ l) (zeros_from n m (omega arith))

zeros_in : (n k m : ℕ) → k + m ≤ n → take m (drop k (zeros n)) ≡ zeros m
zeros_in n zero m low = zeros_from n m (omega arith)
zeros_in zero (suc k) m low = absurd (omega arith)
zeros_in (suc n) (suc k) m low = zeros_in n k m (omega arith)

-- a read of the catalog gives zeros where no version is
zeros_given : (seen : Seen) (entries : List CatEntry) (v : ℕ) → SeesCatalog seen entries → length entries ≤ v → v < max_versions
    → GivesPlace seen (entry_place catalog_node v) (replicate entry_size 0)
zeros_given seen entries v sees high low = record {
  node = ap (λ (p : Place). p.node) sees.0;
  begins = let s = starts in omega arith;
  ends = let s = starts in let l = seen_length in omega (arith, low);
  part =
      ap (λ (b : List ℕ). bytes_in b (64 + 64 * v - seen.place.start) 64) sees.3
      ∙ (ap (λ k. bytes_in (padded 4096 (flat_map entry_bytes entries)) k 64) inside
      ∙ (ap (take 64) (past (flat_map entry_bytes entries) (replicate (4096 - length (flat_map entry_bytes entries)) 0) (64 * v) (64 * v - length (flat_map entry_bytes entries)) behind)
      ∙ zeros_in (4096 - length (flat_map entry_bytes entries)) (64 * v - length (flat_map entry_bytes entries)) 64 fits));
}
  where
    starts : seen.place.start ≡ 64
    starts = ap (λ (p : Place). p.start) sees.0

    long : length (flat_map entry_bytes entries) ≡ 64 * length entries
    long = length-pieces entry_bytes 64 entries (entry_sizes entries sees.2)

    seen_length : length seen.bytes ≡ 4096
    seen_length =
        ap (λ (b : List ℕ). length b) sees.3
        ∙ length-padded 4096 (flat_map entry_bytes entries) (let n = long in let m = sees.1 in omega (arith, n, m))

    inside : 64 + 64 * v - seen.place.start ≡ 64 * v
    inside = let s = starts in omega (arith, s)

    behind : 64 * v ≡ length (flat_map entry_bytes entries) + (64 * v - length (flat_map entry_bytes entries))
    behind = let n = long in omega (arith, n, high)

    fits : 64 * v - length (flat_map entry_bytes entries) + 64 ≤ 4096 - length (flat_map entry_bytes entries)
    fits = let n = long in omega (arith, n, high, low)

-- a newer list, with one reply more, that gives as many bytes as its place has
module _ (older newer : List Entry) (seen : Seen) (one : shown_in newer ≡ seen ∷ shown_in older)
    (long : length seen.bytes ≡ seen.place.length) where
  -- the place lies in the one that was read
  abbrev pub LiesIn : Place → Type 0
  LiesIn place =
      (seen.place.node ≡ place.node) × (seen.place.start ≤ place.start)
      × (place.start + place.length ≤ seen.place.start + seen.place.length)

  pub is_last : (place : Place) → seen.place ≡ place → IsLast newer place seen.bytes
  is_last place is =
      subst (λ (l : List Seen). FirstGives l place (take 8 seen.bytes) seen.bytes) (sym one) (inl (
        inl (record {
          node = ap (λ (p : Place). p.node) is;
          begins = let s = ap (λ (p : Place). p.start) is in omega (arith, s);
          ends = let s = ap (λ (p : Place). p.start) is in let n = ap (λ (p : Place). p.length) is in omega (arith, s, n, long);
          part =
              let s = ap (λ (p : Place). p.start) is in
              let n = ap (λ (p : Place). p.length) is in
              ap (λ (k : ℕ). take place.length (drop k seen.bytes)) (zero_at s)
              ∙ (ap (λ (k : ℕ). take k seen.bytes) (sym n ∙ sym long) ∙ take-length seen.bytes);
        }),
        refl,
      ))
    where
      zero_at : seen.place.start ≡ place.start → place.start - seen.place.start ≡ 0
      zero_at s = omega (arith, s)

  lies_there : (place : Place) (other : List ℕ) → GivesPlace seen place other → LiesIn place
  lies_there place other gives = (gives.node, gives.begins, (let e = gives.ends in omega (arith, e, long)))

  stays_last : (place : Place) (bytes : List ℕ) → ((other : List ℕ) → TellsPlace seen place other → ⊥) → IsLast older place bytes → IsLast newer place bytes
  stays_last place bytes off last =
      subst (λ (l : List Seen). FirstGives l place (take 8 bytes) bytes) (sym one) (inr ((λ other from. off other from.0), last))

  -- a page is told by a read of it alone
  page_stays : (x : Addr) (bytes : List ℕ) → (LiesIn (page_place x) → ⊥) → IsLast older (page_place x) bytes → IsLast newer (page_place x) bytes
  page_stays x bytes off last = stays_last (page_place x) bytes told last
    where
      told : (other : List ℕ) → TellsPlace seen (page_place x) other → ⊥
      told other (inl gives) = off (lies_there (page_place x) other gives)
      told other (inr (entry, gives)) = let same : ◌≡◌ {A = ℕ} 1024 64 = ap (λ (p : Place). p.length) entry.3 in absurd (omega arith)

  -- an entry by one of it, or of that on the node from which the catalog is read
  entry_stays : (n : NodeNo) (v : ℕ) (bytes : List ℕ) → v < max_versions
      → ((m : NodeNo) (w : ℕ) → w < max_versions → LiesIn (entry_place m w) → ⊥) → IsLast older (entry_place n v) bytes → IsLast newer (entry_place n v) bytes
  entry_stays n v bytes low off last = stays_last (entry_place n v) bytes told last
    where
      told : (other : List ℕ) → TellsPlace seen (entry_place n v) other → ⊥
      told other (inl gives) = off n v low (lies_there (entry_place n v) other gives)
      told other (inr (entry, gives)) = off catalog_node v low (lies_there (entry_place catalog_node v) other gives)

  -- A page was read

  module _ (x : Addr) (is : seen.place ≡ page_place x) where
    start_is : seen.place.start ≡ 20480 + 1024 * x.slot
    start_is = ap (λ (p : Place). p.start) is

    length_is : seen.place.length ≡ 1024
    length_is = ap (λ (p : Place). p.length) is

    -- of no other page
    page_off : (y : Addr) → (y ≡ x → ⊥) → LiesIn (page_place y) → ⊥
    page_off y other (node, begins, ends) =
        let s = start_is in
        let l = length_is in
        let slots : y.slot ≡ x.slot = omega (arith, s, l, begins, ends) in
        other (addr_by y x (sym node ∙ ap (λ (p : Place). p.node) is) slots)

    place_off : (n : NodeNo) (v : ℕ) → v < max_versions → LiesIn (entry_place n v) → ⊥
    place_off n v low (node, begins, ends) = let s = start_is in absurd (omega (arith, s, begins, low))

    pub catalog_stays : (entries : List CatEntry) → CatalogIsLast older entries → CatalogIsLast newer entries
    catalog_stays entries last n v low = entry_stays n v (bytes_at entries v) low place_off (last n v low)

    -- the page that it spells is last
    pub page_is_last : (page : Page) → SpellsPage seen.bytes page → PageIsLast newer x page
    page_is_last page spells = subst (λ (b : List ℕ). IsLast newer (page_place x) b) spells.1 (is_last (page_place x) is)

    pub other_page : (y : Addr) (bytes : List ℕ) → (y ≡ x → ⊥) → IsLast older (page_place y) bytes → IsLast newer (page_place y) bytes
    other_page y bytes other = page_stays y bytes (page_off y other)

    -- those of a try: none of this address has other bytes
    pub pages_stay : (pages : List SeenPage) → AreReadAs x seen.bytes pages → PagesAreLast older pages → PagesAreLast newer pages
    pages_stay [] as_read last = tt
    pages_stay (p ∷ pages) as_read last = (
      by (addr_same p.addr x) refl,
      pages_stay pages as_read.1 last.1,
    )
      where
        by : (t : Bool) → addr_same p.addr x ≡ t → IsLast newer (page_place p.addr) p.bytes
        by true same =
            let there = addr_is p.addr x same in
            subst (λ (a : Addr). IsLast newer (page_place a) p.bytes) (sym there)
            (subst (λ (b : List ℕ). IsLast newer (page_place x) b) (sym (as_read.0 there)) (is_last (page_place x) is))
        by false off = other_page p.addr p.bytes (λ e. clash _ (subst (λ (a : Addr). addr_same a x ≡ true) (sym e) (same_itself x)) off) last.0

    -- the cache, from which an older page of this address has left
    all_others : (pages : List (Addr × Page)) → page_at x pages ≡ None → CacheIsLast older pages → CacheIsLast newer pages
    all_others [] gone last = tt
    all_others (h ∷ pages) gone last = by (addr_same x h.0) refl gone (all_others pages)
      where
        by : (t : Bool) → addr_same x h.0 ≡ t → (if t then Some h.1 else lookup (addr_same x) pages) ≡ None
            → (page_at x pages ≡ None → CacheIsLast older pages → CacheIsLast newer pages)
            → CacheIsLast newer (h ∷ pages)
        by true same none rest = absurd cc
        by false off none rest = (
          other_page h.0 (page_bytes h.1) (λ e. clash _ (subst (λ (a : Addr). addr_same x a ≡ true) (sym e) (same_itself x)) off) last.0,
          rest none last.1,
        )

    some_of : (n : ℕ) (pages : List (Addr × Page)) → CacheIsLast newer pages → CacheIsLast newer (take n pages)
    some_of zero pages last = tt
    some_of (suc n) [] last = tt
    some_of (suc n) (h ∷ pages) last = (last.0, some_of n pages last.1)

    put_last : (bytes : List ℕ) (before after : List (Addr × Page)) → seen.bytes ≡ bytes → page_at x before ≡ None
        → CacheIsLast older before → ArePut x bytes before after → CacheIsLast newer after
    put_last bytes before after came gone last (inl (none, same)) =
        subst (CacheIsLast newer) (sym same) (all_others before gone last)
    put_last bytes before after came gone last (inr (page, spells, put)) =
        subst (CacheIsLast newer) (sym put) (by (nat_eq (height_of page.body) 0))
      where
        spelled : SpellsPage seen.bytes page
        spelled = subst (λ (b : List ℕ). SpellsPage b page) (sym came) spells

        by : (t : Bool) → CacheIsLast newer (if t then before else pages_put x page before)
        by true = all_others before gone last
        by false =
            some_of CAPACITY ((x, page) ∷ pages_without x before)
            (page_is_last page spelled, without_last newer x before (all_others before gone last))

    cache_by : {T : Type 0} (bytes : List ℕ) (before after : List (Addr × Page)) (result : Result T NoMemory)
        → seen.bytes ≡ bytes → page_at x before ≡ None → CacheIsLast older before → Puts x bytes before after result
        → CacheIsLast newer after
    cache_by bytes before after (Ok taken) came gone last puts = put_last bytes before after came gone last puts
    cache_by bytes before after (Err none) came gone last (inl same) =
        subst (CacheIsLast newer) (sym same) (all_others before gone last)
    cache_by bytes before after (Err none) came gone last (inr puts) = put_last bytes before after came gone last puts

    pub cache_last : {T : Type 0} (bytes : List ℕ) (before after : List (Addr × Page)) (result : Result T NoMemory)
        → seen.bytes ≡ bytes → Replaces x bytes before after result → CacheIsLast older before → CacheIsLast newer after
    cache_last bytes before after result came replaces last =
        cache_by bytes (pages_without x before) after result came replaces.gone (without_last older x before last) replaces.puts

  -- The catalog was read

  module _ (is : seen.place ≡ catalog_place) where
    pub pages_off : (y : Addr) → LiesIn (page_place y) → ⊥
    pages_off y (node, begins, ends) =
        let s : seen.place.start ≡ 64 = ap (λ (p : Place). p.start) is in
        let l : seen.place.length ≡ 4096 = ap (λ (p : Place). p.length) is in
        absurd (omega (arith, s, l, ends))

    pub cache_stays : (pages : List (Addr × Page)) → CacheIsLast older pages → CacheIsLast newer pages
    cache_stays [] last = tt
    cache_stays (h ∷ pages) last = (page_stays h.0 (page_bytes h.1) (pages_off h.0) last.0, cache_stays pages last.1)

    place_given : (entries : List CatEntry) → SeesCatalog seen entries → (v : ℕ) → v < max_versions
        → GivesPlace seen (entry_place catalog_node v) (bytes_at entries v)
    place_given entries sees v low = by (slice_get entries v) refl
      where
        by : (o : Option CatEntry) → slice_get entries v ≡ o
            → GivesPlace seen (entry_place catalog_node v) (option_map_or entry_bytes o (replicate entry_size 0))
        by (Some e) there = entry_given seen entries v e sees there
        by None there = zeros_given seen entries v sees (behind entries v there) low

    -- each place of it is what was read
    pub catalog_is_last : (entries : List CatEntry) → SeesCatalog seen entries → CatalogIsLast newer entries
    catalog_is_last entries sees n v low =
        subst (λ (l : List Seen). FirstGives l (entry_place n v) (take 8 (bytes_at entries v)) (bytes_at entries v)) (sym one)
        (inl (inr ((n, v, low, refl), place_given entries sees v low), refl))

  -- A count was read

  module _ (small : seen.place.start + seen.place.length ≤ 64) where
    low_page : (y : Addr) → LiesIn (page_place y) → ⊥
    low_page y (node, begins, ends) = absurd (omega (arith, ends, small))

    low_place : (n : NodeNo) (v : ℕ) → v < max_versions → LiesIn (entry_place n v) → ⊥
    low_place n v low (node, begins, ends) = absurd (omega (arith, ends, small))

    pub cache_by_count : (pages : List (Addr × Page)) → CacheIsLast older pages → CacheIsLast newer pages
    cache_by_count [] last = tt
    cache_by_count (h ∷ pages) last = (page_stays h.0 (page_bytes h.1) (low_page h.0) last.0, cache_by_count pages last.1)

    pub pages_by_count : (pages : List SeenPage) → PagesAreLast older pages → PagesAreLast newer pages
    pages_by_count [] last = tt
    pages_by_count (p ∷ pages) last = (page_stays p.addr p.bytes (low_page p.addr) last.0, pages_by_count pages last.1)

    pub catalog_by_count : (entries : List CatEntry) → CatalogIsLast older entries → CatalogIsLast newer entries
    catalog_by_count entries last n v low = entry_stays n v (bytes_at entries v) low low_place (last n v low)
