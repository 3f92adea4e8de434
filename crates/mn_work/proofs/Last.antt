-- What a list has shown last stays so through what a try makes of the cache; and a list that has
-- shown last what a try goes by has shown last what its plan compares.
use Rattle.std.proofs.Common.{◌≡◌, inl, inr, ℕ, zero, suc, ◌<◌, Bool, true, false, List, [], ◌∷◌, ◌++◌, map, length, replicate, take, Contains, Option, Some, None, refl, subst, sym, ap, ◌∙◌, arith, slice_get, slice_index_or, if◌then◌else◌, Result, Ok, Err}
use Rattle.std.specs.Prelude.{OnOk}
use Rattle.std.specs.List.{AllByRecursion, list_any}
use Rattle.std.specs.Map.{lookup, remove_entry}
use Rattle.std.specs.Option.{option_map, option_map_or, option_to_list}
use Rattle.mn_base.specs.Ids.{addr_same}
use Rattle.mn_base.specs.Store.{is_change, max_versions}
use Rattle.mn_base.specs.declared.ids.Addr.{Addr}
use Rattle.mn_base.specs.declared.ids.NodeNo.{NodeNo}
use Rattle.mn_base.specs.declared.ids.VersionNo.{VersionNo}
use Rattle.mn_base.specs.declared.error.NoMemory.{NoMemory}
use Rattle.mn_base.proofs.Lists.{all_append}
use Rattle.mn_cache.specs.Pages.{page_at, pages_used, pages_without}
use Rattle.mn_page.specs.declared.page.Page.{Page}
use Rattle.mn_page.specs.declared.entry.CatEntry.{CatEntry}
use Rattle.mn_page.specs.Grammar.{IsAddr, IsEntry, IsPage, entry_bytes, page_bytes}
use Rattle.mn_page.specs.Overlay.{Held, held_at}
use Rattle.mn_page.specs.Space.{entry_size, entry_start, slot_start}
use Rattle.mn_page.proofs.Spelled.{entry_length, page_length}
use Rattle.mn_tree.specs.Moves.{Comes, Does, LeadsTo, Move, came_at, comes_in, leaves_at}
use Rattle.mn_tree.specs.State.{Drafted}
use Rattle.mn_runs.specs.declared.entry.Entry.{Entry}
use Rattle.mn_plans.specs.Growth.{giving_nodes}
use Rattle.mn_law.specs.Places.{IsNumbered, catalog_node, entry_place, number_size}
use Rattle.mn_runs.specs.Seen.{Place}
use Rattle.mn_law.specs.Shown.{ShowsLast}
use Rattle.mn_plans.proofs.Grown.{addr_is}
use Rattle.mn_plans.proofs.Told.{all_there}
use Rattle.mn_txn.specs.declared.image.Image.{Image}
use Rattle.mn_txn.specs.declared.seen.SeenPage.{SeenPage}
use Rattle.mn_txn.specs.State.{image}
use Rattle.mn_txn.specs.Attempt.{Attempt as Tried, least_addr, came_images, count_image, counts_read, done_reads, entry_images, page_image, unmet_reads}
use Rattle.mn_txn.specs.Laws.{ReadsAreShown, image_place}
use Rattle.mn_txn.specs.Seen.{seen_as}
use Rattle.mn_work.specs.Cached.{AreUsed, used_all}
use Rattle.mn_work.specs.Last.{CacheIsLast, CatalogIsLast, IsLast, PageIsLast, PagesAreLast, bytes_at}
use Rattle.mn_work.proofs.Compares.{held_has}

-- what holds anyway holds where there was memory
pub on_any : {T : Type 0} (result : Result T NoMemory) (P : Type 0) → P → OnOk result P
on_any (Ok taken) P is = is
on_any (Err none) P is = tt

-- The cache

-- a page that is kept of an address is among those that are kept
pub found_last : (es : List Entry) (addr : Addr) (pages : List (Addr × Page)) (page : Page)
    → CacheIsLast es pages → page_at addr pages ≡ Some page → PageIsLast es addr page
found_last es addr [] page last e = absurd cc
found_last es addr (p ∷ pages) page last e =
    by (addr_same addr p.0) refl e (found_last es addr pages page last.1)
  where
    by : (t : Bool) → addr_same addr p.0 ≡ t
        → (if t then Some p.1 else lookup (addr_same addr) pages) ≡ Some page
        → (page_at addr pages ≡ Some page → PageIsLast es addr page) → PageIsLast es addr page
    by true same e rest =
        let is : p.1 ≡ page = cc in
        subst (λ (a : Addr). PageIsLast es a page) (sym (addr_is addr p.0 same))
        (subst (λ (q : Page). PageIsLast es p.0 q) is last.0)
    by false same e rest = rest e

without_by : (es : List Entry) (test : Addr → Bool) (pages : List (Addr × Page)) → CacheIsLast es pages
    → CacheIsLast es (remove_entry test pages)
without_by es test [] last = tt
without_by es test (p ∷ pages) last = by (test p.0) (without_by es test pages last.1)
  where
    by : (t : Bool) → CacheIsLast es (remove_entry test pages)
        → CacheIsLast es (if t then pages else p ∷ remove_entry test pages)
    by true rest = last.1
    by false rest = (last.0, rest)

pub without_last : (es : List Entry) (addr : Addr) (pages : List (Addr × Page)) → CacheIsLast es pages
    → CacheIsLast es (pages_without addr pages)
without_last es addr pages last = without_by es (addr_same addr) pages last

one_used_last : (es : List Entry) (addr : Addr) (pages : List (Addr × Page)) → CacheIsLast es pages
    → CacheIsLast es (pages_used addr pages)
one_used_last es addr pages last = by (page_at addr pages) (λ page is. found_last es addr pages page last is)
  where
    by : (o : Option Page) → ((page : Page) → o ≡ Some page → PageIsLast es addr page)
        → CacheIsLast es (option_map_or (λ page. (addr, page) ∷ pages_without addr pages) o pages)
    by None is = last
    by (Some page) is = (is page refl, without_last es addr pages last)

all_used_last : (es : List Entry) (addrs : List Addr) (pages : List (Addr × Page)) → CacheIsLast es pages
    → CacheIsLast es (used_all addrs pages)
all_used_last es [] pages last = last
all_used_last es (addr ∷ addrs) pages last =
    all_used_last es addrs (pages_used addr pages) (one_used_last es addr pages last)

pub used_last : (es : List Entry) (before after : List (Addr × Page)) → AreUsed before after
    → CacheIsLast es before → CacheIsLast es after
used_last es before after used last =
    subst (CacheIsLast es) (sym used.after_is) (all_used_last es used.addrs before last)

-- Pages that came in

-- each is in its grammar, in a slot
pub came_are : (parents : List (Option ℕ)) (v : VersionNo) (root : Addr) (moves : List Move) (d after : Drafted)
    → LeadsTo parents v root d moves after
    → AllByRecursion (λ h. IsPage h.page × IsAddr h.addr) (comes_in moves)
came_are parents v root [] d after leads = tt
came_are parents v root (Comes h ∷ moves) d after leads =
    ((leads.0.page, leads.0.addr), came_are parents v root moves _ after leads.1)
came_are parents v root (Does step ∷ moves) d after leads =
    came_are parents v root moves _ after leads.2

-- What a plan compares

module _ (es : List Entry) where
  -- a page or an entry is shown last, and a count need not be
  abbrev pub OneIsLast : Image → Type 0
  OneIsLast i =
      (i.start ≡ 16 → ⊥)
      → IsNumbered (image_place i) × ShowsLast es (image_place i) (take number_size i.bytes) i.bytes

  pub page_last : (x : Addr) (p : Page) → IsPage p → IsAddr x → PageIsLast es x p → OneIsLast (page_image x p)
  page_last x p page addr last off =
      let long = page_length p page in (
        inl (x, addr.1, ap (λ (n : ℕ). sized n) long),
        subst (λ (n : ℕ). ShowsLast es (sized n) (take number_size (page_bytes p)) (page_bytes p)) (sym long) last,
      )
    where
      sized : ℕ → Place
      sized n = record { node = x.node; start = slot_start x.slot; length = n }

  pub place_last : (entries : List CatEntry) (node : NodeNo) (v : ℕ) (bytes : List ℕ) → CatalogIsLast es entries → v < max_versions
      → bytes_at entries v ≡ bytes → length bytes ≡ 64 → OneIsLast (image node (entry_start v) bytes)
  place_last entries node v bytes catalog low is long off = (
    inr (node, v, low, ap (λ (n : ℕ). sized n) long),
    subst (λ (n : ℕ). ShowsLast es (sized n) (take number_size bytes) bytes) (sym long)
        (subst (λ (b : List ℕ). IsLast es (entry_place node v) b) is (catalog node v low)),
  )
    where
      sized : ℕ → Place
      sized n = record { node = node; start = entry_start v; length = n }

  pub entry_last : (entries : List CatEntry) (node : NodeNo) (v : ℕ) (e : CatEntry) → CatalogIsLast es entries → v < max_versions
      → slice_get entries v ≡ Some e → IsEntry e → OneIsLast (image node (entry_start v) (entry_bytes e))
  entry_last entries node v e catalog low there entry =
      place_last entries node v (entry_bytes e) catalog low (ap (λ (o : Option CatEntry). option_map_or entry_bytes o (replicate entry_size 0)) there) (entry_length e entry)

  none_there : (entries : List CatEntry) → slice_get entries (length entries) ≡ None
  none_there [] = refl
  none_there (e ∷ entries) = none_there entries

  -- the first unused place
  pub unused_last : (entries : List CatEntry) → CatalogIsLast es entries → length entries < max_versions
      → OneIsLast (image catalog_node (entry_start (length entries)) (replicate entry_size 0))
  unused_last entries catalog low =
      place_last entries catalog_node (length entries) (replicate entry_size 0) catalog low (ap (λ (o : Option CatEntry). option_map_or entry_bytes o (replicate entry_size 0)) (none_there entries)) refl

  counts_last : (count : ℕ → ℕ) (ns : List ℕ)
      → AllByRecursion OneIsLast (map (λ n. count_image n (count n)) ns)
  counts_last count [] = tt
  counts_last count (n ∷ ns) = ((λ off. absurd (off refl)), counts_last count ns)

  pub count_last : (n count : ℕ) → OneIsLast (count_image n count)
  count_last n count off = absurd (off refl)

  -- the pages of a try
  pages_last : (pages : List SeenPage) (came : List Held) (moves : List Move) → PagesAreLast es pages
      → pages ≡ map seen_as came → comes_in moves ≡ came
      → AllByRecursion (λ h. IsPage h.page × IsAddr h.addr) came
      → (addrs : List Addr) → AllByRecursion OneIsLast (came_images moves addrs)
  pages_last pages came moves last are is all [] = tt
  pages_last pages came moves last are is all (x ∷ addrs) =
      by (came_at moves x) refl (pages_last pages came moves last are is all addrs)
    where
      of_came : (hs : List Held) (h : Held) → PagesAreLast es (map seen_as hs) → Contains hs h → PageIsLast es h.addr h.page
      of_came [] h lasts (k, low, e) = absurd (omega arith)
      of_came (g ∷ hs) h lasts (zero, low, e) = let same : g ≡ h = cc in subst (λ (f : Held). PageIsLast es f.addr f.page) same lasts.0
      of_came (g ∷ hs) h lasts (suc k, low, e) = of_came hs h lasts.1 (k, omega arith, e)

      by : (o : Option Page) → came_at moves x ≡ o → AllByRecursion OneIsLast (came_images moves addrs)
          → AllByRecursion OneIsLast (option_to_list (option_map (page_image x) o) ++ came_images moves addrs)
      by None at rest = rest
      by (Some p) at rest =
          let has = held_has came x p (ap (λ (hs : List Held). held_at hs x) (sym is) ∙ at) in
          let it = all_there (λ h. IsPage h.page × IsAddr h.addr) came (record { addr = x; page = p }) all has in
          (page_last x p it.0 it.1 (of_came came (record { addr = x; page = p }) (subst (PagesAreLast es) are last) has), rest)

  entries_last : (entries : List CatEntry) (node : NodeNo) (t : Tried) → CatalogIsLast es entries → t.version.0 < max_versions
      → slice_get entries t.version.0 ≡ Some t.entry → IsEntry t.entry
      → AllByRecursion OneIsLast (entry_images node t)
  entries_last entries node t catalog low there entry = by (list_any is_change t.steps)
    where
      by : (b : Bool)
          → AllByRecursion OneIsLast
          (if b then image node (entry_start t.version.0) (entry_bytes t.entry) ∷ [] else [])
      by true = (entry_last entries node t.version.0 t.entry catalog low there entry, tt)
      by false = tt

  module _ (entries : List CatEntry) (t : Tried) (pages : List SeenPage) (came : List Held)
      (d after : Drafted) (parents : List (Option ℕ)) (root : Addr)
      (are : pages ≡ map seen_as came) (is : comes_in t.moves ≡ came)
      (leads : LeadsTo parents t.version root d t.moves after) (low : t.version.0 < max_versions)
      (there : slice_get entries t.version.0 ≡ Some t.entry) (entry : IsEntry t.entry)
      (catalog : CatalogIsLast es entries) (last : PagesAreLast es pages) where
    all_came : AllByRecursion (λ h. IsPage h.page × IsAddr h.addr) came
    all_came =
        subst (AllByRecursion (λ h. IsPage h.page × IsAddr h.addr)) is (came_are parents t.version root t.moves d after leads)

    pub done_last : ReadsAreShown es (done_reads t)
    done_last =
        let node = least_addr (t.draft.read ++ t.slots) in
        all_append OneIsLast (came_images t.moves t.draft.read) (entry_images node t ++ counts_read t)
        (pages_last pages came t.moves last are is all_came t.draft.read)
        (all_append OneIsLast (entry_images node t) (counts_read t) (entries_last entries node t catalog low there entry)
        (counts_last (λ n. slice_index_or t.counts n 0) (giving_nodes t.counts t.slots)))

    pub unmet_last : ReadsAreShown es (unmet_reads t)
    unmet_last =
        let leaves = leaves_at t.moves t.draft.read in
        all_append OneIsLast (came_images t.moves leaves) (entry_images (least_addr leaves) t)
        (pages_last pages came t.moves last are is all_came leaves)
        (entries_last entries (least_addr leaves) t catalog low there entry)
