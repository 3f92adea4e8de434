-- What the plan of a transaction compares, its try has read.
use Rattle.std.proofs.Common.{◌≡◌, ◌⊎◌, inl, inr, ℕ, zero, suc, ◌+◌, ◌<◌, Bool, true, false, not, List, [], ◌∷◌, ◌++◌, map, length, Contains, Option, Some, None, refl, subst, sym, ap, ◌∙◌, arith, slice_get, slice_index_or, if◌then◌else◌}
use Rattle.std.specs.Prelude.{filter, nat_eq, take}
use Rattle.std.specs.List.{AllByRecursion, list_any, range_with_len}
use Rattle.std.specs.Option.{option_map, option_to_list}
use Rattle.std.proofs.lemmas.List.Elements.{Contains-append_cases}
use Rattle.mn_base.specs.Ids.{addr_same}
use Rattle.mn_base.specs.Store.{is_change}
use Rattle.mn_base.specs.declared.ids.Addr.{Addr}
use Rattle.mn_base.specs.declared.ids.NodeNo.{NodeNo}
use Rattle.mn_base.proofs.Lists.{all_append}
use Rattle.mn_mini.specs.declared.item.Item.TheVariants.{Compare}
use Rattle.mn_page.specs.declared.page.Page.{Page}
use Rattle.mn_page.specs.declared.entry.CatEntry.{CatEntry}
use Rattle.mn_page.specs.Grammar.{entry_bytes}
use Rattle.mn_page.specs.Overlay.{Held, held_at}
use Rattle.mn_page.specs.Space.{entry_start}
use Rattle.mn_tree.specs.Moves.{Move, came_at, comes_in}
use Rattle.mn_runs.specs.Clients.{is_plan}
use Rattle.mn_plans.specs.Growth.{giving_nodes, taken_on}
use Rattle.mn_law.specs.Places.{number_size}
use Rattle.mn_plans.proofs.Grown.{addr_is}
use Rattle.mn_plans.proofs.Told.{all_there}
use Rattle.mn_txn.specs.declared.image.Image.{Image}
use Rattle.mn_txn.specs.declared.seen.SeenPage.{SeenPage}
use Rattle.mn_txn.specs.State.{image}
use Rattle.mn_txn.specs.Plan.{compare_of, write_of}
use Rattle.mn_txn.specs.Attempt.{Attempt as Tried, least_addr, came_images, count_image, counts_read, done_reads, entry_images, page_image, unmet_reads}
use Rattle.mn_txn.specs.Seen.{seen_as}
use Rattle.mn_tree.specs.Moves.{leaves_at}
use Rattle.mn_work.specs.declared.attempt.Attempt.{Attempt}
use Rattle.mn_work.specs.Attempts.{IsReadAt}

-- Lists

contains_map : {X Y : Type 0} (f : X → Y) (xs : List X) (x : X) → Contains xs x
    → Contains (map f xs) (f x)
contains_map f [] x (k, low, is) = absurd (omega arith)
contains_map f (y ∷ ys) x (zero, low, is) = (0, omega arith, ap f is)
contains_map f (y ∷ ys) x (suc k, low, is) =
    let rest = contains_map f ys x (k, omega arith, is) in
    (suc rest.0, (let l = rest.1 in omega arith), rest.2)

-- where an element of a mapped list comes from
pub mapped_back : {X Y : Type 0} (f : X → Y) (xs : List X) (y : Y) → Contains (map f xs) y
    → (x : X) × Contains xs x × (f x ≡ y)
mapped_back f [] y (k, low, is) = absurd (omega arith)
mapped_back f (x ∷ xs) y (zero, low, is) = (x, (0, omega arith, refl), is)
mapped_back f (x ∷ xs) y (suc k, low, is) =
    let rest = mapped_back f xs y (k, omega arith, is) in
    let there = rest.1 in
    (rest.0, (suc there.0, (let l = there.1 in omega arith), there.2), rest.2)

-- Items of images

-- only an image that begins so is compared so
compared_is : (P : NodeNo → ℕ → List ℕ → Type 0) (i : Image) (n : NodeNo) (start : ℕ) (bytes : List ℕ)
    → compare_of i ≡ Compare n start bytes → P i.node i.start (take number_size i.bytes) → P n start bytes
compared_is P i n start bytes e is =
    let node : i.node ≡ n = cc in
    let begins : i.start ≡ start = cc in
    let are : take number_size i.bytes ≡ bytes = cc in
    subst (λ (m : NodeNo). P m start bytes) node
    (subst (λ (k : ℕ). P i.node k bytes) begins (subst (λ (b : List ℕ). P i.node i.start b) are is))

-- a compare is that of the front of an image that was read
pub of_reads : (P : NodeNo → ℕ → List ℕ → Type 0) (reads : List Image)
    → AllByRecursion (λ i. P i.node i.start (take number_size i.bytes)) reads
    → (n : NodeNo) (start : ℕ) (bytes : List ℕ)
    → Contains (map compare_of reads) (Compare n start bytes) → P n start bytes
of_reads P reads all n start bytes has =
    let m = mapped_back compare_of reads (Compare n start bytes) has in
    compared_is P m.0 n start bytes m.2 (all_there (λ i. P i.node i.start (take number_size i.bytes)) reads m.0 all m.1)

-- also beside writes
pub of_items : (P : NodeNo → ℕ → List ℕ → Type 0) (reads writes : List Image)
    → AllByRecursion (λ i. P i.node i.start (take number_size i.bytes)) reads
    → (n : NodeNo) (start : ℕ) (bytes : List ℕ)
    → Contains (map compare_of reads ++ map write_of writes) (Compare n start bytes)
    → P n start bytes
of_items P reads writes all n start bytes has =
    by (Contains-append_cases (map compare_of reads) (map write_of writes) (Compare n start bytes) has)
  where
    off : (i : Image) → write_of i ≡ Compare n start bytes → ⊥
    off i e = cc

    by : Contains (map compare_of reads) (Compare n start bytes)
        ⊎ Contains (map write_of writes) (Compare n start bytes) → P n start bytes
    by (inl c) = of_reads P reads all n start bytes c
    by (inr w) = let m = mapped_back write_of writes (Compare n start bytes) w in absurd (off m.0 m.2)

-- compares and writes make a plan
pub reads_plan : (reads : List Image) → is_plan (map compare_of reads) ≡ true
reads_plan [] = refl
reads_plan (i ∷ reads) = reads_plan reads

pub items_plan : (reads writes : List Image)
    → is_plan (map compare_of reads ++ map write_of writes) ≡ true
items_plan [] [] = refl
items_plan [] (i ∷ writes) = items_plan [] writes
items_plan (i ∷ reads) writes = items_plan reads writes

-- What a try has read

abbrev held : Addr → Page → Held
held a q = record { addr = a; page = q }

-- a page that is held at an address is one of them
pub held_has : (hs : List Held) (x : Addr) (p : Page) → held_at hs x ≡ Some p
    → Contains hs (record { addr = x; page = p })
held_has [] x p e = absurd cc
held_has (h ∷ hs) x p e = by (addr_same h.addr x) refl e (held_has hs x p)
  where
    here : h.addr ≡ x → h.page ≡ p → h ≡ record { addr = x; page = p }
    here same is =
        ap (λ (a : Addr). held a h.page) same ∙ ap (λ (q : Page). held x q) is

    by : (t : Bool) → addr_same h.addr x ≡ t → (if t then Some h.page else held_at hs x) ≡ Some p
        → (held_at hs x ≡ Some p → Contains hs (record { addr = x; page = p }))
        → Contains (h ∷ hs) (record { addr = x; page = p })
    by true same f rest = (0, omega arith, here (addr_is h.addr x same) cc)
    by false other f rest = let c = rest f in (suc c.0, (let l = c.1 in omega arith), c.2)

-- the nodes that give no slots
none_give : (ns : List ℕ) → filter (λ n. not (nat_eq (taken_on [] n) 0)) ns ≡ []
none_give [] = refl
none_give (n ∷ ns) = none_give ns

pub within_is : (counts : List ℕ) (n : ℕ) → n < length counts
    → slice_get counts n ≡ Some (slice_index_or counts n 0)
within_is [] n low = absurd (omega arith)
within_is (c ∷ counts) zero low = refl
within_is (c ∷ counts) (suc n) low = within_is counts n (omega arith)

module _ (entries : List CatEntry) (a : Attempt) where
  -- it has read the image, of which a plan compares the front
  abbrev pub HasRead : Image → Type 0
  HasRead i = IsReadAt entries a i.node i.start (take number_size i.bytes)

  -- its pages
  pub came_read : (came : List Held) (moves : List Move) → a.pages.items ≡ map seen_as came
      → comes_in moves ≡ came → (addrs : List Addr)
      → AllByRecursion HasRead (came_images moves addrs)
  came_read came moves pages is [] = tt
  came_read came moves pages is (x ∷ addrs) =
      by (came_at moves x) refl (came_read came moves pages is addrs)
    where
      by : (o : Option Page) → came_at moves x ≡ o
          → AllByRecursion HasRead (came_images moves addrs)
          → AllByRecursion HasRead (option_to_list (option_map (page_image x) o) ++ came_images moves addrs)
      by None at rest = rest
      by (Some p) at rest = (
        inl (record {
          page = seen_as (record { addr = x; page = p });
          among = subst (λ (l : List SeenPage). Contains l (seen_as (record { addr = x; page = p }))) (sym pages)
              (contains_map seen_as came (record { addr = x; page = p })
              (held_has came x p (ap (λ (hs : List Held). held_at hs x) (sym is) ∙ at)));
          node_is = refl;
          start_is = refl;
          bytes_are = refl;
        }),
        rest,
      )

  -- the entry of its version
  pub entry_read : (node : NodeNo) (t : Tried) → t.version ≡ a.version → slice_get entries a.version.0 ≡ Some t.entry
      → AllByRecursion HasRead (entry_images node t)
  entry_read node t version there = by (list_any is_change t.steps)
    where
      by : (b : Bool)
          → AllByRecursion HasRead
          (if b then image node (entry_start t.version.0) (entry_bytes t.entry) ∷ [] else [])
      by true = (
        inr (inl (record {
          entry = t.entry;
          there = there;
          start_is = ap (λ v. entry_start v.0) (sym version);
          bytes_are = refl;
        })),
        tt,
      )
      by false = tt

  -- the counts of some nodes
  some_counts : (ns : List ℕ) → AllByRecursion (λ n. n < length a.counts.items) ns
      → AllByRecursion HasRead (map (λ n. count_image n (slice_index_or a.counts.items n 0)) ns)
  some_counts [] all = tt
  some_counts (n ∷ ns) all = (
    inr (inr (record {
      count = slice_index_or a.counts.items n 0;
      there = within_is a.counts.items n all.0;
      start_is = refl;
      bytes_are = refl;
    })),
    some_counts ns all.1,
  )

  -- of those that give slots, where all were read, or none gives one
  pub counts_are_read : (t : Tried) → (t.counts ≡ a.counts.items) ⊎ (t.slots ≡ [])
      → AllByRecursion HasRead (counts_read t)
  counts_are_read t (inl same) =
      subst (λ (l : List ℕ). AllByRecursion HasRead (map (λ n. count_image n (slice_index_or l n 0)) (giving_nodes l t.slots)))
      (sym same) (some_counts (giving_nodes a.counts.items t.slots) (filtered (range_with_len 0 (length a.counts.items)) (low 0 (length a.counts.items) (length a.counts.items) (omega arith))))
    where
      filtered : (ns : List ℕ) → AllByRecursion (λ n. n < length a.counts.items) ns
          → AllByRecursion (λ n. n < length a.counts.items) (filter (λ n. not (nat_eq (taken_on t.slots n) 0)) ns)
      filtered [] all = tt
      filtered (n ∷ ns) all = by (not (nat_eq (taken_on t.slots n) 0)) (filtered ns all.1)
        where
          by : (b : Bool)
              → AllByRecursion (λ n. n < length a.counts.items) (filter (λ n. not (nat_eq (taken_on t.slots n) 0)) ns)
              → AllByRecursion (λ n. n < length a.counts.items)
              (if b then n ∷ filter (λ n. not (nat_eq (taken_on t.slots n) 0)) ns else filter (λ n. not (nat_eq (taken_on t.slots n) 0)) ns)
          by true rest = (all.0, rest)
          by false rest = rest

      low : (from k end : ℕ) → from + k ≡ end → AllByRecursion (λ n. n < end) (range_with_len from k)
      low from zero end e = tt
      low from (suc k) end e = (omega (arith, e), low (from + 1) k end (omega (arith, e)))
  counts_are_read t (inr none) =
      subst (AllByRecursion HasRead)
      (sym (ap (λ (slots : List Addr). map (λ n. count_image n (slice_index_or t.counts n 0)) (giving_nodes t.counts slots)) none
      ∙ ap (map (λ n. count_image n (slice_index_or t.counts n 0))) (none_give (range_with_len 0 (length t.counts))))) tt

  -- all that is compared
  pub done_read : (t : Tried) (came : List Held) → a.pages.items ≡ map seen_as came
      → comes_in t.moves ≡ came → t.version ≡ a.version
      → slice_get entries a.version.0 ≡ Some t.entry
      → (t.counts ≡ a.counts.items) ⊎ (t.slots ≡ []) → AllByRecursion HasRead (done_reads t)
  done_read t came pages is version there counts =
      let node = least_addr (t.draft.read ++ t.slots) in
      all_append HasRead (came_images t.moves t.draft.read) (entry_images node t ++ counts_read t)
      (came_read came t.moves pages is t.draft.read)
      (all_append HasRead (entry_images node t) (counts_read t) (entry_read node t version there) (counts_are_read t counts))

  pub unmet_read : (t : Tried) (came : List Held) → a.pages.items ≡ map seen_as came
      → comes_in t.moves ≡ came → t.version ≡ a.version
      → slice_get entries a.version.0 ≡ Some t.entry → AllByRecursion HasRead (unmet_reads t)
  unmet_read t came pages is version there =
      let leaves = leaves_at t.moves t.draft.read in
      all_append HasRead (came_images t.moves leaves) (entry_images (least_addr leaves) t)
      (came_read came t.moves pages is leaves) (entry_read (least_addr leaves) t version there)
