-- What a forest has where the compares of a try are met in its memory.
use Rattle.std.proofs.Common.{◌≡◌, inl, inr, ℕ, zero, suc, ◌+◌, ◌*◌, ◌^◌, ◌<◌, ◌≤◌, Bool, true, false, not, ◌&&◌, ◌||◌, List, [], ◌∷◌, ◌++◌, map, length, take, Contains, Option, Some, None, refl, subst, sym, ap, ◌∙◌, arith, slice_get, slice_set, slice_index_or, if◌then◌else◌}
use Rattle.std.specs.Prelude.{filter, nat_eq}
use Rattle.std.specs.List.{AllByRecursion, list_any, range_with_len}
use Rattle.std.specs.Option.{option_map, option_to_list}
use Rattle.std.proofs.lemmas.Bool.{eq-eqb, eqb-true, ne_eqb, cases_eq, and_parts}
use Rattle.std.proofs.lemmas.List.{length-map, length-set}
use Rattle.std.proofs.lemmas.List.FromFn.{length-range_with_len}
use Rattle.std.proofs.lemmas.List.Elements.{Contains-append_left, Contains-append_right}
use Rattle.mn_base.specs.Ids.{addr_same}
use Rattle.mn_base.specs.Store.{Store, Head, heads_of, is_change, number_named}
use Rattle.mn_base.specs.Tree.{parents_of, serves}
use Rattle.mn_base.specs.declared.ids.Addr.{Addr}
use Rattle.mn_base.specs.declared.ids.NodeNo.{NodeNo}
use Rattle.mn_mini.specs.declared.item.Item.{Item}
use Rattle.mn_page.specs.declared.page.Page.{Page}
use Rattle.mn_page.specs.declared.entry.CatEntry.{CatEntry}
use Rattle.mn_page.specs.Space.{max_slots}
use Rattle.mn_page.specs.Grammar.{IsPage, IsEntry, page_bytes, entry_bytes}
use Rattle.mn_page.proofs.Spelled.{page_length, entry_length}
use Rattle.mn_page.specs.Forest.{Forest, node_count, laid_of, space_laid, page_at}
use Rattle.mn_page.specs.Holds.{Holds}
use Rattle.mn_page.specs.Overlay.{Held, held_at, new_addr}
use Rattle.mn_tree.specs.Walk.{is_live}
use Rattle.mn_tree.specs.Trees.{is_noted, ShowsTree}
use Rattle.mn_tree.specs.Laws.{ReadsAreDraft}
use Rattle.mn_tree.specs.Moves.{Move, comes_in, came_at, is_leaf_at, leaves_at}
use Rattle.mn_tree.specs.MoveLaws.{AgreesWithEntries, AreTold, MovesTell, AreReads, MovesRead, MovesComeOnce}
use Rattle.mn_tree.proofs.Trees.Puts.{addr_is}
use Rattle.mn_tree.proofs.Trees.Told.{noted_filter}
use Rattle.mn_runs.specs.declared.entry.Entry.{Entry}
use Rattle.mn_law.specs.Places.{IsNumbered}
use Rattle.mn_law.specs.Shown.{ShowsLast}
use Rattle.mn_plans.specs.Plans.{ShowsPage, ShowsEntry}
use Rattle.mn_law.specs.Planned.{ContinuesCatalog, ComparesHold}
use Rattle.mn_plans.proofs.Told.{all_there}
use Rattle.mn_plans.specs.Growth.{AreNextSlots, taken_on, giving_nodes, node_no, count_in, AreMet, ComparesTell}
use Rattle.mn_plans.proofs.Compares.{still_named, number_within}
use Rattle.mn_plans.proofs.Kept.{serves_kept}
use Rattle.mn_plans.proofs.Least.{least_all}
use Rattle.mn_txn.specs.declared.image.Image.{Image}
use Rattle.mn_txn.specs.Plan.{compare_of}
use Rattle.mn_txn.specs.Laws.{image_place, ReadsAreShown}
use Rattle.mn_txn.specs.Attempt.{Attempt, IsAttempt, least_addr, page_image, came_images, entry_images, count_image}
use Rattle.mn_txn.proofs.Lists.{contains_map, all_mapped, all_noted}
use Rattle.mn_txn.proofs.Found.{InStore, in_store}

-- Images that are there

-- a page that came in at one of the addresses
pub came_has : (moves : List Move) (addrs : List Addr) (x : Addr) (p : Page) → is_noted addrs x ≡ true → came_at moves x ≡ Some p → Contains (came_images moves addrs) (page_image x p)
came_has moves [] x p noted came = absurd cc
came_has moves (y ∷ addrs) x p noted came = by_same (addr_same y x) refl noted (came_has moves addrs x p)
  where
    first : Addr → List Image
    first z = option_to_list (option_map (page_image z) (came_at moves z))

    by_same : (t : Bool) → addr_same y x ≡ t → (t || is_noted addrs x) ≡ true → (is_noted addrs x ≡ true → came_at moves x ≡ Some p → Contains (came_images moves addrs) (page_image x p)) → Contains (first y ++ came_images moves addrs) (page_image x p)
    by_same true e f rest =
        Contains-append_left (first y) (came_images moves addrs) (page_image x p)
        (subst (λ (l : List Image). Contains l (page_image x p)) (sym (ap first (addr_is y x e) ∙ ap (λ (o : Option Page). option_to_list (option_map (page_image x) o)) came)) (0, omega arith, refl))
    by_same false e f rest = Contains-append_right (first y) (came_images moves addrs) (page_image x p) (rest f came)

-- what holds of each page that comes in holds of the one that came in at an address
pub came_of : (P : Held → Type 0) (hs : List Held) (x : Addr) (p : Page) → AllByRecursion P hs → held_at hs x ≡ Some p → P (record { addr = x; page = p })
came_of P [] x p all e = absurd cc
came_of P (h ∷ hs) x p all e = by_same (addr_same h.addr x) refl e (came_of P hs x p all.1)
  where
    same_page : (q r : Page) → Some q ≡ Some r → q ≡ r
    same_page q r f = cc

    by_same : (t : Bool) → addr_same h.addr x ≡ t → (if t then Some h.page else held_at hs x) ≡ Some p → (held_at hs x ≡ Some p → P (record { addr = x; page = p })) → P (record { addr = x; page = p })
    by_same true e' f rest = subst (λ (y : Addr). P (record { addr = y; page = p })) (addr_is h.addr x e') (subst (λ (q : Page). P (record { addr = h.addr; page = q })) (same_page h.page p f) all.0)
    by_same false e' f rest = rest f

pub contains_filter : {X : Type 0} (t : X → Bool) (xs : List X) (x : X) → Contains xs x → t x ≡ true → Contains (filter t xs) x
contains_filter t [] x (k, low, is) e = absurd (omega arith)
contains_filter {X} t (y ∷ ys) x (zero, low, is) e = subst (λ b. Contains (if b then y ∷ filter t ys else filter t ys) x) (sym (ap t is ∙ e)) (0, omega arith, is)
contains_filter {X} t (y ∷ ys) x (suc k, low, is) e = by_test (t y) (contains_filter t ys x (k, omega arith, is) e)
  where
    by_test : (b : Bool) → Contains (filter t ys) x → Contains (if b then y ∷ filter t ys else filter t ys) x
    by_test true c = (suc c.0, (let l = c.1 in omega arith), c.2)
    by_test false c = c

pub contains_range : (a k n : ℕ) → a ≤ n → n < a + k → Contains (range_with_len a k) n
contains_range a zero n low high = absurd (omega arith)
contains_range a (suc k) n low high = elim (cases_eq a n) as (λ _. Contains (a ∷ range_with_len (a + 1) k) n) [
  | inl e ↦ (0, omega arith, e)
  | inr off ↦ let c = contains_range (a + 1) k n (omega (arith, off)) (omega arith) in (suc c.0, (let l = c.1 in omega arith), c.2)
]

-- the least node of addresses on these nodes is one of them
pub least_low : (nodes : ℕ) (addrs : List Addr) → 0 < nodes → AllByRecursion (λ x. x.node.0 < nodes) addrs → (least_addr addrs).0 < nodes
least_low nodes addrs some all = least_all (λ n. n < nodes) (map (λ (x : Addr). x.node.0) addrs) (all_mapped (λ n. n < nodes) (λ (x : Addr). x.node.0) addrs all) 0 some

-- What a list has shown of them

abbrev OneShown : List Entry → Image → Type 0
OneShown es i = (i.start ≡ 16 → ⊥) → IsNumbered (image_place i) × ShowsLast es (image_place i) (take 8 i.bytes) i.bytes

pub page_shown : (es : List Entry) (images : List Image) (x : Addr) (p : Page) → ReadsAreShown es images → IsPage p → Contains images (page_image x p) → ShowsPage es x p
page_shown es images x p shown spelled has =
    let one : OneShown es (page_image x p) = all_there (OneShown es) images (page_image x p) shown has in
    let last = (one (λ e. absurd (omega (arith, e)))).1 in
    subst (λ (n : ℕ). ShowsLast es (record { node = x.node; start = 20480 + 1024 * x.slot; length = n }) (take 8 (page_bytes p)) (page_bytes p)) (page_length p spelled) last

pub entry_shown : (es : List Entry) (images : List Image) (node : NodeNo) (v : ℕ) (e : CatEntry) → ReadsAreShown es images → IsEntry e → Contains images (record { node = node; start = 64 + 64 * v; bytes = entry_bytes e }) → ShowsEntry es node v e
entry_shown es images node v e shown spelled has =
    let one : OneShown es (record { node = node; start = 64 + 64 * v; bytes = entry_bytes e }) = all_there (OneShown es) images (record { node = node; start = 64 + 64 * v; bytes = entry_bytes e }) shown has in
    let last = (one (λ g. absurd (omega (arith, g)))).1 in
    subst (λ (n : ℕ). ShowsLast es (record { node = node; start = 64 + 64 * v; length = n }) (take 8 (entry_bytes e)) (entry_bytes e)) (entry_length e spelled) last

-- The forest

pub nodes_are : (memory : List (List ℕ)) (store : Store) (holds : Holds memory store) → length memory ≡ node_count holds.forest
nodes_are memory store holds =
    ap (λ (m : List (List ℕ)). length m) holds.spelled
    ∙ (length-map (range_with_len 0 (node_count holds.forest)) (space_laid (laid_of holds.forest)) ∙ length-range_with_len 0 (node_count holds.forest))

-- a try in a memory in which its compares are met
module _ (kept : List Head) (nodes : ℕ) (a : Attempt) (is : IsAttempt kept nodes a) (addrs : List Addr) (node : NodeNo) (giving : List ℕ) (was : ℕ → ℕ) (more : List Item) (memory : List (List ℕ)) (store : Store) (many : length memory ≡ nodes) (holds : Holds memory store) (on : ContinuesCatalog kept (heads_of store))
    (moves_tell : MovesTell) (moves_read : MovesRead) (moves_come_once : MovesComeOnce) (reads_are_draft : ReadsAreDraft) (compares_tell : ComparesTell) where
  abbrev f : Forest
  f = holds.forest

  abbrev pub compared : List Image
  compared = came_images a.moves addrs ++ (entry_images node a ++ map (λ n. count_image n (was n)) giving)

  pub number : number_named (heads_of store) a.name ≡ Some a.version.0
  number = still_named kept (heads_of store) a.name a.version.0 on is.named

  pub version : InStore f store a.name a.version.0
  version = in_store memory store holds a.name a.version.0 number

  pub shown : ShowsTree f.entries (page_at f) store
  shown = (reads_are_draft memory store holds [] tt).shown

  pub none_new : (n : ℕ) → page_at f (new_addr n) ≡ None
  none_new = (reads_are_draft memory store holds [] tt).none_new

  pub read : AreReads a.moves a.draft
  read = moves_read (parents_of kept) a.version a.entry.root a.moves a.draft is.leads

  -- the kept catalog says of each page whether it serves the version as the store does
  pub agrees : AgreesWithEntries (parents_of kept) f.entries a.version.0
  unfolding is_live
  agrees p =
      sym (serves_kept kept (heads_of store) on p.made.0 p.copied a.version.0 (number_within kept a.name a.version.0 is.named)) ∙ ap (λ (hs : List Head). serves (parents_of hs) p.made.0 p.copied a.version.0) holds.shown.heads

  pub few_nodes : nodes ≡ node_count f
  few_nodes = sym many ∙ nodes_are memory store holds

  pub some_node : 0 < nodes
  some_node = let some = holds.sound.laid.nodes.0 in let e = few_nodes in omega (arith, some, e)

  -- pages of the read set stand on the nodes
  pub read_low : (x : Addr) → is_noted a.draft.read x ≡ true → x.node.0 < nodes
  read_low x noted = let c = read.came x noted in came_of (λ h. h.addr.node.0 < nodes) (comes_in a.moves) x c.0 is.within c.1

  module _ (es : List Entry) (hold : ComparesHold es memory (map compare_of compared ++ more)) (was_shown : ReadsAreShown es compared) where
    tells : AreMet es f (map compare_of compared ++ more)
    tells = compares_tell es memory store holds (map compare_of compared ++ more) hold

    has : (i : Image) → Contains compared i → Contains (map compare_of compared ++ more) (compare_of i)
    has i c = Contains-append_left (map compare_of compared) more (compare_of i) (contains_map compare_of compared i c)

    at_page : (x : Addr) (p : Page) → is_noted addrs x ≡ true → came_at a.moves x ≡ Some p → Contains compared (page_image x p)
    at_page x p noted came = Contains-append_left (came_images a.moves addrs) (entry_images node a ++ map (λ n. count_image n (was n)) giving) (page_image x p) (came_has a.moves addrs x p noted came)

    at_entry : list_any is_change a.steps ≡ true → Contains compared (record { node = node; start = 64 + 64 * a.version.0; bytes = entry_bytes a.entry })
    at_entry any =
        Contains-append_right (came_images a.moves addrs) (entry_images node a ++ map (λ n. count_image n (was n)) giving) (image_of a) (Contains-append_left (entry_images node a) (map (λ n. count_image n (was n)) giving) (image_of a)
        (subst (λ t. Contains (if t then image_of a ∷ [] else []) (image_of a)) (sym any) (0, omega arith, refl)))
      where
        image_of : Attempt → Image
        image_of b = record { node = node; start = 64 + 64 * b.version.0; bytes = entry_bytes b.entry }

    -- a page that was compared
    pub page_of : (x : Addr) (p : Page) → is_noted addrs x ≡ true → came_at a.moves x ≡ Some p → IsPage p → page_at f x ≡ Some p
    page_of x p noted came spelled =
        tells.pages x p (has (page_image x p) (at_page x p noted came)) (page_shown es compared x p was_shown spelled (at_page x p noted came))
        (subst (λ k. x.node.0 < k) few_nodes (came_of (λ h. h.addr.node.0 < nodes) (comes_in a.moves) x p is.within came)) spelled

    -- the version's entry
    pub entry_of : node.0 < nodes → list_any is_change a.steps ≡ true → slice_get f.entries a.version.0 ≡ Some a.entry
    entry_of there any =
        tells.entries node a.version.0 a.entry (has _ (at_entry any)) (entry_shown es compared node a.version.0 a.entry was_shown is.entry (at_entry any)) (subst (λ k. node.0 < k) few_nodes there) is.few is.entry

    pub count_of : (n : ℕ) → Contains giving n → n < nodes → was n < 2 ^ 64 → was n ≡ count_in f n
    count_of n gives low small =
        tells.counts (node_no n) (was n)
        (has (count_image n (was n)) (Contains-append_right (came_images a.moves addrs) (entry_images node a ++ map (λ m. count_image m (was m)) giving) (count_image n (was n))
        (Contains-append_right (entry_images node a) (map (λ m. count_image m (was m)) giving) (count_image n (was n)) (contains_map (λ m. count_image m (was m)) giving n gives))))
        (subst (λ k. n < k) few_nodes low) small

    -- the leaves of the read set are among those compared
    module _ (subset : (x : Addr) → is_noted (leaves_at a.moves a.draft.read) x ≡ true → is_noted addrs x ≡ true) where
      pub leaf_stands : (x : Addr) → is_noted (leaves_at a.moves a.draft.read) x ≡ true → page_at f x ≡ came_at a.moves x
      leaf_stands x noted =
          let parts = and_parts (is_leaf_at a.moves x) (is_noted a.draft.read x) (sym (noted_filter (is_leaf_at a.moves) a.draft.read x) ∙ noted) in
          let c = read.came x parts.1 in
          page_of x c.0 (subset x noted) c.1 c.2 ∙ sym c.1

      pub told : AreTold f.entries (page_at f) a.version version.version.pairs a.moves a.draft a.steps a.reply
      told =
          moves_tell f.entries (page_at f) store (parents_of kept) a.version version.version a.entry.root a.moves a.draft a.steps a.reply shown none_new agrees version.found is.leads is.answered
          (all_noted (λ x. page_at f x ≡ came_at a.moves x) (leaves_at a.moves a.draft.read) leaf_stands)

      -- the transaction isn't refused
      pub may : node.0 < nodes → (version.entry.frozen && list_any is_change a.steps) ≡ false
      may there = by_any (list_any is_change a.steps) refl
        where
          none : (b : Bool) → (b && false) ≡ false
          none true = refl
          none false = refl

          entry_same : (d e : CatEntry) → Some d ≡ Some e → d ≡ e
          entry_same d e s = cc

          by_any : (t : Bool) → list_any is_change a.steps ≡ t → (version.entry.frozen && list_any is_change a.steps) ≡ false
          by_any true any = ap (λ (e : CatEntry). e.frozen && list_any is_change a.steps) (entry_same version.entry a.entry (sym version.there ∙ entry_of there any)) ∙ is.may
          by_any false any = ap (λ b. version.entry.frozen && b) any ∙ none version.entry.frozen

-- Counts

-- a node that gives slots is one of those counted
pub taken_low : (counts : List ℕ) (slots : List Addr) (n : ℕ) → AreNextSlots counts slots → (taken_on slots n ≡ 0 → ⊥) → n < length counts
taken_low counts [] n next some = absurd (some refl)
taken_low counts (s ∷ slots) n next some = by_same (nat_eq s.node.0 n) refl some (λ more. subst (λ k. n < k) (length-set counts s.node.0 (s.slot + 1)) (taken_low (slice_set counts s.node.0 (s.slot + 1)) slots n next.3 more))
  where
    by_same : (t : Bool) → nat_eq s.node.0 n ≡ t → ((if t then taken_on slots n + 1 else taken_on slots n) ≡ 0 → ⊥) → ((taken_on slots n ≡ 0 → ⊥) → n < length counts) → n < length counts
    by_same true e some' rest = let same = eqb-true s.node.0 n e in let low = next.0 in omega arith
    by_same false e some' rest = rest some'

-- one of its slots
taken_has : (slots : List Addr) (n : ℕ) → (taken_on slots n ≡ 0 → ⊥) → (s : Addr) × Contains slots s × (s.node.0 ≡ n)
taken_has [] n some = absurd (some refl)
taken_has (s ∷ slots) n some = by_same (nat_eq s.node.0 n) refl some (taken_has slots n)
  where
    by_same : (t : Bool) → nat_eq s.node.0 n ≡ t → ((if t then taken_on slots n + 1 else taken_on slots n) ≡ 0 → ⊥) → ((taken_on slots n ≡ 0 → ⊥) → (r : Addr) × Contains slots r × (r.node.0 ≡ n)) → (r : Addr) × Contains (s ∷ slots) r × (r.node.0 ≡ n)
    by_same true e more rest = (s, (0, omega arith, refl), eqb-true s.node.0 n e)
    by_same false e more rest = let r = rest more in let c = r.1 in (r.0, (suc c.0, (let l = c.1 in omega arith), c.2), r.2)

-- each node that gives slots has one of them
pub giving_have : (slots : List Addr) (ns : List ℕ) → AllByRecursion (λ n. (s : Addr) × Contains slots s × (s.node.0 ≡ n)) (filter (λ n. not (nat_eq (taken_on slots n) 0)) ns)
giving_have slots [] = tt
giving_have slots (n ∷ ns) = by_none (nat_eq (taken_on slots n) 0) refl (giving_have slots ns)
  where
    Have : List ℕ → Type 0
    Have ms = AllByRecursion (λ m. (s : Addr) × Contains slots s × (s.node.0 ≡ m)) ms

    others : List ℕ
    others = filter (λ m. not (nat_eq (taken_on slots m) 0)) ns

    clash : (b : Bool) → b ≡ true → b ≡ false → ⊥
    clash b on off = absurd cc

    by_none : (b : Bool) → nat_eq (taken_on slots n) 0 ≡ b → Have others → Have (if not b then n ∷ others else others)
    by_none true e rest = rest
    by_none false e rest = (taken_has slots n (λ none. clash (nat_eq (taken_on slots n) 0) (eq-eqb (taken_on slots n) 0 none) e), rest)

pub gives : (counts : List ℕ) (slots : List Addr) (n : ℕ) → n < length counts → (taken_on slots n ≡ 0 → ⊥) → Contains (giving_nodes counts slots) n
gives counts slots n low some = contains_filter (λ m. not (nat_eq (taken_on slots m) 0)) (range_with_len 0 (length counts)) n (contains_range 0 (length counts) n (omega arith) (omega arith)) (ap not (ne_eqb (taken_on slots n) 0 some))

pub small_counts : (counts : List ℕ) (n : ℕ) → AllByRecursion (λ c. c ≤ max_slots) counts → slice_index_or counts n 0 ≤ max_slots
small_counts [] n all = omega arith
small_counts (c ∷ counts) zero all = all.0
small_counts (c ∷ counts) (suc n) all = small_counts counts n all.1
