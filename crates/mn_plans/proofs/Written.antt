-- Writes of pages that stand, of new ones in next slots, and of the counts leave the memory of the
-- forest with these pages.
use Rattle.std.proofs.Common.{◌≡◌, ℕ, zero, suc, ◌+◌, ◌<◌, ◌≤◌, ◌⊎◌, inl, inr, Bool, true, false, not, List, [], ◌∷◌, ◌++◌, length, map, Option, Some, None, refl, subst, sym, ap, ◌∙◌, arith, slice_set, slice_index_or, get_or-set_other, get_or-set_same, if◌then◌else◌}
use Rattle.std.specs.Prelude.{nat_eq, filter}
use Rattle.std.specs.List.{AllByRecursion, range_with_len}
use Rattle.std.specs.Option.{option_or}
use Rattle.std.proofs.lemmas.Bool.{eq-eqb, ne_eqb}
use Rattle.std.proofs.lemmas.List.{length-set, length-map, append_assoc}
use Rattle.mn_base.specs.declared.ids.Addr.{Addr}
use Rattle.mn_base.proofs.Lists.{all_append, weaker}
use Rattle.mn_mini.specs.declared.item.Item.{Item}
use Rattle.mn_mini.specs.Flat.{memory_after}
use Rattle.mn_page.specs.declared.page.Page.{Page}
use Rattle.mn_page.specs.declared.entry.CatEntry.{CatEntry}
use Rattle.mn_page.specs.Grammar.{page_bytes, IsPage}
use Rattle.mn_page.specs.Forest.{Forest, Laid, memory_laid, memory_of, laid_of, node_count, page_at}
use Rattle.mn_page.specs.Holds.{PagesAt, IsTree, ShowsStore}
use Rattle.mn_page.specs.Overlay.{Held, held_at}
use Rattle.mn_page.proofs.Grid.{get_in, set_in, add_in, all_split}
use Rattle.mn_page.proofs.Alike.{all-set}
use Rattle.mn_page.proofs.Spelled.{page_length}
use Rattle.mn_page.proofs.Counted.{counted}
use Rattle.mn_plans.specs.Growth.{taken_on, AreCounts, addrs_of, giving_nodes, node_no, count_writes, over, write_held, WritesLeaveStore}
use Rattle.mn_plans.specs.Plans.{write_count}
use Rattle.mn_plans.proofs.Laying.{HasSlots, on_each, on_as_many, forest_laid, index-lengths, with_pages, with_counts, page_over, page_new, count_over}
use Rattle.mn_plans.proofs.Spaces.{AreSlots, page_node}
use Rattle.mn_plans.proofs.Sizes.{sizes_of, index-set-all}
use Rattle.mn_plans.proofs.NextSlots.{slots_free, slots_differ, number_cases}
use Rattle.mn_plans.proofs.Grown.{all_mapped, held_known, Stands, stands_still, over_in, over_in_nodes, over_in_sizes, over_in_lengths, AreFirst, are_first, added_in, added_in_nodes, added_in_sizes, added_in_lengths, grown_at}

-- a held page fills a slot
abbrev pub FillsSlot : Held → Type 0
FillsSlot h = length (page_bytes h.page) ≡ 1024

-- Pages that stand

pub slots_over : (l : Laid) (h : Held) → HasSlots l → FillsSlot h → HasSlots (with_pages l (set_in l.pages h.addr.node.0 h.addr.slot h.page))
slots_over l h is long = record {
  fits = is.fits;
  slots = index-set-all AreSlots l.pages h.addr.node.0 (slice_set (slice_index_or l.pages h.addr.node.0 []) h.addr.slot h.page) is.slots
      (all-set (λ x. length (page_bytes x) ≡ 1024) (slice_index_or l.pages h.addr.node.0 []) h.addr.slot h.page (is.slots h.addr.node.0) long);
}

pub stands_in : (xss : List (List Page)) (h : Held) → Stands xss h → h.addr.node.0 < length xss
stands_in xss h stands = page_node (record { entries = []; pages = xss }) h.addr stands.0 stands.1

-- the memory with pages written over others
pub changed_written : (l : Laid) → HasSlots l → (hs : List Held) → AllByRecursion (Stands l.pages) hs → AllByRecursion FillsSlot hs → (rest : List Item)
    → memory_after (memory_laid l) (map write_held hs ++ rest) ≡ memory_after (memory_laid (with_pages l (over_in l.pages hs))) rest
changed_written l is [] stand long rest = refl
changed_written l is (h ∷ hs) stand long rest =
    ap (λ (m : List (List ℕ)). memory_after m (map write_held hs ++ rest)) (page_over l is h.addr.node h.addr.slot (stand.0).0 h.page (stands_in l.pages h stand.0) (stand.0).1 long.0)
    ∙ changed_written (with_pages l (set_in l.pages h.addr.node.0 h.addr.slot h.page)) (slots_over l h is long.0) hs
    (weaker (Stands l.pages) (Stands (set_in l.pages h.addr.node.0 h.addr.slot h.page)) (λ k there. stands_still l.pages h k stand.0 there) hs stand.1) long.1 rest

-- pages still fill slots
pub changed_slots : (l : Laid) → HasSlots l → (hs : List Held) → AllByRecursion FillsSlot hs → HasSlots (with_pages l (over_in l.pages hs))
changed_slots l is [] long = is
changed_slots l is (h ∷ hs) long = changed_slots (with_pages l (set_in l.pages h.addr.node.0 h.addr.slot h.page)) (slots_over l h is long.0) hs long.1

-- New pages

pub slots_new : (l : Laid) (h : Held) → HasSlots l → FillsSlot h → HasSlots (with_pages l (add_in l.pages h.addr.node.0 h.page))
slots_new l h is long = record {
  fits = is.fits;
  slots = index-set-all AreSlots l.pages h.addr.node.0 (slice_index_or l.pages h.addr.node.0 [] ++ h.page ∷ []) is.slots
      (all_append (λ x. length (page_bytes x) ≡ 1024) (slice_index_or l.pages h.addr.node.0 []) (h.page ∷ []) (is.slots h.addr.node.0) (long, tt));
}

-- the memory with pages written into next slots
pub new_written : (l : Laid) → HasSlots l → (hs : List Held) → AreFirst l.pages hs → AllByRecursion FillsSlot hs → (rest : List Item)
    → memory_after (memory_laid l) (map write_held hs ++ rest) ≡ memory_after (memory_laid (with_pages l (added_in l.pages hs))) rest
new_written l is [] first long rest = refl
new_written l is (h ∷ hs) first long rest =
    ap (λ (m : List (List ℕ)). memory_after m (map write_held hs ++ rest)) (page_new l is h.addr.node h.addr.slot h.page first.0 first.1 first.2 long.0)
    ∙ new_written (with_pages l (add_in l.pages h.addr.node.0 h.page)) (slots_new l h is long.0) hs first.3 long.1 rest

pub new_slots : (l : Laid) → HasSlots l → (hs : List Held) → AllByRecursion FillsSlot hs → HasSlots (with_pages l (added_in l.pages hs))
new_slots l is [] long = is
new_slots l is (h ∷ hs) long = new_slots (with_pages l (add_in l.pages h.addr.node.0 h.page)) (slots_new l h is long.0) hs long.1

-- Counts

-- the counts with those of these nodes set
abbrev pub counts_set : List ℕ → (ℕ → ℕ) → List ℕ → List ℕ
counts_set counts to [] = counts
counts_set counts to (n ∷ ns) = counts_set (slice_set counts n (to n)) to ns

-- the memory with the counts of these nodes written
pub counts_written : (l : Laid) → HasSlots l → length l.counts ≡ length l.pages → (to : ℕ → ℕ) (ns : List ℕ) → AllByRecursion (λ n. n < length l.pages) ns
    → memory_after (memory_laid l) (map (λ n. write_count (node_no n) (to n)) ns) ≡ memory_laid (with_counts l (counts_set l.counts to ns))
counts_written l is many to [] in' = refl
counts_written l is many to (n ∷ ns) in' =
    ap (λ (m : List (List ℕ)). memory_after m (map (λ n. write_count (node_no n) (to n)) ns)) (count_over l is (node_no n) (to n) in'.0 (subst (λ k. n < k) (sym many) in'.0))
    ∙ counts_written (with_counts l (slice_set l.counts n (to n))) (record { fits = is.fits; slots = is.slots }) (length-set l.counts n (to n) ∙ many) to ns in'.1

pub counts_set_length : (counts : List ℕ) (to : ℕ → ℕ) (ns : List ℕ) → length (counts_set counts to ns) ≡ length counts
counts_set_length counts to [] = refl
counts_set_length counts to (n ∷ ns) = counts_set_length (slice_set counts n (to n)) to ns ∙ length-set counts n (to n)

-- each count that is not as wanted yet is set to what is wanted
pub counts_set_at : (counts : List ℕ) (to want : ℕ → ℕ) (gives : ℕ → Bool) (a k : ℕ) → ((n : ℕ) → n < length counts → gives n ≡ true → to n ≡ want n)
    → ((n : ℕ) → n < length counts → (slice_index_or counts n 0 ≡ want n) ⊎ ((a ≤ n) × (gives n ≡ true))) → length counts ≤ a + k
    → (n : ℕ) → n < length counts → slice_index_or (counts_set counts to (filter gives (range_with_len a k))) n 0 ≡ want n
counts_set_at counts to want gives a zero sets known all n in' = elim (known n in') as (λ _. slice_index_or counts n 0 ≡ want n) [
  | inl e ↦ e
  | inr late ↦ let low = late.0 in absurd (omega arith)
]
counts_set_at counts to want gives a (suc k) sets known all n in' =
    cases (gives a) refl
    (λ (cs : List ℕ) (same : length cs ≡ length counts) next.
    counts_set_at cs to want gives (a + 1) k (λ m low g. sets m (subst (λ j. m < j) same low) g) (λ m low. next m (subst (λ j. m < j) same low)) (subst (λ j. j ≤ a + 1 + k) (sym same) (omega arith)) n (subst (λ j. n < j) (sym same) in'))
  where
    cases : (t : Bool) → gives a ≡ t
        → ((cs : List ℕ) → length cs ≡ length counts → ((m : ℕ) → m < length counts → (slice_index_or cs m 0 ≡ want m) ⊎ ((a + 1 ≤ m) × (gives m ≡ true)))
        → slice_index_or (counts_set cs to (filter gives (range_with_len (a + 1) k))) n 0 ≡ want n)
        → slice_index_or (counts_set counts to (if t then a ∷ filter gives (range_with_len (a + 1) k) else filter gives (range_with_len (a + 1) k))) n 0 ≡ want n
    cases true e rest = rest (slice_set counts a (to a)) (length-set counts a (to a)) one
      where
        one : (m : ℕ) → m < length counts → (slice_index_or (slice_set counts a (to a)) m 0 ≡ want m) ⊎ ((a + 1 ≤ m) × (gives m ≡ true))
        one m low = elim (number_cases m a) as (λ _. (slice_index_or (slice_set counts a (to a)) m 0 ≡ want m) ⊎ ((a + 1 ≤ m) × (gives m ≡ true))) [
          | inl is ↦ let here : a < length counts = subst (λ j. j < length counts) is low in
              inl (ap (λ j. slice_index_or (slice_set counts a (to a)) j 0) is ∙ (get_or-set_same counts a (to a) 0 here ∙ (sets a here e ∙ ap want (sym is))))
          | inr differ ↦ elim (known m low) as (λ _. (slice_index_or (slice_set counts a (to a)) m 0 ≡ want m) ⊎ ((a + 1 ≤ m) × (gives m ≡ true))) [
            | inl is ↦ inl (get_or-set_other counts a m (to a) 0 differ ∙ is)
            | inr late ↦ inr (above a m late.0 differ, late.1)
          ]
        ]
          where
            above : (a m : ℕ) → a ≤ m → (m ≡ a → ⊥) → a + 1 ≤ m
            above a m low differ = elim (number_cases m a) as (λ _. a + 1 ≤ m) [ inl is ↦ absurd (differ is) | inr _ ↦ omega arith ]
    cases false e rest = rest counts refl one
      where
        one : (m : ℕ) → m < length counts → (slice_index_or counts m 0 ≡ want m) ⊎ ((a + 1 ≤ m) × (gives m ≡ true))
        one m low = elim (known m low) as (λ _. (slice_index_or counts m 0 ≡ want m) ⊎ ((a + 1 ≤ m) × (gives m ≡ true))) [
          | inl is ↦ inl is
          | inr late ↦ elim (number_cases m a) as (λ _. (slice_index_or counts m 0 ≡ want m) ⊎ ((a + 1 ≤ m) × (gives m ≡ true))) [
            | inl is ↦ absurd (clash (ap gives (sym is) ∙ late.1))
            | inr differ ↦ let above = late.0 in inr (omega arith, late.1)
          ]
        ]
          where
            clash : gives a ≡ true → ⊥
            clash g = absurd cc

-- two lists of numbers of one length with the same at each place
pub same_numbers : (xs ys : List ℕ) → length xs ≡ length ys → ((n : ℕ) → n < length xs → slice_index_or xs n 0 ≡ slice_index_or ys n 0) → xs ≡ ys
same_numbers [] [] e same = refl
same_numbers [] (y ∷ ys) e same = absurd (omega arith)
same_numbers (x ∷ xs) [] e same = absurd (omega arith)
same_numbers (x ∷ xs) (y ∷ ys) e same =
    let first : x ≡ y = same 0 (omega arith) in
    let rest : xs ≡ ys = same_numbers xs ys (omega arith) (λ n low. same (suc n) (omega arith)) in cc

-- the nodes of a range are below its end
pub range_below : (gives : ℕ → Bool) (a k end : ℕ) → a + k ≤ end → AllByRecursion (λ n. n < end) (filter gives (range_with_len a k))
range_below gives a zero end in' = tt
range_below gives a (suc k) end in' = cases (gives a) (range_below gives (a + 1) k end (omega arith))
  where
    cases : (t : Bool) → AllByRecursion (λ n. n < end) (filter gives (range_with_len (a + 1) k))
        → AllByRecursion (λ n. n < end) (if t then a ∷ filter gives (range_with_len (a + 1) k) else filter gives (range_with_len (a + 1) k))
    cases true rest = (omega arith, rest)
    cases false rest = rest

-- the nodes that give slots get the counts of the grown grid
pub grown_counts : (old new : List (List Page)) (counts : List ℕ) (slots : List Addr) → length counts ≡ length old → length new ≡ length old
    → ((n : ℕ) → (taken_on slots n ≡ 0 → ⊥) → slice_index_or counts n 0 ≡ length (slice_index_or old n []))
    → ((n : ℕ) → length (slice_index_or new n []) ≡ length (slice_index_or old n []) + taken_on slots n)
    → counts_set (sizes_of old) (λ n. slice_index_or counts n 0 + taken_on slots n) (giving_nodes counts slots) ≡ sizes_of new
grown_counts old new counts slots many nodes are sizes =
    same_numbers (counts_set (sizes_of old) (λ n. slice_index_or counts n 0 + taken_on slots n) (giving_nodes counts slots)) (sizes_of new)
    (long ∙ sym (length-map new (λ ps. length ps) ∙ nodes))
    (λ n low. counts_set_at (sizes_of old) (λ n. slice_index_or counts n 0 + taken_on slots n) (λ n. slice_index_or (sizes_of new) n 0) (λ n. not (nat_eq (taken_on slots n) 0)) 0 (length counts) (λ m in' g. sets m g) (λ m in'. known m)
    (subst (λ k. k ≤ 0 + length counts) (many ∙ sym (length-map old (λ ps. length ps))) (omega arith)) n (subst (λ k. n < k) (long ∙ sym (length-map old (λ ps. length ps))) low))
  where
    long : length (counts_set (sizes_of old) (λ n. slice_index_or counts n 0 + taken_on slots n) (giving_nodes counts slots)) ≡ length old
    long = counts_set_length (sizes_of old) (λ n. slice_index_or counts n 0 + taken_on slots n) (giving_nodes counts slots) ∙ length-map old (λ ps. length ps)

    some : (t : ℕ) → not (nat_eq t 0) ≡ true → t ≡ 0 → ⊥
    some t g e = clash (nat_eq t 0) g (eq-eqb t 0 e)
      where
        clash : (b : Bool) → not b ≡ true → b ≡ true → ⊥
        clash true p q = absurd cc
        clash false p q = absurd cc

    sets : (m : ℕ) → not (nat_eq (taken_on slots m) 0) ≡ true → slice_index_or counts m 0 + taken_on slots m ≡ slice_index_or (sizes_of new) m 0
    sets m g = ap (λ k. k + taken_on slots m) (are m (some (taken_on slots m) g)) ∙ (sym (sizes m) ∙ sym (index-lengths new m))

    known : (m : ℕ) → (slice_index_or (sizes_of old) m 0 ≡ slice_index_or (sizes_of new) m 0) ⊎ ((0 ≤ m) × (not (nat_eq (taken_on slots m) 0) ≡ true))
    known m = cases (taken_on slots m) refl (index-lengths old m) (index-lengths new m) (sizes m)
      where
        cases : (t : ℕ) → taken_on slots m ≡ t → slice_index_or (sizes_of old) m 0 ≡ length (slice_index_or old m []) → slice_index_or (sizes_of new) m 0 ≡ length (slice_index_or new m [])
            → length (slice_index_or new m []) ≡ length (slice_index_or old m []) + taken_on slots m
            → (slice_index_or (sizes_of old) m 0 ≡ slice_index_or (sizes_of new) m 0) ⊎ ((0 ≤ m) × (not (nat_eq (taken_on slots m) 0) ≡ true))
        cases zero e f g h = inl (omega arith)
        cases (suc t) e f g h = inr (omega arith, ap not (ne_eqb (taken_on slots m) 0 (λ none. absurd (omega arith))))

-- The law

-- the grid of a forest, with the changed pages and the new ones
abbrev pub grown_pages : List (List Page) → List Held → List Held → List (List Page)
grown_pages xss changed new = added_in (over_in xss changed) new

abbrev pub grown_forest : Forest → List Held → List Held → Forest
grown_forest f changed new = record { entries = f.entries; pages = grown_pages f.pages changed new }

-- the memory after all writes
pub grown_memory : (f : Forest) → HasSlots (laid_of f) → (changed new : List Held) (counts : List ℕ) → AllByRecursion (Stands f.pages) changed → AllByRecursion FillsSlot changed → AllByRecursion FillsSlot new
    → AreFirst (over_in f.pages changed) new → AreCounts f counts (addrs_of new)
    → memory_after (memory_of f) (map write_held changed ++ map write_held new ++ count_writes counts (addrs_of new)) ≡ memory_of (grown_forest f changed new)
grown_memory f is changed new counts stand long_changed long_new first are =
    ap (memory_after (memory_of f)) (append_assoc (map write_held changed) (map write_held new) (count_writes counts (addrs_of new)))
    ∙ (changed_written (laid_of f) is changed stand long_changed (map write_held new ++ count_writes counts (addrs_of new))
    ∙ (new_written (with_pages (laid_of f) (over_in f.pages changed)) (changed_slots (laid_of f) is changed long_changed) new first long_new (count_writes counts (addrs_of new))
    ∙ (counts_written (with_pages (laid_of f) (grown_pages f.pages changed new)) (new_slots (with_pages (laid_of f) (over_in f.pages changed)) (changed_slots (laid_of f) is changed long_changed) new long_new)
    (length-map f.pages (λ ps. length ps) ∙ sym nodes) (λ n. slice_index_or counts n 0 + taken_on (addrs_of new) n) (giving_nodes counts (addrs_of new))
    (range_below (λ n. not (nat_eq (taken_on (addrs_of new) n) 0)) 0 (length counts) (length (grown_pages f.pages changed new)) (in_range (length counts) (length (grown_pages f.pages changed new)) (are.0 ∙ sym nodes)))
    ∙ (ap (λ (ks : List ℕ). memory_laid (record { catalogs = on_each f.pages f.entries; counts = ks; pages = grown_pages f.pages changed new }))
    (grown_counts f.pages (grown_pages f.pages changed new) counts (addrs_of new) are.0 nodes are.1
    (λ n. added_in_sizes (over_in f.pages changed) new first n ∙ ap (λ k. k + taken_on (addrs_of new) n) (over_in_sizes f.pages changed n)))
    ∙ ap (λ (cs : List (List CatEntry)). memory_laid (record { catalogs = cs; counts = sizes_of (grown_pages f.pages changed new); pages = grown_pages f.pages changed new }))
    (on_as_many f.pages (grown_pages f.pages changed new) f.entries (sym nodes))))))
  where
    in_range : (a b : ℕ) → a ≡ b → 0 + a ≤ b
    in_range a b e = omega arith

    nodes : length (grown_pages f.pages changed new) ≡ length f.pages
    nodes = added_in_nodes (over_in f.pages changed) new ∙ over_in_nodes f.pages changed

pub writes_leave_store : WritesLeaveStore
writes_leave_store memory store after holds changed new counts stand apart spelled are next tree shown = record {
  forest = grown_forest holds.forest changed new;
  spelled = ap (λ (m : List (List ℕ)). memory_after m (map write_held changed ++ map write_held new ++ count_writes counts (addrs_of new))) holds.spelled
      ∙ grown_memory holds.forest (forest_laid holds.forest (counted holds.forest holds.sound)) changed new counts stand (filled changed parts.0) (filled new parts.1) first are;
  sound = record {
    laid = record {
      nodes = subst (λ k. (1 ≤ k) × (k ≤ 8)) (sym nodes) holds.sound.laid.nodes;
      counts = added_in_lengths (over_in holds.forest.pages changed) new first (over_in_lengths (λ k. k ≤ 4096) holds.forest.pages changed holds.sound.laid.counts);
      entries = holds.sound.laid.entries;
      pages = λ addr p there. page_of addr p (held_at (changed ++ new) addr) refl (sym (at addr) ∙ there);
    };
    tree = subst (IsTree holds.forest.entries) same tree;
  };
  shown = subst (λ (pages : PagesAt). ShowsStore holds.forest.entries pages after) same shown;
}
  where
    parts : AllByRecursion (λ (h : Held). IsPage h.page) changed × AllByRecursion (λ (h : Held). IsPage h.page) new
    parts = all_split (λ (h : Held). IsPage h.page) changed new spelled

    filled : (hs : List Held) → AllByRecursion (λ (h : Held). IsPage h.page) hs → AllByRecursion FillsSlot hs
    filled hs all = weaker (λ (h : Held). IsPage h.page) FillsSlot (λ h is. page_length h.page is) hs all

    nodes : node_count (grown_forest holds.forest changed new) ≡ node_count holds.forest
    nodes = added_in_nodes (over_in holds.forest.pages changed) new ∙ over_in_nodes holds.forest.pages changed

    first : AreFirst (over_in holds.forest.pages changed) new
    first = are_first counts (over_in holds.forest.pages changed) new (are.0 ∙ sym (over_in_nodes holds.forest.pages changed)) (λ n some. are.1 n some ∙ sym (over_in_sizes holds.forest.pages changed n)) next

    free : AllByRecursion (λ (h : Held). get_in holds.forest.pages h.addr.node.0 h.addr.slot ≡ None) new
    free = all_mapped (λ (s : Addr). page_at holds.forest s ≡ None) (λ (h : Held). h.addr) new
        (weaker (λ (s : Addr). (page_at holds.forest s ≡ None) × (s.node.0 < node_count holds.forest) × (s.node.0 < 8) × (s.slot < 4096)) (λ (s : Addr). page_at holds.forest s ≡ None) (λ s is. is.0) (addrs_of new)
        (slots_free holds.forest holds.sound.laid.nodes.1 counts (addrs_of new) are next))

    at : (addr : Addr) → page_at (grown_forest holds.forest changed new) addr ≡ over (changed ++ new) (page_at holds.forest) addr
    at addr = grown_at holds.forest.pages changed new stand apart first (slots_differ counts (addrs_of new) next) free addr

    same : over (changed ++ new) (page_at holds.forest) ≡ page_at (grown_forest holds.forest changed new)
    same = λ i addr. (sym (at addr)) i

    page_of : (addr : Addr) (p : Page) (o : Option Page) → held_at (changed ++ new) addr ≡ o → option_or (held_at (changed ++ new) addr) (page_at holds.forest addr) ≡ Some p → IsPage p
    page_of addr p None e there = holds.sound.laid.pages addr p (sym (ap (λ r. option_or r (page_at holds.forest addr)) e) ∙ there)
    page_of addr p (Some q) e there =
        let known = held_known (λ (h : Held). IsPage h.page) (changed ++ new) spelled addr p (e ∙ (sym (ap (λ r. option_or r (page_at holds.forest addr)) e) ∙ there)) in
        subst IsPage known.3 known.1
