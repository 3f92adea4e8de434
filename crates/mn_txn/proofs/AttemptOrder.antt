-- What a transaction compares and writes stands in the order of items.
use Rattle.std.proofs.Common.{◌≡◌, ℕ, zero, suc, ◌+◌, ◌*◌, ◌<◌, ◌≤◌, Bool, true, false, not, nat_eq, List, []}
use Rattle.std.proofs.Common.{◌∷◌, ◌++◌, filter, length, map, Option, Some, None, refl, arith, slice_index_or, if◌then◌else◌}
use Rattle.std.specs.Prelude.{⊤}
use Rattle.std.specs.List.{AllByRecursion, list_any, range_with_len}
use Rattle.std.specs.Option.{option_map, option_to_list}
use Rattle.std.specs.Ordering.{is_lt}
use Rattle.std.proofs.lemmas.Bool.Decides.{nat_tests}
use Rattle.mn_base.specs.Store.{is_change}
use Rattle.mn_base.specs.declared.ids.Addr.{Addr}
use Rattle.mn_base.specs.declared.ids.NodeNo.{NodeNo}
use Rattle.mn_base.proofs.Lists.{all_append, weaker}
use Rattle.mn_page.specs.declared.page.Page.{Page}
use Rattle.mn_page.specs.Grammar.{entry_bytes}
use Rattle.mn_tree.specs.Order.{placed}
use Rattle.mn_tree.specs.Moves.{Move, came_at, leaves_at}
use Rattle.mn_plans.specs.Growth.{giving_nodes, taken_on}
use Rattle.mn_txn.specs.declared.image.Image.{Image}
use Rattle.mn_txn.specs.declared.image.Turn.{Turn}
use Rattle.mn_txn.specs.Order.{turn_of, turn_cmp, stands_before}
use Rattle.mn_txn.specs.Attempt.{Attempt, least_addr, AttemptsStandInOrder, page_image, came_images, count_image}
use Rattle.mn_txn.specs.Attempt.{done_reads, done_writes, entry_images, unmet_reads}
use Rattle.mn_txn.proofs.Late.{stays, page_turn, entry_turn, count_turn, page_is, entry_is, late}
use Rattle.mn_txn.proofs.Late.{HaveTurn, AreLate, late_all, late_each, up_append, pages_up}
use Rattle.mn_txn.proofs.Fits.{all_filter}
use Rattle.mn_txn.proofs.Turns.{IsUp}

-- Pages

came_turns : (moves : List Move) (addrs : List Addr)
    → HaveTurn page_turn (came_images moves addrs)
came_turns moves [] = tt
came_turns moves (x ∷ addrs) = by_page (came_at moves x) (came_turns moves addrs)
  where
    by_page : (o : Option Page) → HaveTurn page_turn (came_images moves addrs)
        → HaveTurn page_turn (option_to_list (option_map (page_image x) o) ++ came_images moves addrs)
    by_page None rest = rest
    by_page (Some p) rest = (page_is x p, rest)

held_turns : (hs : List (Addr × Page)) → HaveTurn page_turn (map (λ h. page_image h.0 h.1) hs)
held_turns [] = tt
held_turns (h ∷ hs) = (page_is h.0 h.1, held_turns hs)

-- Nodes by number

abbrev pub AreRising : List ℕ → Type 0
AreRising [] = ⊤
AreRising (n ∷ ns) = AllByRecursion (λ m. n < m) ns × AreRising ns

range_high : (a k : ℕ) → AllByRecursion (λ m. a ≤ m) (range_with_len a k)
range_high a zero = tt
range_high a (suc k) = (
  omega arith,
  weaker (λ m. a + 1 ≤ m) (λ m. a ≤ m) (λ m low. omega arith) (range_with_len (a + 1) k) (range_high (a + 1) k),
)

range_rises : (a k : ℕ) → AreRising (range_with_len a k)
range_rises a zero = tt
range_rises a (suc k) = (
  weaker (λ m. a + 1 ≤ m) (λ m. a < m) (λ m low. omega arith) (range_with_len (a + 1) k) (range_high (a + 1) k),
  range_rises (a + 1) k,
)

filter_rises : (t : ℕ → Bool) (ns : List ℕ) → AreRising ns → AreRising (filter t ns)
filter_rises t [] rises = tt
filter_rises t (n ∷ ns) rises = by_test (t n) (filter_rises t ns rises.1)
  where
    by_test : (b : Bool) → AreRising (filter t ns)
        → AreRising (if b then n ∷ filter t ns else filter t ns)
    by_test true rest = (all_filter (λ m. n < m) t ns rises.0, rest)
    by_test false rest = rest

pub giving_rise : (counts : List ℕ) (slots : List Addr) → AreRising (giving_nodes counts slots)
giving_rise counts slots = filter_rises (λ n. not (nat_eq (taken_on slots n) 0)) (range_with_len 0 (length counts)) (range_rises 0 (length counts))

-- Counts

counts_late : (n m : ℕ) → n < m → is_lt (turn_cmp (record { rank = 2; node = m; start = 16 }) (record { rank = 2; node = n; start = 16 })) ≡ false
counts_late n m h = grind (arith, nat_tests)

module _ (c : ℕ → ℕ) where
  abbrev images : List ℕ → List Image
  images ns = map (λ n. count_image n (c n)) ns

  counts_behind : (x : Image) (t : Turn) (ns : List ℕ) → turn_of x ≡ t
      → ((n : ℕ) → is_lt (turn_cmp (count_turn n) t) ≡ false) → AreLate (images ns) x
  counts_behind x t [] e off = tt
  counts_behind x t (n ∷ ns) e off = (late x (count_image n (c n)) t (count_turn n) e refl (off n), counts_behind x t ns e off)

  counts_above : (n : ℕ) (ms : List ℕ) → AllByRecursion (λ m. n < m) ms
      → AreLate (images ms) (count_image n (c n))
  counts_above n [] all = tt
  counts_above n (m ∷ ms) all = (
    late (count_image n (c n)) (count_image m (c m)) (count_turn n) (count_turn m) refl refl (counts_late n m all.0),
    counts_above n ms all.1,
  )

  counts_up : (ns : List ℕ) → AreRising ns → IsUp (images ns)
  counts_up [] rises = tt
  counts_up (n ∷ ns) rises = (counts_above n ns rises.0, counts_up ns rises.1)

-- A try

module _ (a : Attempt) (few : a.version.0 < 64) (node : NodeNo) where
  abbrev entry_image_of : Image
  entry_image_of = record { node = node; start = 64 + 64 * a.version.0; bytes = entry_bytes a.entry }

  entry_turns : HaveTurn (entry_turn node.0 a.version.0) (entry_images node a)
  entry_turns = by_any (list_any is_change a.steps)
    where
      by_any : (t : Bool)
          → HaveTurn (entry_turn node.0 a.version.0) (if t then entry_image_of ∷ [] else [])
      by_any true = (entry_is a.version.0 entry_image_of refl few, tt)
      by_any false = tt

  entry_up : IsUp (entry_images node a)
  entry_up = by_any (list_any is_change a.steps)
    where
      by_any : (t : Bool) → IsUp (if t then entry_image_of ∷ [] else [])
      by_any true = (tt, tt)
      by_any false = tt

  abbrev giving : List ℕ
  giving = giving_nodes a.counts a.slots

  module _ (xs : List Image) (pages : HaveTurn page_turn xs) (c : ℕ → ℕ) where
    entry_late : AllByRecursion (λ x. AreLate (entry_images node a) x) xs
    entry_late = late_each (λ x. turn_of x ≡ page_turn) (entry_images node a) (λ x e. late_all x page_turn (entry_turn node.0 a.version.0) (entry_images node a) e entry_turns refl) xs pages

    counts_late_pages : AllByRecursion (λ x. AreLate (images c giving) x) xs
    counts_late_pages = late_each (λ x. turn_of x ≡ page_turn) (images c giving) (λ x e. counts_behind c x page_turn giving e (λ n. refl)) xs pages

    counts_late_entry : AllByRecursion (λ x. AreLate (images c giving) x) (entry_images node a)
    counts_late_entry =
        late_each (λ x. turn_of x ≡ entry_turn node.0 a.version.0) (images c giving) (λ x e. counts_behind c x (entry_turn node.0 a.version.0) giving e (λ n. refl)) (entry_images node a) entry_turns

    entry_behind : IsUp (xs ++ entry_images node a)
    entry_behind = up_append xs (entry_images node a) (pages_up xs pages) entry_up entry_late

    counts_last : IsUp (xs ++ images c giving)
    counts_last = up_append xs (images c giving) (pages_up xs pages) (counts_up c giving (giving_rise a.counts a.slots)) counts_late_pages

    all_behind : IsUp (xs ++ (entry_images node a ++ images c giving))
    all_behind =
        up_append xs (entry_images node a ++ images c giving) (pages_up xs pages)
        (up_append (entry_images node a) (images c giving) entry_up (counts_up c giving (giving_rise a.counts a.slots)) counts_late_entry) (both xs entry_late counts_late_pages)
      where
        both : (zs : List Image) → AllByRecursion (λ x. AreLate (entry_images node a) x) zs
            → AllByRecursion (λ x. AreLate (images c giving) x) zs
            → AllByRecursion (λ x. AreLate (entry_images node a ++ images c giving) x) zs
        both [] one two = tt
        both (z ∷ zs) one two = (all_append (λ y. stands_before y z ≡ false) (entry_images node a) (images c giving) one.0 two.0, both zs one.1 two.1)

pub attempts_stand_in_order : AttemptsStandInOrder
attempts_stand_in_order a few = (
  stays (done_reads a) (all_behind a few (least_addr (a.draft.read ++ a.slots)) (came_images a.moves a.draft.read) (came_turns a.moves a.draft.read) (λ n. slice_index_or a.counts n 0)),
  stays (done_writes a)
      (counts_last a few (least_addr (a.draft.read ++ a.slots)) (map (λ h. page_image h.0 h.1) (placed a.slots a.draft)) (held_turns (placed a.slots a.draft)) (λ n. slice_index_or a.counts n 0 + taken_on a.slots n)),
  stays (unmet_reads a)
      (entry_behind a few (least_addr (leaves_at a.moves a.draft.read)) (came_images a.moves (leaves_at a.moves a.draft.read)) (came_turns a.moves (leaves_at a.moves a.draft.read)) (λ n. 0)),
)
