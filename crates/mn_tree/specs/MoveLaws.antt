-- The laws of a transaction: what its moves find and leave, though pages that it only passed may be
-- out of date.
use Rattle.std.specs.Prelude.{ℕ, ◌≡◌, ◌≤◌, ◌<◌, ◌⊎◌, ◌&&◌, ◌||◌, true, false, List, [], ◌∷◌, ◌++◌}
use Rattle.std.specs.Prelude.{length, map, Option, Some, None, slice_get, slice_set, IsTrue, ⊤}
use Rattle.std.specs.List.{AllByRecursion, list_any}
use Rattle.mn_base.specs.Store.{Store, StoreVersion, is_change, step_key, ran, steps_run}
use Rattle.mn_base.specs.declared.ids.Addr.{Addr}
use Rattle.mn_base.specs.declared.ids.VersionNo.{VersionNo}
use Rattle.mn_base.specs.declared.op.Step.{Step}
use Rattle.mn_base.specs.declared.op.Step.TheVariants.{Get, Put, Del, Check}
use Rattle.mn_base.specs.declared.reply.Pair.{Pair}
use Rattle.mn_base.specs.declared.reply.Reply.{Reply}
use Rattle.mn_page.specs.declared.entry.CatEntry.{CatEntry}
use Rattle.mn_page.specs.declared.page.Page.{Page}
use Rattle.mn_page.specs.Grammar.{IsPage, IsKey, IsValue, IsAddr, height_of}
use Rattle.mn_page.specs.Holds.{PagesAt, page_covers, page_serves}
use Rattle.mn_page.specs.Overlay.{Held, held_at, is_new, new_addr, next_number}
use Rattle.mn_page.specs.SlotOrder.{AreInSlotOrder}
use Rattle.mn_tree.specs.Walk.{is_live}
use Rattle.mn_tree.specs.State.{Drafted, no_pages}
use Rattle.mn_tree.specs.Order.{changed_order, placed}
use Rattle.mn_tree.specs.Trees.{laid_over, is_noted, IsOrdered, ShowsTree, IsDraft}
use Rattle.mn_tree.specs.Laws.{AreFreeSlots, held_pair}
use Rattle.mn_tree.specs.Moves.{Move, LeadsTo, comes_in, done_in, AreAnswered, came_at, leaves_at}
use Rattle.mn_tree.specs.Moves.{only_at, pairs_after}

-- by these parents a page serves the version exactly where it does by the entries
abbrev pub AgreesWithEntries : List (Option ℕ) → List CatEntry → ℕ → Type 0
AgreesWithEntries parents entries v = (p : Page) → is_live parents v p ≡ page_serves entries v p

-- What is left

-- where the pages of the read set stand in the memory as they came in, the steps leave a draft of
-- the store with the steps done; other pages that came in may be out of date
abbrev pub MovesKeepTree : Type 0
MovesKeepTree =
    (entries : List CatEntry) (at : PagesAt) (store : Store) (parents : List (Option ℕ))
    (v : VersionNo) (version : StoreVersion) (entry : CatEntry) (moves : List Move) (d : Drafted)
    → ShowsTree entries at store → ((n : ℕ) → at (new_addr n) ≡ None)
    → AgreesWithEntries parents entries v.0 → slice_get store v.0 ≡ Some version
    → slice_get entries v.0 ≡ Some entry
    → (entry.frozen && list_any is_change (done_in moves)) ≡ false
    → LeadsTo parents v entry.root no_pages moves d
    → AllByRecursion (λ h. is_noted d.read h.addr ≡ true → at h.addr ≡ Some h.page) (comes_in moves)
    → IsDraft entries at (slice_set store v.0
    (record version { pairs = pairs_after version.pairs (done_in moves) }))
    (only_at d.read d.overlay)

-- What is found

-- the moves tell what the steps find on the version's pairs, by the leaves that they touch
pub record AreTold (entries : List CatEntry) (at : PagesAt) (v : VersionNo) (pairs : List Pair)
    (moves : List Move) (d : Drafted) (steps : List Step) (reply : Reply) : Type 0 where
  pub replies : reply ≡ (ran pairs steps).reply
  pub run : done_in moves ≡ steps_run pairs steps
  -- the leaves of the read set are the version's leaves of the keys of these steps
  pub leaves : (addr : Addr) → is_noted (leaves_at moves d.read) addr ≡ true
      → (page : Page) × (at addr ≡ Some page) × (height_of page.body ≡ 0)
      × IsTrue (page_serves entries v.0 page)
      × IsTrue (list_any (λ step. page_covers (step_key step) page) (done_in moves))
  pub all : (addr : Addr) (page : Page) → at addr ≡ Some page → height_of page.body ≡ 0
      → IsTrue (page_serves entries v.0 page)
      → IsTrue (list_any (λ step. page_covers (step_key step) page) (done_in moves))
      → is_noted (leaves_at moves d.read) addr ≡ true

-- where the leaves of the read set stand in the memory as they came in
abbrev pub MovesTell : Type 0
MovesTell =
    (entries : List CatEntry) (at : PagesAt) (store : Store) (parents : List (Option ℕ))
    (v : VersionNo) (version : StoreVersion) (root : Addr) (moves : List Move) (d : Drafted)
    (steps : List Step) (reply : Reply) → ShowsTree entries at store
    → ((n : ℕ) → at (new_addr n) ≡ None) → AgreesWithEntries parents entries v.0
    → slice_get store v.0 ≡ Some version → LeadsTo parents v root no_pages moves d
    → AreAnswered parents v root no_pages moves 1 [] steps reply
    → AllByRecursion (λ a. at a ≡ came_at moves a) (leaves_at moves d.read)
    → AreTold entries at v version.pairs moves d steps reply

-- The read set

-- no address comes twice
abbrev pub AreOnce : List Addr → Type 0
AreOnce [] = ⊤
AreOnce (a ∷ addrs) = (is_noted addrs a ≡ false) × AreOnce addrs

-- each page of the read set came in, and is a leaf that a step touched or was changed
pub record AreReads (moves : List Move) (d : Drafted) : Type 0 where
  pub once : AreOnce d.read
  pub came : (addr : Addr) → is_noted d.read addr ≡ true
      → (page : Page) × (came_at moves addr ≡ Some page) × IsPage page × IsAddr addr
      × ((height_of page.body ≡ 0) ⊎ (is_noted d.overlay.changed addr ≡ true))
  pub changed : (addr : Addr) → is_noted d.overlay.changed addr ≡ true → is_noted d.read addr ≡ true
  -- each page that was changed, and each new one, is held; a changed one has the number with which
  -- it came
  pub held : (addr : Addr) → is_noted d.overlay.changed addr ≡ true
      → (was now : Page) × (came_at moves addr ≡ Some was)
      × (held_at d.overlay.pages addr ≡ Some now) × (now.seq ≡ was.seq)
  pub new : (n : ℕ) → n < d.overlay.fresh
      → (page : Page) × (held_at d.overlay.pages (new_addr n) ≡ Some page) × (page.seq ≡ 1)

abbrev pub MovesRead : Type 0
MovesRead =
    (parents : List (Option ℕ)) (v : VersionNo) (root : Addr) (moves : List Move) (d : Drafted)
    → LeadsTo parents v root no_pages moves d → AreReads moves d

-- each page that comes in is the one at its address
abbrev pub MovesComeOnce : Type 0
MovesComeOnce =
    (parents : List (Option ℕ)) (v : VersionNo) (root : Addr) (moves : List Move) (d : Drafted)
    → LeadsTo parents v root no_pages moves d
    → AllByRecursion (λ h. came_at moves h.addr ≡ Some h.page) (comes_in moves)

-- The grammar

-- keys and values are within their limits
abbrev pub IsStep : Step → Type 0
IsStep (Get key) = IsKey key
IsStep (Put key value) = IsKey key × IsValue value
IsStep (Del key) = IsKey key
IsStep (Check key want) = IsKey key

-- where changed and new pages are in order, as in a tree, what a plan writes are pages
abbrev pub PlacedArePages : Type 0
PlacedArePages =
    (parents : List (Option ℕ)) (v : VersionNo) (root : Addr) (moves : List Move) (d : Drafted)
    (slots : List Addr) → v.0 < 64 → AllByRecursion IsStep (done_in moves)
    → length (done_in moves) ≤ 16 → LeadsTo parents v root no_pages moves d
    → length slots ≡ d.overlay.fresh → AllByRecursion IsAddr slots
    → ((addr : Addr) (page : Page) → held_at d.overlay.pages addr ≡ Some page
    → (is_new addr || is_noted d.overlay.changed addr) ≡ true → IsOrdered page)
    → AllByRecursion (λ h. IsPage h.1) (placed slots d)

-- The plan's pages

-- the pages that a plan writes: changed ones as they joined the read set, then new ones in the
-- slots given, in their order; they are in the grammar, and over the memory's pages they show the
-- store
pub record ArePlaced (entries : List CatEntry) (at : PagesAt) (after : Store) (moves : List Move)
    (d : Drafted) (slots : List Addr) : Type 0 where
  pub changed : List Held
  pub new : List Held
  pub are : map held_pair (placed slots d) ≡ changed ++ new
  pub in_order : map (λ h. h.addr) changed ≡ changed_order d
  pub in_slots : map (λ h. h.addr) new ≡ slots
  pub ascend : AreInSlotOrder new
  pub next : AllByRecursion (λ h. (was : Page) × (came_at moves h.addr ≡ Some was)
      × (h.page.seq ≡ next_number was.seq)) changed
  pub first : AllByRecursion (λ h. h.page.seq ≡ 1) new
  pub pages : AllByRecursion (λ h. IsPage h.page) (changed ++ new)
  pub shown : ShowsTree entries (laid_over (changed ++ new) at) after

-- where the pages of the read set stand in the memory as they came in, and the slots are free there
abbrev pub MovesArePlaced : Type 0
MovesArePlaced =
    (entries : List CatEntry) (at : PagesAt) (store : Store) (parents : List (Option ℕ))
    (v : VersionNo) (version : StoreVersion) (entry : CatEntry) (moves : List Move) (d : Drafted)
    (slots : List Addr) → ShowsTree entries at store → ((n : ℕ) → at (new_addr n) ≡ None)
    → AgreesWithEntries parents entries v.0 → slice_get store v.0 ≡ Some version
    → slice_get entries v.0 ≡ Some entry
    → (entry.frozen && list_any is_change (done_in moves)) ≡ false
    → LeadsTo parents v entry.root no_pages moves d
    → AllByRecursion (λ h. is_noted d.read h.addr ≡ true → at h.addr ≡ Some h.page) (comes_in moves)
    → v.0 < 64 → AllByRecursion IsStep (done_in moves) → length (done_in moves) ≤ 16
    → length slots ≡ d.overlay.fresh → AllByRecursion IsAddr slots → AreFreeSlots slots at
    → ArePlaced entries at (slice_set store v.0
    (record version { pairs = pairs_after version.pairs (done_in moves) })) moves d slots

-- steps without a Put and a Del change nothing
abbrev pub QuietMoves : Type 0
QuietMoves =
    (parents : List (Option ℕ)) (v : VersionNo) (root : Addr) (moves : List Move) (d : Drafted)
    → LeadsTo parents v root no_pages moves d → list_any is_change (done_in moves) ≡ false
    → (d.overlay.changed ≡ []) × (d.overlay.fresh ≡ 0)
