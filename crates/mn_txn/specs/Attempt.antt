-- A try of a transaction, and what it reads and writes. When that is planned.
use Rattle.std.specs.Prelude.{ℕ, ◌≡◌, ◌+◌, ◌^◌, ◌<◌, ◌≤◌, ◌&&◌, true, false, List, [], ◌∷◌, ◌++◌}
use Rattle.std.specs.Prelude.{length, map, Option, Some, if◌then◌else◌, slice_index_or, unwrap_or}
use Rattle.std.specs.List.{AllByRecursion, flat_map, list_any}
use Rattle.std.specs.Option.{option_map, option_to_list}
use Rattle.byteorder.specs.Endian.{big_bytes}
use Rattle.mn_base.specs.Store.{Head, number_named, is_change, max_versions}
use Rattle.mn_base.specs.Tree.{parents_of}
use Rattle.mn_base.specs.declared.ids.Addr.{Addr}
use Rattle.mn_base.specs.declared.ids.NodeNo.{NodeNo}
use Rattle.mn_base.specs.declared.ids.VersionNo.{VersionNo}
use Rattle.mn_base.specs.declared.op.Step.{Step}
use Rattle.mn_base.specs.declared.op.Op.TheVariants.{Tx}
use Rattle.mn_base.specs.declared.reply.Reply.{Reply}
use Rattle.mn_base.specs.declared.reply.Reply.TheVariants.{Values, Unmet}
use Rattle.mn_page.specs.declared.page.Page.{Page}
use Rattle.mn_page.specs.declared.entry.CatEntry.{CatEntry}
use Rattle.mn_page.specs.Space.{count_start, count_size, entry_start, slot_start, max_slots}
use Rattle.mn_page.specs.Grammar.{IsEntry, page_bytes, entry_bytes}
use Rattle.mn_tree.specs.State.{Drafted, no_pages}
use Rattle.mn_tree.specs.Trees.{is_noted}
use Rattle.mn_tree.specs.Order.{placed}
use Rattle.mn_tree.specs.Moves.{Move, LeadsTo, comes_in, AreAnswered, came_at, leaves_at}
use Rattle.mn_tree.specs.MoveLaws.{IsStep}
use Rattle.mn_runs.specs.declared.entry.Entry.{Entry}
use Rattle.mn_law.specs.Planned.{IsPlanned, least_of}
use Rattle.mn_plans.specs.Growth.{AreNextSlots, taken_on, giving_nodes, node_no}
use Rattle.mn_txn.specs.declared.image.Image.{Image}
use Rattle.mn_txn.specs.State.{State, image, ImagesAreApart}
use Rattle.mn_txn.specs.Order.{in_item_order}
use Rattle.mn_txn.specs.Plan.{plan_of}
use Rattle.mn_txn.specs.Laws.{ReadsAreShown}

-- the version and its entry as they were read, the steps, how they came to their pages and what
-- they found; the counts of the nodes, and slots for the new pages
pub record Attempt : Type 0 where
  pub name : List ℕ
  pub version : VersionNo
  pub entry : CatEntry
  pub steps : List Step
  pub moves : List Move
  pub draft : Drafted
  pub reply : Reply
  pub counts : List ℕ
  pub slots : List Addr

-- the kept catalog has the version; the steps may run on it, and came to this draft and reply over
-- pages of these nodes, each of which serves the version by that catalog
pub record IsAttempt (kept : List Head) (nodes : ℕ) (a : Attempt) : Type 0 where
  pub named : number_named kept a.name ≡ Some a.version.0
  pub few : a.version.0 < max_versions
  pub entry : IsEntry a.entry
  pub may : (a.entry.frozen && list_any is_change a.steps) ≡ false
  pub steps : AllByRecursion IsStep a.steps
  pub many : length a.steps ≤ 16
  pub leads : LeadsTo (parents_of kept) a.version a.entry.root no_pages a.moves a.draft
  pub answered : AreAnswered (parents_of kept) a.version a.entry.root no_pages a.moves 1 [] a.steps
      a.reply
  pub within : AllByRecursion (λ h. h.addr.node.0 < nodes) (comes_in a.moves)

-- no Check is unmet; each new page has a slot, the next of its node, and no page to be changed was
-- read with the last number
pub record IsDone (nodes : ℕ) (a : Attempt) : Type 0 where
  pub found : List (Option (List ℕ))
  pub reply : a.reply ≡ Values found
  pub counts : (length a.counts ≡ nodes) × AllByRecursion (λ count. count ≤ max_slots) a.counts
  pub slots : AreNextSlots a.counts a.slots × (length a.slots ≡ a.draft.overlay.fresh)
  pub numbers : (addr : Addr) (page : Page) → is_noted a.draft.overlay.changed addr ≡ true
      → came_at a.moves addr ≡ Some page → page.seq + 1 < 2 ^ 64

-- a Check is unmet
pub record IsUnmet (a : Attempt) : Type 0 where
  pub step : ℕ
  pub found : Option (List ℕ)
  pub reply : a.reply ≡ Unmet step found

-- Images

abbrev pub page_image : Addr → Page → Image
page_image addr page = image addr.node (slot_start addr.slot) (page_bytes page)

-- pages as they came in
abbrev pub came_images : List Move → List Addr → List Image
came_images moves addrs =
    flat_map (λ addr. option_to_list (option_map (page_image addr) (came_at moves addr))) addrs

-- the version's entry on this node, where a step is a Put or a Del
abbrev pub entry_images : NodeNo → Attempt → List Image
entry_images n a =
    if list_any is_change a.steps
    then image n (entry_start a.version.0) (entry_bytes a.entry) ∷ [] else []

-- the least node of these addresses, or node 0 where there are none
abbrev pub least_addr : List Addr → NodeNo
least_addr addrs = node_no (unwrap_or (least_of (map (λ addr. addr.node.0) addrs)) 0)

abbrev pub count_image : ℕ → ℕ → Image
count_image n count = image (node_no n) count_start (big_bytes count_size count)

-- the counts of the nodes that give slots, as they were read, and as they are then
abbrev pub counts_read : Attempt → List Image
counts_read a =
    map (λ n. count_image n (slice_index_or a.counts n 0)) (giving_nodes a.counts a.slots)

abbrev pub counts_written : Attempt → List Image
counts_written a =
    map (λ n. count_image n (slice_index_or a.counts n 0 + taken_on a.slots n))
    (giving_nodes a.counts a.slots)

-- what is compared where all Checks are met, the entry on the least node of the pages that are read
-- and of the slots, and what is written
abbrev pub done_reads : Attempt → List Image
done_reads a =
    came_images a.moves a.draft.read
    ++ (entry_images (least_addr (a.draft.read ++ a.slots)) a ++ counts_read a)

abbrev pub done_writes : Attempt → List Image
done_writes a = map (λ h. page_image h.0 h.1) (placed a.slots a.draft) ++ counts_written a

-- what is compared where a Check is unmet: leaves, and the entry on the least node of them
abbrev pub unmet_reads : Attempt → List Image
unmet_reads a =
    came_images a.moves (leaves_at a.moves a.draft.read)
    ++ entry_images (least_addr (leaves_at a.moves a.draft.read)) a

-- Planned

-- a transaction that read and is to write just this is planned
abbrev pub DoneIsPlanned : Type 0
DoneIsPlanned =
    (kept : List Head) (t : State) (a : Attempt) → IsAttempt kept t.nodes a → IsDone t.nodes a
    → ImagesAreApart t.reads → ImagesAreApart t.writes → in_item_order t.reads ≡ done_reads a
    → in_item_order t.writes ≡ done_writes a
    → (es : List Entry) → ReadsAreShown es t.reads
    → IsPlanned es kept (Tx a.name a.steps) (plan_of t) a.reply

abbrev pub UnmetIsPlanned : Type 0
UnmetIsPlanned =
    (kept : List Head) (t : State) (a : Attempt) → IsAttempt kept t.nodes a → IsUnmet a
    → ImagesAreApart t.reads → in_item_order t.reads ≡ unmet_reads a → t.writes ≡ []
    → (es : List Entry) → ReadsAreShown es t.reads
    → IsPlanned es kept (Tx a.name a.steps) (plan_of t) a.reply

-- Order

-- what such a try reads and writes stands in the order of items
abbrev pub AttemptsStandInOrder : Type 0
AttemptsStandInOrder =
    (a : Attempt) → a.version.0 < max_versions
    → (in_item_order (done_reads a) ≡ done_reads a)
    × (in_item_order (done_writes a) ≡ done_writes a)
    × (in_item_order (unmet_reads a) ≡ unmet_reads a)
