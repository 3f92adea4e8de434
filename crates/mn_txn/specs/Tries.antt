-- What the answers of a plan tell of the try that it is made for, and when it may be asked for.
use Rattle.std.specs.Prelude.{ℕ, ◌≡◌, ◌+◌, ◌-◌, ◌*◌, ◌^◌, ◌≤◌, ◌⊎◌, true, List, [], length, sum}
use Rattle.std.specs.Prelude.{Option}
use Rattle.std.specs.Prelude.{Some, None, Contains, take}
use Rattle.std.specs.List.{AllByRecursion}
use Rattle.byteorder.specs.Endian.{big_bytes}
use Rattle.mn_base.specs.Store.{Head}
use Rattle.mn_base.specs.declared.ids.Addr.{Addr}
use Rattle.mn_base.specs.declared.ids.NodeNo.{NodeNo}
use Rattle.mn_base.specs.declared.op.Step.{Step}
use Rattle.mn_base.specs.declared.op.Op.TheVariants.{Tx}
use Rattle.mn_base.specs.declared.reply.Reply.TheVariants.{Values}
use Rattle.mn_alloc.specs.Plan.{new_slots, free_slots}
use Rattle.mn_page.specs.declared.page.Page.{Page}
use Rattle.mn_page.specs.Space.{slot_start, max_slots}
use Rattle.mn_page.specs.Grammar.{page_bytes}
use Rattle.mn_tree.specs.State.{Drafted}
use Rattle.mn_tree.specs.Moves.{Move, came_at}
use Rattle.mn_tree.specs.Tries.{ComeTo}
use Rattle.mn_runs.specs.Seen.{Place, Seen}
use Rattle.mn_law.specs.Places.{page_place}
use Rattle.mn_law.specs.Needs.{ReadsTree, NeedsSlots, WritesOld}
use Rattle.mn_law.specs.Answers.{ShowsBytes}
use Rattle.mn_plans.specs.Growth.{AreNextSlots}
use Rattle.mn_txn.specs.State.{State, bytes_at, ImagesAreApart}
use Rattle.mn_txn.specs.Order.{in_item_order}
use Rattle.mn_txn.specs.Plan.{can_plan, first_worn}
use Rattle.mn_txn.specs.Attempt.{Attempt, IsAttempt, IsDone}
use Rattle.mn_txn.specs.Attempt.{done_reads, done_writes, unmet_reads}

-- the transaction has read and is to write just what the try asks for, where its Checks are met
pub record IsFor (t : State) (a : Attempt) : Type 0 where
  pub apart : ImagesAreApart t.reads
  pub reads : in_item_order t.reads ≡ done_reads a
  pub writes : in_item_order t.writes ≡ done_writes a

-- Done

-- with the slots that are planned by the counts, and no page to be written that has the last
-- number, it is done
abbrev pub PlannedIsDone : Type 0
PlannedIsDone =
    (kept : List Head) (t : State) (a : Attempt) (found : List (Option (List ℕ)))
    → IsAttempt kept t.nodes a → a.reply ≡ Values found
    → length a.counts ≡ t.nodes → AllByRecursion (λ count. count ≤ max_slots) a.counts
    → a.draft.overlay.fresh ≤ free_slots a.counts
    → a.slots ≡ new_slots a.draft.overlay.fresh a.counts
    → IsFor t a → first_worn t (in_item_order t.writes) ≡ None
    → IsDone t.nodes a

-- Worn

-- a page to be changed, read with the last number, stands there
pub record IsWornPage (a : Attempt) (node : NodeNo) (start : ℕ) : Type 0 where
  pub addr : Addr
  pub page : Page
  pub changed : Contains a.draft.overlay.changed addr
  pub came : came_at a.moves addr ≡ Some page
  pub last : page.seq ≡ 2 ^ 64 - 1
  pub number : take 8 (page_bytes page) ≡ big_bytes 8 (2 ^ 64 - 1)
  pub node_is : addr.node ≡ node
  pub start_is : slot_start addr.slot ≡ start

-- a new page's slot, of which something was read, stands there
pub record IsReadSlot (t : State) (a : Attempt) (node : NodeNo) (start : ℕ) : Type 0 where
  pub addr : Addr
  pub slot : Contains a.slots addr
  pub bytes : List ℕ
  pub read : (bytes_at node start t.reads ≡ Some bytes) ⊎ (bytes_at node start t.dirty ≡ Some bytes)
  pub node_is : addr.node ≡ node
  pub start_is : slot_start addr.slot ≡ start

-- where a plan is refused as worn, it names such a page, or a new slot that was read though the
-- counts have it free
abbrev pub WornIsChanged : Type 0
WornIsChanged =
    (kept : List Head) (t : State) (a : Attempt) (node : NodeNo) (start : ℕ)
    → IsAttempt kept t.nodes a → length a.slots ≡ a.draft.overlay.fresh
    → IsFor t a → first_worn t (in_item_order t.writes) ≡ Some (node, start)
    → IsWornPage a node start ⊎ IsReadSlot t a node start

-- What is answered then

-- what a try read of its version shows how many slots its transaction needs, and which pages it
-- writes
abbrev pub TriesShowCauses : Type 0
TriesShowCauses =
    (seens : List Seen) (name : List ℕ) (done : List Step) (r : ReadsTree seens (Tx name done))
    (parents : List (Option ℕ)) (moves : List Move) (d : Drafted) (found : List (Option (List ℕ)))
    → ComeTo parents r.version r.entry.root moves d r.pages done found → length done ≤ 16
    → NeedsSlots seens (Tx name done) d.overlay.fresh
    × ((addr : Addr) → Contains d.overlay.changed addr
    → WritesOld seens (Tx name done) (page_place addr))

-- and so a worn page of the try may be answered
abbrev pub WornPagesShow : Type 0
WornPagesShow =
    (seens : List Seen) (a : Attempt) (r : ReadsTree seens (Tx a.name a.steps))
    (parents : List (Option ℕ)) (found : List (Option (List ℕ))) (node : NodeNo) (start : ℕ)
    → ComeTo parents r.version r.entry.root a.moves a.draft r.pages a.steps found
    → length a.steps ≤ 16 → IsWornPage a node start
    → (place : Place) × (place.node ≡ node) × (place.start ≡ start)
    × WritesOld seens (Tx a.name a.steps) place
    × ShowsBytes seens node start (big_bytes 8 (2 ^ 64 - 1))

-- Plans

-- a plan of a try with some steps may be asked for
abbrev pub DoneMayBePlanned : Type 0
DoneMayBePlanned =
    (kept : List Head) (t : State) (a : Attempt)
    → IsAttempt kept t.nodes a → 1 ≤ length a.steps → t.nodes ≤ 8
    → length a.counts ≡ t.nodes → AreNextSlots a.counts a.slots
    → length a.slots ≡ a.draft.overlay.fresh → IsFor t a
    → can_plan t ≡ true

-- so may one of a try with a Check that is unmet
abbrev pub UnmetMayBePlanned : Type 0
UnmetMayBePlanned =
    (kept : List Head) (t : State) (a : Attempt)
    → IsAttempt kept t.nodes a → 1 ≤ length a.steps → t.nodes ≤ 8
    → in_item_order t.reads ≡ unmet_reads a → t.writes ≡ []
    → can_plan t ≡ true

-- Full

-- the free slots are those of all nodes without those given out
abbrev pub FreeSlotsAreLeft : Type 0
FreeSlotsAreLeft =
    (counts : List ℕ) → AllByRecursion (λ count. count ≤ max_slots) counts
    → free_slots counts + sum counts ≡ max_slots * length counts
