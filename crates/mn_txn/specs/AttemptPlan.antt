-- When a transaction may be planned by what its try has read, what its plan is, and why it has
-- none.
use Rattle.std.specs.Prelude.{ℕ, ◌≡◌, ◌+◌, ◌≤◌, ◌⊎◌, ◌||◌, Bool, not, nat_eq, List, []}
use Rattle.std.specs.Prelude.{◌∷◌, ◌++◌, length, map, Option, Some, None, ⊤, if◌then◌else◌}
use Rattle.std.specs.Prelude.{slice_index_or, unwrap_or}
use Rattle.std.specs.List.{AllByRecursion, flat_map, list_any, range_with_len}
use Rattle.mn_base.specs.Store.{Head, is_change}
use Rattle.mn_base.specs.declared.ids.Addr.{Addr}
use Rattle.mn_base.specs.declared.ids.NodeNo.{NodeNo}
use Rattle.mn_base.specs.declared.ids.VersionNo.{VersionNo}
use Rattle.mn_base.specs.declared.op.Op.TheVariants.{Tx}
use Rattle.mn_base.specs.declared.op.Step.{Step}
use Rattle.mn_base.specs.declared.reply.Reply.TheVariants.{Values}
use Rattle.mn_mini.specs.Mini.{Mini}
use Rattle.mn_page.specs.declared.entry.CatEntry.{CatEntry}
use Rattle.mn_page.specs.Space.{max_slots, slot_start}
use Rattle.mn_page.specs.Grammar.{count_in}
use Rattle.mn_tree.specs.Order.{placed}
use Rattle.mn_tree.specs.Moves.{comes_in}
use Rattle.mn_runs.specs.declared.entry.Entry.{Entry}
use Rattle.mn_law.specs.Planned.{IsPlanned, least_of}
use Rattle.mn_plans.specs.Growth.{AreNextSlots, node_no, taken_on}
use Rattle.mn_txn.specs.declared.attempt.Tried.{Tried}
use Rattle.mn_txn.specs.declared.attempt.Placing.{Placing}
use Rattle.mn_txn.specs.declared.error.PlanError.{PlanError}
use Rattle.mn_txn.specs.declared.error.PlanError.TheVariants.{Worn, NoMemory}
use Rattle.mn_txn.specs.declared.image.Image.{Image}
use Rattle.mn_txn.specs.declared.seen.SeenPage.{SeenPage}
use Rattle.mn_txn.specs.State.{State, image}
use Rattle.mn_txn.specs.Plan.{compare_of, write_of}
use Rattle.mn_txn.specs.Laws.{ReadsAreShown}
use Rattle.mn_txn.specs.Attempt.{Attempt, IsAttempt, IsUnmet, count_image, page_image}
use Rattle.mn_txn.specs.Attempt.{done_reads, done_writes, unmet_reads}
use Rattle.mn_txn.specs.Children.{entry_image}
use Rattle.mn_txn.specs.ChildPlan.{with_images, with_writes}
use Rattle.mn_txn.specs.Seen.{seen_as, seen_at}
use Rattle.mn_txn.specs.Tries.{IsWornPage}

-- What was read

-- it is what this attempt of a transaction with some steps has read: the version's entry, the pages
-- as they came in, and the read set, on at most 8 nodes
pub record HasTried (kept : List Head) (r : Tried) (a : Attempt) : Type 0 where
  pub is : IsAttempt kept r.nodes a
  pub version : a.version ≡ r.version
  pub entry : a.entry ≡ r.entry
  pub steps : a.steps ≡ r.steps.now
  pub some : 1 ≤ length a.steps
  pub few : r.nodes ≤ 8
  pub came : r.pages.now ≡ map seen_as (comes_in a.moves)
  pub read : r.read_set.now ≡ a.draft.read

-- its Checks are met; its new pages have the next slots by the counts, at which it read nothing,
-- and these are the pages that it is to write
pub record MayBeDone (kept : List Head) (r : Tried) (p : Placing) (a : Attempt) : Type 0 where
  pub tried : HasTried kept r a
  pub found : List (Option (List ℕ))
  pub reply : a.reply ≡ Values found
  pub counted : length a.counts ≡ r.nodes
  pub small : AllByRecursion (λ count. count ≤ max_slots) a.counts
  pub next : AreNextSlots a.counts a.slots
  pub long : length a.slots ≡ a.draft.overlay.fresh
  pub unread : AllByRecursion (λ slot. seen_at r.pages.now slot ≡ None) a.slots
  pub slots : p.slots.now ≡ a.slots
  pub pages : p.pages.now ≡ placed a.slots a.draft
  -- the counts were read, or there are no new pages
  pub counts : (p.counts.now ≡ a.counts) ⊎ ((p.counts.now ≡ []) × (a.slots ≡ []))

-- one of its Checks is unmet
pub record MayBeUnmet (kept : List Head) (r : Tried) (a : Attempt) : Type 0 where
  pub tried : HasTried kept r a
  pub unmet : IsUnmet a

-- The plan

-- it does what the transaction does, wherever its compares hold, for a client whose list has shown
-- these images last
abbrev pub IsPlanOfTx : List Head → Attempt → List Image → Mini → Type 0
IsPlanOfTx kept a reads mini =
    (es : List Entry) → ReadsAreShown es reads
    → IsPlanned es kept (Tx a.name a.steps) mini a.reply

-- so it does for each attempt that has read and is to write this
abbrev pub DonePlanned : Tried → Placing → Mini → Type 0
DonePlanned r p mini =
    (kept : List Head) (a : Attempt) → MayBeDone kept r p a
    → IsPlanOfTx kept a (done_reads a) mini

-- and for each with an unmet Check that has read this
abbrev pub UnmetPlanned : Tried → Mini → Type 0
UnmetPlanned r mini =
    (kept : List Head) (a : Attempt) → MayBeUnmet kept r a
    → IsPlanOfTx kept a (unmet_reads a) mini

-- what an attempt compares, then what it writes, over so many nodes
abbrev pub done_items : ℕ → Attempt → Mini
done_items nodes a = record {
  nodes = nodes;
  items = map compare_of (done_reads a) ++ map write_of (done_writes a);
}

-- where a Check is unmet it writes nothing
abbrev pub unmet_items : ℕ → Attempt → Mini
unmet_items nodes a = record { nodes = nodes; items = map compare_of (unmet_reads a) }

-- the plan is this one
abbrev pub IsDonePlan : Tried → Placing → Mini → Type 0
IsDonePlan r p mini =
    (kept : List Head) (a : Attempt) → MayBeDone kept r p a → mini ≡ done_items r.nodes a

abbrev pub IsUnmetPlan : Tried → Mini → Type 0
IsUnmetPlan r mini =
    (kept : List Head) (a : Attempt) → MayBeUnmet kept r a → mini ≡ unmet_items r.nodes a

-- why there is none: a page that the attempt changed has the last number
abbrev pub RefusesDone : Tried → Placing → PlanError → Type 0
RefusesDone r p (Worn node start) =
    (kept : List Head) (a : Attempt) → MayBeDone kept r p a → IsWornPage a node start
RefusesDone r p NoMemory = ⊤

-- Inside a plan

-- the transaction with these read too
abbrev pub with_reads : State → List Image → State
with_reads t is = record {
  nodes = t.nodes;
  dirty = t.dirty;
  reads = with_images t.reads is;
  writes = t.writes;
}

-- a page as it was seen; of leaves alone, if so wanted
abbrev pub page_read : Bool → Addr → Option SeenPage → List Image
page_read leaves addr None = []
page_read leaves addr (Some p) =
    if not leaves || p.leaf then image addr.node (slot_start addr.slot) p.bytes ∷ [] else []

-- the pages at these addresses
abbrev pub pages_read : Bool → List SeenPage → List Addr → List Image
pages_read leaves pages addrs = flat_map (λ addr. page_read leaves addr (seen_at pages addr)) addrs

-- the nodes of these images and slots, and the least of them, or node 0 where there are none
abbrev pub nodes_of : List Image → List Addr → List ℕ
nodes_of images slots = map (λ i. i.node.0) images ++ map (λ s. s.node.0) slots

abbrev pub least_node : List Image → List Addr → NodeNo
least_node images slots = node_no (unwrap_or (least_of (nodes_of images slots)) 0)

-- the version's entry on this node, where a step is a Put or a Del
abbrev pub entry_read : NodeNo → List Step → VersionNo → CatEntry → List Image
entry_read n steps version entry =
    if list_any is_change steps then entry_image n version entry ∷ [] else []

-- the transaction with the entry on the least node of what it has read and of these slots
abbrev pub with_entry : State → List Step → VersionNo → CatEntry → List Addr → State
with_entry t steps version entry slots =
    with_reads t (entry_read (least_node t.reads slots) steps version entry)

-- a transaction that has read all of this, and is to have these slots
abbrev pub tried_state : Bool → Tried → List Addr → State
tried_state leaves r slots =
    with_entry
    (with_reads (record { nodes = r.nodes; dirty = []; reads = []; writes = [] })
    (pages_read leaves r.pages.now r.read_set.now)) r.steps.now r.version r.entry slots

-- the transaction with the count of a node that gives so many slots
abbrev pub with_given : State → ℕ → ℕ → ℕ → State
with_given t n count given =
    if nat_eq given 0 then t
    else with_writes (with_reads t (count_image n count ∷ [])) (count_image n (count + given) ∷ [])

-- with those of these nodes
abbrev pub with_counts : State → List ℕ → List Addr → List ℕ → State
with_counts t counts slots [] = t
with_counts t counts slots (n ∷ ns) =
    with_counts (with_given t n (slice_index_or counts n 0) (taken_on slots n)) counts slots ns

-- the transaction with all that is to be written
abbrev pub placing_state : State → Placing → State
placing_state t p =
    with_counts (with_writes t (map (λ h. page_image h.0 h.1) p.pages.now)) p.counts.now p.slots.now
    (range_with_len 0 (length p.counts.now))

-- what is written fits: few small counts, few slots, and pages no larger than a slot
pub record MayWrite (p : Placing) : Type 0 where
  pub few : length p.counts.now ≤ 8
  pub small : AllByRecursion (λ count. count ≤ max_slots) p.counts.now
  pub slots : length p.slots.now ≤ 518
  pub room : AllByRecursion (λ h. (count_in h.1.body ≤ 8) × (length h.1.low ≤ 32)) p.pages.now
