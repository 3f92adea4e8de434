-- When a Snapshot or a Branch may be planned by what its try has read, what its plan is, and why it
-- has none.
use Rattle.std.specs.Prelude.{ℕ, ◌≡◌, ◌≢◌, ◌+◌, ◌-◌, ◌^◌, ◌<◌, ◌≤◌, ◌⊎◌, true, false, List, []}
use Rattle.std.specs.Prelude.{◌∷◌, ◌++◌, length, map, replicate, None, Some, slice_get, slice_set}
use Rattle.std.specs.Prelude.{⊤}
use Rattle.std.specs.List.{range_with_len}
use Rattle.mn_base.specs.Store.{number_named}
use Rattle.mn_base.specs.Tree.{has_version}
use Rattle.mn_base.specs.declared.ids.Addr.{Addr}
use Rattle.mn_base.specs.declared.ids.NodeNo.{NodeNo}
use Rattle.mn_base.specs.declared.ids.VersionNo.{VersionNo}
use Rattle.mn_base.specs.declared.op.Op.TheVariants.{Snapshot, Branch}
use Rattle.mn_base.specs.declared.reply.Reply.TheVariants.{Made}
use Rattle.mn_mini.specs.Mini.{Mini}
use Rattle.mn_page.specs.declared.page.Page.{Page}
use Rattle.mn_page.specs.declared.entry.CatEntry.{CatEntry}
use Rattle.mn_page.specs.Space.{entry_start, max_slots, slot_start}
use Rattle.mn_page.specs.Copies.{marked_for, copy_for}
use Rattle.mn_page.specs.Grammar.{IsPage}
use Rattle.mn_page.specs.Forest.{heads_in}
use Rattle.mn_catalog.specs.Versions.{Numbered}
use Rattle.mn_runs.specs.declared.entry.Entry.{Entry}
use Rattle.mn_law.specs.Places.{catalog_node}
use Rattle.mn_law.specs.Planned.{IsPlanned}
use Rattle.mn_txn.specs.declared.error.PlanError.{PlanError}
use Rattle.mn_txn.specs.declared.error.PlanError.TheVariants.{Worn, NoMemory}
use Rattle.mn_txn.specs.declared.image.Image.{Image}
use Rattle.mn_txn.specs.State.{State, joined}
use Rattle.mn_txn.specs.Order.{in_item_order}
use Rattle.mn_txn.specs.Plan.{RefusesPlan, can_plan, compare_of, first_worn, plan_of, write_of}
use Rattle.mn_txn.specs.Laws.{ReadsAreShown}
use Rattle.mn_txn.specs.Attempt.{count_image, page_image}
use Rattle.mn_txn.specs.Children.{ChildTry, entries_on, entry_image, unused_image}
use Rattle.mn_txn.specs.Children.{child_reads, snapshot_writes, branch_writes}

-- the entries have the version by this name, with this entry
pub record IsVersion (entries : List CatEntry) (name : List ℕ) (version : VersionNo)
    (entry : CatEntry) : Type 0 where
  pub named : number_named (heads_in entries) name ≡ Some version.0
  pub there : slice_get entries version.0 ≡ Some entry

-- the version is there with its root page, which was made before the child and wasn't copied for
-- it; the slot is another place on one of the nodes, of which there are at most 8
pub record MayHaveChild (entries : List CatEntry) (nodes : ℕ) (name : List ℕ) (root : Page)
    (slot : Addr) : Type 0 where
  pub version : VersionNo
  pub entry : CatEntry
  pub is : IsVersion entries name version entry
  pub page : IsPage root
  pub made : root.made.0 < length entries
  pub first : has_version root.copied (length entries) ≡ false
  pub few : nodes ≤ 8
  pub within : entry.root.node.0 < nodes
  pub node : slot.node.0 < nodes
  pub low : slot.slot < max_slots
  pub apart : slot ≢ entry.root

-- The plan

-- what the try has read of the version; the slot is the next one of its node
abbrev pub child_try : List CatEntry → ℕ → List ℕ → List ℕ → VersionNo → CatEntry → Page → Addr
    → ChildTry
child_try entries nodes name child version entry root slot = record {
  name = name;
  child = child;
  version = version;
  entry = entry;
  root = root;
  number = record { 0 = length entries };
  counts = slice_set (replicate nodes 0) slot.node.0 slot.slot;
  slot = slot;
}

-- it does what the Snapshot does, wherever its compares hold, by these entries, for a client whose
-- list has shown last what it compares
abbrev pub SnapshotPlanned : List CatEntry → ℕ → List ℕ → List ℕ → Page → Addr → Mini → Type 0
SnapshotPlanned entries nodes name child root slot mini =
    (version : VersionNo) × (entry : CatEntry) × IsVersion entries name version entry
    × ((es : List Entry)
    → ReadsAreShown es (child_reads (child_try entries nodes name child version entry root slot))
    → IsPlanned es (heads_in entries) (Snapshot name child) mini Made)

-- and what the Branch does
abbrev pub BranchPlanned : List CatEntry → ℕ → List ℕ → List ℕ → Page → Addr → Mini → Type 0
BranchPlanned entries nodes name child root slot mini =
    (version : VersionNo) × (entry : CatEntry) × IsVersion entries name version entry
    × ((es : List Entry)
    → ReadsAreShown es (child_reads (child_try entries nodes name child version entry root slot))
    → IsPlanned es (heads_in entries) (Branch name child) mini Made)

-- what it compares, then what it writes, over so many nodes
abbrev pub snapshot_items : ℕ → ChildTry → Mini
snapshot_items nodes c = record {
  nodes = nodes;
  items = map compare_of (child_reads c) ++ map write_of (snapshot_writes nodes c);
}

abbrev pub branch_items : ℕ → ChildTry → Mini
branch_items nodes c = record {
  nodes = nodes;
  items = map compare_of (child_reads c) ++ map write_of (branch_writes nodes c);
}

-- the plan is this one
pub record IsSnapshotPlan (entries : List CatEntry) (nodes : ℕ) (name child : List ℕ) (root : Page)
    (slot : Addr) (mini : Mini) : Type 0 where
  pub version : VersionNo
  pub entry : CatEntry
  pub is : IsVersion entries name version entry
  pub items : mini
      ≡ snapshot_items nodes (child_try entries nodes name child version entry root slot)

pub record IsBranchPlan (entries : List CatEntry) (nodes : ℕ) (name child : List ℕ) (root : Page)
    (slot : Addr) (mini : Mini) : Type 0 where
  pub version : VersionNo
  pub entry : CatEntry
  pub is : IsVersion entries name version entry
  pub items : mini
      ≡ branch_items nodes (child_try entries nodes name child version entry root slot)

-- Refusals

-- the version's root page stands there, and has the last number
pub record IsWornRoot (entries : List CatEntry) (name : List ℕ) (root : Page) (node : NodeNo)
    (start : ℕ) : Type 0 where
  pub version : VersionNo
  pub entry : CatEntry
  pub is : IsVersion entries name version entry
  pub last : root.seq ≡ 2 ^ 64 - 1
  pub node_is : entry.root.node ≡ node
  pub start_is : slot_start entry.root.slot ≡ start

-- the version's entry does
pub record IsWornEntry (entries : List CatEntry) (name : List ℕ) (node : NodeNo) (start : ℕ)
    : Type 0 where
  pub version : VersionNo
  pub entry : CatEntry
  pub is : IsVersion entries name version entry
  pub last : entry.seq ≡ 2 ^ 64 - 1
  pub node_is : node.0 ≡ 0
  pub start_is : entry_start version.0 ≡ start

-- why a Snapshot has no plan
abbrev pub RefusesSnapshot : List CatEntry → List ℕ → Page → PlanError → Type 0
RefusesSnapshot entries name root (Worn node start) =
    IsWornRoot entries name root node start ⊎ IsWornEntry entries name node start
RefusesSnapshot entries name root NoMemory = ⊤

-- and a Branch, which doesn't write the version's entry
abbrev pub RefusesBranch : List CatEntry → List ℕ → Page → PlanError → Type 0
RefusesBranch entries name root (Worn node start) = IsWornRoot entries name root node start
RefusesBranch entries name root NoMemory = ⊤

-- Images that join

-- these join, one after another
abbrev pub with_images : List Image → List Image → List Image
with_images images [] = images
with_images images (i ∷ is) = with_images (joined images i) is

-- the transaction with these to be written too
abbrev pub with_writes : State → List Image → State
with_writes t is = record {
  nodes = t.nodes;
  dirty = t.dirty;
  reads = t.reads;
  writes = with_images t.writes is;
}

-- Inside a plan

-- a transaction that has read all that a child needs
abbrev pub read_state : ℕ → VersionNo → CatEntry → Page → VersionNo → Addr → State
read_state nodes version entry root number slot = record {
  nodes = nodes;
  dirty = [];
  reads = with_images [] (
      page_image entry.root root ∷ entry_image catalog_node version entry
      ∷ unused_image number ∷ count_image slot.node.0 slot.slot ∷ []
      );
  writes = [];
}

-- the transaction with the root page, marked for the child, and its copy to be written too
abbrev pub with_pages : State → Addr → Page → VersionNo → Addr → State
with_pages t addr root number slot =
    with_writes t
    (page_image addr (marked_for number root) ∷ page_image slot (copy_for number root) ∷ [])

-- with these entries on a node, and on each of these nodes
abbrev pub with_entries_on : State → List Numbered → ℕ → State
with_entries_on t entries n = with_writes t (entries_on entries n)

abbrev pub with_entries : State → List Numbered → List ℕ → State
with_entries t entries [] = t
with_entries t entries (n ∷ ns) = with_entries (with_entries_on t entries n) entries ns

-- with the count of the slot's node, one higher
abbrev pub with_count : State → Addr → State
with_count t slot = with_writes t (count_image slot.node.0 (slot.slot + 1) ∷ [])

-- what a transaction has read and is to write for a child of this version with these entries
abbrev pub child_state : ℕ → List CatEntry → VersionNo → CatEntry → Page → Addr → List Numbered
    → State
child_state nodes used version entry root slot entries =
    let number : VersionNo = record { 0 = length used } in
    let read = read_state nodes version entry root number slot in
    let paged = with_pages read entry.root root number slot in
    with_count (with_entries paged entries (range_with_len 0 nodes)) slot

-- so it is of what the version's own entry makes for a child
abbrev pub OfChild : ℕ → List CatEntry → VersionNo → Page → Addr → List Numbered
    → (State → Type 0) → Type 0
OfChild nodes used version root slot entries P =
    (e : CatEntry) → slice_get used version.0 ≡ Some e
    → P (child_state nodes used version e root slot entries)

-- the transaction has just that
abbrev pub IsChildState : ℕ → List CatEntry → VersionNo → Page → Addr → List Numbered → State
    → Type 0
IsChildState nodes used version root slot entries txn =
    OfChild nodes used version root slot entries (λ t. txn ≡ t)

-- it passes the test of a plan
abbrev pub MayPlanChild : ℕ → List CatEntry → VersionNo → Page → Addr → List Numbered → Type 0
MayPlanChild nodes used version root slot entries =
    OfChild nodes used version root slot entries (λ t. can_plan t ≡ true)

-- the plan of a transaction, in which no place that is written was read with the last number
abbrev pub IsPlanOf : State → Mini → Type 0
IsPlanOf t mini = (mini ≡ plan_of t) × (first_worn t (in_item_order t.writes) ≡ None)

abbrev pub IsChildPlan : ℕ → List CatEntry → VersionNo → Page → Addr → List Numbered → Mini
    → Type 0
IsChildPlan nodes used version root slot entries mini =
    OfChild nodes used version root slot entries (λ t. IsPlanOf t mini)

-- why it has none
abbrev pub RefusesChild : ℕ → List CatEntry → VersionNo → Page → Addr → List Numbered → PlanError
    → Type 0
RefusesChild nodes used version root slot entries error =
    OfChild nodes used version root slot entries (λ t. RefusesPlan t error)
