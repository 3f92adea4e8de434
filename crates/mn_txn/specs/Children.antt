-- A try of a Snapshot or of a Branch, and what it reads and writes. When that is planned.
use Rattle.std.specs.Prelude.{ℕ, ◌≡◌, ◌+◌, ◌^◌, ◌<◌, List, [], ◌∷◌, ◌++◌, length, map, replicate}
use Rattle.std.specs.Prelude.{Some, None, slice_get}
use Rattle.std.specs.List.{flat_map, range_with_len}
use Rattle.mn_base.specs.Name.{IsName}
use Rattle.mn_base.specs.Store.{Head, number_named, refusal, max_versions}
use Rattle.mn_base.specs.declared.ids.Addr.{Addr}
use Rattle.mn_base.specs.declared.ids.NodeNo.{NodeNo}
use Rattle.mn_base.specs.declared.ids.VersionNo.{VersionNo}
use Rattle.mn_base.specs.declared.op.Op.TheVariants.{Snapshot, Branch}
use Rattle.mn_base.specs.declared.reply.Reply.TheVariants.{Made}
use Rattle.mn_page.specs.declared.page.Page.{Page}
use Rattle.mn_page.specs.declared.entry.CatEntry.{CatEntry}
use Rattle.mn_page.specs.Space.{entry_size, entry_start}
use Rattle.mn_page.specs.Grammar.{IsPage, IsEntry, entry_bytes}
use Rattle.mn_page.specs.Forest.{entry_head}
use Rattle.mn_page.specs.Copies.{marked_for, copy_for}
use Rattle.mn_page.specs.Added.{frozen_entry, child_entry}
use Rattle.mn_runs.specs.declared.entry.Entry.{Entry}
use Rattle.mn_catalog.specs.Versions.{Numbered}
use Rattle.mn_law.specs.Places.{catalog_node}
use Rattle.mn_law.specs.Planned.{IsPlanned}
use Rattle.mn_plans.specs.Growth.{AreNextSlots, node_no}
use Rattle.mn_txn.specs.declared.image.Image.{Image}
use Rattle.mn_txn.specs.State.{State, image, ImagesAreApart}
use Rattle.mn_txn.specs.Order.{in_item_order}
use Rattle.mn_txn.specs.Plan.{plan_of}
use Rattle.mn_txn.specs.Laws.{ReadsAreShown}
use Rattle.mn_txn.specs.Attempt.{page_image, count_image}

-- the names of the version and of its child; the version with its entry and its root page as they
-- were read, the child's number, the counts of the nodes, and the slot of the child's root
pub record ChildTry : Type 0 where
  pub name : List ℕ
  pub child : List ℕ
  pub version : VersionNo
  pub entry : CatEntry
  pub root : Page
  pub number : VersionNo
  pub counts : List ℕ
  pub slot : Addr

-- the kept catalog has the version with this entry, and the child's number is the first that it
-- doesn't use; the root is a page of these nodes that wasn't read with the last number, and the
-- slot is the next of its node
pub record IsChildTry (kept : List Head) (nodes : ℕ) (c : ChildTry) : Type 0 where
  pub named : number_named kept c.name ≡ Some c.version.0
  pub head : slice_get kept c.version.0 ≡ Some (entry_head c.entry)
  pub entry : IsEntry c.entry
  pub number : c.number.0 ≡ length kept
  pub child : IsName c.child
  pub root : IsPage c.root
  pub within : c.entry.root.node.0 < nodes
  pub seq : c.root.seq + 1 < 2 ^ 64
  pub counts : length c.counts ≡ nodes
  pub slot : AreNextSlots c.counts (c.slot ∷ [])

-- Images

abbrev pub entry_image : NodeNo → VersionNo → CatEntry → Image
entry_image n v e = image n (entry_start v.0) (entry_bytes e)

-- the place of a version that isn't there
abbrev pub unused_image : VersionNo → Image
unused_image v = image catalog_node (entry_start v.0) (replicate entry_size 0)

-- entries on one node, and on each of so many, by node and then as they are listed
abbrev pub entries_on : List Numbered → ℕ → List Image
entries_on entries n = map (λ e. entry_image (node_no n) e.0 e.1) entries

abbrev pub entries_written : ℕ → List Numbered → List Image
entries_written nodes entries = flat_map (entries_on entries) (range_with_len 0 nodes)

-- the count of the slot's node, as it was read, and as it is then
abbrev pub count_read : ChildTry → Image
count_read c = count_image c.slot.node.0 c.slot.slot

abbrev pub count_written : ChildTry → Image
count_written c = count_image c.slot.node.0 (c.slot.slot + 1)

-- the version's root, marked for the child, and its copy
abbrev pub root_written : ChildTry → Image
root_written c = page_image c.entry.root (marked_for c.number c.root)

abbrev pub copy_written : ChildTry → Image
copy_written c = page_image c.slot (copy_for c.number c.root)

-- the version's entry, now frozen, and the child's
abbrev pub frozen_written : ChildTry → Numbered
frozen_written c = (c.version, frozen_entry c.entry)

abbrev pub child_written : ChildTry → Numbered
child_written c = (c.number, child_entry c.version c.child c.slot)

-- what is compared: the root; on the node from which the catalog is read the version's entry and
-- the first unused place; and the count
abbrev pub child_reads : ChildTry → List Image
child_reads c =
    page_image c.entry.root c.root ∷ entry_image catalog_node c.version c.entry
    ∷ unused_image c.number ∷ count_read c ∷ []

-- what is written over so many nodes, with these entries on each
abbrev pub child_writes : ℕ → ChildTry → List Numbered → List Image
child_writes nodes c entries =
    root_written c ∷ copy_written c ∷ entries_written nodes entries ++ count_written c ∷ []

-- what a Snapshot writes
abbrev pub snapshot_writes : ℕ → ChildTry → List Image
snapshot_writes nodes c = child_writes nodes c (frozen_written c ∷ child_written c ∷ [])

-- what a Branch writes: the version's entry stays
abbrev pub branch_writes : ℕ → ChildTry → List Image
branch_writes nodes c = child_writes nodes c (child_written c ∷ [])

-- Planned

-- a Snapshot that the kept catalog admits is planned, where it read and is to write just this, and
-- its version's entry wasn't read with the last number
abbrev pub SnapshotIsPlanned : Type 0
SnapshotIsPlanned =
    (kept : List Head) (t : State) (c : ChildTry) → IsChildTry kept t.nodes c
    → refusal kept (Snapshot c.name c.child) ≡ None → c.entry.seq + 1 < 2 ^ 64
    → ImagesAreApart t.reads → ImagesAreApart t.writes
    → in_item_order t.reads ≡ child_reads c → in_item_order t.writes ≡ snapshot_writes t.nodes c
    → (es : List Entry) → ReadsAreShown es t.reads
    → IsPlanned es kept (Snapshot c.name c.child) (plan_of t) Made

-- and so is a Branch
abbrev pub BranchIsPlanned : Type 0
BranchIsPlanned =
    (kept : List Head) (t : State) (c : ChildTry) → IsChildTry kept t.nodes c
    → refusal kept (Branch c.name c.child) ≡ None
    → ImagesAreApart t.reads → ImagesAreApart t.writes
    → in_item_order t.reads ≡ child_reads c → in_item_order t.writes ≡ branch_writes t.nodes c
    → (es : List Entry) → ReadsAreShown es t.reads
    → IsPlanned es kept (Branch c.name c.child) (plan_of t) Made

-- Order

-- what such a try reads and writes stands in the order of items, where the child's number is above
-- the version's
abbrev pub ChildrenStandInOrder : Type 0
ChildrenStandInOrder =
    (nodes : ℕ) (c : ChildTry) → c.version.0 < c.number.0 → c.number.0 < max_versions
    → (in_item_order (child_reads c) ≡ child_reads c)
    × (in_item_order (snapshot_writes nodes c) ≡ snapshot_writes nodes c)
    × (in_item_order (branch_writes nodes c) ≡ branch_writes nodes c)
