-- What a Snapshot or a Branch compares and writes stands in the order of items.
use Rattle.std.proofs.Common.{◌≡◌, ℕ, ◌+◌, ◌*◌, ◌<◌, List, [], ◌∷◌, ◌++◌, refl, arith}
use Rattle.std.specs.Prelude.{false}
use Rattle.std.specs.List.{AllByRecursion}
use Rattle.std.specs.Ordering.{is_lt}
use Rattle.std.proofs.lemmas.Bool.Decides.{nat_tests}
use Rattle.mn_base.proofs.Lists.{all_append, weaker}
use Rattle.mn_catalog.specs.Versions.{Numbered}
use Rattle.mn_law.specs.Places.{catalog_node}
use Rattle.mn_txn.specs.declared.image.Image.{Image}
use Rattle.mn_txn.specs.Order.{turn_of, turn_cmp, stands_before}
use Rattle.mn_txn.specs.Attempt.{page_image}
use Rattle.mn_txn.specs.Children.{ChildTry, entry_image, unused_image, count_read, count_written, root_written, copy_written}
use Rattle.mn_txn.specs.Children.{frozen_written, child_written, child_reads, child_writes, snapshot_writes, branch_writes, ChildrenStandInOrder}
use Rattle.mn_page.specs.Copies.{marked_for, copy_for}
use Rattle.mn_txn.proofs.EachNode.{AreNumbered, IsFrom, from_node, nodes_up, on_nodes}
use Rattle.mn_txn.proofs.Late.{stays, page_turn, entry_turn, count_turn, page_is, entry_is, late, up_append}
use Rattle.mn_txn.proofs.Turns.{IsUp}

entries_late : (v w : ℕ) → v < w → is_lt (turn_cmp (entry_turn 0 w) (entry_turn 0 v)) ≡ false
entries_late v w low = starts (64 + 64 * v) (64 + 64 * w) (omega arith)
  where
    starts : (s t : ℕ) → s < t → is_lt (turn_cmp (record { rank = 1; node = 0; start = t }) (record { rank = 1; node = 0; start = s })) ≡ false
    starts s t h = grind (arith, nat_tests)

-- what is written with entries by rising number
writes_up : (nodes : ℕ) (c : ChildTry) (es : List Numbered) → AreNumbered es → IsUp (child_writes nodes c es)
writes_up nodes c es numbered = (
  (
    late (root_written c) (copy_written c) page_turn page_turn root_is copy_is refl,
    behind (root_written c) root_is,
  ),
  (
    behind (copy_written c) copy_is,
    up_append entries (count_written c ∷ []) (nodes_up es 0 nodes numbered) (tt, tt)
        (weaker (IsFrom 0) (λ x. AllByRecursion (λ y. stands_before y x ≡ false) (count_written c ∷ []))
        (λ x from. (late x (count_written c) (entry_turn from.0 from.2.0) (count_turn c.slot.node.0) from.2.1 refl refl, tt)) entries (from_node 0 es 0 nodes numbered (omega arith))),
  ),
)
  where
    entries : List Image
    entries = on_nodes es 0 nodes

    root_is : turn_of (root_written c) ≡ page_turn
    root_is = page_is c.entry.root (marked_for c.number c.root)

    copy_is : turn_of (copy_written c) ≡ page_turn
    copy_is = page_is c.slot (copy_for c.number c.root)

    behind : (x : Image) → turn_of x ≡ page_turn → AllByRecursion (λ y. stands_before y x ≡ false) (entries ++ count_written c ∷ [])
    behind x is =
        all_append (λ y. stands_before y x ≡ false) entries (count_written c ∷ [])
        (weaker (IsFrom 0) (λ y. stands_before y x ≡ false) (λ y from. late x y page_turn (entry_turn from.0 from.2.0) is from.2.1 refl) entries (from_node 0 es 0 nodes numbered (omega arith)))
        (late x (count_written c) page_turn (count_turn c.slot.node.0) is refl refl, tt)

pub children_stand_in_order : ChildrenStandInOrder
children_stand_in_order nodes c low few = (
  stays (child_reads c) (
    (
      late read entry page_turn (entry_turn 0 c.version.0) read_is version_is refl,
      (late read unused page_turn (entry_turn 0 c.number.0) read_is unused_is refl, (late read (count_read c) page_turn (count_turn c.slot.node.0) read_is refl refl, tt)),
    ),
    (
      (
        late entry unused (entry_turn 0 c.version.0) (entry_turn 0 c.number.0) version_is unused_is (entries_late c.version.0 c.number.0 low),
        (late entry (count_read c) (entry_turn 0 c.version.0) (count_turn c.slot.node.0) version_is refl refl, tt),
      ),
      ((late unused (count_read c) (entry_turn 0 c.number.0) (count_turn c.slot.node.0) unused_is refl refl, tt), (tt, tt)),
    ),
  ),
  stays (snapshot_writes nodes c) (writes_up nodes c (frozen_written c ∷ child_written c ∷ []) (few_version, (low, tt), (few, tt, tt))),
  stays (branch_writes nodes c) (writes_up nodes c (child_written c ∷ []) (few, tt, tt)),
)
  where
    read : Image
    read = page_image c.entry.root c.root

    entry : Image
    entry = entry_image catalog_node c.version c.entry

    unused : Image
    unused = unused_image c.number

    few_version : c.version.0 < 64
    few_version = omega arith

    read_is : turn_of read ≡ page_turn
    read_is = page_is c.entry.root c.root

    version_is : turn_of entry ≡ entry_turn 0 c.version.0
    version_is = entry_is c.version.0 entry refl few_version

    unused_is : turn_of unused ≡ entry_turn 0 c.number.0
    unused_is = entry_is c.number.0 unused refl few
