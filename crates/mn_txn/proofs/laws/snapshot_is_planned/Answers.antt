use Rattle.mn_txn.proofs.Children.{snapshot_is_planned}
use Rattle.mn_txn.proofs.laws.snapshot_is_planned.Goals as goal

pub returns : goal.returns
returns c =
    snapshot_is_planned c.child_is_shown.ensures.snapshot c.copies_are_pages.ensures c.next_slots_are_free.ensures c.writes_leave_versions.ensures c.compares_tell.ensures c.numbers_go_on.ensures c.plans_are_in_order.ensures.order
