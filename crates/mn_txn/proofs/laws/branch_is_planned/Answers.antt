use Rattle.mn_txn.proofs.Children.{branch_is_planned}
use Rattle.mn_txn.proofs.laws.branch_is_planned.Goals as goal

pub returns : goal.returns
returns c =
    branch_is_planned c.child_is_shown.ensures.branch c.copies_are_pages.ensures c.next_slots_are_free.ensures c.writes_leave_versions.ensures c.compares_tell.ensures c.numbers_go_on.ensures c.plans_are_in_order.ensures.order
