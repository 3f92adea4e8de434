use Rattle.mn_txn.proofs.Slots as slots
use Rattle.mn_txn.proofs.laws.new_slots_are_next.Goals as goal

pub returns : goal.returns
returns c = slots.new_slots_are_next
