use Rattle.mn_txn.proofs.Free.{free_slots_are_left}
use Rattle.mn_txn.proofs.tries.free_slots_are_left.Goals as goal

pub returns : goal.returns
returns c = free_slots_are_left
