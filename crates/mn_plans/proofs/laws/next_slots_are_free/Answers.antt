use Rattle.mn_plans.proofs.NextSlots.{next_slots_are_free}
use Rattle.mn_plans.proofs.laws.next_slots_are_free.Goals as goal

pub returns : goal.returns
returns c = next_slots_are_free
