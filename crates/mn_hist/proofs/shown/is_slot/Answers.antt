use Rattle.std.proofs.Common.{arith}
use Rattle.mn_hist.proofs.Places.{slot_test}
use Rattle.mn_hist.proofs.shown.is_slot.Goals as goal

pub returns : goal.returns
returns c = slot_test c.args.start (omega arith)
