use Rattle.std.proofs.Common.{◌≡◌, drop}
use Rattle.mn_txn.specs.Plan.{first_worn, only_read}
use Rattle.mn_txn.proofs.txn.first_worn.Given as goal

-- none of those before was
abbrev pub invariant-loop-image : goal.invariant-loop-image
invariant-loop-image l = first_worn (only_read l.dirty l.reads) l.images ≡ first_worn (only_read l.dirty l.reads) (drop l.image-index l.images)
