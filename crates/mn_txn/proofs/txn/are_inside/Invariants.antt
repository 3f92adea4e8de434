use Rattle.std.proofs.Common.{◌≡◌, drop}
use Rattle.mn_txn.specs.Plan.{are_inside}
use Rattle.mn_txn.proofs.txn.are_inside.Given as goal

-- those before are
abbrev pub invariant-loop-image : goal.invariant-loop-image
invariant-loop-image l = are_inside l.nodes l.images ≡ are_inside l.nodes (drop l.image-index l.images)
