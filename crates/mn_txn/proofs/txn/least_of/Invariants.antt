use Rattle.std.proofs.Common.{length, map}
use Rattle.mn_base.specs.declared.ids.Addr.{Addr}
use Rattle.mn_txn.specs.declared.image.Image.{Image}
use Rattle.mn_txn.proofs.Least.{Walked}
use Rattle.mn_txn.proofs.txn.least_of.Given as goal

abbrev pub invariant-loop-left : goal.invariant-loop-left
invariant-loop-left l = Walked (λ (i : Image). i.node.0) (map (λ (s : Addr). s.node.0) l.slots) l.images l.left l.least

abbrev pub decreases-loop-left : goal.decreases-loop-left
decreases-loop-left l = length l.left
