use Rattle.mn_txn.proofs.txn.Txn.read.Goals as goal

pub invariant_of-self : goal.invariant_of-self
invariant_of-self c = let was = c.self.invariant in (was.0, c.keep.ensures.apart was.1, was.2)
