use Rattle.mn_txn.proofs.txn.Txn.dirty_read.Goals as goal

pub invariant_of-self : goal.invariant_of-self
invariant_of-self c = let was = c.self.invariant in (c.keep.ensures.apart was.0, was.1, was.2)
