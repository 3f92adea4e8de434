use Rattle.std.proofs.Common.{◌≡◌, drop}
use Rattle.mn_txn.specs.State.{bytes_at}
use Rattle.mn_txn.proofs.txn.is_last_read.Given as goal

-- none of those before stands there
abbrev pub invariant-loop-read : goal.invariant-loop-read
invariant-loop-read l = bytes_at l.image.node l.image.start l.reads ≡ bytes_at l.image.node l.image.start (drop l.read-index l.reads)
